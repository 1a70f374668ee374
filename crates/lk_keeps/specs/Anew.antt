-- What is kept after some datagroups were built anew over the same tables.
use Rattle.std.specs.Prelude.{ℕ, if◌then◌else◌, List, [], ◌∷◌, map, length, slice_index_or, Result, Ok, Err}
use Rattle.std.specs.List.{enumerate_from}
use Rattle.lk_types.specs.Expressions.{has_number}
use Rattle.lk_types.specs.Tables.{Rows}
use Rattle.lk_types.specs.declared.explore.Explore.{Explore}
use Rattle.lk_types.specs.declared.explore.Rollup.{Rollup}
use Rattle.lk_types.specs.declared.model.Derived.{Derived}
use Rattle.lk_types.specs.declared.model.Model.{Model}
use Rattle.lk_semantics.specs.Joins.{numbers_below}
use Rattle.lk_semantics.specs.Rollups.{partials_of}
use Rattle.lk_regroup_laws.specs.Regroup.{RollupRow}
use Rattle.lk_rollup.specs.declared.fault.BuildFault.{BuildFault}
use Rattle.lk_rollup.specs.declared.fault.BuildFault.TheVariants as fault
use Rattle.lk_keeps.specs.Keeps.{Keeps, is_of, keeps_of, persists, sources_over}
use Rattle.lk_keeps.specs.Large.{large_builds}

-- the stored tables of a datagroup's build
abbrev pub tables_anew : Model → List ℕ → List Rows → Keeps → ℕ → List Rows
tables_anew m groups stored keeps g =
    if has_number g groups then (if persists m g then stored else []) else slice_index_or keeps.tables g []

-- the rows of an aggregate table of the explore of a number
abbrev pub rollup_anew : Model → List ℕ → List Rows → Keeps → ℕ → Explore → ℕ × Rollup → List RollupRow
rollup_anew m groups stored keeps n x r =
    if has_number r.1.datagroup groups then partials_of x (sources_over m stored) r.1
    else slice_index_or (slice_index_or keeps.rollups n []) r.0 []

-- the rows of a persisted derived table
abbrev pub derived_anew : Model → List ℕ → List Rows → Keeps → ℕ × Derived → Rows
derived_anew m groups stored keeps d =
    if is_of groups d.1.datagroup then slice_index_or (sources_over m stored).derived d.0 [] else slice_index_or keeps.derived d.0 []

-- what was kept, with some datagroups built anew over these stored tables
abbrev pub keeps_anew : Model → List ℕ → List Rows → Keeps → Keeps
keeps_anew m groups stored keeps = record {
  tables = map (tables_anew m groups stored keeps) (numbers_below (length m.datagroups));
  rollups = map (λ (x : ℕ × Explore). map (rollup_anew m groups stored keeps x.0 x.1) (enumerate_from 0 x.1.rollups)) (enumerate_from 0 m.explores);
  derived = map (derived_anew m groups stored keeps) (enumerate_from 0 m.derived);
}

-- unless a build would be too large: the first of them is named (G2)
abbrev pub unless_large : Keeps → List (List ℕ) → Result Keeps BuildFault
unless_large keeps [] = Ok keeps
unless_large keeps (name ∷ names) = Err (fault.G2 name)

abbrev pub kept_anew : Model → List ℕ → List Rows → Keeps → Result Keeps BuildFault
kept_anew m groups stored keeps = unless_large (keeps_anew m groups stored keeps) (large_builds m groups (sources_over m stored))

-- all datagroups built over the same stored tables
abbrev pub all_kept : Model → List Rows → Result Keeps BuildFault
all_kept m stored =
    unless_large (keeps_of m (λ g. stored)) (large_builds m (numbers_below (length m.datagroups)) (sources_over m stored))
