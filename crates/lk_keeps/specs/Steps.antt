-- What is kept, and which builds are too large, part by part.
use Rattle.std.specs.Prelude.{ℕ, ◌+◌, ◌&&◌, List, [], ◌∷◌, map, filter, length, slice_index_or, Result, Ok, Err}
use Rattle.std.specs.List.{enumerate_from}
use Rattle.lk_types.specs.Expressions.{has_number}
use Rattle.lk_types.specs.Tables.{Rows}
use Rattle.lk_types.specs.declared.explore.Explore.{Explore}
use Rattle.lk_types.specs.declared.explore.Rollup.{Rollup}
use Rattle.lk_types.specs.declared.model.Derived.{Derived}
use Rattle.lk_types.specs.declared.model.Model.{Model}
use Rattle.lk_types.specs.declared.rows.Sources.{Sources}
use Rattle.lk_semantics.specs.Rollups.{partials_of}
use Rattle.lk_regroup_laws.specs.Regroup.{RollupRow}
use Rattle.lk_rollup.specs.Builds.{are_many_cells}
use Rattle.lk_rollup.specs.declared.fault.BuildFault.{BuildFault}
use Rattle.lk_rollup.specs.declared.fault.BuildFault.TheVariants as fault
use Rattle.lk_keeps.specs.Anew.{rollup_anew}
use Rattle.lk_keeps.specs.Keeps.{Keeps, is_of}

-- what is made, unless a build is too large: the first of them is named (G2)
abbrev pub unless_any : {T : Type 0} → T → List (List ℕ) → Result T BuildFault
unless_any made [] = Ok made
unless_any made (name ∷ names) = Err (fault.G2 name)

-- of some derived tables by number, the names of those that some datagroups persist and that are too large
abbrev pub large_persisted : List ℕ → Sources → List (ℕ × Derived) → List (List ℕ)
large_persisted groups s tables =
    map (λ (d : ℕ × Derived). d.1.name) (filter (λ (d : ℕ × Derived). is_of groups d.1.datagroup
    && are_many_cells (length (slice_index_or s.derived d.0 [])) (length d.1.columns)) tables)

-- of some aggregate tables of an explore, the names of those that some datagroups build and that are too large
abbrev pub large_among : List ℕ → Sources → Explore → List Rollup → List (List ℕ)
large_among groups s x rollups =
    map (λ (r : Rollup). r.name) (filter (λ (r : Rollup). has_number r.datagroup groups
    && are_many_cells (length (partials_of x s r)) (length r.dims + length r.measures)) rollups)

-- the rows of each aggregate table of the explore of a number
abbrev pub rollups_anew : Model → List ℕ → List Rows → Keeps → ℕ × Explore → List (List RollupRow)
rollups_anew m groups stored keeps x = map (rollup_anew m groups stored keeps x.0 x.1) (enumerate_from 0 x.1.rollups)
