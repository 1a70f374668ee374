-- Which derived tables are made for builds of some datagroups.
use Rattle.std.specs.Prelude.{ℕ, if◌then◌else◌, List, [], ◌∷◌, ◌++◌, flat_map}
use Rattle.std.specs.List.{enumerate_from}
use Rattle.lk_types.specs.Expressions.{has_number}
use Rattle.lk_types.specs.declared.explore.Explore.{Explore}
use Rattle.lk_types.specs.declared.explore.Rollup.{Rollup}
use Rattle.lk_types.specs.declared.model.Derived.{Derived}
use Rattle.lk_types.specs.declared.model.Model.{Model}
use Rattle.lk_types.specs.declared.rows.Sources.{Sources}
use Rattle.lk_semantics.specs.Resolved.{IsResolved}
use Rattle.lk_regroup_laws.specs.Stored.{rollup_query}
use Rattle.lk_fill.specs.Reads.{HasRowsOf, tables_read}
use Rattle.lk_keeps.specs.Keeps.{is_of}

-- the derived table of a number, where one of some datagroups persists it
abbrev pub persisted : List ℕ → ℕ × Derived → List ℕ
persisted groups d = if is_of groups d.1.datagroup then d.0 ∷ [] else []

-- the derived tables that the query of an aggregate table reads, where one of some datagroups builds it
abbrev pub read_for : List ℕ → ℕ → Explore → Rollup → List ℕ
read_for groups n x r = if has_number r.datagroup groups then tables_read x (rollup_query x n r).joins else []

-- those that the queries of an explore's aggregate tables read
abbrev pub read_for_explore : List ℕ → ℕ × Explore → List ℕ
read_for_explore groups x = flat_map (read_for groups x.0 x.1) x.1.rollups

-- the derived tables that some datagroups persist, and those that the queries of their aggregate tables read
abbrev pub wanted_by : Model → List ℕ → List ℕ
wanted_by m groups =
    flat_map (persisted groups) (enumerate_from 0 m.derived) ++ flat_map (read_for_explore groups) (enumerate_from 0 m.explores)

-- the model is resolved, and the tables have the rows that are wanted for builds of some of its datagroups
pub record IsReady (m : Model) (groups : List ℕ) (s : Sources) : Type 0 where
  pub model : IsResolved m
  pub rows : HasRowsOf m s (wanted_by m groups)
