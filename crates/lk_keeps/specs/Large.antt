-- Which builds would be too large.
use Rattle.std.specs.Prelude.{ℕ, ◌+◌, ◌&&◌, List, [], ◌++◌, map, filter, flat_map, length, slice_index_or}
use Rattle.std.specs.List.{enumerate_from}
use Rattle.lk_types.specs.Expressions.{has_number}
use Rattle.lk_types.specs.declared.explore.Explore.{Explore}
use Rattle.lk_types.specs.declared.explore.Rollup.{Rollup}
use Rattle.lk_types.specs.declared.model.Derived.{Derived}
use Rattle.lk_types.specs.declared.model.Model.{Model}
use Rattle.lk_types.specs.declared.rows.Sources.{Sources}
use Rattle.lk_semantics.specs.Rollups.{partials_of}
use Rattle.lk_rollup.specs.Builds.{are_many_cells}
use Rattle.lk_keeps.specs.Keeps.{is_of}

-- the names of the derived tables that some datagroups persist and that have more than 1,000,000 cells, in the model's order
abbrev pub large_tables : Model → List ℕ → Sources → List (List ℕ)
large_tables m groups s =
    map (λ (d : ℕ × Derived). d.1.name) (filter (λ (d : ℕ × Derived). is_of groups d.1.datagroup
    && are_many_cells (length (slice_index_or s.derived d.0 [])) (length d.1.columns)) (enumerate_from 0 m.derived))

-- those of an explore's aggregate tables that some datagroups build, in declared order
abbrev pub large_rollups : List ℕ → Sources → Explore → List (List ℕ)
large_rollups groups s x =
    map (λ (r : Rollup). r.name) (filter (λ (r : Rollup). has_number r.datagroup groups
    && are_many_cells (length (partials_of x s r)) (length r.dims + length r.measures)) x.rollups)

-- what of some datagroups' builds is too large: derived tables first, then aggregate tables by explore (G2)
abbrev pub large_builds : Model → List ℕ → Sources → List (List ℕ)
large_builds m groups s = large_tables m groups s ++ flat_map (large_rollups groups s) m.explores
