-- Explores whose literals are of the years 1 to 9999.
use Rattle.std.specs.Prelude.{Bool, ◌&&◌}
use Rattle.std.specs.List.{list_all}
use Rattle.lk_types.specs.Dates.{are_literals_dated}
use Rattle.lk_semantics.specs.DatedRows.{is_condition_dated}
use Rattle.lk_types.specs.declared.explore.Explore.{Explore}

-- the literals of an explore's dimensions, and of the values of its measures
abbrev pub is_explore_dated : Explore → Bool
is_explore_dated x = list_all (λ f. are_literals_dated f.expr) x.fields && list_all (λ m. is_condition_dated m.value) x.measures
