-- Tables and explores whose days and moments are of the years 1 to 9999.
use Rattle.std.specs.Prelude.{Bool, true, ◌&&◌, List, Option, Some, None}
use Rattle.std.specs.List.{list_all}
use Rattle.lk_types.specs.Formula.{Formula}
use Rattle.lk_types.specs.Tables.{Rows}
use Rattle.lk_types.specs.Dates.{is_dated, are_literals_dated}
use Rattle.lk_types.specs.declared.rows.Sources.{Sources}
use Rattle.lk_types.specs.declared.explore.Explore.{Explore}

-- the cells of some rows are so
abbrev pub are_rows_dated : Rows → Bool
are_rows_dated rows = list_all (list_all is_dated) rows

-- the cells of all tables are so
abbrev pub are_sources_dated : Sources → Bool
are_sources_dated s = list_all are_rows_dated s.stored && list_all are_rows_dated s.derived

-- the literals of a condition, if there is one, are so
abbrev pub is_condition_dated : Option Formula → Bool
is_condition_dated None = true
is_condition_dated (Some e) = are_literals_dated e

-- the literals of the conditions of an explore's joins are so
abbrev pub are_joins_dated : Explore → Bool
are_joins_dated x = list_all (λ join. is_condition_dated join.on) x.joins
