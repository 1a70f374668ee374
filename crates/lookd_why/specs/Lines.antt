-- What is told of the aggregate tables of a query's explore. (Looker, LookML reference: aggregate_table; lookd)
use Rattle.std.specs.Prelude.{ℕ, List, ◌++◌, flat_map, codes, Option, Some, None}
use Rattle.lk_types.specs.declared.bound.Bound.{Bound}
use Rattle.lk_types.specs.declared.explore.Explore.{Explore}
use Rattle.lk_types.specs.declared.explore.Rollup.{Rollup}
use Rattle.lk_types.specs.declared.model.Model.{Model}
use Rattle.lk_semantics.specs.Derived.{explore_at}
use Rattle.lk_semantics.specs.Rollups.{rollup_at}
use Rattle.lk_route.specs.Routes.{chosen}
use Rattle.lk_route.specs.Unmet.{first_unmet}
use Rattle.lk_route.specs.declared.unmet.Point.{Point}
use Rattle.lk_route.specs.declared.unmet.Point.TheVariants as point

-- the word of the first point by which a table does not fit; a table that fits has none
abbrev pub word_of : Option Point → List ℕ
word_of None = codes "fits"
word_of (Some point.Joins) = codes "joins"
word_of (Some point.Fields) = codes "dimensions"
word_of (Some point.Filters) = codes "filters"
word_of (Some point.Measures) = codes "measures"
word_of (Some point.Groups) = codes "groups"

unfoldable pub table_line : List ℕ → Option Point → List ℕ
table_line name unmet = name ++ codes ": " ++ word_of unmet ++ codes "\n"

-- the line of an aggregate table for a query
abbrev pub line_of : Explore → Bound → Rollup → List ℕ
line_of x b r = table_line r.name (first_unmet x r b)

-- the lines of all, in the order in which the explore declares them
abbrev pub lines_of : Explore → Bound → List ℕ
lines_of x b = flat_map (line_of x b) x.rollups

-- what answers: the aggregate table that is chosen, by its name, or the tables
abbrev pub source_of : Explore → Option ℕ → List ℕ
source_of x None = codes "the tables"
source_of x (Some r) = (rollup_at x r).name

unfoldable pub answered_line : Explore → Option ℕ → List ℕ
answered_line x r = codes "answered from " ++ source_of x r ++ codes "\n"

-- the lines of the aggregate tables of the query's explore, and behind them what answers it
unfoldable pub text_of : Model → Bound → List ℕ
text_of m b = lines_of (explore_at m b.explore) b ++ answered_line (explore_at m b.explore) (chosen (explore_at m b.explore) b)
