-- The first point by which an aggregate table does not fit a query. (Looker, LookML reference: aggregate_table; lookd)
use Rattle.std.specs.Prelude.{Bool, if◌then◌else◌, Option, Some, None}
use Rattle.lk_types.specs.declared.bound.Bound.{Bound}
use Rattle.lk_types.specs.declared.explore.Explore.{Explore}
use Rattle.lk_types.specs.declared.explore.Rollup.{Rollup}
use Rattle.lk_semantics.specs.Rollups.{fields_fit, filters_fit, groups_fit, joins_fit, measures_fit}
use Rattle.lk_route.specs.declared.unmet.Point.{Point}
use Rattle.lk_route.specs.declared.unmet.Point.TheVariants.{Fields, Filters, Groups, Joins, Measures}

-- of the points in their order the first that does not hold
abbrev pub first_of : Bool → Bool → Bool → Bool → Bool → Option Point
first_of joins fields filters measures groups =
    if joins then
    (if fields then (if filters then (if measures then (if groups then None else Some Groups) else Some Measures) else Some Filters)
    else Some Fields)
    else Some Joins

abbrev pub first_unmet : Explore → Rollup → Bound → Option Point
first_unmet x r b = first_of (joins_fit x r b) (fields_fit x r b) (filters_fit r b) (measures_fit x r b) (groups_fit x r b)
