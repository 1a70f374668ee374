-- Where a query is answered. (lookd)
use Rattle.std.specs.Prelude.{◌≡◌, ◌<◌, nat_lt, true, length}
use Rattle.lk_types.specs.declared.answer.Route.{Route}
use Rattle.lk_types.specs.declared.answer.RouteFrom.{RouteFrom}
use Rattle.lk_types.specs.declared.answer.RouteFrom.TheVariants as from
use Rattle.lk_types.specs.declared.bound.Bound.{Bound}
use Rattle.lk_types.specs.declared.model.Model.{Model}
use Rattle.lk_semantics.specs.Derived.{explore_at}
use Rattle.lk_semantics.specs.Rollups.{fits, rollup_at, route_of}
use Rattle.lk_route.specs.Routes.{built_numbers}
use Rattle.lk_keeps.specs.Keeps.{persists}
use Rattle.lk_edition.specs.Standings.{Standing}

-- a query is answered from the aggregate table that fits it, unless it is to be fresh; else over the tables of the build of the datagroup that it reaches; and over the current ones where it reaches none
abbrev pub routed : Standing → Bound → Route
routed e b = route_of e.model (built_numbers e.builds) e.state.number b

-- a route to a datagroup's build is to one that persists a derived table, and a route to an aggregate table is to one that fits
abbrev pub LeadsTo : Model → Bound → RouteFrom → Type 0
LeadsTo m b (from.Build g) = (g < length m.datagroups) × (persists m g ≡ true)
LeadsTo m b (from.Rollup r) =
    (nat_lt r (length (explore_at m b.explore).rollups) ≡ true) × (fits (explore_at m b.explore) (rollup_at (explore_at m b.explore) r) b ≡ true)
LeadsTo m b from.Current = Unit {0}
