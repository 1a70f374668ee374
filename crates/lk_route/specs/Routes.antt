-- Of the aggregate tables that fit a query, the best of those from a number on.
use Rattle.std.specs.Prelude.{ℕ, List, drop, filter, if◌then◌else◌, length, map, slice_index, Option, None, Some}
use Rattle.lk_types.specs.declared.answer.Route.{Route}
use Rattle.lk_types.specs.declared.answer.RouteFrom.TheVariants as from
use Rattle.lk_types.specs.declared.bound.Bound.{Bound}
use Rattle.lk_types.specs.declared.explore.Explore.{Explore}
use Rattle.lk_semantics.specs.Joins.{numbers_below}
use Rattle.lk_semantics.specs.Rollups.{best_rollup, better, fits, fitting, rollup_at}
use Rattle.lk_trigger.specs.declared.build.Build.{Build}

-- the numbers of those that fit, from one on
abbrev pub fitting_from : Explore → Bound → ℕ → List ℕ
fitting_from x b k = filter (λ r. fits x (rollup_at x r) b) (drop k (numbers_below (length x.rollups)))

-- the number itself where it fits and is better than the best of the later ones
unfoldable pub best_with : Explore → Bound → ℕ → Option ℕ → Option ℕ
best_with x b r best = if fits x (rollup_at x r) b then better x r best else best

-- the one from which a query is answered: none where it is to be fresh
unfoldable pub chosen : Explore → Bound → Option ℕ
chosen x b = if b.fresh then None else best_rollup x (fitting x b)

-- the numbers of the states at which the datagroups were built
abbrev pub built_numbers : List Build → List ℕ
built_numbers builds = map (λ (build : Build). build.number) builds

-- to the build of a datagroup, or to the current tables
abbrev pub route_to : List ℕ → ℕ → Option ℕ → Route
route_to builds now None = record { number = now; from = from.Current }
route_to builds now (Some g) = record { number = slice_index builds g; from = from.Build g }
