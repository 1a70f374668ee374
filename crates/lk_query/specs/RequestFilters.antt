-- The filters of a request, read and at their moment, before the query is bound. It is no part of what a query binds to.
use Rattle.std.specs.Prelude.{◌≡◌, ℤ, List, Result, Ok, Err}
use Rattle.lk_types.specs.declared.explore.Explore.{Explore}
use Rattle.lk_body.specs.declared.fault.QueryFault.{QueryFault}
use Rattle.lk_query.specs.Bindings.{filters_at}
use Rattle.lk_query.specs.Readings.{PickFilter, AreRead}
use Rattle.lk_query.specs.declared.filters.Filters.{Filters}
use Rattle.lk_query.specs.declared.request.Request.{Request}

-- the filters that were read, at their moment, or their refusal
abbrev pub filters_with : Explore → ℤ → List PickFilter → Result (List PickFilter) QueryFault → Result Filters QueryFault
filters_with x now access (Err fault) = Err fault
filters_with x now access (Ok filters) = Ok (filters_at now x access filters)

-- the same behind what was read of the access filters
abbrev pub AreFiltersBehind : Explore → ℤ → Request → Result (List PickFilter) QueryFault → Result Filters QueryFault → Type 0
AreFiltersBehind x now r (Err fault) result = result ≡ Err fault
AreFiltersBehind x now r (Ok access) result =
    (filters : Result (List PickFilter) QueryFault) × AreRead r.filters filters × (result ≡ filters_with x now access filters)

-- the filters of a request are these: its access filters are read before its own
abbrev pub AreFiltersOf : Explore → ℤ → Request → Result Filters QueryFault → Type 0
AreFiltersOf x now r result =
    (access : Result (List PickFilter) QueryFault) × AreRead r.access access × AreFiltersBehind x now r access result
