-- What a query of a caller binds to, or its first refusal. (lookd)
use Rattle.std.specs.Prelude.{◌≡◌, ℕ, ⊤, Bool, true, false, not, ◌&&◌, if◌then◌else◌, ℤ, List, [], ◌∷◌, map, slice_get, Option, Some, None, is_some, Result, Ok, Err}
use Rattle.std.specs.Option.{option_or}
use Rattle.lk_types.specs.declared.bound.Bound.{Bound}
use Rattle.lk_types.specs.declared.bound.Query.{Query}
use Rattle.lk_types.specs.declared.bound.Sort.{Sort}
use Rattle.lk_types.specs.declared.explore.Explore.{Explore}
use Rattle.lk_types.specs.declared.explore.Measure.{Measure}
use Rattle.lk_types.specs.declared.explore.Op.{Op}
use Rattle.lk_types.specs.declared.explore.Op.TheVariants as op
use Rattle.lk_types.specs.declared.filter.Filter.{Filter}
use Rattle.lk_types.specs.declared.model.Model.{Model}
use Rattle.lk_types.specs.declared.model.Pick.{Pick}
use Rattle.lk_types.specs.declared.model.Pick.TheVariants.{Dim, Mea}
use Rattle.lk_semantics.specs.Answers.{query_components}
use Rattle.lk_semantics.specs.Derived.{explore_at, query_joins, with_always}
use Rattle.lk_semantics.specs.Joins.{is_fanned, part_at}
use Rattle.lk_filter.specs.PlacedModel.{placed_field_filter}
use Rattle.lk_schema.specs.declared.users.Users.{Users}
use Rattle.lk_body.specs.Bodies.{query_of}
use Rattle.lk_body.specs.declared.fault.QueryFault.{QueryFault}
use Rattle.lk_body.specs.declared.fault.QueryFault.TheVariants.{Q7}
use Rattle.lk_query.specs.Callers.{access_texts, explore_named, user_known}
use Rattle.lk_query.specs.Names.{filters_of, limit_of, picks_of, sorts_of}
use Rattle.lk_query.specs.Readings.{PickFilter, AreRead}
use Rattle.lk_query.specs.declared.filters.Filters.{Filters}
use Rattle.lk_query.specs.declared.request.Request.{Request}
use Rattle.lk_query.specs.declared.texts.FilterText.{FilterText}

-- ---- what is known before any filter is read

-- the parts together, or the first refusal of them
abbrev pub request_from : Result ℕ QueryFault → Result (List Pick) QueryFault → Result (List FilterText) QueryFault
    → Result (List Sort) QueryFault → Result (List FilterText) QueryFault → Result Request QueryFault
request_from (Err fault) picks filters sorts access = Err fault
request_from (Ok limit) (Err fault) filters sorts access = Err fault
request_from (Ok limit) (Ok picks) (Err fault) sorts access = Err fault
request_from (Ok limit) (Ok picks) (Ok filters) (Err fault) access = Err fault
request_from (Ok limit) (Ok picks) (Ok filters) (Ok sorts) (Err fault) = Err fault
request_from (Ok limit) (Ok picks) (Ok filters) (Ok sorts) (Ok access) =
    Ok (record { limit = limit; picks = picks; filters = filters; sorts = sorts; access = access })

-- a caller's query over an explore, or the first of Q8, Q4 (of fields, then filters, then sorts) and Q5
abbrev pub request_of : Explore → Users → List ℕ → Query → Result Request QueryFault
request_of x users user q =
    request_from (limit_of q.limit) (picks_of x q.fields) (filters_of x q.filters) (sorts_of q.fields q.sorts) (access_texts x users user)

-- ---- measures that count repeated rows

-- the type of measure counts or adds up rows (Looker, LookML reference: measure types)
abbrev pub counts_rows : Op → Bool
counts_rows op.Count = true
counts_rows op.Sum = true
counts_rows op.Average = true
counts_rows other = false

-- the measure counts rows of a view that has no primary key and that the joins can repeat
abbrev pub counts_repeated : Explore → List ℕ → Measure → Bool
counts_repeated x joins m = counts_rows m.op && not (is_some (part_at x m.part).key) && is_fanned x joins m.part

-- the name of a measure that does so
abbrev pub repeated_name : Explore → List ℕ → Option Measure → Option (List ℕ)
repeated_name x joins None = None
repeated_name x joins (Some m) = if counts_repeated x joins m then Some m.name else None

-- the name of the first of some measures that does so
abbrev pub first_repeated : Explore → List ℕ → List ℕ → Option (List ℕ)
first_repeated x joins [] = None
first_repeated x joins (m ∷ measures) = option_or (repeated_name x joins (slice_get x.measures m)) (first_repeated x joins measures)

-- ---- the bound query

-- the filters on dimensions
abbrev pub on_dims : List PickFilter → List (ℕ × Filter)
on_dims [] = []
on_dims ((Dim f, filter) ∷ filters) = (f, filter) ∷ on_dims filters
on_dims ((Mea m, filter) ∷ filters) = on_dims filters

-- the filters on measures
abbrev pub on_measures : List PickFilter → List (ℕ × Filter)
on_measures [] = []
on_measures ((Dim f, filter) ∷ filters) = on_measures filters
on_measures ((Mea m, filter) ∷ filters) = (m, filter) ∷ on_measures filters

-- filters at a moment
abbrev pub each_placed : ℤ → List (ℕ × Filter) → List (ℕ × Filter)
each_placed now filters = map (placed_field_filter now) filters

-- the filters that were read, at their moment: the caller's, those on dimensions with the explore's defaults for the fields that they leave out, and those on measures
abbrev pub filters_at : ℤ → Explore → List PickFilter → List PickFilter → Filters
filters_at now x access filters = record {
  access = each_placed now (on_dims access);
  rows = each_placed now (with_always x (on_dims filters));
  having = each_placed now (on_measures filters);
}

-- the bound query of an explore, by its number
abbrev pub bound_with : Explore → ℕ → Query → Request → Filters → Bound
bound_with x n q r filters = record {
  explore = n;
  picks = r.picks;
  joins = query_joins x r.picks filters.rows filters.access filters.having;
  access = filters.access;
  rows = filters.rows;
  having = filters.having;
  sorts = r.sorts;
  limit = r.limit;
  fresh = q.fresh;
  csv = q.csv;
}

-- the bound query, unless a measure is refused (Q7)
abbrev pub bound_unless : Option (List ℕ) → Bound → Result Bound QueryFault
bound_unless (Some name) b = Err (Q7 name)
bound_unless None b = Ok b

-- the bound query, or Q7 for the first of its measures that counts repeated rows
abbrev pub checked : Explore → Bound → Result Bound QueryFault
checked x b = bound_unless (first_repeated x b.joins (query_components x b)) b

-- the bound query over the filters that were read, or its refusal
abbrev pub bound_of : Explore → ℕ → Query → ℤ → Request → List PickFilter → Result (List PickFilter) QueryFault → Result Bound QueryFault
bound_of x n q now r access (Err fault) = Err fault
bound_of x n q now r access (Ok filters) = checked x (bound_with x n q r (filters_at now x access filters))

-- the same behind what was read of the access filters
abbrev pub IsBoundBehind : Explore → ℕ → Query → ℤ → Request → Result (List PickFilter) QueryFault → Result Bound QueryFault → Type 0
IsBoundBehind x n q now r (Err fault) result = result ≡ Err fault
IsBoundBehind x n q now r (Ok access) result =
    (filters : Result (List PickFilter) QueryFault) × AreRead r.filters filters × (result ≡ bound_of x n q now r access filters)

-- a request binds so: its access filters are read before its own
abbrev pub IsBoundFrom : Explore → ℕ → Query → ℤ → Result Request QueryFault → Result Bound QueryFault → Type 0
IsBoundFrom x n q now (Err fault) result = result ≡ Err fault
IsBoundFrom x n q now (Ok r) result =
    (access : Result (List PickFilter) QueryFault) × AreRead r.access access × IsBoundBehind x n q now r access result

-- a query binds so over the explore of a number
abbrev pub IsBoundOver : Model → Users → List ℕ → Query → ℤ → Result ⊤ QueryFault → Result ℕ QueryFault → Result Bound QueryFault → Type 0
IsBoundOver m users user q now (Err fault) explore result = result ≡ Err fault
IsBoundOver m users user q now (Ok known) (Err fault) result = result ≡ Err fault
IsBoundOver m users user q now (Ok known) (Ok n) result =
    IsBoundFrom (explore_at m n) n q now (request_of (explore_at m n) users user q) result

-- a caller's query at a moment binds so, or its first refusal is this: Q2, Q1, and then those of the query
abbrev pub IsBound : Model → Users → List ℕ → List ℕ → Query → ℤ → Result Bound QueryFault → Type 0
IsBound m users user explore q now result = IsBoundOver m users user q now (user_known users user) (explore_named m explore) result

-- ---- a query's body

-- the same of what a body is read as
abbrev pub IsBodyBoundOver : Model → Users → List ℕ → ℤ → Result ⊤ QueryFault → Result ℕ QueryFault → Result Query QueryFault → Result Bound QueryFault → Type 0
IsBodyBoundOver m users user now (Err fault) explore query result = result ≡ Err fault
IsBodyBoundOver m users user now (Ok known) (Err fault) query result = result ≡ Err fault
IsBodyBoundOver m users user now (Ok known) (Ok n) (Err fault) result = result ≡ Err fault
IsBodyBoundOver m users user now (Ok known) (Ok n) (Ok q) result =
    IsBoundFrom (explore_at m n) n q now (request_of (explore_at m n) users user q) result

-- a caller's body at a moment binds so, or its first refusal is this: Q2, Q1, Q3, and then those of the query
abbrev pub IsBodyBound : Model → Users → List ℕ → List ℕ → List ℕ → ℤ → Result Bound QueryFault → Type 0
IsBodyBound m users user explore body now result =
    IsBodyBoundOver m users user now (user_known users user) (explore_named m explore) (query_of body) result
