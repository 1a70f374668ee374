-- Which rollups fit a query, how a query is routed, and what a rollup keeps.
use Rattle.std.specs.Prelude.{◌≡◌, ℕ, zero, suc, ◌+◌, ◌==◌, nat_lt, nat_le, Bool, true, false, not, ◌&&◌, ◌||◌, if◌then◌else◌, pos, ◌+ℤ◌, List, [], ◌∷◌, ◌++◌, map, filter, flat_map, length, slice_index, slice_index_or, Option, Some, None}
use Rattle.std.specs.List.{list_any, list_all, enumerate_from}
use Rattle.lk_val.specs.Least.{is_in, least_set}
use Rattle.lk_val.specs.declared.value.Value.{Value}
use Rattle.lk_val.specs.declared.value.Value.TheVariants as value
use Rattle.lk_val.specs.declared.cell.Cell.{Cell}
use Rattle.lk_val.specs.declared.cell.Cell.TheVariants as cell
use Rattle.lk_types.specs.Formula.{Formula, Column, Compare}
use Rattle.lk_types.specs.Expressions.{mentions, conjuncts, has_number}
use Rattle.lk_types.specs.Timeframes.{is_had_from}
use Rattle.lk_types.specs.Filters.{is_same_filter}
use Rattle.lk_semantics.specs.Joins.{part_at, join_at, numbers_below, mentions_of, joined_rows}
use Rattle.lk_types.specs.declared.rows.Sources.{Sources}
use Rattle.lk_semantics.specs.Rows.{field_at, passing_rows}
use Rattle.lk_semantics.specs.Measures.{Entry, entries_of, groups_of, pairs_of, values_of_entries, total, known_count, average_cell, lesser, greater, least_of, greatest_of, distinct_values}
use Rattle.lk_types.specs.declared.answer.GivenRow.{GivenRow}
use Rattle.lk_semantics.specs.Answers.{measure_at, value_taken, dims_of, filtered, components_of, query_components, given_rows, ops_of}
use Rattle.lk_semantics.specs.Derived.{field_parts, joins_for, explore_at, derived_query}
use Rattle.lk_types.specs.declared.rows.Joined.{Joined}
use Rattle.lk_types.specs.declared.expr.Comparison.TheVariants as comparison
use Rattle.lk_types.specs.declared.explore.Shape.{Shape}
use Rattle.lk_types.specs.declared.explore.Shape.TheVariants as shape
use Rattle.lk_types.specs.declared.explore.Explore.{Explore}
use Rattle.lk_types.specs.declared.explore.Field.{Field}
use Rattle.lk_types.specs.declared.explore.Origin.{Origin}
use Rattle.lk_types.specs.declared.explore.Origin.TheVariants.{Stored, Derived as FromDerived}
use Rattle.lk_types.specs.declared.explore.Join.{Join}
use Rattle.lk_types.specs.declared.explore.JoinKind.{JoinKind}
use Rattle.lk_types.specs.declared.explore.JoinKind.TheVariants.{Left, Full, Inner, Cross}
use Rattle.lk_types.specs.declared.explore.Measure.{Measure}
use Rattle.lk_types.specs.declared.explore.Op.{Op}
use Rattle.lk_types.specs.declared.explore.Op.TheVariants.{Count, CountDistinct, Sum, Average, Min, Max, SumDistinct, AverageDistinct, Number}
use Rattle.lk_types.specs.declared.explore.Rollup.{Rollup}
use Rattle.lk_types.specs.declared.model.Model.{Model}
use Rattle.lk_types.specs.declared.model.Derived.{Derived}
use Rattle.lk_types.specs.declared.bound.Bound.{Bound}
use Rattle.lk_types.specs.declared.answer.Partial.{Partial}
use Rattle.lk_types.specs.declared.answer.Route.{Route}
use Rattle.lk_types.specs.declared.answer.RouteFrom.TheVariants as from

-- ---- what a key determines

-- a view's rows are the same in all rows with one key; and no such row lacks the view
pub data Standing : Type 0 where
  determined : ℕ → Standing
  present : ℕ → Standing

-- two standings say the same of the same view
abbrev pub is_same_standing : Standing → Standing → Bool
is_same_standing (determined v) (determined w) = v == w
is_same_standing (present v) (present w) = v == w
is_same_standing s t = false

-- the view is among those known to be determined
abbrev pub is_determined_in : List Standing → ℕ → Bool
is_determined_in known w = list_any (is_same_standing (determined w)) known

-- the view is among those known to be present
abbrev pub is_present_in : List Standing → ℕ → Bool
is_present_in known w = list_any (is_same_standing (present w)) known

-- there is a number, and it is this one
abbrev pub is_number : Option ℕ → ℕ → Bool
is_number None n = false
is_number (Some m) n = m == n

-- the expression is the view's enforced key column
abbrev pub is_enforced_key : Explore → ℕ → Formula → Bool
is_enforced_key x w (Column part column) = (part == w) && is_number (part_at x w).enforced column
is_enforced_key x w e = false

-- the expression mentions only parts that pass
abbrev pub mentions_only : (ℕ → Bool) → Formula → Bool
mentions_only test e = list_all test (mentions e)

-- an equation between the view's enforced key and an expression over parts that pass
abbrev pub is_key_equation : Explore → (ℕ → Bool) → ℕ → Formula → Bool
is_key_equation x test w (Compare comparison.Equal a b) = (is_enforced_key x w a && mentions_only test b) || (is_enforced_key x w b && mentions_only test a)
is_key_equation x test w e = false

-- the conjuncts of a condition, if there is one
abbrev pub conjuncts_of : Option Formula → List Formula
conjuncts_of None = []
conjuncts_of (Some e) = conjuncts e

-- a conjunct of the join's condition equates the view's enforced key with what passes
abbrev pub has_key_equation : Explore → (ℕ → Bool) → ℕ → Join → Bool
has_key_equation x test w join = list_any (is_key_equation x test w) (conjuncts_of join.on)

-- the join keeps the rows of both sides
abbrev pub is_full : JoinKind → Bool
is_full Full = true
is_full Left = false
is_full Inner = false
is_full Cross = false

-- the join keeps only pairs
abbrev pub is_inner : JoinKind → Bool
is_inner Inner = true
is_inner Left = false
is_inner Full = false
is_inner Cross = false

-- the join keeps the rows of the left side
abbrev pub is_left : JoinKind → Bool
is_left Left = true
is_left Inner = false
is_left Full = false
is_left Cross = false

-- the joined view w is found by its key, and the whole condition speaks of nothing that is not determined
abbrev pub finds_joined : Explore → List Standing → ℕ → ℕ → Bool
finds_joined x known w j =
    (w == j + 1) && (is_left (join_at x j).kind || is_inner (join_at x j).kind)
    && has_key_equation x (is_determined_in known) w (join_at x j) && list_all (λ p. (p == w) || is_determined_in known p) (mentions_of (join_at x j).on)

-- the joined view is present, so its partner w that stands earlier is the one with that key
abbrev pub finds_earlier : Explore → List Standing → ℕ → ℕ → Bool
finds_earlier x known w j =
    is_present_in known (j + 1) && nat_lt w (j + 1) && (is_left (join_at x j).kind || is_inner (join_at x j).kind)
    && has_key_equation x (is_determined_in known) w (join_at x j)

-- one of the joins is a full one
abbrev pub has_full : Explore → List ℕ → Bool
has_full x joins = list_any (λ j. is_full (join_at x j).kind) joins

-- the rules by which a view stands with the view v
abbrev pub stands : Explore → List ℕ → ℕ → List Standing → Standing → Bool
stands x joins v known (determined w) =
    (w == v) || (not (has_full x joins) && list_any (λ j. finds_joined x known w j || finds_earlier x known w j) joins)
stands x joins v known (present w) =
    (w == v) || (not (has_full x joins) && list_any (λ j. (finds_joined x known w j && is_inner (join_at x j).kind) || finds_earlier x known w j) joins)

-- what may be said of the views
abbrev pub all_standings : Explore → List Standing
all_standings x = map determined (numbers_below (length x.parts)) ++ map present (numbers_below (length x.parts))

-- what the rules say of the known is known
abbrev pub AreClosedUnderRules : Explore → List ℕ → ℕ → List Standing → Type 0
AreClosedUnderRules x joins v known = (s : Standing) → is_in is_same_standing s (all_standings x) ≡ true → stands x joins v known s ≡ true → is_in is_same_standing s known ≡ true

-- the least set that is closed under the rules
abbrev pub standings : Explore → List ℕ → ℕ → List Standing
standings x joins v = least_set is_same_standing (all_standings x) (stands x joins v)

-- the views that the key of v determines over the joins, ascending
abbrev pub determined_views : Explore → List ℕ → ℕ → List ℕ
determined_views x joins v = filter (is_determined_in (standings x joins v)) (numbers_below (length x.parts))

-- the views that each row with a key of v has over the joins, ascending
abbrev pub present_views : Explore → List ℕ → ℕ → List ℕ
present_views x joins v = filter (is_present_in (standings x joins v)) (numbers_below (length x.parts))

-- ---- fit

-- the joins of a rollup's query
abbrev pub rollup_joins : Explore → Rollup → List ℕ
rollup_joins x r = joins_for x (r.dims ++ filtered r.filters) r.measures

-- a join that leaves the rows before it as they were: each has at most one partner, by the joined view's enforced key
abbrev pub keeps_rows : Explore → ℕ → Bool
keeps_rows x j = is_left (join_at x j).kind && has_key_equation x (λ p. nat_le p j) (j + 1) (join_at x j)

-- the query's joins are among the rollup's, and each further one keeps the rows
abbrev pub joins_fit : Explore → Rollup → Bound → Bool
joins_fit x r b = list_all (λ j. has_number j (rollup_joins x r)) b.joins && list_all (λ j. has_number j b.joins || keeps_rows x j) (rollup_joins x r)

-- timeframes of one group, of which the first is had from the second
abbrev pub is_coarser : Shape → Shape → Bool
is_coarser (shape.Frame g coarse) (shape.Frame h fine) = (g == h) && is_had_from coarse fine
is_coarser s t = false

-- timeframes of one view's group, of which the first is had from the second
abbrev pub is_had_of : Field → Field → Bool
is_had_of f d = (f.part == d.part) && is_coarser f.shape d.shape

-- a dimension of the rollup is the field, or a finer timeframe of its view's group
abbrev pub has_field : Explore → Rollup → ℕ → Bool
has_field x r f = list_any (λ d. (d == f) || is_had_of (field_at x f) (field_at x d)) r.dims

-- the rollup has each field that the query groups or filters by
abbrev pub fields_fit : Explore → Rollup → Bound → Bool
fields_fit x r b = list_all (has_field x r) (dims_of b.picks ++ filtered b.rows ++ filtered b.access)

-- the rollup's filters are among the query's, on the same field with the same tests
abbrev pub filters_fit : Rollup → Bound → Bool
filters_fit r b = list_all (λ f. list_any (λ g. (f.0 == g.0) && is_same_filter f.1 g.1) b.rows) r.filters

-- the rollup has each component of the query's measures
abbrev pub measures_fit : Explore → Rollup → Bound → Bool
measures_fit x r b = list_all (λ m. has_number m (components_of x r.measures)) (query_components x b)

-- the same numbers, in any order
abbrev pub is_same_set : List ℕ → List ℕ → Bool
is_same_set xs ys = list_all (λ n. has_number n ys) xs && list_all (λ n. has_number n xs) ys

-- all that the rollup's dimensions, the value that the measure computes with and its filters mention is determined by the key of its view
abbrev pub is_determined_by : Explore → Rollup → Measure → Bool
is_determined_by x r m =
    list_all (λ p. has_number p (determined_views x (rollup_joins x r) m.part))
    (flat_map (field_parts x) r.dims ++ mentions_of (value_taken m) ++ flat_map (field_parts x) (filtered m.filters))

-- its parts over finer groups give it over coarser ones: of a least or greatest value always, of a count, a sum or an average where each key lies in one group
abbrev pub op_regroups : Op → Bool → Bool
op_regroups Min one_group = true
op_regroups Max one_group = true
op_regroups Count one_group = one_group
op_regroups Sum one_group = one_group
op_regroups Average one_group = one_group
op_regroups CountDistinct one_group = false
op_regroups SumDistinct one_group = false
op_regroups AverageDistinct one_group = false
op_regroups Number one_group = false

-- the measure may be put together from finer groups
abbrev pub regroups : Explore → Rollup → Measure → Bool
regroups x r m = op_regroups m.op (is_determined_by x r m)

-- the groups are the rollup's own, or each measure may be put together from them
abbrev pub groups_fit : Explore → Rollup → Bound → Bool
groups_fit x r b = is_same_set (dims_of b.picks) r.dims || list_all (λ m. regroups x r (measure_at x m)) (query_components x b)

-- the rollup fits the query
abbrev pub fits : Explore → Rollup → Bound → Bool
fits x r b = joins_fit x r b && fields_fit x r b && filters_fit r b && measures_fit x r b && groups_fit x r b

-- ---- what may be stored

-- there is a number
abbrev pub is_some_number : Option ℕ → Bool
is_some_number None = false
is_some_number (Some n) = true

-- a type of measure may stand in a stored query, where its view has an enforced key that determines it or not
abbrev pub op_stores : Op → Bool → Bool
op_stores Min keyed = true
op_stores Max keyed = true
op_stores CountDistinct keyed = true
op_stores Count keyed = keyed
op_stores Sum keyed = keyed
op_stores Average keyed = keyed
op_stores SumDistinct keyed = false
op_stores AverageDistinct keyed = false
op_stores Number keyed = false

-- a measure may stand in a stored query: a count, a sum or an average only of a view with an enforced key that determines its value and its filters
abbrev pub may_be_stored : Explore → List ℕ → Measure → Bool
may_be_stored x joins m =
    op_stores m.op (is_some_number (part_at x m.part).enforced
    && list_all (λ p. has_number p (determined_views x joins m.part)) (mentions_of (value_taken m) ++ flat_map (field_parts x) (filtered m.filters)))

-- each component of a rollup's measures may stand in it
abbrev pub may_be_rolled_up : Explore → Rollup → Bool
may_be_rolled_up x r = list_all (λ m. may_be_stored x (rollup_joins x r) (measure_at x m)) (components_of x r.measures)

-- ---- route

-- the rollup past the end of an explore's rollups
abbrev pub no_rollup : Rollup
no_rollup = record { name = []; dims = []; measures = []; filters = []; datagroup = 0 }

-- the rollup of a number
abbrev pub rollup_at : Explore → ℕ → Rollup
rollup_at x r = slice_index_or x.rollups r no_rollup

-- the rollups that fit, in declared order
abbrev pub fitting : Explore → Bound → List ℕ
fitting x b = filter (λ r. fits x (rollup_at x r) b) (numbers_below (length x.rollups))

-- of two rollups the one with fewer dimensions, and else the first
abbrev pub better : Explore → ℕ → Option ℕ → Option ℕ
better x r None = Some r
better x r (Some t) = if nat_le (length (rollup_at x r).dims) (length (rollup_at x t).dims) then Some r else Some t

-- of some rollups the one with the fewest dimensions, and else the first
abbrev pub best_rollup : Explore → List ℕ → Option ℕ
best_rollup x [] = None
best_rollup x (r ∷ rs) = better x r (best_rollup x rs)

-- the derived table past the end of a model's derived tables
abbrev pub no_derived : Derived
no_derived = record { name = []; explore = 0; columns = []; filters = []; datagroup = None }

-- the derived table of a number
abbrev pub derived_at : Model → ℕ → Derived
derived_at m d = slice_index_or m.derived d no_derived

-- where the parts of an explore's joins come from
abbrev pub origins_of : Explore → List ℕ → List Origin
origins_of x joins = (part_at x 0).origin ∷ map (λ j. (part_at x (j + 1)).origin) joins

-- a persisted derived table's own datagroup, or those that it reaches
abbrev pub or_within : (Derived → List ℕ) → Derived → Option ℕ → List ℕ
or_within deeper d None = deeper d
or_within deeper d (Some g) = g ∷ []

-- the datagroups that a view's origin reaches
abbrev pub datagroups_from : Model → (Derived → List ℕ) → Origin → List ℕ
datagroups_from m deeper (Stored t) = []
datagroups_from m deeper (FromDerived n) = or_within deeper (derived_at m n) (derived_at m n).datagroup

-- the datagroups of the persisted derived tables that a derived table reaches, through at most n others
abbrev pub reached_by : Model → ℕ → Derived → List ℕ
reached_by m zero d = []
reached_by m (suc n) d =
    flat_map (datagroups_from m (reached_by m n)) (origins_of (explore_at m d.explore) (derived_query (explore_at m d.explore) d).joins)

-- the datagroups of the first persisted derived tables that a query over the joins reaches: it reads no further than these
abbrev pub reached_datagroups : Model → Explore → List ℕ → List ℕ
reached_datagroups m x joins = flat_map (datagroups_from m (reached_by m (length m.derived))) (origins_of x joins)

-- to the build of a datagroup that is reached, or else to the current tables
abbrev pub route_to_build : List ℕ → ℕ → List ℕ → Route
route_to_build builds now [] = record { number = now; from = from.Current }
route_to_build builds now (g ∷ gs) = record { number = slice_index builds g; from = from.Build g }

-- to a rollup's build, where there is one
abbrev pub route_or : Explore → List ℕ → Option ℕ → Route → Route
route_or x builds None route = route
route_or x builds (Some r) route = record { number = slice_index builds (rollup_at x r).datagroup; from = from.Rollup r }

-- the fitting rollup with the fewest dimensions, unless the query is fresh; else the build that it reaches; else the current tables
abbrev pub route_of : Model → List ℕ → ℕ → Bound → Route
route_of m builds now b =
    let x = explore_at m b.explore in
    route_or x builds (if b.fresh then None else best_rollup x (fitting x b)) (route_to_build builds now (reached_datagroups m x b.joins))

-- ---- partials

-- no part of a measure
abbrev pub no_partial : Partial
no_partial = record { count = 0; sum = pos 0; values = 0; least = value.Null; most = value.Null; distinct = 0 }

-- the parts that a measure's type uses, over what a group's rows give
abbrev pub partial_of : Op → List Entry → Partial
partial_of Count entries = record no_partial { count = length (pairs_of Count entries) }
partial_of Sum entries = record no_partial { sum = total (pairs_of Sum entries); values = known_count (pairs_of Sum entries) }
partial_of Average entries = record no_partial { sum = total (pairs_of Average entries); values = known_count (pairs_of Average entries) }
partial_of Min entries = record no_partial { least = least_of (values_of_entries entries) }
partial_of Max entries = record no_partial { most = greatest_of (values_of_entries entries) }
partial_of CountDistinct entries = record no_partial { distinct = length (distinct_values (values_of_entries entries)) }
partial_of SumDistinct entries = no_partial
partial_of AverageDistinct entries = no_partial
partial_of Number entries = no_partial

-- a group with the parts of its measures
abbrev pub rollup_row : List Op → List GivenRow → List Value → List Value × List Partial
rollup_row ops rows group = (group, map (λ c. partial_of c.1 (entries_of c.0 rows group)) (enumerate_from 0 ops))

-- each group of so many dimensions with the parts of its measures, ascending
abbrev pub rollup_rows : ℕ → List Op → List GivenRow → List (List Value × List Partial)
rollup_rows dims ops rows = map (rollup_row ops rows) (groups_of dims rows)

-- the rows that a rollup counts: neither access filters nor `always_filter` apply
abbrev pub rollup_passing : Explore → Sources → Rollup → List Joined
rollup_passing x s r = passing_rows x r.filters (joined_rows x s (rollup_joins x r))

-- what a rollup keeps of the tables
abbrev pub partials_of : Explore → Sources → Rollup → List (List Value × List Partial)
partials_of x s r =
    let measures = components_of x r.measures in
    rollup_rows (length r.dims) (ops_of x measures) (given_rows x r.dims measures (rollup_passing x s r))

-- the parts of two disjoint sets of pairs together; different values cannot be added
abbrev pub merged : Partial → Partial → Partial
merged p q = record {
  count = p.count + q.count;
  sum = p.sum +ℤ q.sum;
  values = p.values + q.values;
  least = lesser p.least q.least;
  most = greater p.most q.most;
  distinct = p.distinct;
}

-- a measure from its parts
abbrev pub cell_of_partial : Op → Partial → Cell
cell_of_partial Count p = cell.Count p.count
cell_of_partial Sum p = cell.Sum p.sum
cell_of_partial Average p = average_cell p.sum p.values
cell_of_partial Min p = cell.Value p.least
cell_of_partial Max p = cell.Value p.most
cell_of_partial CountDistinct p = cell.Count p.distinct
cell_of_partial SumDistinct p = cell.Sum p.sum
cell_of_partial AverageDistinct p = average_cell p.sum p.values
cell_of_partial Number p = cell.Value value.Null
