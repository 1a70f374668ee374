-- What a resolved model is: what every call that takes one may rely on.
use Rattle.std.specs.Prelude.{◌≡◌, ℕ, ◌+◌, nat_eq, nat_lt, nat_le, unwrap_or, Bool, true, false, not, ◌&&◌, ◌||◌, if◌then◌else◌, ℤ, pos, neg_ℤ, int_le, int_lt, List, [], ◌∷◌, ◌++◌, map, flat_map, length, slice_get, Option, Some, None}
use Rattle.std.specs.List.{list_any, list_all, enumerate_from, AllByRecursion}
use Rattle.lk_types.specs.Formula.{Formula, Column}
use Rattle.lk_types.specs.Calculation.{Calculation}
use Rattle.lk_types.specs.Expressions.{has_number}
use Rattle.lk_types.specs.Dates.{are_literals_dated}
use Rattle.lk_types.specs.Shapes.{framed_kind}
use Rattle.lk_types.specs.Filters.{is_filter_of, is_placed}
use Rattle.lk_types.specs.WholeForms.{is_whole_form, is_whole_calculation}
use Rattle.lk_types.specs.Kinds.{kinds_of, has_kind, is_same_kind, is_empty, single}
use Rattle.lk_semantics.specs.Joins.{is_cross, numbers_below}
use Rattle.lk_semantics.specs.Answers.{measure_at, measures_in, components_of, filtered, query_components}
use Rattle.lk_semantics.specs.Rows.{field_at}
use Rattle.lk_semantics.specs.Derived.{explore_at, derived_query, query_joins}
use Rattle.lk_semantics.specs.Rollups.{may_be_stored, may_be_rolled_up}
use Rattle.lk_semantics.specs.Reading.{table_at, leaves_of, reads_itself, explore_datagroups}
use Rattle.lk_val.specs.Least.{least_set}
use Rattle.lk_types.specs.declared.schema.Kind.{Kind}
use Rattle.lk_types.specs.declared.schema.Kind.TheVariants as kind
use Rattle.lk_types.specs.declared.kind_set.Leaves.{Leaves}
use Rattle.lk_types.specs.declared.filter.Filter.{Filter}
use Rattle.lk_types.specs.declared.explore.Shape.{Shape}
use Rattle.lk_types.specs.declared.explore.Shape.TheVariants as shape
use Rattle.lk_types.specs.declared.explore.Field.{Field}
use Rattle.lk_types.specs.declared.explore.Part.{Part}
use Rattle.lk_types.specs.declared.explore.Join.{Join}
use Rattle.lk_types.specs.declared.explore.Origin.{Origin}
use Rattle.lk_types.specs.declared.explore.Origin.TheVariants as origin
use Rattle.lk_types.specs.declared.explore.Op.{Op}
use Rattle.lk_types.specs.declared.explore.Op.TheVariants as op
use Rattle.lk_types.specs.declared.explore.Measure.{Measure}
use Rattle.lk_types.specs.declared.explore.Rollup.{Rollup}
use Rattle.lk_types.specs.declared.explore.Explore.{Explore}
use Rattle.lk_types.specs.declared.model.Model.{Model}
use Rattle.lk_types.specs.declared.model.Derived.{Derived}
use Rattle.lk_types.specs.declared.model.Datagroup.{Datagroup}
use Rattle.lk_types.specs.declared.model.Trigger.{Trigger}
use Rattle.lk_types.specs.declared.model.Trigger.TheVariants as trigger
use Rattle.lk_types.specs.declared.model.Pick.{Pick}
use Rattle.lk_types.specs.declared.model.Pick.TheVariants as pick
use Rattle.lk_types.specs.declared.bound.Bound.{Bound}

-- ---- numbers in range

-- each of the numbers is below a bound
abbrev pub are_below : ℕ → List ℕ → Bool
are_below bound numbers = list_all (λ n. nat_lt n bound) numbers

-- a number, if there is one, is below a bound
abbrev pub is_none_or_below : ℕ → Option ℕ → Bool
is_none_or_below bound None = true
is_none_or_below bound (Some n) = nat_lt n bound

-- the numbers of fields
abbrev pub are_fields : Explore → List ℕ → Bool
are_fields x fields = are_below (length x.fields) fields

-- the numbers of measures
abbrev pub are_measures : Explore → List ℕ → Bool
are_measures x measures = are_below (length x.measures) measures

-- a view reads a table of the schema or a derived table
abbrev pub is_origin : Model → Origin → Bool
is_origin m (origin.Stored t) = nat_lt t (length m.schema.tables)
is_origin m (origin.Derived d) = nat_lt d (length m.derived)

-- what is asked for is a dimension or a measure of the explore
abbrev pub is_pick : Explore → Pick → Bool
is_pick x (pick.Dim f) = nat_lt f (length x.fields)
is_pick x (pick.Mea n) = nat_lt n (length x.measures)

-- the measures that a `number` names, none of any other type
abbrev pub named_measures : Measure → List ℕ
named_measures m = named m.number
  where
    named : Option Calculation → List ℕ
    named None = []
    named (Some e) = measures_in e

-- a measure's view, the fields of its filters, and the measures that it names are there
abbrev pub is_numbered_measure : Explore → Measure → Bool
is_numbered_measure x m = nat_lt m.part (length x.parts) && are_fields x (filtered m.filters) && are_measures x (named_measures m)

-- an aggregate table's dimensions, measures, filtered fields and datagroup are there
abbrev pub is_numbered_rollup : Model → Explore → Rollup → Bool
is_numbered_rollup m x r =
    are_fields x r.dims && are_measures x r.measures && are_fields x (filtered r.filters) && nat_lt r.datagroup (length m.datagroups)

-- each number in an explore is that of something
abbrev pub is_numbered_explore : Model → Explore → Bool
is_numbered_explore m x =
    list_all (λ part. is_origin m part.origin) x.parts
    && list_all (λ join. are_below (length x.joins) join.required) x.joins
    && list_all (λ f. nat_lt f.part (length x.parts)) x.fields
    && list_all (is_numbered_measure x) x.measures
    && are_below (length x.joins) x.always_join
    && are_fields x (filtered x.always)
    && are_fields x (map (λ a. a.0) x.access)
    && list_all (is_numbered_rollup m x) x.rollups

-- each number in a derived table is that of something
abbrev pub is_numbered_derived : Model → Derived → Bool
is_numbered_derived m d =
    nat_lt d.explore (length m.explores)
    && list_all (λ c. is_pick (explore_at m d.explore) c.1) d.columns
    && are_fields (explore_at m d.explore) (filtered d.filters)
    && is_none_or_below (length m.datagroups) d.datagroup

-- a trigger watches a table of the schema, and a column of it
abbrev pub is_numbered_trigger : Model → Trigger → Bool
is_numbered_trigger m (trigger.Max t column) = nat_lt t (length m.schema.tables) && nat_lt column (length (table_at m t).columns)
is_numbered_trigger m (trigger.Count t) = nat_lt t (length m.schema.tables)
is_numbered_trigger m trigger.Today = true

-- a datagroup's interval, if it has one, is of 1 second to 1,000,000 hours (Looker, LookML reference: interval_trigger; lookd)
abbrev pub is_interval : Option ℤ → Bool
is_interval None = true
is_interval (Some seconds) = int_le (pos 1) seconds && int_le seconds (pos 3600000000)

-- the trigger and the interval of a datagroup, if it has them, are in range
abbrev pub is_numbered_datagroup : Model → Datagroup → Bool
is_numbered_datagroup m g = of_trigger g.trigger && is_interval g.interval
  where
    of_trigger : Option Trigger → Bool
    of_trigger None = true
    of_trigger (Some t) = is_numbered_trigger m t

-- every number in a model is that of something
abbrev pub is_numbered : Model → Bool
is_numbered m =
    list_all (λ t. is_none_or_below (length t.columns) t.key) m.schema.tables
    && list_all (is_numbered_explore m) m.explores
    && list_all (is_numbered_derived m) m.derived
    && list_all (is_numbered_datagroup m) m.datagroups

-- an explore has one view more than joins: join i brings view i + 1
abbrev pub has_part_for_each_join : Explore → Bool
has_part_for_each_join x = nat_eq (length x.parts) (length x.joins + 1)

-- ---- shapes and kinds

-- some bounds, strictly ascending, each a number of a column as a whole number
abbrev pub are_tiers : List ℤ → Bool
are_tiers [] = false
are_tiers (b ∷ []) = int_le (neg_ℤ (pos 922337203685477)) b && int_le b (pos 922337203685477)
are_tiers (b ∷ c ∷ bs) = int_le (neg_ℤ (pos 922337203685477)) b && int_lt b c && are_tiers (c ∷ bs)

-- a shape whose tiers ascend
abbrev pub has_tiers : Shape → Bool
has_tiers shape.Plain = true
has_tiers (shape.Tier bounds) = are_tiers bounds
has_tiers (shape.Frame group frame) = true

-- an expression whose kinds have the kind, without a clash, and whose literals are of the years 1 to 9999
abbrev pub is_typed : Leaves → Kind → Formula → Bool
is_typed leaves k e = has_kind k (kinds_of leaves e) && are_literals_dated e

-- the kind of an expression: its one kind, and a kind that stands for it where none or several are left
abbrev pub settled_kind : Leaves → Kind → Formula → Kind
settled_kind leaves k e = unwrap_or (single (kinds_of leaves e)) k

-- an expression of the kind that is settled so, without a clash, and whose literals are of the years 1 to 9999
abbrev pub is_settled : Leaves → Kind → Kind → Formula → Bool
is_settled leaves default k e = not (is_empty (kinds_of leaves e)) && is_same_kind k (settled_kind leaves default e) && are_literals_dated e

-- an expression, if there is one, is so
abbrev pub is_none_or_typed : Leaves → Kind → Option Formula → Bool
is_none_or_typed leaves k None = true
is_none_or_typed leaves k (Some e) = is_typed leaves k e

-- an expression is there and is so
abbrev pub is_some_typed : Leaves → Kind → Option Formula → Bool
is_some_typed leaves k None = false
is_some_typed leaves k (Some e) = is_typed leaves k e

-- an expression is there and is of the kind that is settled so
abbrev pub is_some_settled : Leaves → Kind → Kind → Option Formula → Bool
is_some_settled leaves default k None = false
is_some_settled leaves default k (Some e) = is_settled leaves default k e

-- an expression is there and has some kind
abbrev pub is_some_known : Leaves → Option Formula → Bool
is_some_known leaves e = list_any (λ k. is_some_typed leaves k e) (kind.Text ∷ kind.Number ∷ kind.Truth ∷ kind.Day ∷ kind.Moment ∷ [])

-- a kind that a dimension's type may have: a text, a number, a yes or no
abbrev pub is_type_kind : Kind → Bool
is_type_kind kind.Text = true
is_type_kind kind.Number = true
is_type_kind kind.Truth = true
is_type_kind kind.Day = false
is_type_kind kind.Moment = false

-- a day or a moment
abbrev pub is_time_kind : Kind → Bool
is_time_kind kind.Day = true
is_time_kind kind.Moment = true
is_time_kind k = false

-- the kind of what is grouped by a shape over the expression: a plain one that of its type; a tier is of a number; a timeframe of a day or moment, and of a moment where the expression leaves that open
abbrev pub has_shape_kind : Leaves → Shape → Kind → Formula → Bool
has_shape_kind leaves shape.Plain k e = is_type_kind k && is_typed leaves k e
has_shape_kind leaves (shape.Tier bounds) k e = is_same_kind k kind.Number && is_typed leaves kind.Number e
has_shape_kind leaves (shape.Frame group frame) k e =
    let base = settled_kind leaves kind.Moment e in
    is_time_kind base && is_settled leaves kind.Moment base e && is_same_kind k (framed_kind frame base)

-- a dimension has the kind that its shape makes of its expression
abbrev pub is_typed_field : Leaves → Field → Bool
is_typed_field leaves f = has_tiers f.shape && has_shape_kind leaves f.shape f.kind f.expr

-- there is no expression
abbrev pub is_no_formula : Option Formula → Bool
is_no_formula None = true
is_no_formula (Some e) = false

-- there is a calculation
abbrev pub has_calculation : Option Calculation → Bool
has_calculation None = false
has_calculation (Some e) = true

-- the measure calculates over other measures
abbrev pub is_number_type : Op → Bool
is_number_type op.Number = true
is_number_type other = false

-- a type of measure has the value and the key that it computes with, and no other: a count and a `number` have no value, and only the two distinct types a key. The kind of a `min` or `max` is a text where its value leaves the kind open
abbrev pub has_operands : Leaves → Op → Kind → Option Formula → Option Formula → Bool
has_operands leaves op.Count k value key = is_no_formula value && is_no_formula key
has_operands leaves op.Number k value key = is_no_formula value && is_no_formula key
has_operands leaves op.CountDistinct k value key = is_some_known leaves value && is_no_formula key
has_operands leaves op.Min k value key = is_some_settled leaves kind.Text k value && is_no_formula key
has_operands leaves op.Max k value key = is_some_settled leaves kind.Text k value && is_no_formula key
has_operands leaves op.Sum k value key = is_some_typed leaves kind.Number value && is_no_formula key
has_operands leaves op.Average k value key = is_some_typed leaves kind.Number value && is_no_formula key
has_operands leaves op.SumDistinct k value key = is_some_typed leaves kind.Number value && is_some_known leaves key
has_operands leaves op.AverageDistinct k value key = is_some_typed leaves kind.Number value && is_some_known leaves key

-- the kind of a measure's own value: what a `min` or `max` runs over, and else a number
abbrev pub has_own_kind : Op → Kind → Bool
has_own_kind op.Min k = true
has_own_kind op.Max k = true
has_own_kind other k = is_same_kind k kind.Number

-- a calculation stands at each `number`, and at no other measure
abbrev pub is_calculated_rightly : Op → Option Calculation → Bool
is_calculated_rightly o e = if is_number_type o then has_calculation e else not (has_calculation e)

-- a measure has what its type computes with, and nothing else
abbrev pub is_typed_measure : Leaves → Measure → Bool
is_typed_measure leaves m = has_operands leaves m.op m.kind m.value m.key && has_own_kind m.op m.kind && is_calculated_rightly m.op m.number

-- a cross join has no condition, and every other join one that is yes or no
abbrev pub is_typed_join : Leaves → Join → Bool
is_typed_join leaves join = of_kind (is_cross join.kind) join.on
  where
    of_kind : Bool → Option Formula → Bool
    of_kind true None = true
    of_kind true (Some e) = false
    of_kind false on = is_some_typed leaves kind.Truth on

-- a view's key has some kind
abbrev pub has_typed_key : Leaves → Part → Bool
has_typed_key leaves part = of_key part.key
  where
    of_key : Option Formula → Bool
    of_key None = true
    of_key (Some e) = is_some_known leaves (Some e)

-- a `number` calculates with numbers alone
abbrev pub names_numbers : Explore → Measure → Bool
names_numbers x m = list_all (λ n. is_same_kind (measure_at x n).kind kind.Number) (named_measures m)

-- all expressions of an explore have the kinds of their places
abbrev pub is_typed_explore : Model → Explore → Bool
is_typed_explore m x =
    list_all (has_typed_key (leaves_of m x)) x.parts
    && list_all (is_typed_join (leaves_of m x)) x.joins
    && list_all (is_typed_field (leaves_of m x)) x.fields
    && list_all (is_typed_measure (leaves_of m x)) x.measures
    && list_all (names_numbers x) x.measures
    && is_none_or_typed (leaves_of m x) kind.Truth x.always_where

-- each part of an expression, if there is one, is there
abbrev pub is_none_or_whole : Option Formula → Bool
is_none_or_whole None = true
is_none_or_whole (Some e) = is_whole_form e

-- and of a calculation
abbrev pub is_none_or_whole_calculation : Option Calculation → Bool
is_none_or_whole_calculation None = true
is_none_or_whole_calculation (Some e) = is_whole_calculation e

-- all expressions of an explore have all parts that the grammar wants
abbrev pub has_whole_forms : Explore → Bool
has_whole_forms x =
    list_all (λ part. is_none_or_whole part.key) x.parts
    && list_all (λ join. is_none_or_whole join.on) x.joins
    && list_all (λ f. is_whole_form f.expr) x.fields
    && list_all (λ m. is_none_or_whole m.value && is_none_or_whole m.key && is_none_or_whole_calculation m.number) x.measures
    && is_none_or_whole x.always_where

-- two fields that are timeframes of one group are of one view and one expression
abbrev pub AreOfOneGroup : Field → Field → Type 0
AreOfOneGroup f g = of_shapes f.shape g.shape
  where
    of_shapes : Shape → Shape → Type 0
    of_shapes (shape.Frame a frame) (shape.Frame b other) = a ≡ b → (f.part ≡ g.part) × (f.expr ≡ g.expr)
    of_shapes s t = Unit {0}

-- each group of timeframes is of one view
abbrev pub HasGroupsOfOnePart : Explore → Type 0
HasGroupsOfOnePart x = AllByRecursion (λ f. AllByRecursion (AreOfOneGroup f) x.fields) x.fields

-- ---- keys

-- the key column of a stored table, where a view's primary key is that column
abbrev pub key_column : ℕ → Option ℕ → Option Formula → Option ℕ
key_column p (Some column) (Some (Column q c)) = if nat_eq p q && nat_eq column c then Some column else None
key_column p key e = None

-- the enforced key of a view: what the schema and its primary key say
abbrev pub enforced_key : Model → ℕ → Part → Option ℕ
enforced_key m p part = of_origin part.origin
  where
    of_origin : Origin → Option ℕ
    of_origin (origin.Stored t) = key_column p (table_at m t).key part.key
    of_origin (origin.Derived d) = None

-- the same number, or none in both
abbrev pub is_same_option : Option ℕ → Option ℕ → Bool
is_same_option None None = true
is_same_option (Some a) (Some b) = nat_eq a b
is_same_option a b = false

-- the enforced key of each view is exactly that
abbrev pub has_exact_keys : Model → Explore → Bool
has_exact_keys m x = list_all (λ part. is_same_option part.1.enforced (enforced_key m part.0 part.1)) (enumerate_from 0 x.parts)

-- ---- measures over measures

-- a measure whose calculation names only known ones
abbrev pub is_grounded_in : Explore → List ℕ → ℕ → Bool
is_grounded_in x known m = list_all (λ n. has_number n known) (named_measures (measure_at x m))

-- no `number` stands on itself: all measures are in the least set that has each measure which names only measures of it
abbrev pub has_grounded_measures : Explore → Bool
has_grounded_measures x =
    list_all (λ m. has_number m (least_set nat_eq (numbers_below (length x.measures)) (is_grounded_in x))) (numbers_below (length x.measures))

-- ---- what is stored

-- each filter is one of its field's kind
abbrev pub are_filters_of : Explore → List (ℕ × Filter) → Bool
are_filters_of x filters = list_all (λ f. is_filter_of (field_at x f.0).kind f.1) filters

-- the filters of an explore, of its measures and of its aggregate tables are so
abbrev pub has_typed_filters : Explore → Bool
has_typed_filters x =
    are_filters_of x x.always && list_all (λ n. are_filters_of x n.filters) x.measures && list_all (λ r. are_filters_of x r.filters) x.rollups

-- the filters of a derived table are so
abbrev pub has_typed_sources : Model → Derived → Bool
has_typed_sources m d = are_filters_of (explore_at m d.explore) d.filters

-- the filters have no relative date
abbrev pub are_fixed : List (ℕ × Filter) → Bool
are_fixed filters = list_all (λ f. is_placed f.1) filters

-- the filters of some measures have none
abbrev pub have_fixed_filters : Explore → List ℕ → Bool
have_fixed_filters x measures = list_all (λ m. are_fixed (measure_at x m).filters) measures

-- an aggregate table depends on no moment
abbrev pub is_fixed_rollup : Explore → Rollup → Bool
is_fixed_rollup x r = are_fixed r.filters && have_fixed_filters x (components_of x r.measures)

-- a derived table depends on no moment: its own filters, its explore's default filters, and those of its measures
abbrev pub is_fixed_derived : Model → Derived → Bool
is_fixed_derived m d =
    let x = explore_at m d.explore in
    are_fixed d.filters && are_fixed x.always && have_fixed_filters x (query_components x (derived_query x d))

-- the measures of a derived table may stand in a stored query
abbrev pub may_be_derived : Model → Derived → Bool
may_be_derived m d =
    let x = explore_at m d.explore in
    let query = derived_query x d in
    list_all (λ n. may_be_stored x query.joins (measure_at x n)) (query_components x query)

-- all the numbers are one
abbrev pub are_one : List ℕ → Bool
are_one [] = true
are_one (g ∷ gs) = list_all (nat_eq g) gs

-- ---- the whole

-- an explore of a resolved model
pub record IsResolvedExplore (m : Model) (x : Explore) : Type 0 where
  pub few_joins : nat_le (length x.joins) 31 ≡ true
  pub parts : has_part_for_each_join x ≡ true
  pub whole : has_whole_forms x ≡ true
  pub typed : is_typed_explore m x ≡ true
  pub filters : has_typed_filters x ≡ true
  pub groups : HasGroupsOfOnePart x
  pub keys : has_exact_keys m x ≡ true
  pub grounded : has_grounded_measures x ≡ true
  pub stored : list_all (may_be_rolled_up x) x.rollups ≡ true
  pub fixed : list_all (is_fixed_rollup x) x.rollups ≡ true
  pub one_datagroup : are_one (explore_datagroups m x) ≡ true

-- a derived table of a resolved model
pub record IsResolvedDerived (m : Model) (d : Derived) : Type 0 where
  pub filters : has_typed_sources m d ≡ true
  pub stored : may_be_derived m d ≡ true
  pub fixed : is_fixed_derived m d ≡ true

-- a resolved model
pub record IsResolved (m : Model) : Type 0 where
  pub numbered : is_numbered m ≡ true
  pub explores : AllByRecursion (IsResolvedExplore m) m.explores
  pub derived : AllByRecursion (IsResolvedDerived m) m.derived
  pub acyclic : list_all (λ d. not (reads_itself m d)) (numbers_below (length m.derived)) ≡ true

-- ---- queries of a model

-- each filter on a measure is one of the measure's kind
abbrev pub are_measure_filters : Explore → List (ℕ × Filter) → Bool
are_measure_filters x filters = list_all (λ f. is_filter_of (measure_at x f.0).kind f.1) filters

-- a bound query of a model: its numbers are the model's, its joins are those that it needs, and its filters are of their fields' kinds, with no relative date left
pub record IsInModel (m : Model) (b : Bound) : Type 0 where
  pub explore : nat_lt b.explore (length m.explores) ≡ true
  pub picks : list_all (is_pick (explore_at m b.explore)) b.picks ≡ true
  pub joins : b.joins ≡ query_joins (explore_at m b.explore) b.picks b.rows b.access b.having
  pub fields : are_fields (explore_at m b.explore) (filtered (b.access ++ b.rows)) ≡ true
  pub measures : are_measures (explore_at m b.explore) (filtered b.having) ≡ true
  pub kinds : (are_filters_of (explore_at m b.explore) (b.access ++ b.rows) && are_measure_filters (explore_at m b.explore) b.having) ≡ true
  pub placed : are_fixed (b.access ++ b.rows ++ b.having) ≡ true
  pub sorts : list_all (λ s. nat_lt s.place (length b.picks)) b.sorts ≡ true
  pub limit : (nat_le 1 b.limit && nat_le b.limit 5000) ≡ true
