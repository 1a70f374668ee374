-- Each number in an explore is that of something.
use Rattle.std.proofs.Common.{◌≡◌, ◌∙◌, ◌<◌, ℕ, zero, suc, ◌+◌, Bool, true, false, ◌&&◌, List, [], ◌∷◌, map, length, refl, sym, subst, Option, Some, None, arith}
use Rattle.std.specs.Prelude.{flat_map, nat_lt, slice_get}
use Rattle.std.specs.List.{AllByRecursion, list_all, position}
use Rattle.std.proofs.lemmas.List.{length-map, length-append}
use Rattle.lk_val.specs.Least.{is_in}
use Rattle.lk_val.specs.Texts.{is_same_text}
use Rattle.lk_types.specs.Calculation as calculation
use Rattle.lk_types.specs.Calculation.{Calculation, Calculations}
use Rattle.lk_types.specs.declared.explore.Explore.{Explore}
use Rattle.lk_types.specs.declared.explore.Field.{Field}
use Rattle.lk_types.specs.declared.explore.Join.{Join}
use Rattle.lk_types.specs.declared.explore.Measure.{Measure}
use Rattle.lk_types.specs.declared.explore.Op.{Op}
use Rattle.lk_types.specs.declared.explore.Op.TheVariants as op
use Rattle.lk_types.specs.declared.explore.Part.{Part}
use Rattle.lk_types.specs.declared.filter.Filter.{Filter}
use Rattle.lk_types.specs.declared.model.Model.{Model}
use Rattle.lk_types.specs.declared.schema.Schema.{Schema}
use Rattle.lk_objects.specs.declared.code.Code.{Code}
use Rattle.lk_objects.specs.declared.code.Code.TheVariants as code
use Rattle.lk_objects.specs.declared.code.Reference.{Reference}
use Rattle.lk_objects.specs.declared.explore.AggregateTable.{AggregateTable}
use Rattle.lk_objects.specs.declared.explore.DeclaredExplore.{DeclaredExplore}
use Rattle.lk_objects.specs.declared.explore.DeclaredJoin.{DeclaredJoin}
use Rattle.lk_objects.specs.declared.explore.ExploreFilter.{ExploreFilter}
use Rattle.lk_objects.specs.declared.explore.ExploreFilter.TheVariants as explore_filter
use Rattle.lk_objects.specs.declared.field.DeclaredField.{DeclaredField}
use Rattle.lk_objects.specs.declared.filter_text.FilterText.{FilterText}
use Rattle.lk_objects.specs.declared.filter_text.ReadFilter.{ReadFilter}
use Rattle.lk_objects.specs.declared.filter_text.ReadFilter.TheVariants.{Read, Syntax}
use Rattle.lk_objects.specs.declared.view.DeclaredView.{DeclaredView}
use Rattle.lk_fields.specs.declared.scope.Found.{Found}
use Rattle.lk_fields.specs.declared.scope.Place.{Place}
use Rattle.lk_fields.specs.declared.scope.Scope.{Scope}
use Rattle.lk_fields.specs.declared.scope.Sort.TheVariants as sort
use Rattle.lk_fields.specs.declared.scope.Writer.TheVariants as writer
use Rattle.lk_fields.specs.Existing.{exists, field_at, is_same_place}
use Rattle.lk_fields.specs.Scopes.{found_by, has_sort}
use Rattle.lk_formulas.specs.declared.columns.ColumnKinds.{ColumnKinds}
use Rattle.lk_formulas.specs.Formulas.{field_named}
use Rattle.lk_scope.specs.ExploreNames.{dimension_named, measure_named}
use Rattle.lk_scope.specs.Readings.{reading_of}
use Rattle.lk_scope.specs.Scopes.{full_name, part_name}
use Rattle.lk_semantics.specs.Answers.{filtered, measures_in, measures_in_all}
use Rattle.lk_semantics.specs.Resolved.{are_below, are_fields, is_numbered_explore, is_numbered_measure, is_numbered_rollup, is_origin, named_measures}
use Rattle.lk_semantics.proofs.EveryLaws.{Every, both}
use Rattle.lk_model_laws.proofs.NamedTypes.{NamedMeasure}
use Rattle.lk_resolved.specs.Explores as explores
use Rattle.lk_resolved.specs.Explores.{access_in, access_with, always_in, explore_of, join_with, joins_from, joins_named, joins_of_name, measure_numbers, parts_from, rollup_with}
use Rattle.lk_resolved.specs.Fields.{all_measures, field_with, fields, filters_if, measure_at, measure_if, measure_with, number_named, number_with, renumbered, renumbered_all}
use Rattle.lk_resolved.specs.Filters.{dimension_numbers, filter_if, filter_named, filter_of_part, filter_on, filters_named, filters_of_part, listed, number_if, number_of_found, numbers_of_dimensions}
use Rattle.lk_resolved.specs.Names.{dimensions, existing, measure_number, measures, measures_at, measures_if, measures_with, or_zero}
use Rattle.lk_model_laws.proofs.CountLaws.{length-joins, length-parts}
use Rattle.lk_model_laws.proofs.DimensionLaws.{IsMade, all_there, dimensions_made}
use Rattle.lk_model_laws.proofs.ExistingLaws.{IsKnownName, filters_known}
use Rattle.lk_model_laws.proofs.ListLaws.{all_append, all_every, all_flat, all_map, all_true, all_with, position_within}
use Rattle.lk_model_laws.proofs.NameLaws.{dimension_below, meant_by, named_below, named_measure_below}
use Rattle.lk_model_laws.proofs.PlaceLaws.{part_below, there_exists}

-- ---- numbers below a bound

abbrev pub AreBelow : ℕ → List ℕ → Type 0
AreBelow bound numbers = AllByRecursion (λ n. n < bound) numbers

pub test_below : (n bound : ℕ) → n < bound → nat_lt n bound ≡ true
test_below n bound h = grind arith

pub tested : (bound : ℕ) (numbers : List ℕ) → AreBelow bound numbers → are_below bound numbers ≡ true
tested bound numbers h = all_every (λ n. n < bound) (λ n. nat_lt n bound) (λ n is. test_below n bound is) numbers h

abbrev pub HaveBelow : ℕ → List (ℕ × Filter) → Type 0
HaveBelow bound filters = AllByRecursion (λ f. f.0 < bound) filters

pub tested_filters : (bound : ℕ) (filters : List (ℕ × Filter)) → HaveBelow bound filters → are_below bound (filtered filters) ≡ true
tested_filters bound filters h = tested bound (filtered filters) (all_map (λ n. n < bound) (λ f. f.0 < bound) (λ f. f.0) (λ f is. is) filters h)

listed_below : (bound : ℕ) (o : Option ℕ) → ((n : ℕ) → o ≡ Some n → n < bound) → AreBelow bound (listed o)
listed_below bound None h = tt
listed_below bound (Some n) h = (h n refl, tt)

joins_below : (joins : List DeclaredJoin) (names : List (List ℕ)) → AreBelow (length joins) (joins_named joins names)
joins_below joins names =
    all_flat (λ n. n < length joins) (λ name. Unit {0}) (joins_of_name joins)
    (λ name is. listed_below (length joins) (position (λ join. is_same_text join.name name) joins) (λ n at. position_within (λ (join : DeclaredJoin). is_same_text join.name name) joins n at))
    names (all_true (λ name. Unit {0}) (λ name. tt) names)

-- ---- calculations

mutual
  renumbered_below : (bound : ℕ) (s : ℕ → ℕ) → ((i : ℕ) → s i < bound) → (e : Calculation) → AreBelow bound (measures_in (renumbered s e))
  renumbered_below bound s h (calculation.OfMeasure i) = (h i, tt)
  renumbered_below bound s h (calculation.Number n) = tt
  renumbered_below bound s h (calculation.Apply o a b) =
      all_append (λ n. n < bound) (measures_in (renumbered s a)) (measures_in (renumbered s b)) (renumbered_below bound s h a) (renumbered_below bound s h b)
  renumbered_below bound s h (calculation.Negate a) = renumbered_below bound s h a
  renumbered_below bound s h (calculation.Coalesce xs) = all_renumbered_below bound s h xs
  renumbered_below bound s h (calculation.NullIf a b) =
      all_append (λ n. n < bound) (measures_in (renumbered s a)) (measures_in (renumbered s b)) (renumbered_below bound s h a) (renumbered_below bound s h b)

  all_renumbered_below : (bound : ℕ) (s : ℕ → ℕ) → ((i : ℕ) → s i < bound) → (xs : Calculations) → AreBelow bound (measures_in_all (renumbered_all s xs))
  all_renumbered_below bound s h calculation.no_more = tt
  all_renumbered_below bound s h (calculation.more a xs) =
      all_append (λ n. n < bound) (measures_in (renumbered s a)) (measures_in_all (renumbered_all s xs)) (renumbered_below bound s h a) (all_renumbered_below bound s h xs)

or_zero_below : (bound : ℕ) (o : Option ℕ) → zero < bound → ((n : ℕ) → o ≡ Some n → n < bound) → or_zero o < bound
or_zero_below bound None some h = some
or_zero_below bound (Some n) some h = h n refl

some_of_each : {A : Type 0} (xs : List A) → AllByRecursion (λ x. zero < length xs) xs
some_of_each [] = tt
some_of_each (x ∷ xs) = all_true (λ y. zero < suc (length xs)) (λ y. omega arith) (x ∷ xs)

-- ---- an explore

module _ (views : List DeclaredView) (scope : Scope) where
  abbrev bound : ℕ
  bound = length (dimensions views scope)

  abbrev most : ℕ
  most = length (measures views scope)

  filter_if_below : (number : ℕ) (o : Option ReadFilter) → number < bound → HaveBelow bound (filter_if number o)
  filter_if_below number (Some (Read f)) h = (h, tt)
  filter_if_below number (Some (Syntax place)) h = tt
  filter_if_below number None h = tt

  filter_on_below : (f : FilterText) (o : Option Found) → ((found : Found) → o ≡ Some found → number_of_found views scope (dimensions views scope) found f.name < bound)
      → HaveBelow bound (filter_on views scope (dimensions views scope) f o)
  filter_on_below f None h = tt
  filter_on_below f (Some found) h = filter_if_below (number_of_found views scope (dimensions views scope) found f.name) (reading_of views scope f found) (h found refl)

  pub filters_below : (filters : List FilterText) → HaveBelow bound (filters_named views scope (dimensions views scope) filters)
  filters_below filters =
      all_flat (λ f. f.0 < bound) (λ f. Unit {0}) (filter_named views scope (dimensions views scope))
      (λ f is. filter_on_below f (dimension_named views scope f.name) (λ found h. named_below views scope f.name found h))
      filters (all_true (λ f. Unit {0}) (λ f. tt) filters)

  part_filters_below : (part : ℕ) (filters : List FilterText) → AllByRecursion (λ f. IsKnownName views scope (found_by views scope (writer.Field part) f.name sort.Dimension)) filters
      → HaveBelow bound (filters_of_part views scope (dimensions views scope) part filters)
  part_filters_below part filters h =
      all_flat (λ f. f.0 < bound) (λ f. IsKnownName views scope (found_by views scope (writer.Field part) f.name sort.Dimension)) (filter_of_part views scope (dimensions views scope) part)
      (λ f known. filter_on_below f (found_by views scope (writer.Field part) f.name sort.Dimension) (λ found is.
      let same : known.0 ≡ found = same_found known.0 found (sym known.1 ∙ is) in
      dimension_below views scope f.name found (meant_by views scope (writer.Field part) f.name sort.Dimension found is) (subst (λ g. exists views scope g.place ≡ true) same known.2)))
      filters h
    where
      same_found : (a b : Found) → Some a ≡ Some b → a ≡ b
      same_found a b e = cc

  number_if_below : (name : List ℕ) (o : Option Found) → ((found : Found) → o ≡ Some found → number_of_found views scope (dimensions views scope) found name < bound)
      → AreBelow bound (number_if views scope (dimensions views scope) name o)
  number_if_below name None h = tt
  number_if_below name (Some found) h = (h found refl, tt)

  pub numbers_below_bound : (name : List ℕ) → AreBelow bound (dimension_numbers views scope (dimensions views scope) name)
  numbers_below_bound name = number_if_below name (dimension_named views scope name) (λ found h. named_below views scope name found h)

  pub dimensions_below : (names : List (List ℕ)) → AreBelow bound (numbers_of_dimensions views scope (dimensions views scope) names)
  dimensions_below names =
      all_flat (λ n. n < bound) (λ name. Unit {0}) (dimension_numbers views scope (dimensions views scope)) (λ name is. numbers_below_bound name) names (all_true (λ name. Unit {0}) (λ name. tt) names)

  measure_if_below : (o : Option Found) → ((found : Found) → o ≡ Some found → measure_number (measures views scope) found.place < most) → AreBelow most (explores.measure_if views scope o)
  measure_if_below None h = tt
  measure_if_below (Some found) h = (h found refl, tt)

  pub measure_numbers_below : (name : List ℕ) → AreBelow most (measure_numbers views scope name)
  measure_numbers_below name = measure_if_below (measure_named views scope name) (λ found h. named_measure_below views scope name found h)

  pub measures_below : (names : List (List ℕ)) → AreBelow most (flat_map (measure_numbers views scope) names)
  measures_below names = all_flat (λ n. n < most) (λ name. Unit {0}) (measure_numbers views scope) (λ name is. measure_numbers_below name) names (all_true (λ name. Unit {0}) (λ name. tt) names)

  -- ---- filters of the explore

  always_below : (f : ExploreFilter) → HaveBelow bound (always_in views scope f)
  always_below (explore_filter.Always always) = filters_below always.filters
  always_below (explore_filter.Access access) = tt
  always_below (explore_filter.Where c first) = tt

  all_always_below : (filters : List ExploreFilter) → HaveBelow bound (flat_map (always_in views scope) filters)
  all_always_below filters = all_flat (λ f. f.0 < bound) (λ f. Unit {0}) (always_in views scope) (λ f is. always_below f) filters (all_true (λ f. Unit {0}) (λ f. tt) filters)

  abbrev HaveAccess : List (ℕ × List ℕ) → Type 0
  HaveAccess access = AllByRecursion (λ a. a.0 < bound) access

  access_with_below : (name attribute : Option (List ℕ)) → HaveAccess (access_with views scope name attribute)
  access_with_below (Some name) (Some attribute) =
      all_map (λ (a : ℕ × List ℕ). a.0 < bound) (λ n. n < bound) (λ n. (n, attribute)) (λ n is. is) (dimension_numbers views scope (dimensions views scope) name) (numbers_below_bound name)
  access_with_below (Some name) None = tt
  access_with_below None attribute = tt

  access_below : (f : ExploreFilter) → HaveAccess (access_in views scope f)
  access_below (explore_filter.Access access) = access_with_below access.field access.attribute
  access_below (explore_filter.Always always) = tt
  access_below (explore_filter.Where c first) = tt

  all_access_below : (filters : List ExploreFilter) → HaveAccess (flat_map (access_in views scope) filters)
  all_access_below filters = all_flat (λ (a : ℕ × List ℕ). a.0 < bound) (λ f. Unit {0}) (access_in views scope) (λ f is. access_below f) filters (all_true (λ f. Unit {0}) (λ f. tt) filters)

  -- ---- measures

  -- a measure is made by a field of the explore
  pub record IsOfField (m : NamedMeasure) : Type 0 where
    pub there : exists views scope m.place ≡ true
    pub field : DeclaredField
    pub at : field_at views scope m.place ≡ Some field
    pub sort_is : has_sort sort.Measure field.sort ≡ true

  pub measures_of_fields : AllByRecursion IsOfField (measures views scope)
  measures_of_fields =
      all_flat IsOfField (λ place. is_in_existing place) (measures_at views scope) (λ place inside. of_field place inside (field_at views scope place) refl) (existing views scope) (all_there (existing views scope))
    where
      is_in_existing : Place → Type 0
      is_in_existing place = is_in is_same_place place (existing views scope) ≡ true

      of_sort : (place : Place) → exists views scope place ≡ true → (field : DeclaredField) → field_at views scope place ≡ Some field → (b : Bool) → has_sort sort.Measure field.sort ≡ b → (name : List ℕ)
          → AllByRecursion IsOfField (measures_if b (record { name = name; place = place }))
      of_sort place there field at true is name = (record { there = there; field = field; at = at; sort_is = is }, tt)
      of_sort place there field at false is name = tt

      of_field : (place : Place) → is_in_existing place → (o : Option DeclaredField) → field_at views scope place ≡ o → AllByRecursion IsOfField (measures_with scope place o)
      of_field place inside None at = tt
      of_field place inside (Some field) at =
          of_sort place (there_exists views scope place inside) field at (has_sort sort.Measure field.sort) refl (full_name (part_name scope place.part) field.name)

  named_number_below : zero < most → (part : ℕ) (o : Option Reference) → number_named views scope part o < most
  named_number_below some part None = some
  named_number_below some part (Some r) = of_found (field_named views scope (writer.Field part) sort.Measure r) refl
    where
      of_found : (o : Option Found) → field_named views scope (writer.Field part) sort.Measure r ≡ o → number_named views scope part (Some r) < most
      of_found None is = rw is some
      of_found (Some found) is =
          rw is (or_zero_below most (position (λ m. is_same_place m.place found.place) (measures views scope)) some
          (λ n at. position_within (λ (m : NamedMeasure). is_same_place m.place found.place) (measures views scope) n at))

  -- the measures that a `number` names
  calculation_below : zero < most → (part : ℕ) (c : Code) (m : Measure) → AreBelow most (named_measures (record m { number = number_with views scope part c }))
  calculation_below some part (code.Number written) m =
      renumbered_below most (λ i. number_named views scope part (slice_get written.references i)) (λ i. named_number_below some part (slice_get written.references i)) written.expr
  calculation_below some part (code.Expr written) m = tt
  calculation_below some part code.Absent m = tt
  calculation_below some part code.Liquid m = tt
  calculation_below some part (code.Syntax place) m = tt

module _ (schema : Schema) (views : List DeclaredView) (scope : Scope) (columns : ColumnKinds) where
  pub same_measures : (named : List NamedMeasure) → AllByRecursion (IsOfField views scope) named → length (flat_map (measure_at schema views scope columns) named) ≡ length named
  same_measures [] h = refl
  same_measures (m ∷ named) h =
      length-append (measure_at schema views scope columns m) (flat_map (measure_at schema views scope columns) named)
      ∙ (λ i. length (measure_if schema views scope columns m (h.0.at i)) + same_measures named h.1 i) ∙ one_more (length named)
    where
      one_more : (n : ℕ) → suc zero + n ≡ suc n
      one_more n = omega arith

  -- a measure of the explore
  measure_numbered : (datagroup : Option (List ℕ) → ℕ) (x : DeclaredExplore) → length (joins_from schema views scope columns x.joins 1 x.joins) ≡ length x.joins → zero < length (measures views scope)
      → (m : NamedMeasure) → (of : IsOfField views scope m) → (field : DeclaredField) → field_at views scope m.place ≡ Some field
      → is_numbered_measure (explore_of schema views scope columns datagroup x) (measure_with schema views scope columns m field) ≡ true
  measure_numbered datagroup x joins some m of field at =
      let made = measure_with schema views scope columns m field in
      let y = explore_of schema views scope columns datagroup x in
      let part_is : m.place.part < length y.parts = subst (λ n. m.place.part < n) (sym (length-parts schema views scope columns 0 scope.parts)) (part_below views scope m.place of.there) in
      let filters_are : HaveBelow (length (dimensions views scope)) (filters_of_part views scope (dimensions views scope) m.place.part field.filters) =
      part_filters_below views scope m.place.part field.filters (filters_known views scope m.place field at of.there) in
      let fields_are : length y.fields ≡ length (dimensions views scope) = length-map (dimensions views scope) (field_with schema views scope columns) in
      let measures_are : length y.measures ≡ length (measures views scope) = same_measures (measures views scope) (measures_of_fields views scope) in
      both (nat_lt made.part (length y.parts) && are_fields y (filtered made.filters)) (are_below (length y.measures) (named_measures made))
      (both (nat_lt made.part (length y.parts)) (are_fields y (filtered made.filters)) (test_below m.place.part (length y.parts) part_is)
      (subst (λ n. are_below n (filtered made.filters) ≡ true) (sym fields_are)
      (tested_filters (length (dimensions views scope)) made.filters (of_op made.op (filters_of_part views scope (dimensions views scope) m.place.part field.filters) filters_are))))
      (subst (λ n. are_below n (named_measures made) ≡ true) (sym measures_are)
      (tested (length (measures views scope)) (named_measures made) (calculation_below views scope some m.place.part field.sql made)))
    where
      of_op : (o : Op) (filters : List (ℕ × Filter)) → HaveBelow (length (dimensions views scope)) filters → HaveBelow (length (dimensions views scope)) (filters_if o filters)
      of_op op.Number filters h = tt
      of_op op.Count filters h = h
      of_op op.CountDistinct filters h = h
      of_op op.Sum filters h = h
      of_op op.Average filters h = h
      of_op op.Min filters h = h
      of_op op.Max filters h = h
      of_op op.SumDistinct filters h = h
      of_op op.AverageDistinct filters h = h

  measures_numbered : (datagroup : Option (List ℕ) → ℕ) (x : DeclaredExplore) → length (joins_from schema views scope columns x.joins 1 x.joins) ≡ length x.joins
      → Every (is_numbered_measure (explore_of schema views scope columns datagroup x)) (all_measures schema views scope columns)
  measures_numbered datagroup x joins =
      let y = explore_of schema views scope columns datagroup x in
      all_every (λ m. is_numbered_measure y m ≡ true) (is_numbered_measure y) (λ m is. is) (all_measures schema views scope columns)
      (all_flat (λ m. is_numbered_measure y m ≡ true) (λ m. IsOfField views scope m × (zero < length (measures views scope))) (measure_at schema views scope columns)
      (λ m h. of_field y m h.0 h.1 (field_at views scope m.place) refl) (measures views scope)
      (all_with (IsOfField views scope) (λ m. zero < length (measures views scope)) (measures views scope) (measures_of_fields views scope) (some_of_each (measures views scope))))
    where
      of_field : (y : Explore) (m : NamedMeasure) → IsOfField views scope m → zero < length (measures views scope) → (o : Option DeclaredField) → field_at views scope m.place ≡ o
          → AllByRecursion (λ made. is_numbered_measure (explore_of schema views scope columns datagroup x) made ≡ true) (measure_if schema views scope columns m o)
      of_field y m of some None at = tt
      of_field y m of some (Some field) at = (measure_numbered datagroup x joins some m of field at, tt)

  -- ---- joins

  joins_numbered : (joins : List DeclaredJoin) (count part : ℕ) (more : List DeclaredJoin) → count ≡ length joins
      → Every (λ join. are_below count join.required) (joins_from schema views scope columns joins part more)
  joins_numbered joins count part [] is = refl
  joins_numbered joins count part (join ∷ more) is =
      both (are_below count (joins_named joins join.required)) (list_all (λ j. are_below count j.required) (joins_from schema views scope columns joins (part + 1) more))
      (subst (λ n. are_below n (joins_named joins join.required) ≡ true) (sym is) (tested (length joins) (joins_named joins join.required) (joins_below joins join.required)))
      (joins_numbered joins count (part + 1) more is)

  -- ---- dimensions

  fields_numbered : (parts : ℕ) → parts ≡ length scope.parts → Every (λ f. nat_lt f.part parts) (fields schema views scope columns)
  fields_numbered parts is =
      all_every (λ (f : Field). nat_lt f.part parts ≡ true) (λ f. nat_lt f.part parts) (λ f h. h) (fields schema views scope columns)
      (all_map (λ (f : Field). nat_lt f.part parts ≡ true) (IsMade views scope) (field_with schema views scope columns)
      (λ d made. test_below d.found.place.part parts (subst (λ n. d.found.place.part < n) (sym is) (part_below views scope d.found.place (there_exists views scope d.found.place made.there))))
      (dimensions views scope) (dimensions_made views scope))

  -- ---- aggregate tables, given that their datagroups are there

  rollup_numbered : (m : Model) (datagroup : Option (List ℕ) → ℕ) (x : DeclaredExplore) (r : AggregateTable) → datagroup r.datagroup < length m.datagroups
      → is_numbered_rollup m (explore_of schema views scope columns datagroup x) (rollup_with views scope datagroup r) ≡ true
  rollup_numbered m datagroup x r h =
      let y = explore_of schema views scope columns datagroup x in
      let made = rollup_with views scope datagroup r in
      let fields_are : length y.fields ≡ length (dimensions views scope) = length-map (dimensions views scope) (field_with schema views scope columns) in
      let measures_are : length y.measures ≡ length (measures views scope) = same_measures (measures views scope) (measures_of_fields views scope) in
      both (are_fields y made.dims && are_below (length y.measures) made.measures && are_fields y (filtered made.filters)) (nat_lt made.datagroup (length m.datagroups))
      (both (are_fields y made.dims && are_below (length y.measures) made.measures) (are_fields y (filtered made.filters))
      (both (are_fields y made.dims) (are_below (length y.measures) made.measures)
      (subst (λ n. are_below n made.dims ≡ true) (sym fields_are) (tested (length (dimensions views scope)) made.dims (dimensions_below views scope r.dimensions)))
      (subst (λ n. are_below n made.measures ≡ true) (sym measures_are) (tested (length (measures views scope)) made.measures (measures_below views scope r.measures))))
      (subst (λ n. are_below n (filtered made.filters) ≡ true) (sym fields_are) (tested_filters (length (dimensions views scope)) made.filters (filters_below views scope r.filters))))
      (test_below (datagroup r.datagroup) (length m.datagroups) h)

  rollups_numbered : (m : Model) (datagroup : Option (List ℕ) → ℕ) (x : DeclaredExplore) → AllByRecursion (λ r. datagroup r.datagroup < length m.datagroups) x.rollups
      → Every (is_numbered_rollup m (explore_of schema views scope columns datagroup x)) (map (rollup_with views scope datagroup) x.rollups)
  rollups_numbered m datagroup x h =
      let y = explore_of schema views scope columns datagroup x in
      all_every (λ r. is_numbered_rollup m y r ≡ true) (is_numbered_rollup m y) (λ r is. is) (map (rollup_with views scope datagroup) x.rollups)
      (all_map (λ r. is_numbered_rollup m y r ≡ true) (λ (r : AggregateTable). datagroup r.datagroup < length m.datagroups) (rollup_with views scope datagroup)
      (λ r is. rollup_numbered m datagroup x r is) x.rollups h)

  -- ---- the whole

  pub explore_numbered : (m : Model) (datagroup : Option (List ℕ) → ℕ) (x : DeclaredExplore)
      → Every (λ part. is_origin m part.origin) (parts_from schema views scope columns 0 scope.parts)
      → AllByRecursion (λ r. datagroup r.datagroup < length m.datagroups) x.rollups
      → is_numbered_explore m (explore_of schema views scope columns datagroup x) ≡ true
  explore_numbered m datagroup x origins rollups =
      let y = explore_of schema views scope columns datagroup x in
      let joins_are : length y.joins ≡ length x.joins = length-joins schema views scope columns x.joins 1 x.joins in
      let parts_are : length y.parts ≡ length scope.parts = length-parts schema views scope columns 0 scope.parts in
      let fields_are : length y.fields ≡ length (dimensions views scope) = length-map (dimensions views scope) (field_with schema views scope columns) in
      let a = list_all (λ (part : Part). is_origin m part.origin) y.parts in
      let b = list_all (λ (join : Join). are_below (length y.joins) join.required) y.joins in
      let c = list_all (λ (f : Field). nat_lt f.part (length y.parts)) y.fields in
      let d = list_all (is_numbered_measure y) y.measures in
      let e = are_below (length y.joins) y.always_join in
      let f = are_fields y (filtered y.always) in
      let g = are_fields y (map (λ (access : ℕ × List ℕ). access.0) y.access) in
      let h = list_all (is_numbered_rollup m y) y.rollups in
      both (a && b && c && d && e && f && g) h
      (both (a && b && c && d && e && f) g
      (both (a && b && c && d && e) f
      (both (a && b && c && d) e
      (both (a && b && c) d
      (both (a && b) c (both a b origins (joins_numbered x.joins (length y.joins) 1 x.joins joins_are)) (fields_numbered (length y.parts) parts_are))
      (measures_numbered datagroup x joins_are))
      (subst (λ n. are_below n y.always_join ≡ true) (sym joins_are) (tested (length x.joins) y.always_join (joins_below x.joins x.always_join))))
      (subst (λ n. are_below n (filtered y.always) ≡ true) (sym fields_are) (tested_filters (length (dimensions views scope)) y.always (all_always_below views scope x.filters))))
      (subst (λ n. are_below n (map (λ (access : ℕ × List ℕ). access.0) y.access) ≡ true) (sym fields_are)
      (tested (length (dimensions views scope)) (map (λ (access : ℕ × List ℕ). access.0) y.access)
      (all_map (λ n. n < length (dimensions views scope)) (λ (access : ℕ × List ℕ). access.0 < length (dimensions views scope)) (λ access. access.0) (λ access is. is) y.access (all_access_below views scope x.filters)))))
      (rollups_numbered m datagroup x rollups)
