-- The filters of an explore are filters of the kinds of its dimensions, where its views have names of their own and its raw times are times.
use Rattle.std.proofs.Common.{◌≡◌, ◌∙◌, ℕ, Bool, true, false, ◌&&◌, ◌||◌, List, [], ◌∷◌, map, refl, ap, sym, subst, Option, Some, None}
use Rattle.std.specs.Prelude.{not, slice_get, slice_index_or}
use Rattle.std.specs.List.{AllByRecursion, list_all, list_any}
use Rattle.std.specs.Option.{option_and_then, option_map}
use Rattle.std.proofs.lemmas.Bool.{false≢true}
use Rattle.lk_types.specs.Filters.{is_filter_of}
use Rattle.lk_types.specs.declared.explore.Explore.{Explore}
use Rattle.lk_types.specs.declared.explore.Field.{Field}
use Rattle.lk_types.specs.declared.explore.Measure.{Measure}
use Rattle.lk_types.specs.declared.explore.Op.{Op}
use Rattle.lk_types.specs.declared.explore.Op.TheVariants as op
use Rattle.lk_types.specs.declared.explore.Rollup.{Rollup}
use Rattle.lk_types.specs.declared.filter.Filter.{Filter}
use Rattle.lk_types.specs.declared.schema.Frame.{Frame}
use Rattle.lk_types.specs.declared.schema.Frame.TheVariants as frame
use Rattle.lk_types.specs.declared.schema.Kind.{Kind}
use Rattle.lk_types.specs.declared.schema.Kind.TheVariants as kind
use Rattle.lk_types.specs.declared.schema.Schema.{Schema}
use Rattle.lk_objects.specs.declared.explore.AggregateTable.{AggregateTable}
use Rattle.lk_objects.specs.declared.explore.DeclaredExplore.{DeclaredExplore}
use Rattle.lk_objects.specs.declared.explore.ExploreFilter.{ExploreFilter}
use Rattle.lk_objects.specs.declared.explore.ExploreFilter.TheVariants as explore_filter
use Rattle.lk_objects.specs.declared.field.DeclaredField.{DeclaredField}
use Rattle.lk_objects.specs.declared.field.DimensionType.TheVariants as type
use Rattle.lk_objects.specs.declared.field.FieldSort.{FieldSort}
use Rattle.lk_objects.specs.declared.field.FieldSort.TheVariants as field_sort
use Rattle.lk_objects.specs.declared.filter_text.FilterText.{FilterText}
use Rattle.lk_objects.specs.declared.filter_text.ReadFilter.{ReadFilter}
use Rattle.lk_objects.specs.declared.filter_text.ReadFilter.TheVariants.{Read, Syntax}
use Rattle.lk_objects.specs.declared.view.DeclaredView.{DeclaredView}
use Rattle.lk_fields.specs.declared.scope.Found.{Found}
use Rattle.lk_fields.specs.declared.scope.Place.{Place}
use Rattle.lk_fields.specs.declared.scope.Scope.{Scope}
use Rattle.lk_fields.specs.declared.scope.ScopePart.{ScopePart}
use Rattle.lk_fields.specs.declared.scope.Sort.TheVariants as sort
use Rattle.lk_fields.specs.declared.scope.Writer.TheVariants as writer
use Rattle.lk_fields.specs.Existing.{exists, field_at, fields_at}
use Rattle.lk_fields.specs.Scopes.{found_by, is_dot, split_name}
use Rattle.lk_formulas.specs.declared.columns.ColumnKinds.{ColumnKinds}
use Rattle.lk_formulas.specs.declared.columns.UnknownColumn.TheVariants.{Kept}
use Rattle.lk_formulas.specs.FieldKinds.{dimension_kind, group_kind, or_text}
use Rattle.lk_scope.specs.ExploreNames.{dimension_named}
use Rattle.lk_scope.specs.Readings.{reading_of, reading_of_sort}
use Rattle.lk_semantics.specs.Resolved.{are_filters_of, has_typed_filters, is_time_kind}
use Rattle.lk_semantics.specs.Rows.{no_field}
use Rattle.lk_semantics.proofs.EveryLaws.{Every, both, first, second}
use Rattle.lk_field_faults.specs.MadeNames.{names_made}
use Rattle.lk_resolved.specs.Explores.{always_in, explore_of, rollup_with}
use Rattle.lk_resolved.specs.Fields.{all_measures, field_with, fields, filters_if, measure_at, measure_if, measure_with, shape_if, shape_with}
use Rattle.lk_resolved.specs.Filters.{filter_if, filter_named, filter_of_part, filter_on, filters_named, filters_of_part, number_of_found}
use Rattle.lk_resolved.specs.Names.{dimensions, group_number, groups, measures}
use Rattle.lk_model_laws.specs.Typed.{is_raw, is_time_if_raw}
use Rattle.lk_model_laws.proofs.ExistingLaws.{IsKnownName, filters_known}
use Rattle.lk_model_laws.proofs.FieldTypedLaws.{IsFramed, IsSorted, dimensions_sorted}
use Rattle.lk_model_laws.proofs.FilterLaws.{IsOfKinds, IsReadOf}
use Rattle.lk_model_laws.proofs.FoundLaws.{dimension_at}
use Rattle.lk_model_laws.proofs.ListLaws.{all_at, all_every, all_flat, all_map, all_with, got_map, got_or}
use Rattle.lk_model_laws.proofs.NameLaws.{IsMeant, meant_by, named_exists}
use Rattle.lk_model_laws.proofs.NamedTypes.{NamedDimension, NamedMeasure}
use Rattle.lk_model_laws.proofs.NumberLaws.{measures_of_fields}
use Rattle.lk_model_laws.proofs.NumberLaws as numbers
use Rattle.lk_model_laws.proofs.OwnNameLaws.{AreApart}
use Rattle.lk_model_laws.proofs.StoredQueryLaws.{HasKinds}

-- ---- the reading of a filter's text, and the kind of its dimension

time_read : (f : FilterText) → IsOfKinds f → (k : Kind) → is_time_kind k ≡ true → IsReadOf k f.as_date
time_read f is kind.Day h = is.as_day
time_read f is kind.Moment h = is.as_moment
time_read f is kind.Text h = absurd (false≢true h)
time_read f is kind.Number h = absurd (false≢true h)
time_read f is kind.Truth h = absurd (false≢true h)

-- a raw time is a day or a moment
abbrev IsTimeIfRaw : FieldSort → Option Frame → Option Kind → Type 0
IsTimeIfRaw field_sort.Group (Some frame.Raw) group = is_time_kind (or_text group) ≡ true
IsTimeIfRaw s fr group = Unit {0}

pub reading_kind : (f : FilterText) → IsOfKinds f → (s : FieldSort) (fr : Option Frame) (group : Option Kind) → IsFramed s fr → IsTimeIfRaw s fr group
    → IsReadOf (or_text (dimension_kind s fr group)) (reading_of_sort s fr f)
reading_kind f is (field_sort.Dimension None) None group framed raw = is.as_text
reading_kind f is (field_sort.Dimension (Some type.Text)) None group framed raw = is.as_text
reading_kind f is (field_sort.Dimension (Some type.Number)) None group framed raw = is.as_number
reading_kind f is (field_sort.Dimension (Some type.Tier)) None group framed raw = is.as_number
reading_kind f is (field_sort.Dimension (Some type.Truth)) None group framed raw = is.as_truth
reading_kind f is (field_sort.Dimension t) (Some fr) group framed raw = absurd framed
reading_kind f is field_sort.Group None group framed raw = absurd framed
reading_kind f is field_sort.Group (Some frame.Raw) group framed raw = time_read f is (or_text group) raw
reading_kind f is field_sort.Group (Some frame.Time) group framed raw = is.as_moment
reading_kind f is field_sort.Group (Some frame.Date) group framed raw = is.as_day
reading_kind f is field_sort.Group (Some frame.Week) group framed raw = is.as_day
reading_kind f is field_sort.Group (Some frame.Month) group framed raw = is.as_day
reading_kind f is field_sort.Group (Some frame.Quarter) group framed raw = is.as_day
reading_kind f is field_sort.Group (Some frame.Year) group framed raw = is.as_day
reading_kind f is field_sort.Group (Some frame.HourOfDay) group framed raw = is.as_number
reading_kind f is field_sort.Group (Some frame.DayOfWeek) group framed raw = is.as_text
reading_kind f is field_sort.Group (Some frame.DayOfMonth) group framed raw = is.as_number
reading_kind f is field_sort.Group (Some frame.MonthNum) group framed raw = is.as_number
reading_kind f is (field_sort.Measure o) fr group framed raw = absurd framed

implied : (a b : Bool) → (not a || b) ≡ true → a ≡ true → b ≡ true
implied true b h is = h
implied false b h is = absurd (false≢true is)

raw_time : (g : ℕ) (s : FieldSort) (fr : Option Frame) (tiers : List _) (group : Option Kind) → (not (is_raw (shape_with g fr s tiers)) || is_time_kind (or_text (dimension_kind s fr group))) ≡ true → IsTimeIfRaw s fr group
raw_time g field_sort.Group (Some frame.Raw) tiers group h = h
raw_time g field_sort.Group (Some frame.Time) tiers group h = tt
raw_time g field_sort.Group (Some frame.Date) tiers group h = tt
raw_time g field_sort.Group (Some frame.Week) tiers group h = tt
raw_time g field_sort.Group (Some frame.Month) tiers group h = tt
raw_time g field_sort.Group (Some frame.Quarter) tiers group h = tt
raw_time g field_sort.Group (Some frame.Year) tiers group h = tt
raw_time g field_sort.Group (Some frame.HourOfDay) tiers group h = tt
raw_time g field_sort.Group (Some frame.DayOfWeek) tiers group h = tt
raw_time g field_sort.Group (Some frame.DayOfMonth) tiers group h = tt
raw_time g field_sort.Group (Some frame.MonthNum) tiers group h = tt
raw_time g field_sort.Group None tiers group h = tt
raw_time g (field_sort.Dimension t) fr tiers group h = tt
raw_time g (field_sort.Measure o) fr tiers group h = tt

-- the filters of a number are no extra ones
kept_if : {A : Type 0} (P : A → Type 0) (o : Op) (filters : List A) → AllByRecursion P filters → AllByRecursion P (filters_if o filters)
kept_if P op.Number filters h = tt
kept_if P op.Count filters h = h
kept_if P op.CountDistinct filters h = h
kept_if P op.Min filters h = h
kept_if P op.Max filters h = h
kept_if P op.Sum filters h = h
kept_if P op.Average filters h = h
kept_if P op.SumDistinct filters h = h
kept_if P op.AverageDistinct filters h = h

pub every_at : {A : Type 0} (t : A → Bool) (xs : List A) → list_all t xs ≡ true → AllByRecursion (λ x. t x ≡ true) xs
every_at t [] h = tt
every_at t (x ∷ xs) h = (first (t x) (list_all t xs) h, every_at t xs (second (t x) (list_all t xs) h))

-- ---- the filters of an explore

module _ (schema : Schema) (views : List DeclaredView) (scope : Scope) (columns : ColumnKinds)
    (apart : AreApart (map (λ (part : ScopePart). part.name) scope.parts)) (plain : (k : ℕ) (part : ScopePart) → slice_get scope.parts k ≡ Some part → list_any is_dot part.name ≡ false)
    (once : (part : ℕ) → AreApart (names_made (fields_at views scope part)))
    (times : list_all is_time_if_raw (fields schema views scope columns) ≡ true) where
  -- a filter is one of the kind of its field
  abbrev pub IsOfField : ℕ × Filter → Type 0
  IsOfField f = is_filter_of (slice_index_or (fields schema views scope columns) f.0 no_field).kind f.1 ≡ true

  abbrev made : NamedDimension → Field
  made d = field_with schema views scope columns d

  read_kind : (n : ℕ) (k : Kind) (r : ReadFilter) → (slice_index_or (fields schema views scope columns) n no_field).kind ≡ k → IsReadOf k r → AllByRecursion IsOfField (filter_if n (Some r))
  read_kind n k (Read f) is h = (ap (λ j. is_filter_of j f) is ∙ h, tt)
  read_kind n k (Syntax place) is h = tt

  dimension_read : (f : FilterText) → IsOfKinds f → (n : ℕ) (d : NamedDimension) → IsSorted views scope d → slice_get (fields schema views scope columns) n ≡ Some (made d)
      → AllByRecursion IsOfField (filter_if n (reading_of views scope f d.found))
  dimension_read f kinds n d is at =
      let group = group_kind schema views scope columns Kept d.found.place in
      let k = or_text (dimension_kind is.field.sort d.found.frame group) in
      let g = group_number (groups views scope) d.found.place in
      let field_is : slice_index_or (fields schema views scope columns) n no_field ≡ made d = got_or (fields schema views scope columns) n no_field (made d) at in
      let kind_is : (made d).kind ≡ k = ap (λ o. or_text (option_and_then (λ (field : DeclaredField). dimension_kind field.sort d.found.frame group) o)) is.at in
      let shape_is : (made d).shape ≡ shape_with g d.found.frame is.field.sort is.field.tiers = ap (shape_if g d.found.frame) is.at in
      let time = all_at (λ (x : Field). is_time_if_raw x ≡ true) (fields schema views scope columns) (every_at is_time_if_raw (fields schema views scope columns) times) n (made d) at in
      let raw : (not (is_raw (shape_with g d.found.frame is.field.sort is.field.tiers)) || is_time_kind k) ≡ true = sym (λ i. not (is_raw (shape_is i)) || is_time_kind (kind_is i)) ∙ time in
      subst (λ r. AllByRecursion IsOfField (filter_if n r)) (sym (ap (option_map (λ (field : DeclaredField). reading_of_sort field.sort d.found.frame f)) is.at))
      (read_kind n k (reading_of_sort is.field.sort d.found.frame f) (ap (λ (x : Field). x.kind) field_is ∙ kind_is)
      (reading_kind f kinds is.field.sort d.found.frame group is.framed (raw_time g is.field.sort d.found.frame is.field.tiers group raw)))

  found_read : (f : FilterText) → IsOfKinds f → (found : Found) → IsMeant views scope sort.Dimension ((split_name f.name).1) found → exists views scope found.place ≡ true
      → AllByRecursion IsOfField (filter_if (number_of_found views scope (dimensions views scope) found f.name) (reading_of views scope f found))
  found_read f kinds found is there =
      let n = number_of_found views scope (dimensions views scope) found f.name in
      let got = dimension_at views scope apart plain once f.name found is there in
      let sorted = all_at (IsSorted views scope) (dimensions views scope) (dimensions_sorted views scope) n got.0 got.1 in
      let at : slice_get (fields schema views scope columns) n ≡ Some (made got.0) = got_map (field_with schema views scope columns) (dimensions views scope) n ∙ ap (option_map (field_with schema views scope columns)) got.1 in
      subst (λ (g : Found). AllByRecursion IsOfField (filter_if n (reading_of views scope f g))) got.2 (dimension_read f kinds n got.0 sorted at)

  filter_read : (f : FilterText) → IsOfKinds f → (o : Option Found) → ((found : Found) → o ≡ Some found → IsMeant views scope sort.Dimension ((split_name f.name).1) found × (exists views scope found.place ≡ true))
      → AllByRecursion IsOfField (filter_on views scope (dimensions views scope) f o)
  filter_read f kinds None h = tt
  filter_read f kinds (Some found) h = let is = h found refl in found_read f kinds found is.0 is.1

  -- those in its own text
  pub named_read : (filters : List FilterText) → AllByRecursion IsOfKinds filters → AllByRecursion IsOfField (filters_named views scope (dimensions views scope) filters)
  named_read filters kinds =
      all_flat IsOfField IsOfKinds (filter_named views scope (dimensions views scope))
      (λ f is. filter_read f is (dimension_named views scope f.name) (λ found at.
      let there = named_exists views scope (found_by views scope writer.Explore f.name sort.Dimension) found at in
      (meant_by views scope writer.Explore f.name sort.Dimension found there.0, there.1))) filters kinds

  -- those of a measure of a part
  part_read : (part : ℕ) (filters : List FilterText) → AllByRecursion IsOfKinds filters → AllByRecursion (λ f. IsKnownName views scope (found_by views scope (writer.Field part) f.name sort.Dimension)) filters
      → AllByRecursion IsOfField (filters_of_part views scope (dimensions views scope) part filters)
  part_read part filters kinds known =
      all_flat IsOfField (λ f. IsOfKinds f × IsKnownName views scope (found_by views scope (writer.Field part) f.name sort.Dimension)) (filter_of_part views scope (dimensions views scope) part)
      (λ f is. filter_read f is.0 (found_by views scope (writer.Field part) f.name sort.Dimension) (λ found at.
      (meant_by views scope (writer.Field part) f.name sort.Dimension found at, subst (λ (g : Found). exists views scope g.place ≡ true) (one is.1.0 found (sym is.1.1 ∙ at)) is.1.2))) filters
      (all_with IsOfKinds (λ f. IsKnownName views scope (found_by views scope (writer.Field part) f.name sort.Dimension)) filters kinds known)
    where
      one : (a b : Found) → Some a ≡ Some b → a ≡ b
      one a b h = cc

  -- ---- the explore

  module _ (kinds : (place : Place) (field : DeclaredField) → field_at views scope place ≡ Some field → AllByRecursion IsOfKinds field.filters)
      (datagroup : Option (List ℕ) → ℕ) (x : DeclaredExplore) where
    abbrev y : Explore
    y = explore_of schema views scope columns datagroup x

    tested : (filters : List (ℕ × Filter)) → AllByRecursion IsOfField filters → are_filters_of y filters ≡ true
    tested filters h = all_every IsOfField (λ f. is_filter_of (slice_index_or y.fields f.0 no_field).kind f.1) (λ f is. is) filters h

    always_read : AllByRecursion HasKinds x.filters → AllByRecursion IsOfField y.always
    always_read h = all_flat IsOfField HasKinds (always_in views scope) each x.filters h
      where
        each : (f : ExploreFilter) → HasKinds f → AllByRecursion IsOfField (always_in views scope f)
        each (explore_filter.Always always) is = named_read always.filters is
        each (explore_filter.Access access) is = tt
        each (explore_filter.Where c first) is = tt

    measure_read : (m : NamedMeasure) → numbers.IsOfField views scope m → (o : Option DeclaredField) → field_at views scope m.place ≡ o
        → AllByRecursion (λ (made_measure : Measure). are_filters_of y made_measure.filters ≡ true) (measure_if schema views scope columns m o)
    measure_read m of None at = tt
    measure_read m of (Some field) at =
        let part = filters_of_part views scope (dimensions views scope) m.place.part field.filters in
        let o = (measure_with schema views scope columns m field).op in
        (tested (filters_if o part) (kept_if IsOfField o part (part_read m.place.part field.filters (kinds m.place field at) (filters_known views scope m.place field at of.there))), tt)

    measures_read : Every (λ n. are_filters_of y n.filters) y.measures
    measures_read =
        all_every (λ (n : Measure). are_filters_of y n.filters ≡ true) (λ n. are_filters_of y n.filters) (λ n is. is) (all_measures schema views scope columns)
        (all_flat (λ (n : Measure). are_filters_of y n.filters ≡ true) (numbers.IsOfField views scope) (measure_at schema views scope columns)
        (λ m of. measure_read m of (field_at views scope m.place) refl) (measures views scope) (measures_of_fields views scope))

    rollups_read : AllByRecursion (λ r. AllByRecursion IsOfKinds r.filters) x.rollups → Every (λ r. are_filters_of y r.filters) y.rollups
    rollups_read h =
        all_every (λ (r : Rollup). are_filters_of y r.filters ≡ true) (λ r. are_filters_of y r.filters) (λ r is. is) (map (rollup_with views scope datagroup) x.rollups)
        (all_map (λ (r : Rollup). are_filters_of y r.filters ≡ true) (λ (r : AggregateTable). AllByRecursion IsOfKinds r.filters) (rollup_with views scope datagroup)
        (λ r is. tested (filters_named views scope (dimensions views scope) r.filters) (named_read r.filters is)) x.rollups h)

    pub filters_typed : AllByRecursion HasKinds x.filters → AllByRecursion (λ r. AllByRecursion IsOfKinds r.filters) x.rollups → has_typed_filters y ≡ true
    filters_typed always rollups =
        both (are_filters_of y y.always && list_all (λ (n : Measure). are_filters_of y n.filters) y.measures) (list_all (λ (r : Rollup). are_filters_of y r.filters) y.rollups)
        (both (are_filters_of y y.always) (list_all (λ (n : Measure). are_filters_of y n.filters) y.measures) (tested y.always (always_read always)) measures_read)
        (rollups_read rollups)

    -- and those of a derived table over it
    pub source_typed : (filters : List FilterText) → AllByRecursion IsOfKinds filters → are_filters_of y (filters_named views scope (dimensions views scope) filters) ≡ true
    source_typed filters h = tested (filters_named views scope (dimensions views scope) filters) (named_read filters h)
