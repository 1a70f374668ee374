-- What is stored depends on no moment: no filter of a stored query, nor one of its measures, has a relative date.
use Rattle.std.proofs.Common.{◌≡◌, ◌∙◌, ℕ, Bool, true, false, ◌&&◌, List, [], ◌∷◌, length, refl, ap, sym, subst, ⊎_elim, Option, Some, None}
use Rattle.std.specs.Prelude.{if◌then◌else◌, slice_get}
use Rattle.std.specs.List.{AllByRecursion}
use Rattle.std.specs.Option.{option_map}
use Rattle.std.proofs.lemmas.Bool.{false≢true}
use Rattle.lk_val.specs.Least.{is_in}
use Rattle.lk_types.specs.Filters.{is_placed}
use Rattle.lk_types.specs.declared.explore.Explore.{Explore}
use Rattle.lk_types.specs.declared.explore.Measure.{Measure}
use Rattle.lk_types.specs.declared.explore.Op.TheVariants as op
use Rattle.lk_types.specs.declared.filter.Filter.{Filter}
use Rattle.lk_types.specs.declared.schema.Schema.{Schema}
use Rattle.lk_objects.specs.declared.explore.DeclaredExplore.{DeclaredExplore}
use Rattle.lk_objects.specs.declared.field.DeclaredField.{DeclaredField}
use Rattle.lk_objects.specs.declared.field.FieldSort.{FieldSort}
use Rattle.lk_objects.specs.declared.field.FieldSort.TheVariants as field_sort
use Rattle.lk_objects.specs.declared.filter_text.FilterText.{FilterText}
use Rattle.lk_objects.specs.declared.filter_text.ReadFilter.{ReadFilter}
use Rattle.lk_objects.specs.declared.filter_text.ReadFilter.TheVariants.{Read, Syntax}
use Rattle.lk_objects.specs.declared.view.DeclaredView.{DeclaredView}
use Rattle.lk_objects.specs.declared.view.Entry.{Entry}
use Rattle.lk_fields.specs.declared.scope.Found.{Found}
use Rattle.lk_fields.specs.declared.scope.Place.{Place}
use Rattle.lk_fields.specs.declared.scope.Scope.{Scope}
use Rattle.lk_fields.specs.declared.scope.Sort.TheVariants as sort
use Rattle.lk_fields.specs.declared.scope.Writer.TheVariants as writer
use Rattle.lk_fields.specs.Existing.{exists, field_at, is_same_place}
use Rattle.lk_fields.specs.Scopes.{found_by, split_name}
use Rattle.lk_fields.proofs.LostLaws.{same_exact}
use Rattle.lk_formulas.specs.declared.columns.ColumnKinds.{ColumnKinds}
use Rattle.lk_formulas.specs.FieldKinds.{is_number}
use Rattle.lk_formulas.specs.Formulas.{ends}
use Rattle.lk_scope.specs.Components.{components}
use Rattle.lk_scope.specs.ExploreNames.{dimension_named, full_name_of, measure_named}
use Rattle.lk_scope.specs.Readings.{is_relative, place_in, reading_of, reading_of_sort}
use Rattle.lk_explore_faults.specs.RelativeDates.{relative_among, relative_at, relative_filter, relative_in, relative_of, relative_of_field, relative_with}
use Rattle.lk_explore_faults.specs.StoredQueries.{entry_findings, filter_findings, filter_findings_at, measure_findings, query_findings, read_findings, relative_findings}
use Rattle.lk_semantics.specs.Answers as answers
use Rattle.lk_semantics.specs.Answers.{components_of, no_measure, parts_of_measure}
use Rattle.lk_semantics.specs.Resolved.{are_fixed, have_fixed_filters}
use Rattle.lk_resolved.specs.Explores as explores
use Rattle.lk_resolved.specs.Explores.{always_in, explore_of, measure_numbers}
use Rattle.lk_resolved.specs.Fields.{filters_if, measure_with, op_with}
use Rattle.lk_resolved.specs.Filters.{filter_if, filter_named, filter_of_part, filter_on, filters_named, filters_of_part, number_of_found}
use Rattle.lk_resolved.specs.Names.{dimensions, measure_number, measures, or_zero}
use Rattle.lk_model_laws.proofs.ComponentLaws.{components_hold, measure_parts_hold}
use Rattle.lk_model_laws.proofs.FilterLaws.{IsMarked, IsOfKinds, reading_marked}
use Rattle.lk_model_laws.proofs.GroundedLaws.{IsReferredCode, aligned}
use Rattle.lk_model_laws.proofs.ListLaws.{all_every, all_flat, all_with, got_or, position_at, position_found}
use Rattle.lk_model_laws.proofs.NameLaws.{meant_by, named_exists, some_measure}
use Rattle.lk_model_laws.proofs.NamedTypes.{NamedMeasure}
use Rattle.lk_model_laws.proofs.NumberLaws.{measures_of_fields}
use Rattle.lk_model_laws.proofs.PieceLaws.{nil_each, none_left, none_right, not_so, some_none}
use Rattle.lk_model_laws.proofs.PlaceLaws.{one_of}
use Rattle.lk_model_laws.proofs.ViewObjectLaws.{nil_no}

-- ---- filters

-- none has a relative date
abbrev pub ArePlaced : List (ℕ × Filter) → Type 0
ArePlaced filters = AllByRecursion (λ f. is_placed f.1 ≡ true) filters

pub tested_fixed : (filters : List (ℕ × Filter)) → ArePlaced filters → are_fixed filters ≡ true
tested_fixed filters h = all_every (λ (f : ℕ × Filter). is_placed f.1 ≡ true) (λ f. is_placed f.1) (λ f is. is) filters h

abbrev IsMarkedIf : Option ReadFilter → Type 0
IsMarkedIf None = Unit {0}
IsMarkedIf (Some r) = IsMarked r

placed_if : (number : ℕ) (r : Option ReadFilter) → IsMarkedIf r → is_relative r ≡ false → ArePlaced (filter_if number r)
placed_if number (Some (Read f)) marked h = (marked h, tt)
placed_if number (Some (Syntax place)) marked h = tt
placed_if number None marked h = tt

unread : (object at field : List ℕ) (r : Option ReadFilter) → read_findings object at (true && is_relative r) field (place_in r) ≡ [] → is_relative r ≡ false
unread object at field (Some (Read f)) h = not_so f.relative _ h
unread object at field (Some (Syntax place)) h = refl
unread object at field None h = refl

unnamed : (b : Bool) (name : List ℕ) → (if b then Some name else None) ≡ None → b ≡ false
unnamed true name h = absurd (some_none h)
unnamed false name h = refl

module _ (views : List DeclaredView) (scope : Scope) where
  marked : (f : FilterText) → IsOfKinds f → (found : Found) → IsMarkedIf (reading_of views scope f found)
  marked f is found = of_field (field_at views scope found.place)
    where
      of_field : (o : Option DeclaredField) → IsMarkedIf (option_map (λ (field : DeclaredField). reading_of_sort field.sort found.frame f) o)
      of_field None = tt
      of_field (Some field) = reading_marked f is field.sort found.frame

  placed_on : (f : FilterText) → IsOfKinds f → (o : Option Found) → ((found : Found) → o ≡ Some found → is_relative (reading_of views scope f found) ≡ false)
      → ArePlaced (filter_on views scope (dimensions views scope) f o)
  placed_on f is None h = tt
  placed_on f is (Some found) h = placed_if (number_of_found views scope (dimensions views scope) found f.name) (reading_of views scope f found) (marked f is found) (h found refl)

  -- a filter of a stored query
  stored_clear : (object at : List ℕ) (f : FilterText) (found : Found) → filter_findings views scope object at true f ≡ [] → dimension_named views scope f.name ≡ Some found
      → is_relative (reading_of views scope f found) ≡ false
  stored_clear object at f found h is =
      unread object at (full_name_of scope found f.name) (reading_of views scope f found) (ap (filter_findings_at views scope object at true f) (sym is) ∙ h)

  pub stored_placed : (object at : List ℕ) (filters : List FilterText) → AllByRecursion IsOfKinds filters → AllByRecursion (λ f. filter_findings views scope object at true f ≡ []) filters
      → ArePlaced (filters_named views scope (dimensions views scope) filters)
  stored_placed object at filters kinds h =
      all_flat (λ (f : ℕ × Filter). is_placed f.1 ≡ true) (λ f. IsOfKinds f × (filter_findings views scope object at true f ≡ [])) (filter_named views scope (dimensions views scope))
      (λ f is. placed_on f is.0 (dimension_named views scope f.name) (λ found named. stored_clear object at f found is.1 named)) filters
      (all_with IsOfKinds (λ f. filter_findings views scope object at true f ≡ []) filters kinds h)

  with_clear : (f : FilterText) (found : Found) → relative_with views scope f (Some found) ≡ None → is_relative (reading_of views scope f found) ≡ false
  with_clear f found h = unnamed (is_relative (reading_of views scope f found)) (full_name_of scope found f.name) h

  -- a filter of the explore's own
  pub named_placed : (filters : List FilterText) → AllByRecursion IsOfKinds filters → AllByRecursion (λ f. relative_with views scope f (dimension_named views scope f.name) ≡ None) filters
      → ArePlaced (filters_named views scope (dimensions views scope) filters)
  named_placed filters kinds h =
      all_flat (λ (f : ℕ × Filter). is_placed f.1 ≡ true) (λ f. IsOfKinds f × (relative_with views scope f (dimension_named views scope f.name) ≡ None)) (filter_named views scope (dimensions views scope))
      (λ f is. placed_on f is.0 (dimension_named views scope f.name) (λ found named. with_clear f found (ap (relative_with views scope f) (sym named) ∙ is.1))) filters
      (all_with IsOfKinds (λ f. relative_with views scope f (dimension_named views scope f.name) ≡ None) filters kinds h)

  -- a filter of a measure
  part_placed : (part : ℕ) (filters : List FilterText) → AllByRecursion IsOfKinds filters → relative_in views scope part filters ≡ None → ArePlaced (filters_of_part views scope (dimensions views scope) part filters)
  part_placed part filters kinds h =
      all_flat (λ (f : ℕ × Filter). is_placed f.1 ≡ true) (λ f. IsOfKinds f × (relative_filter views scope part f ≡ None)) (filter_of_part views scope (dimensions views scope) part)
      (λ f is. placed_on f is.0 (found_by views scope (writer.Field part) f.name sort.Dimension) (λ found named. with_clear f found (ap (relative_with views scope f) (sym named) ∙ is.1))) filters
      (all_with IsOfKinds (λ f. relative_filter views scope part f ≡ None) filters kinds (each filters h))
    where
      each : (fs : List FilterText) → relative_in views scope part fs ≡ None → AllByRecursion (λ f. relative_filter views scope part f ≡ None) fs
      each [] h = tt
      each (f ∷ fs) h = (none_left (relative_filter views scope part f) (relative_in views scope part fs) h, each fs (none_right (relative_filter views scope part f) (relative_in views scope part fs) h))

  -- ---- measures

  sort_placed : (s : FieldSort) (o : Option (List ℕ)) (filters : List (ℕ × Filter)) → (if is_number s then None else o) ≡ None → (o ≡ None → ArePlaced filters) → ArePlaced (filters_if (op_with s) filters)
  sort_placed (field_sort.Dimension t) o filters h f = f h
  sort_placed field_sort.Group o filters h f = f h
  sort_placed (field_sort.Measure None) o filters h f = f h
  sort_placed (field_sort.Measure (Some op.Count)) o filters h f = f h
  sort_placed (field_sort.Measure (Some op.CountDistinct)) o filters h f = f h
  sort_placed (field_sort.Measure (Some op.Sum)) o filters h f = f h
  sort_placed (field_sort.Measure (Some op.Average)) o filters h f = f h
  sort_placed (field_sort.Measure (Some op.Min)) o filters h f = f h
  sort_placed (field_sort.Measure (Some op.Max)) o filters h f = f h
  sort_placed (field_sort.Measure (Some op.SumDistinct)) o filters h f = f h
  sort_placed (field_sort.Measure (Some op.AverageDistinct)) o filters h f = f h
  sort_placed (field_sort.Measure (Some op.Number)) o filters h f = tt

  among_clear : (places : List Place) (q : Place) → relative_among views scope places ≡ None → is_in is_same_place q places ≡ true → relative_at views scope q ≡ None
  among_clear [] q h inside = absurd (false≢true inside)
  among_clear (p ∷ places) q h inside =
      ⊎_elim (λ here. ap (relative_at views scope) (same_exact q p here) ∙ none_left (relative_at views scope p) (relative_among views scope places) h)
      (λ later. among_clear places q (none_right (relative_at views scope p) (relative_among views scope places) h) later)
      (one_of (is_same_place q p) (is_in is_same_place q places) inside)

  module _ (schema : Schema) (columns : ColumnKinds) (datagroup : Option (List ℕ) → ℕ) (x : DeclaredExplore)
      (right : (place : Place) (field : DeclaredField) → field_at views scope place ≡ Some field → IsReferredCode field.sql)
      (kinds : (place : Place) (field : DeclaredField) → field_at views scope place ≡ Some field → AllByRecursion IsOfKinds field.filters)
      (end : (place : Place) → exists views scope place ≡ true → ends views scope place ≡ true) where
    abbrev y : Explore
    y = explore_of schema views scope columns datagroup x

    -- the filters of the measure of a number
    abbrev IsFixed : ℕ → Type 0
    IsFixed n = are_fixed (answers.measure_at y n).filters ≡ true

    measure_fixed : (q : Place) → relative_at views scope q ≡ None → (j : ℕ) (m : NamedMeasure) → slice_get (measures views scope) j ≡ Some m → m.place ≡ q → IsFixed j
    measure_fixed q h j m at same =
        let of = aligned views scope schema columns (measures views scope) (measures_of_fields views scope) j m at in
        let field = of.0.field in
        let made = measure_with schema views scope columns m field in
        let made_at : answers.measure_at y j ≡ made = got_or y.measures j no_measure made of.1 in
        let here : relative_of_field views scope m.place.part (Some field) ≡ None = ap (relative_of_field views scope m.place.part) (sym of.0.at) ∙ (ap (relative_at views scope) same ∙ h) in
        ap (λ (made_measure : Measure). are_fixed made_measure.filters) made_at
        ∙ tested_fixed made.filters
        (sort_placed field.sort (relative_in views scope m.place.part field.filters) (filters_of_part views scope (dimensions views scope) m.place.part field.filters) here
        (λ none. part_placed m.place.part field.filters (kinds m.place field of.0.at) none))

    -- all parts of the measure of a number
    abbrev pub HasFixedParts : ℕ → Type 0
    HasFixedParts k = AllByRecursion IsFixed (parts_of_measure y (length y.measures) k)

    found_fixed : (name : List ℕ) (found : Found) → measure_named views scope name ≡ Some found → relative_of views scope found.place ≡ None → HasFixedParts (measure_number (measures views scope) found.place)
    found_fixed name found named h =
        let is = named_exists views scope (found_by views scope writer.Explore name sort.Measure) found named in
        let there = position_found (λ (m : NamedMeasure). is_same_place m.place found.place) (measures views scope)
        (some_measure views scope ((split_name name).1) found (meant_by views scope writer.Explore name sort.Measure found is.0) is.1) in
        let at = position_at (λ (m : NamedMeasure). is_same_place m.place found.place) (measures views scope) there.0 there.1 in
        subst HasFixedParts (sym (ap or_zero there.1))
        (measure_parts_hold views scope schema columns datagroup x right IsFixed end (length y.measures) found.place is.1
        (λ q inside j m got same. measure_fixed q (among_clear (components views scope found.place) q h inside) j m got same)
        there.0 at.0 at.1 (same_exact at.0.place found.place at.2))

    relative_clear : (object at : List ℕ) (o : Option (List ℕ)) → relative_findings object at o ≡ [] → o ≡ None
    relative_clear object at None h = refl
    relative_clear object at (Some field) h = absurd (nil_no _ [] h)

    -- the measure that a stored query names
    pub named_fixed : (object at name : List ℕ) → measure_findings views scope object at name (measure_named views scope name) ≡ [] → AllByRecursion HasFixedParts (measure_numbers views scope name)
    named_fixed object at name h = of_found (measure_named views scope name) refl
      where
        of_found : (o : Option Found) → measure_named views scope name ≡ o → AllByRecursion HasFixedParts (explores.measure_if views scope o)
        of_found None is = tt
        of_found (Some found) is =
            (found_fixed name found is (relative_clear object at (relative_of views scope found.place) (ap (measure_findings views scope object at name) (sym is) ∙ h)), tt)

    -- the components of some measures
    pub components_fixed : (ns : List ℕ) → AllByRecursion HasFixedParts ns → have_fixed_filters y (components_of y ns) ≡ true
    components_fixed ns h =
        all_every IsFixed (λ n. are_fixed (answers.measure_at y n).filters) (λ n is. is) (components_of y ns)
        (components_hold views scope schema columns datagroup x right IsFixed HasFixedParts (λ k is. is) ns h)

  -- ---- entries

  pub entries_clear : (object at : List ℕ) (filters : List FilterText) (entries : List Entry) → query_findings views scope object at filters entries ≡ []
      → AllByRecursion (λ e. entry_findings views scope object at filters e ≡ []) entries
  unfolding query_findings
  entries_clear object at filters entries h = nil_each (entry_findings views scope object at filters) entries h
