-- What all fields of a list mention.
use Rattle.std.proofs.Common.{◌≡◌, ◌≤◌, arith, ℕ, Bool, true, false, ◌&&◌, List, [], ◌∷◌, ◌++◌, length, refl, sym, ap, ◌∙◌}
use Rattle.std.specs.Prelude.{flat_map, nat_lt, slice_index_or}
use Rattle.std.specs.List.{list_all}
use Rattle.std.proofs.lemmas.List.Folds.{list_all-append}
use Rattle.std.proofs.lemmas.List.{get_or_past}
use Rattle.lk_types.specs.declared.explore.Explore.{Explore}
use Rattle.lk_types.specs.declared.explore.Measure.{Measure}
use Rattle.lk_types.specs.declared.explore.Rollup.{Rollup}
use Rattle.lk_types.specs.declared.filter.Filter.{Filter}
use Rattle.lk_semantics.specs.Answers.{filtered, measure_at, no_measure, value_taken}
use Rattle.lk_semantics.specs.Derived.{field_parts}
use Rattle.lk_semantics.specs.Joins.{mentions_of}
use Rattle.lk_semantics.specs.Rollups.{determined_views, is_determined_by, regroups, rollup_joins}
use Rattle.lk_route.specs.Roles.{are_all_within, is_field_within, is_filter_within, is_one_of}

module _ (x : Explore) (views : List ℕ) where
  abbrev test : ℕ → Bool
  test = is_one_of views

  fields_within : (fields : List ℕ) → list_all (is_field_within x views) fields ≡ list_all test (flat_map (field_parts x) fields)
  fields_within [] = refl
  fields_within (f ∷ fields) = ap (λ b. is_field_within x views f && b) (fields_within fields) ∙ sym (list_all-append test (field_parts x f) (flat_map (field_parts x) fields))

  filters_within : (filters : List (ℕ × Filter)) → list_all (is_filter_within x views) filters ≡ list_all test (flat_map (field_parts x) (filtered filters))
  filters_within [] = refl
  filters_within (f ∷ filters) = ap (λ b. is_filter_within x views f && b) (filters_within filters) ∙ sym (list_all-append test (field_parts x f.0) (flat_map (field_parts x) (filtered filters)))

  pub all_within : (r : Rollup) (m : Measure) → are_all_within x views r m
      ≡ list_all test (flat_map (field_parts x) r.dims ++ mentions_of (value_taken m) ++ flat_map (field_parts x) (filtered m.filters))
  all_within r m =
      let dims = flat_map (field_parts x) r.dims in
      let value = mentions_of (value_taken m) in
      let filters = flat_map (field_parts x) (filtered m.filters) in
      (λ i. fields_within r.dims i && list_all test value && filters_within m.filters i)
      ∙ ap (λ b. b && list_all test filters) (sym (list_all-append test dims value))
      ∙ sym (list_all-append test (dims ++ value) filters)

-- where these are the views that the key of the measure's view determines
pub determined_within : (x : Explore) (r : Rollup) (m : Measure) (joins views : List ℕ) → joins ≡ rollup_joins x r → views ≡ determined_views x joins m.part
    → are_all_within x views r m ≡ is_determined_by x r m
determined_within x r m joins views own are =
    ap (λ views. are_all_within x views r m) (are ∙ ap (λ joins. determined_views x joins m.part) own)
    ∙ all_within x (determined_views x (rollup_joins x r) m.part) r m

not_below : (m n : ℕ) → nat_lt m n ≡ false → n ≤ m
not_below m n h = grind arith

-- a measure that is not there: what its view's key determines has to be all that the dimensions mention
pub absent_regroups : (x : Explore) (r : Rollup) (number : ℕ) (measures : List Measure) → measures ≡ x.measures → false ≡ nat_lt number (length measures)
    → list_all (is_field_within x (determined_views x (rollup_joins x r) 0)) r.dims ≡ regroups x r (measure_at x number)
absent_regroups x r number measures own past =
    let views = determined_views x (rollup_joins x r) 0 in
    let absent = get_or_past measures number no_measure (not_below number (length measures) (sym past)) in
    no_more (list_all (is_field_within x views) r.dims)
    ∙ determined_within x r no_measure (rollup_joins x r) views refl refl
    ∙ ap (regroups x r) (sym (ap (λ measures. slice_index_or measures number no_measure) (sym own) ∙ absent))
  where
    no_more : (b : Bool) → b ≡ ((b && true) && true)
    no_more true = refl
    no_more false = refl
