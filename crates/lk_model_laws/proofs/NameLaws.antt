-- A name that means a field of the explore is the name of one of its dimensions or measures.
use Rattle.std.proofs.Common.{◌≡◌, ◌∙◌, ◌<◌, ℕ, zero, suc, ◌+◌, Bool, true, false, List, [], ◌∷◌, map, length, refl, ap, sym, subst, Option, Some, None, arith}
use Rattle.std.specs.Prelude.{flat_map, if◌then◌else◌, slice_get}
use Rattle.std.specs.List.{list_any, position_or_len}
use Rattle.std.specs.Option.{option_and_then, option_map, option_or}
use Rattle.std.proofs.lemmas.Bool.{false≢true}
use Rattle.lk_val.specs.Texts.{is_same_text}
use Rattle.lk_types.specs.declared.schema.Frame.{Frame}
use Rattle.lk_objects.specs.declared.field.DeclaredField.{DeclaredField}
use Rattle.lk_objects.specs.declared.field.FieldSort.{FieldSort}
use Rattle.lk_objects.specs.declared.field.FieldSort.TheVariants as field_sort
use Rattle.lk_objects.specs.declared.view.DeclaredView.{DeclaredView}
use Rattle.lk_fields.specs.declared.scope.Found.{Found}
use Rattle.lk_fields.specs.declared.scope.Place.{Place}
use Rattle.lk_fields.specs.declared.scope.Scope.{Scope}
use Rattle.lk_fields.specs.declared.scope.Sort.{Sort}
use Rattle.lk_fields.specs.declared.scope.Sort.TheVariants as sort
use Rattle.lk_fields.specs.declared.scope.Writer.{Writer}
use Rattle.lk_fields.specs.declared.scope.Writer.TheVariants as writer
use Rattle.lk_fields.specs.Existing.{exists, field_at, is_same_place}
use Rattle.lk_fields.specs.Scopes.{first_making, found_at, found_by, found_in, found_in_part, frame_made, frame_of, framed_name, has_sort, in_view, made, made_with, numbered, part_meant, split_name, view_at}
use Rattle.lk_fields.proofs.LostLaws.{same_exact, same_itself}
use Rattle.lk_scope.specs.ExploreNames.{dimension_named, full_name_of, if_exists, measure_named}
use Rattle.lk_scope.specs.Scopes.{full_name, part_name}
use Rattle.lk_model_laws.proofs.NamedTypes.{NamedDimension}
use Rattle.lk_model_laws.proofs.NamedTypes.{NamedMeasure}
use Rattle.lk_resolved.specs.Names.{dimension_made, dimension_number, dimensions, dimensions_at, dimensions_by_sort, dimensions_with, existing, frame_dimension, goes_before, measure_number, measures, measures_at, measures_if, measures_with, or_zero}
use Rattle.lk_model_laws.proofs.ListLaws.{position_found, position_within}
use Rattle.lk_model_laws.proofs.PieceLaws.{some_none}
use Rattle.lk_model_laws.proofs.PlaceLaws.{any_flat, any_folded, exists_there, or_left, or_right}
use Rattle.lk_model_laws.proofs.TextLaws as text

-- ---- the field that makes a name

-- the field of a declaration makes the name, with this timeframe
pub record IsMaking (s : Sort) (name : List ℕ) (field : DeclaredField) (frame : Option Frame) : Type 0 where
  pub sort_is : has_sort s field.sort ≡ true
  pub place : ℕ
  pub entry : List ℕ × Option Frame
  pub at : slice_get (made field) place ≡ Some entry
  pub named : is_same_text entry.0 name ≡ true
  pub framed : entry.1 ≡ frame

entry_of : (name : List ℕ) (entries : List (List ℕ × Option Frame)) (f : Option Frame) → frame_of name entries ≡ Some f
    → (k : ℕ) × (e : List ℕ × Option Frame) × (slice_get entries k ≡ Some e) × (is_same_text e.0 name ≡ true) × (e.1 ≡ f)
entry_of name [] f h = absurd (some_none (sym h))
entry_of name (e ∷ entries) f h =
    elim (is_same_text e.0 name) as (λ b. is_same_text e.0 name ≡ b → (if b then Some e.1 else frame_of name entries) ≡ Some f
    → (k : ℕ) × (d : List ℕ × Option Frame) × (slice_get (e ∷ entries) k ≡ Some d) × (is_same_text d.0 name ≡ true) × (d.1 ≡ f)) [
      | true ↦ λ is h. (zero, e, refl, is, same e.1 f h)
      | false ↦ λ _ h. let rest = entry_of name entries f h in (suc rest.0, rest.1, rest.2, rest.3, rest.4)
    ] refl h
  where
    same : (a b : Option Frame) → Some a ≡ Some b → a ≡ b
    same a b e = cc

making : (s : Sort) (name : List ℕ) (field : DeclaredField) (f : Option Frame) → frame_made s name field ≡ Some f → IsMaking s name field f
making s name field f h =
    elim (has_sort s field.sort) as (λ b. has_sort s field.sort ≡ b → (if b then frame_of name (made field) else None) ≡ Some f → IsMaking s name field f) [
      | true ↦ λ is h. let e = entry_of name (made field) f h in record { sort_is = is; place = e.0; entry = e.1; at = e.2; named = e.3; framed = e.4 }
      | false ↦ λ _ h. absurd (some_none (sym h))
    ] refl h

same_pair : (p q : ℕ × Option Frame) → Some p ≡ Some q → p ≡ q
same_pair p q h = cc

first_made : (s : Sort) (name : List ℕ) (n : ℕ) (fields : List DeclaredField) (k : ℕ) (f : Option Frame) → first_making s name n fields ≡ Some (k, f)
    → (m : ℕ) × (field : DeclaredField) × (k ≡ n + m) × (slice_get fields m ≡ Some field) × IsMaking s name field f
first_made s name n [] k f h = absurd (some_none (sym h))
first_made s name n (field ∷ fields) k f h =
    elim (frame_made s name field) as (λ o. frame_made s name field ≡ o → option_or (numbered n o) (first_making s name (n + 1) fields) ≡ Some (k, f)
    → (m : ℕ) × (g : DeclaredField) × (k ≡ n + m) × (slice_get (field ∷ fields) m ≡ Some g) × IsMaking s name g f) [
      | Some a ↦ λ is h.
          let pair = same_pair (n, a) (k, f) h in
          let number : n ≡ k = ap (λ p. p.0) pair in
          let frame : a ≡ f = ap (λ p. p.1) pair in
          (zero, field, omega arith, refl, subst (IsMaking s name field) frame (making s name field a is))
      | None ↦ λ _ h. let rest = first_made s name (n + 1) fields k f h in let is = rest.2 in (suc rest.0, rest.1, omega arith, rest.3, rest.4)
    ] refl h

-- ---- what a name means

-- a name means a field at its place, which makes it
pub record IsMeant (views : List DeclaredView) (scope : Scope) (s : Sort) (name : List ℕ) (found : Found) : Type 0 where
  pub field : DeclaredField
  pub at : field_at views scope found.place ≡ Some field
  pub making : IsMaking s name field found.frame

module _ (views : List DeclaredView) (scope : Scope) where
  in_part : (name : List ℕ) (s : Sort) (part : ℕ) (found : Found) → found_in_part views scope name s part ≡ Some found → IsMeant views scope s name found
  in_part name s part found h = of_view (view_at views scope part) refl h
    where
      of_first : (view : DeclaredView) → view_at views scope part ≡ Some view → (o : Option (ℕ × Option Frame)) → first_making s name 0 view.fields ≡ o → option_map (found_at part) o ≡ Some found → IsMeant views scope s name found
      of_first view is None first e = absurd (some_none (sym e))
      of_first view is (Some (k, f)) first e =
          let made_by = first_made s name 0 view.fields k f first in
          let number = made_by.2 in
          let place : k ≡ made_by.0 = omega arith in
          let same : found_at part (k, f) ≡ found = cc in
          subst (IsMeant views scope s name) same (record {
            field = made_by.1;
            at = ap (λ o. slice_get (of_fields o) k) is ∙ ap (λ m. slice_get view.fields m) place ∙ made_by.3;
            making = made_by.4;
          })
        where
          of_fields : Option DeclaredView → List DeclaredField
          of_fields None = []
          of_fields (Some v) = v.fields

      of_view : (o : Option DeclaredView) → view_at views scope part ≡ o → option_map (found_at part) (option_and_then (in_view s name) o) ≡ Some found → IsMeant views scope s name found
      of_view None is e = absurd (some_none (sym e))
      of_view (Some view) is e = of_first view is (first_making s name 0 view.fields) refl e

  pub meant_in : (w : Writer) (view : Option (List ℕ)) (name : List ℕ) (s : Sort) (found : Found) → found_in views scope w view name s ≡ Some found → IsMeant views scope s name found
  meant_in w view name s found h = of_part (part_meant views scope w view) h
    where
      of_part : (o : Option ℕ) → option_and_then (found_in_part views scope name s) o ≡ Some found → IsMeant views scope s name found
      of_part None e = absurd (some_none (sym e))
      of_part (Some part) e = in_part name s part found e

  pub meant_by : (w : Writer) (whole : List ℕ) (s : Sort) (found : Found) → found_by views scope w whole s ≡ Some found → IsMeant views scope s ((split_name whole).1) found
  meant_by w whole s found h = meant_in w ((split_name whole).0) ((split_name whole).1) s found h

  -- ---- dimensions

  pub same_dimensions : (part : List ℕ) (place : Place) (s : FieldSort) (name : List ℕ) (frames : List Frame) → has_sort sort.Dimension s ≡ true
      → dimensions_by_sort part place s name frames ≡ map (dimension_made part place) (made_with s name frames)
  same_dimensions part place (field_sort.Measure o) name frames h = absurd (false≢true h)
  same_dimensions part place (field_sort.Dimension t) name frames h = refl
  same_dimensions part place field_sort.Group name frames h = each frames
    where
      each : (fs : List Frame) → map (frame_dimension part place name) fs ≡ map (dimension_made part place) (map (λ f. (framed_name name f, Some f)) fs)
      each [] = refl
      each (f ∷ fs) = ap (λ ds. frame_dimension part place name f ∷ ds) (each fs)

  any_made : (t : NamedDimension → Bool) (part : List ℕ) (place : Place) (entries : List (List ℕ × Option Frame)) (k : ℕ) (e : List ℕ × Option Frame) → slice_get entries k ≡ Some e
      → t (dimension_made part place e) ≡ true → list_any t (map (dimension_made part place) entries) ≡ true
  any_made t part place [] k e at h = absurd (some_none (sym at))
  any_made t part place (d ∷ entries) zero e at h =
      let same : d ≡ e = cc in
      or_left (t (dimension_made part place d)) (list_any t (map (dimension_made part place) entries)) (subst (λ z. t (dimension_made part place z) ≡ true) (sym same) h)
  any_made t part place (d ∷ entries) (suc k) e at h =
      or_right (t (dimension_made part place d)) (list_any t (map (dimension_made part place) entries)) (any_made t part place entries k e at h)

  -- where a test passes what the named field makes, it passes one of the explore's dimensions
  pub some_dimension : (t : NamedDimension → Bool) (name : List ℕ) (found : Found) → IsMeant views scope sort.Dimension name found → exists views scope found.place ≡ true
      → t (record { name = full_name (part_name scope found.place.part) name; found = found }) ≡ true → list_any t (dimensions views scope) ≡ true
  some_dimension t name found is there h =
      let field = is.field in
      let by = is.making in
      let part = part_name scope found.place.part in
      let entry : dimension_made part found.place by.entry ≡ record { name = full_name part name; found = found } =
      λ i. record { name = full_name part (text.same_exact by.entry.0 name by.named i); found = record { place = found.place; frame = by.framed i } } in
      let here : list_any t (dimensions_at views scope found.place) ≡ true =
      ap (λ o. list_any t (dimensions_with scope found.place o)) is.at
      ∙ ap (list_any t) (same_dimensions part found.place field.sort field.name field.frames by.sort_is)
      ∙ any_made t part found.place (made field) by.place by.entry by.at (subst (λ d. t d ≡ true) (sym entry) h) in
      let made_there : list_any t (flat_map (dimensions_at views scope) (existing views scope)) ≡ true =
      any_flat t (dimensions_at views scope) (is_same_place found.place)
      (λ p same. subst (λ q. list_any t (dimensions_at views scope q) ≡ true) (same_exact found.place p same) here)
      (existing views scope) (exists_there views scope found.place there) in
      any_folded t (λ ds d. position_or_len (goes_before d) ds) [] (flat_map (dimensions_at views scope) (existing views scope)) made_there

  -- its number is that of a dimension
  pub dimension_below : (name : List ℕ) (found : Found) → IsMeant views scope sort.Dimension ((split_name name).1) found → exists views scope found.place ≡ true
      → dimension_number (dimensions views scope) (full_name_of scope found name) < length (dimensions views scope)
  dimension_below name found is there =
      let full = full_name_of scope found name in
      let t : NamedDimension → Bool = λ d. is_same_text d.name full in
      let at = position_found t (dimensions views scope) (some_dimension t ((split_name name).1) found is there (text.same_itself full)) in
      subst (λ o. or_zero o < length (dimensions views scope)) (sym at.1) (position_within t (dimensions views scope) at.0 at.1)

  -- ---- measures

  pub some_measure : (name : List ℕ) (found : Found) → IsMeant views scope sort.Measure name found → exists views scope found.place ≡ true
      → list_any (λ m. is_same_place m.place found.place) (measures views scope) ≡ true
  some_measure name found is there =
      let t : NamedMeasure → Bool = λ m. is_same_place m.place found.place in
      let field = is.field in
      let here : list_any t (measures_at views scope found.place) ≡ true =
      ap (λ o. list_any t (measures_with scope found.place o)) is.at
      ∙ ap (λ b. list_any t (measures_if b (record { name = full_name (part_name scope found.place.part) field.name; place = found.place }))) is.making.sort_is
      ∙ or_left (is_same_place found.place found.place) false (same_itself found.place) in
      any_flat t (measures_at views scope) (is_same_place found.place)
      (λ p same. subst (λ q. list_any t (measures_at views scope q) ≡ true) (same_exact found.place p same) here)
      (existing views scope) (exists_there views scope found.place there)

  pub measure_below : (name : List ℕ) (found : Found) → IsMeant views scope sort.Measure name found → exists views scope found.place ≡ true
      → measure_number (measures views scope) found.place < length (measures views scope)
  measure_below name found is there =
      let t : NamedMeasure → Bool = λ m. is_same_place m.place found.place in
      let at = position_found t (measures views scope) (some_measure name found is there) in
      subst (λ o. or_zero o < length (measures views scope)) (sym at.1) (position_within t (measures views scope) at.0 at.1)

  -- ---- names in the explore's own text

  pub named_exists : (o : Option Found) (found : Found) → if_exists views scope o ≡ Some found → (o ≡ Some found) × (exists views scope found.place ≡ true)
  named_exists None found h = absurd (some_none (sym h))
  named_exists (Some f) found h =
      elim (exists views scope f.place) as (λ b. exists views scope f.place ≡ b → (if b then Some f else None) ≡ Some found → (Some f ≡ Some found) × (exists views scope found.place ≡ true)) [
        | true ↦ λ is h. let same : f ≡ found = cc in (h, subst (λ g. exists views scope g.place ≡ true) same is)
        | false ↦ λ _ h. absurd (some_none (sym h))
      ] refl h

  pub named_below : (name : List ℕ) (found : Found) → dimension_named views scope name ≡ Some found
      → dimension_number (dimensions views scope) (full_name_of scope found name) < length (dimensions views scope)
  named_below name found h =
      let is = named_exists (found_by views scope writer.Explore name sort.Dimension) found h in
      dimension_below name found (meant_by writer.Explore name sort.Dimension found is.0) is.1

  pub named_measure_below : (name : List ℕ) (found : Found) → measure_named views scope name ≡ Some found
      → measure_number (measures views scope) found.place < length (measures views scope)
  named_measure_below name found h =
      let is = named_exists (found_by views scope writer.Explore name sort.Measure) found h in
      measure_below ((split_name name).1) found (meant_by writer.Explore name sort.Measure found is.0) is.1
