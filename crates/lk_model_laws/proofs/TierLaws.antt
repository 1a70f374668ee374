-- The bounds of each tier of a project without a fault ascend, and each is a number of a column as a whole number.
use Rattle.std.proofs.Common.{◌≡◌, ◌∙◌, ◌≤◌, ℕ, zero, suc, ◌+◌, ◌^◌, Bool, true, false, ◌&&◌, ◌||◌, List, [], ◌∷◌, ◌++◌, map, refl, ap, sym, subst, Option, Some, None, ℤ, pos, neg_ℤ, int_le, int_lt, int_div, arith}
use Rattle.std.specs.Prelude.{Result, Ok, Err, codes, if◌then◌else◌, is_some, nat_le, nat_lt, not, slice_get}
use Rattle.std.specs.List.{AllByRecursion, list_all, position}
use Rattle.std.specs.Option.{option_and_then}
use Rattle.std.proofs.lemmas.Bool.{false≢true, leb-true, ltb-true}
use Rattle.std.proofs.lemmas.Int.{ints}
use Rattle.lk_val.specs.Numbers.{decimal_at, decimal_of, has_minus, in_range, is_digits, is_dot, is_too_fine, magnitude, num_of, parted_of}
use Rattle.lk_val.specs.declared.num.Num.{Num}
use Rattle.lk_val.specs.declared.num.NumFault.{NumFault}
use Rattle.lk_val.specs.declared.num.NumFault.TheVariants as fault
use Rattle.lk_read.specs.declared.tree.Item.{Item}
use Rattle.lk_read.specs.declared.tree.Node.{Node}
use Rattle.lk_types.specs.declared.explore.Field.{Field}
use Rattle.lk_types.specs.declared.schema.Frame.{Frame}
use Rattle.lk_types.specs.declared.schema.Schema.{Schema}
use Rattle.lk_params.specs.Parameters.{items_of, last_named}
use Rattle.lk_params.specs.Values.{words}
use Rattle.lk_params.specs.Known.{block_findings}
use Rattle.lk_params.specs.declared.finding.Finding.{Finding}
use Rattle.lk_params.specs.declared.number.Order.TheVariants as order
use Rattle.lk_objects.specs.declared.field.DeclaredField.{DeclaredField}
use Rattle.lk_objects.specs.declared.field.DimensionType.TheVariants as type
use Rattle.lk_objects.specs.declared.field.FieldSort.{FieldSort}
use Rattle.lk_objects.specs.declared.field.FieldSort.TheVariants as sort
use Rattle.lk_objects.specs.declared.view.Declared.{Declared}
use Rattle.lk_objects.specs.declared.view.DeclaredView.{DeclaredView}
use Rattle.lk_merge.specs.declared.project.Object.{Object}
use Rattle.lk_semantics.specs.Resolved.{are_tiers, has_tiers}
use Rattle.lk_semantics.proofs.EveryLaws.{both, first, second}
use Rattle.lk_written.specs.Blocks.{block_items, block_name}
use Rattle.lk_written.specs.CodeFindings.{code_findings}
use Rattle.lk_written.specs.ValueFindings.{wrong}
use Rattle.lk_written.specs.Values.{is_missing, is_no_truth, is_wrong_at}
use Rattle.lk_view_field.specs.FieldFindings.{dimension_findings, is_no_bounds, is_other_style, own_findings, owner_of, sort_findings, tier_findings}
use Rattle.lk_view_field.specs.FieldValues.{ascends, bounds_in, bounds_with, is_whole, or_none, tiers_of, whole, wholes}
use Rattle.lk_view_field.specs.Fields.{IsField, full_name, tiers_with}
use Rattle.lk_view.specs.FieldOrder.{fields_in}
use Rattle.lk_view.specs.Views.{AreFields}
use Rattle.lk_fields.specs.declared.scope.Place.{Place}
use Rattle.lk_fields.specs.declared.scope.Scope.{Scope}
use Rattle.lk_fields.specs.Existing.{all_places, field_at, fields_at, fields_with, places_from}
use Rattle.lk_formulas.specs.declared.columns.ColumnKinds.{ColumnKinds}
use Rattle.lk_scope.specs.Pieces.{first_at}
use Rattle.lk_scope.specs.Scopes.{alone}
use Rattle.lk_scope.specs.Scopes as scopes
use Rattle.lk_field_faults.specs.FieldFaults.{field_findings, field_line, line_of_field}
use Rattle.lk_field_faults.specs.MadeNames.{twice_line}
use Rattle.lk_explore_faults.specs.ViewFaults.{view_fault}
use Rattle.lk_model.specs.Faults.{fields_line_in}
use Rattle.lk_model.specs.ViewKinds.{columns_in}
use Rattle.lk_model.specs.declared.view_kinds.ViewKinds.{ViewKinds}
use Rattle.lk_resolve.specs.Objects.{AreViews}
use Rattle.lk_resolved.specs.Fields.{field_with, fields, shape_if, shape_with}
use Rattle.lk_resolved.specs.Names.{dimensions, group_number, groups}
use Rattle.lk_model_laws.proofs.FaultlessLaws.{IsClearProject}
use Rattle.lk_model_laws.proofs.ListLaws.{all_front}
use Rattle.lk_model_laws.proofs.NamedTypes.{NamedDimension}
use Rattle.lk_model_laws.proofs.PieceLaws.{EachFrom, nil_left, nil_right, none_at, none_lined, none_right, none_soonest, not_so, some_none}
use Rattle.lk_model_laws.proofs.ViewObjectLaws.{not_false, some_of}
use Rattle.lk_model_laws.proofs.WholeExploreLaws.{placed_field}

-- ---- numbers in range

abbrev pub IsBound : ℤ → Type 0
IsBound b = (int_le (neg_ℤ (pos 922337203685477)) b ≡ true) × (int_le b (pos 922337203685477) ≡ true)

abbrev Fits : Result Num NumFault → Type 0
Fits (Ok n) = IsBound (int_div n.0 (pos 10000))
Fits (Err e) = Unit {0}

in_range_fits : (negative : Bool) (size : ℕ) → Fits (in_range negative size)
in_range_fits true size =
    elim (nat_le size (2 ^ 63)) as (λ b. nat_le size (2 ^ 63) ≡ b → Fits (if b then Ok (record { 0 = neg_ℤ (pos size) }) else Err fault.Range)) [
      | true ↦ λ is. below size (leb-true size (2 ^ 63) is)
      | false ↦ λ is. tt
    ] refl
  where
    below : (n : ℕ) → n ≤ 9223372036854775808 → IsBound (int_div (neg_ℤ (pos n)) (pos 10000))
    below n h = (grind (arith, ints), grind (arith, ints))
in_range_fits false size =
    elim (nat_lt size (2 ^ 63)) as (λ b. nat_lt size (2 ^ 63) ≡ b → Fits (if b then Ok (record { 0 = pos size }) else Err fault.Range)) [
      | true ↦ λ is. below size (omega (arith, ltb-true size (2 ^ 63) is))
      | false ↦ λ is. tt
    ] refl
  where
    below : (n : ℕ) → n ≤ 9223372036854775808 → IsBound (int_div (pos n) (pos 10000))
    below n h = (grind (arith, ints), grind (arith, ints))

parted_fits : (negative : Bool) (before behind : List ℕ) → Fits (parted_of negative before behind)
parted_fits negative before behind =
    elim (is_digits before && is_digits behind) as (λ b. Fits (if b then (if is_too_fine behind then Err fault.Places else in_range negative (magnitude before behind)) else Err fault.NotNumber)) [
      | true ↦ elim (is_too_fine behind) as (λ b. Fits (if b then Err fault.Places else in_range negative (magnitude before behind))) [ true ↦ tt | false ↦ in_range_fits negative (magnitude before behind) ]
      | false ↦ tt
    ]

decimal_fits : (negative : Bool) (body : List ℕ) (dot : Option ℕ) → Fits (decimal_at negative body dot)
decimal_fits negative body None =
    elim (is_digits body) as (λ b. Fits (if b then in_range negative (magnitude body []) else Err fault.NotNumber)) [ true ↦ in_range_fits negative (magnitude body []) | false ↦ tt ]
decimal_fits negative body (Some dot) = parted_fits negative (Rattle.std.specs.Prelude.take dot body) (Rattle.std.specs.Prelude.drop (dot + 1) body)

num_fits : (text : List ℕ) → Fits (num_of text)
unfolding num_of
num_fits text =
    elim (has_minus text) as (λ b. Fits (if b then decimal_of true (Rattle.std.specs.Prelude.drop 1 text) else decimal_of false text)) [
      | true ↦ decimal_fits true (Rattle.std.specs.Prelude.drop 1 text) (position is_dot (Rattle.std.specs.Prelude.drop 1 text))
      | false ↦ decimal_fits false text (position is_dot text)
    ]

-- ---- bounds

whole_bound : (text : List ℕ) (b : ℤ) → whole text ≡ Some b → IsBound b
whole_bound text b h = of_whole (is_whole text) refl
  where
    of_num : (r : Result Num NumFault) → num_of text ≡ r → is_whole text ≡ true → IsBound b
    of_num (Ok n) at is =
        let e : Some (int_div n.0 (pos 10000)) ≡ Some b = rw (is, at) at h in
        let same : int_div n.0 (pos 10000) ≡ b = cc in
        subst IsBound same (subst Fits at (num_fits text))
    of_num (Err e) at is = absurd (some_none (sym (rw (is, at) at h)))

    of_whole : (w : Bool) → is_whole text ≡ w → IsBound b
    of_whole true is = of_num (num_of text) refl is
    of_whole false is = absurd (some_none (sym (rw is at h)))

wholes_bound : (texts : List (List ℕ)) (bs : List ℤ) → wholes texts ≡ Some bs → AllByRecursion IsBound bs
wholes_bound [] bs h = let none : [] ≡ bs = cc in subst (AllByRecursion IsBound) none tt
wholes_bound (text ∷ texts) bs h = of_first (wholes_bound texts) (whole text) refl
  where
    of_rest : ((more : List ℤ) → wholes texts ≡ Some more → AllByRecursion IsBound more) → (b : ℤ) → whole text ≡ Some b → (o : Option (List ℤ)) → wholes texts ≡ o → AllByRecursion IsBound bs
    of_rest more_bound b at None rest = absurd (some_none (sym (rw (at, rest) at h)))
    of_rest more_bound b at (Some more) rest =
        let e : Some (b ∷ more) ≡ Some bs = rw (at, rest) at h in
        let same : b ∷ more ≡ bs = cc in
        subst (AllByRecursion IsBound) same (whole_bound text b at, more_bound more rest)

    of_first : ((more : List ℤ) → wholes texts ≡ Some more → AllByRecursion IsBound more) → (o : Option ℤ) → whole text ≡ o → AllByRecursion IsBound bs
    of_first more_bound None at = absurd (some_none (sym (rw at at h)))
    of_first more_bound (Some b) at = of_rest more_bound b at (wholes texts) refl

-- bounds that ascend within the range are tiers
tiers_within : (b : ℤ) (bs : List ℤ) → AllByRecursion IsBound (b ∷ bs) → ascends (b ∷ bs) ≡ true → are_tiers (b ∷ bs) ≡ true
tiers_within b [] bound h = both (int_le (neg_ℤ (pos 922337203685477)) b) (int_le b (pos 922337203685477)) bound.0.0 bound.0.1
tiers_within b (c ∷ bs) bound h =
    both (int_le (neg_ℤ (pos 922337203685477)) b && int_lt b c) (are_tiers (c ∷ bs))
    (both (int_le (neg_ℤ (pos 922337203685477)) b) (int_lt b c) bound.0.0 (first (int_lt b c) (ascends (c ∷ bs)) h))
    (tiers_within c bs bound.1 (second (int_lt b c) (ascends (c ∷ bs)) h))

with_bounds : (ns bs : List ℤ) → AllByRecursion IsBound ns → bounds_with ns ≡ Some bs → are_tiers bs ≡ true
with_bounds [] bs bound h = absurd (some_none (sym h))
with_bounds (n ∷ ns) bs bound h = of_ascending (ascends (n ∷ ns)) refl
  where
    of_ascending : (a : Bool) → ascends (n ∷ ns) ≡ a → are_tiers bs ≡ true
    of_ascending true is =
        let e : Some (n ∷ ns) ≡ Some bs = ap (λ b. if b then Some (n ∷ ns) else None) (sym is) ∙ h in
        let same : n ∷ ns ≡ bs = cc in
        ap are_tiers (sym same) ∙ tiers_within n ns bound is
    of_ascending false is = absurd (some_none (sym h ∙ ap (λ b. if b then Some (n ∷ ns) else None) is))

pub bounds_are_tiers : (value : Node) (bs : List ℤ) → bounds_in value ≡ Some bs → are_tiers bs ≡ true
bounds_are_tiers value bs h = of_texts (words value) refl
  where
    of_wholes : (texts : List (List ℕ)) (o : Option (List ℤ)) → wholes texts ≡ o → option_and_then bounds_with o ≡ Some bs → are_tiers bs ≡ true
    of_wholes texts None at k = absurd (some_none (sym k))
    of_wholes texts (Some ns) at k = with_bounds ns bs (wholes_bound texts ns at) k

    of_texts : (o : Option (List (List ℕ))) → words value ≡ o → are_tiers bs ≡ true
    of_texts None at = absurd (some_none (sym (sym (ap (λ t. option_and_then bounds_with (option_and_then wholes t)) at) ∙ h)))
    of_texts (Some texts) at = of_wholes texts (wholes texts) refl (sym (ap (λ t. option_and_then bounds_with (option_and_then wholes t)) at) ∙ h)

-- ---- a field

-- a tier has bounds that ascend
abbrev pub HasBounds : DeclaredField → Type 0
HasBounds f = has_tiers (shape_with 0 None f.sort f.tiers) ≡ true

pub or_first : (a b : Bool) → (a || b) ≡ false → a ≡ false
or_first true b h = h
or_first false b h = refl

tiers_given : (object : List ℕ) (items : List Item) (tiers : List ℤ) → tiers ≡ tiers_of (last_named (codes "tiers") items) → dimension_findings object items (Some type.Tier) ≡ [] → are_tiers tiers ≡ true
tiers_given object items tiers is h = of_item (last_named (codes "tiers") items) refl
  where
    none : (is_wrong_at is_no_bounds (codes "tiers") items || is_missing (codes "tiers") items) ≡ false
    none =
        let tier : tier_findings object items (Some type.Tier) ≡ [] =
        nil_right (wrong order.Field object (codes "primary_key") (codes "primary_key") (is_wrong_at (λ value. is_no_truth (Rattle.lk_params.specs.Values.scalar value)) (codes "primary_key") items)) (tier_findings object items (Some type.Tier)) h in
        not_so (is_wrong_at is_no_bounds (codes "tiers") items || is_missing (codes "tiers") items) _
        (nil_left (wrong order.Field object (codes "tiers") (codes "tiers") (is_wrong_at is_no_bounds (codes "tiers") items || is_missing (codes "tiers") items))
        (wrong order.Field object (codes "style") (codes "style") (is_wrong_at is_other_style (codes "style") items)) tier)

    of_item : (o : Option Item) → last_named (codes "tiers") items ≡ o → are_tiers tiers ≡ true
    of_item None at = absurd (false≢true (sym (rw at at none)))
    of_item (Some item) at =
        let fine : (is_no_bounds item.value || false) ≡ false = rw at at none in
        let bounds = some_of (bounds_in item.value) (not_false (is_some (bounds_in item.value)) (or_first (is_no_bounds item.value) false fine)) in
        ap are_tiers (is ∙ ap tiers_of at ∙ ap or_none bounds.1) ∙ bounds_are_tiers item.value bounds.0 bounds.1

bounded : (view kind own : List ℕ) (items : List Item) (f : DeclaredField) → IsField view kind own items f → f.first ≡ None → HasBounds f
bounded view kind own items f is none = of_sort f.sort refl
  where
    object : List ℕ
    object = full_name view own

    sorts : sort_findings object items f.sort ≡ []
    sorts =
        let all = none_soonest (own_findings object items f.sort f.sql f.key) (sym is.first_is ∙ none) in
        let front : List Finding = block_findings order.Field (owner_of f.sort) object None items in
        nil_right front (sort_findings object items f.sort) (nil_left (front ++ sort_findings object items f.sort) (code_findings order.Field object (codes "sql") f.sql)
        (nil_left (front ++ sort_findings object items f.sort ++ code_findings order.Field object (codes "sql") f.sql) (code_findings order.Field object (codes "sql_distinct_key") f.key) all))

    plain : (s : FieldSort) → f.sort ≡ s → has_tiers (shape_with 0 None s f.tiers) ≡ true → HasBounds f
    plain s at h = ap (λ t. has_tiers (shape_with 0 None t f.tiers)) at ∙ h

    of_sort : (s : FieldSort) → f.sort ≡ s → HasBounds f
    of_sort (sort.Dimension (Some type.Tier)) at =
        plain (sort.Dimension (Some type.Tier)) at (tiers_given object items f.tiers (is.tiers_are ∙ ap (λ s. tiers_with s items) at) (ap (sort_findings object items) (sym at) ∙ sorts))
    of_sort (sort.Dimension (Some type.Text)) at = plain (sort.Dimension (Some type.Text)) at refl
    of_sort (sort.Dimension (Some type.Number)) at = plain (sort.Dimension (Some type.Number)) at refl
    of_sort (sort.Dimension (Some type.Truth)) at = plain (sort.Dimension (Some type.Truth)) at refl
    of_sort (sort.Dimension None) at = plain (sort.Dimension None) at refl
    of_sort sort.Group at = plain sort.Group at refl
    of_sort (sort.Measure o) at = plain (sort.Measure o) at refl

-- ---- all fields of views without a fault

abbrev pub IsFine : DeclaredField → Type 0
IsFine f = f.first ≡ None

bounded_all : (name : List ℕ) (items : List Item) (own : List DeclaredField) → AreFields name items own → AllByRecursion IsFine own → AllByRecursion HasBounds own
bounded_all name [] [] h fine = tt
bounded_all name [] (f ∷ own) h fine = absurd h
bounded_all name (item ∷ items) [] h fine = absurd h
bounded_all name (item ∷ items) (f ∷ own) h fine = (bounded name item.name (block_name item) (block_items item) f h.0 fine.0, bounded_all name items own h.1 fine.1)

pub bounded_views : (schema : Schema) (objects : List Object) (views : List DeclaredView) → AreViews schema objects views → AllByRecursion (λ v. AllByRecursion IsFine v.fields) views
    → AllByRecursion (λ v. AllByRecursion HasBounds v.fields) views
bounded_views schema [] [] h fine = tt
bounded_views schema [] (v ∷ views) h fine = absurd h
bounded_views schema (o ∷ objects) [] h fine = absurd h
bounded_views schema (o ∷ objects) (v ∷ views) h fine = (bounded_all o.name (fields_in (items_of o.tree)) v.fields h.0.fields_are fine.0, bounded_views schema objects views h.1 fine.1)

module _ (schema : Schema) (views : List DeclaredView) (scope : Scope) (columns : ColumnKinds) where
  first_none : (f : DeclaredField) (place : Place) → field_at views scope place ≡ Some f → field_line schema views scope columns place ≡ None → IsFine f
  first_none f place at h =
      (none_lined f.first (field_findings schema views scope columns (scopes.full_name (scopes.part_name scope place.part) f.name) place f) (ap (line_of_field schema views scope columns place) (sym at) ∙ h)).0

  each_fine : (n : ℕ) (own : List DeclaredField) → ((j : ℕ) (f : DeclaredField) → slice_get own j ≡ Some f → slice_get (fields_at views scope 0) (n + j) ≡ Some f)
      → AllByRecursion (λ place. field_line schema views scope columns place ≡ None) (places_from 0 n own) → AllByRecursion IsFine own
  each_fine n [] h lines = tt
  each_fine n (f ∷ own) h lines = (
    first_none f (record { part = 0; field = n }) (subst (λ m. slice_get (fields_at views scope 0) m ≡ Some f) (omega arith) (h zero f refl)) lines.0,
    each_fine (n + 1) own (λ j g at. subst (λ m. slice_get (fields_at views scope 0) m ≡ Some g) (omega arith) (h (suc j) g at)) lines.1,
  )

module _ (schema : Schema) (declared : Declared) (kinds : ViewKinds) where
  view_fine : (n : ℕ) (v : DeclaredView) → slice_get declared.views n ≡ Some v → fields_line_in schema declared kinds (alone n v) ≡ None → AllByRecursion IsFine v.fields
  view_fine n v at h =
      let scope = alone n v in
      let columns = columns_in kinds scope in
      let lines = none_at (field_line schema declared.views scope columns) (all_places declared.views scope)
      (none_right (twice_line (scopes.part_name scope 0) (fields_at declared.views scope 0)) (first_at (field_line schema declared.views scope columns) (all_places declared.views scope)) h) in
      subst (λ o. AllByRecursion IsFine (fields_with o)) at
      (each_fine schema declared.views scope columns 0 (fields_at declared.views scope 0) (λ j f there. subst (λ m. slice_get (fields_at declared.views scope 0) m ≡ Some f) (omega arith) there)
      (all_front (λ place. field_line schema declared.views scope columns place ≡ None) (places_from 0 0 (fields_at declared.views scope 0)) [] lines))

  views_fine : (n : ℕ) (vs : List DeclaredView) → ((j : ℕ) (v : DeclaredView) → slice_get vs j ≡ Some v → slice_get declared.views (n + j) ≡ Some v)
      → EachFrom (λ k view. (view_fault declared view ≡ None) × (fields_line_in schema declared kinds (alone k view) ≡ None)) n vs → AllByRecursion (λ v. AllByRecursion IsFine v.fields) vs
  views_fine n [] h lines = tt
  views_fine n (v ∷ vs) h lines = (
    view_fine n v (subst (λ m. slice_get declared.views m ≡ Some v) (omega arith) (h zero v refl)) lines.0.1,
    views_fine (n + 1) vs (λ j w at. subst (λ m. slice_get declared.views m ≡ Some w) (omega arith) (h (suc j) w at)) lines.1,
  )

  pub fields_fine : IsClearProject schema declared kinds → AllByRecursion (λ v. AllByRecursion IsFine v.fields) declared.views
  fields_fine clear = views_fine 0 declared.views (λ j v at. subst (λ m. slice_get declared.views m ≡ Some v) (omega arith) at) clear.views

-- ---- an explore

module _ (schema : Schema) (views : List DeclaredView) (scope : Scope) (columns : ColumnKinds) (bounded_fields : AllByRecursion (λ v. AllByRecursion HasBounds v.fields) views) where
  shape_tiers : (group : ℕ) (frame : Option Frame) (s : FieldSort) (tiers : List ℤ) → has_tiers (shape_with 0 None s tiers) ≡ true → has_tiers (shape_with group frame s tiers) ≡ true
  shape_tiers group (Some f) s tiers h = refl
  shape_tiers group None (sort.Dimension (Some type.Tier)) tiers h = h
  shape_tiers group None (sort.Dimension (Some type.Text)) tiers h = refl
  shape_tiers group None (sort.Dimension (Some type.Number)) tiers h = refl
  shape_tiers group None (sort.Dimension (Some type.Truth)) tiers h = refl
  shape_tiers group None (sort.Dimension None) tiers h = refl
  shape_tiers group None sort.Group tiers h = refl
  shape_tiers group None (sort.Measure o) tiers h = refl

  pub place_tiers : (group : ℕ) (frame : Option Frame) (place : Place) (o : Option DeclaredField) → field_at views scope place ≡ o → has_tiers (shape_if group frame o) ≡ true
  place_tiers group frame place None at = refl
  place_tiers group frame place (Some f) at = shape_tiers group frame f.sort f.tiers (placed_field HasBounds views bounded_fields scope place f at)

  pub fields_tiered : list_all (λ (f : Field). has_tiers f.shape) (fields schema views scope columns) ≡ true
  fields_tiered = each (dimensions views scope)
    where
      each : (named : List NamedDimension) → list_all (λ (f : Field). has_tiers f.shape) (map (field_with schema views scope columns) named) ≡ true
      each [] = refl
      each (d ∷ named) =
          both (has_tiers (field_with schema views scope columns d).shape) (list_all (λ (f : Field). has_tiers f.shape) (map (field_with schema views scope columns) named))
          (place_tiers (group_number (groups views scope) d.found.place) d.found.frame d.found.place (field_at views scope d.found.place) refl) (each named)
