-- The dimensions of the model have the kinds of their shapes, those that are raw times aside.
use Rattle.std.proofs.Common.{◌≡◌, ◌∙◌, ℕ, Bool, true, false, ◌&&◌, ◌||◌, List, [], ◌∷◌, map, refl, ap, sym, subst, Option, Some, None}
use Rattle.std.specs.Prelude.{flat_map, if◌then◌else◌, nat_lt, not, unwrap_or}
use Rattle.std.specs.List.{AllByRecursion, list_all, list_any}
use Rattle.std.proofs.lemmas.Bool.{false≢true}
use Rattle.lk_val.specs.Least.{is_in}
use Rattle.lk_val.specs.declared.value.Value.TheVariants as value
use Rattle.lk_types.specs.Dates.{are_literals_dated}
use Rattle.lk_types.specs.Formula.{Formula, Literal}
use Rattle.lk_types.specs.Kinds.{every_kind, has_time, is_empty, is_same_kind, kind_at, kinds_of, single_of}
use Rattle.lk_types.specs.Shapes as shapes
use Rattle.lk_types.specs.declared.explore.Field.{Field}
use Rattle.lk_types.specs.declared.explore.Shape.TheVariants as shape
use Rattle.lk_types.specs.declared.kind_set.Leaves.{Leaves}
use Rattle.lk_types.specs.declared.schema.Frame.{Frame}
use Rattle.lk_types.specs.declared.schema.Frame.TheVariants as frame
use Rattle.lk_types.specs.declared.schema.Kind.{Kind}
use Rattle.lk_types.specs.declared.schema.Kind.TheVariants as kind
use Rattle.lk_types.specs.declared.schema.Schema.{Schema}
use Rattle.lk_objects.specs.declared.field.DeclaredField.{DeclaredField}
use Rattle.lk_objects.specs.declared.field.DimensionType.{DimensionType}
use Rattle.lk_objects.specs.declared.field.DimensionType.TheVariants as type
use Rattle.lk_objects.specs.declared.field.FieldSort.{FieldSort}
use Rattle.lk_objects.specs.declared.field.FieldSort.TheVariants as field_sort
use Rattle.lk_objects.specs.declared.view.DeclaredView.{DeclaredView}
use Rattle.lk_fields.specs.declared.scope.Place.{Place}
use Rattle.lk_fields.specs.declared.scope.Scope.{Scope}
use Rattle.lk_fields.specs.Existing.{exists, field_at, is_same_place, referred}
use Rattle.lk_fields.specs.Substituted.{nodes_in}
use Rattle.lk_formulas.specs.declared.columns.ColumnKinds.{ColumnKinds}
use Rattle.lk_formulas.specs.declared.columns.UnknownColumn.TheVariants.{Kept, Null}
use Rattle.lk_formulas.specs.Columns.{column_named, known_kind}
use Rattle.lk_formulas.specs.FieldKinds.{dimension_kind, field_kinds, group_kind, is_number, kind_of_type, misses_kind, or_text, takes_no_number}
use Rattle.lk_formulas.specs.FormulaKinds.{kinds_in}
use Rattle.lk_formulas.specs.Formulas.{dated_of, formula_of}
use Rattle.lk_formulas.specs.Resolved.{kept, most_nodes, resolved_field}
use Rattle.lk_field_faults.specs.ExploreFields.{explore_fields_fault}
use Rattle.lk_scope.specs.Scopes.{part_name}
use Rattle.lk_semantics.specs.Resolved.{has_shape_kind, has_tiers, is_settled, is_time_kind, is_type_kind, is_typed, is_typed_field, settled_kind}
use Rattle.lk_semantics.proofs.EveryLaws.{both}
use Rattle.lk_resolved.specs.Fields.{field_with, fields, shape_if, shape_with}
use Rattle.lk_resolved.specs.Formulas.{expr_in, field_formula, or_null}
use Rattle.lk_resolved.specs.Names.{dimensions, dimensions_at, dimensions_by_sort, dimensions_with, existing, frame_dimension, group_number, groups}
use Rattle.lk_model_laws.specs.Typed.{is_raw}
use Rattle.lk_model_laws.proofs.CycleLaws.{fields_end}
use Rattle.lk_model_laws.proofs.DatedCodeLaws.{HasDatedCodes}
use Rattle.lk_model_laws.proofs.DimensionLaws.{all_by_name, all_there}
use Rattle.lk_model_laws.proofs.ListLaws.{all_flat}
use Rattle.lk_model_laws.proofs.NamedTypes.{NamedDimension}
use Rattle.lk_model_laws.proofs.PlaceLaws.{there_exists}
use Rattle.lk_model_laws.proofs.SameFormulaLaws.{same_dated}
use Rattle.lk_model_laws.proofs.TierLaws.{HasBounds, place_tiers}
use Rattle.lk_model_laws.proofs.TypedLaws.{dimension_typed, kinds_agree, of_field_dated, unclashing}
use Rattle.lk_model_laws.proofs.ViewObjectLaws.{not_false}

-- ---- dimensions by their sorts

abbrev pub IsFramed : FieldSort → Option Frame → Type 0
IsFramed (field_sort.Dimension t) None = Unit {0}
IsFramed field_sort.Group (Some f) = Unit {0}
IsFramed s f = ⊥

module _ (views : List DeclaredView) (scope : Scope) where
  -- a dimension has no timeframe, and a dimension group has one
  pub record IsSorted (d : NamedDimension) : Type 0 where
    pub field : DeclaredField
    pub at : field_at views scope d.found.place ≡ Some field
    pub there : exists views scope d.found.place ≡ true
    pub framed : IsFramed field.sort d.found.frame

  module _ (place : Place) (there : exists views scope place ≡ true) where
    frames_sorted : (part group : List ℕ) (field : DeclaredField) → field_at views scope place ≡ Some field → field.sort ≡ field_sort.Group → (frames : List Frame) → AllByRecursion IsSorted (map (frame_dimension part place group) frames)
    frames_sorted part group field at is [] = tt
    frames_sorted part group field at is (f ∷ frames) =
        (record { field = field; at = at; there = there; framed = subst (λ s. IsFramed s (Some f)) (sym is) tt }, frames_sorted part group field at is frames)

    sort_sorted : (part name : List ℕ) (frames : List Frame) (field : DeclaredField) (s : FieldSort) → field_at views scope place ≡ Some field → field.sort ≡ s → AllByRecursion IsSorted (dimensions_by_sort part place s name frames)
    sort_sorted part name frames field (field_sort.Measure o) at is = tt
    sort_sorted part name frames field (field_sort.Dimension t) at is = (record { field = field; at = at; there = there; framed = subst (λ s. IsFramed s None) (sym is) tt }, tt)
    sort_sorted part name frames field field_sort.Group at is = frames_sorted part name field at is frames

    place_sorted : (o : Option DeclaredField) → field_at views scope place ≡ o → AllByRecursion IsSorted (dimensions_with scope place o)
    place_sorted None at = tt
    place_sorted (Some field) at = sort_sorted (part_name scope place.part) field.name field.frames field field.sort at refl

  pub dimensions_sorted : AllByRecursion IsSorted (dimensions views scope)
  dimensions_sorted =
      all_by_name IsSorted (flat_map (dimensions_at views scope) (existing views scope))
      (all_flat IsSorted (λ place. is_in is_same_place place (existing views scope) ≡ true) (dimensions_at views scope)
      (λ place inside. place_sorted place (there_exists views scope place inside) (field_at views scope place) refl) (existing views scope) (all_there (existing views scope)))

-- ---- the kinds of times

pub base_time : (t n r d m : Bool) → (d || m) ≡ true → is_time_kind (unwrap_or (single_of t n r d m) kind.Moment) ≡ true
base_time true true true true true h = refl
base_time true true true true false h = refl
base_time true true true false true h = refl
base_time true true true false false h = absurd (false≢true h)
base_time true true false true true h = refl
base_time true true false true false h = refl
base_time true true false false true h = refl
base_time true true false false false h = absurd (false≢true h)
base_time true false true true true h = refl
base_time true false true true false h = refl
base_time true false true false true h = refl
base_time true false true false false h = absurd (false≢true h)
base_time true false false true true h = refl
base_time true false false true false h = refl
base_time true false false false true h = refl
base_time true false false false false h = absurd (false≢true h)
base_time false true true true true h = refl
base_time false true true true false h = refl
base_time false true true false true h = refl
base_time false true true false false h = absurd (false≢true h)
base_time false true false true true h = refl
base_time false true false true false h = refl
base_time false true false false true h = refl
base_time false true false false false h = absurd (false≢true h)
base_time false false true true true h = refl
base_time false false true true false h = refl
base_time false false true false true h = refl
base_time false false true false false h = absurd (false≢true h)
base_time false false false true true h = refl
base_time false false false true false h = refl
base_time false false false false true h = refl
base_time false false false false false h = absurd (false≢true h)

pub filled : (t n r d m : Bool) → (d || m) ≡ true → not (not (t || (n || (r || (d || m))))) ≡ true
filled true true true true true h = refl
filled true true true true false h = refl
filled true true true false true h = refl
filled true true true false false h = refl
filled true true false true true h = refl
filled true true false true false h = refl
filled true true false false true h = refl
filled true true false false false h = refl
filled true false true true true h = refl
filled true false true true false h = refl
filled true false true false true h = refl
filled true false true false false h = refl
filled true false false true true h = refl
filled true false false true false h = refl
filled true false false false true h = refl
filled true false false false false h = refl
filled false true true true true h = refl
filled false true true true false h = refl
filled false true true false true h = refl
filled false true true false false h = refl
filled false true false true true h = refl
filled false true false true false h = refl
filled false true false false true h = refl
filled false true false false false h = refl
filled false false true true true h = refl
filled false false true true false h = refl
filled false false true false true h = refl
filled false false true false false h = refl
filled false false false true true h = refl
filled false false false true false h = refl
filled false false false false true h = refl
filled false false false false false h = absurd (false≢true h)

pub same_itself : (k : Kind) → is_same_kind k k ≡ true
same_itself kind.Text = refl
same_itself kind.Number = refl
same_itself kind.Truth = refl
same_itself kind.Day = refl
same_itself kind.Moment = refl

frame_kind : (g : ℕ) (f : Frame) (group : Option Kind) (base : Kind) → is_raw (shape.Frame g f) ≡ false → is_same_kind (or_text (dimension_kind field_sort.Group (Some f) group)) (shapes.framed_kind f base) ≡ true
frame_kind g frame.Raw group base other = absurd (false≢true (sym other))
frame_kind g frame.Time group base other = refl
frame_kind g frame.Date group base other = refl
frame_kind g frame.Week group base other = refl
frame_kind g frame.Month group base other = refl
frame_kind g frame.Quarter group base other = refl
frame_kind g frame.Year group base other = refl
frame_kind g frame.HourOfDay group base other = refl
frame_kind g frame.DayOfWeek group base other = refl
frame_kind g frame.DayOfMonth group base other = refl
frame_kind g frame.MonthNum group base other = refl

type_kind : (t : Option DimensionType) → is_type_kind (or_text (kind_of_type t)) ≡ true
type_kind None = refl
type_kind (Some type.Text) = refl
type_kind (Some type.Number) = refl
type_kind (Some type.Tier) = refl
type_kind (Some type.Truth) = refl

-- ---- fields

module _ (schema : Schema) (views : List DeclaredView) (scope : Scope) (columns : ColumnKinds) (leaves : Leaves)
    (known : (p : ℕ) (name : List ℕ) (c : ℕ) → column_named schema views scope p name ≡ Some c → (k : Kind) × (known_kind columns p c ≡ Some k))
    (same : (p c : ℕ) → known_kind columns p c ≡ kind_at leaves p c)
    (codes : AllByRecursion (λ v. AllByRecursion HasDatedCodes v.fields) views) (bounds : AllByRecursion (λ v. AllByRecursion HasBounds v.fields) views)
    (clear : explore_fields_fault schema views scope columns ≡ None) where
  -- an expression that may be a day or a moment
  time_typed : (e : Formula) (g : ℕ) (f : Frame) (group : Option Kind) → is_raw (shape.Frame g f) ≡ false → has_time (kinds_of leaves e) ≡ true → are_literals_dated e ≡ true
      → has_shape_kind leaves (shape.Frame g f) (or_text (dimension_kind field_sort.Group (Some f) group)) e ≡ true
  time_typed e g f group other h d =
      let kinds = kinds_of leaves e in
      let base = settled_kind leaves kind.Moment e in
      both (is_time_kind base && is_settled leaves kind.Moment base e) (is_same_kind (or_text (dimension_kind field_sort.Group (Some f) group)) (shapes.framed_kind f base))
      (both (is_time_kind base) (is_settled leaves kind.Moment base e) (base_time kinds.text kinds.number kinds.truth kinds.day kinds.moment h)
      (both (not (is_empty kinds) && is_same_kind base base) (are_literals_dated e)
      (both (not (is_empty kinds)) (is_same_kind base base) (filled kinds.text kinds.number kinds.truth kinds.day kinds.moment h) (same_itself base)) d))
      (frame_kind g f group base other)

  kept_timed : (e read : Formula) (g : ℕ) (f : Frame) (group : Option Kind) → is_raw (shape.Frame g f) ≡ false → has_time (kinds_of leaves read) ≡ true → are_literals_dated read ≡ true
      → has_shape_kind leaves (shape.Frame g f) (or_text (dimension_kind field_sort.Group (Some f) group)) (or_null (kept e read)) ≡ true
  kept_timed e read g f group other h d =
      elim (nat_lt most_nodes (nodes_in e)) as (λ b. has_shape_kind leaves (shape.Frame g f) (or_text (dimension_kind field_sort.Group (Some f) group)) (or_null (if b then None else Some read)) ≡ true) [
        | true ↦ time_typed (Literal value.Null) g f group other refl refl
        | false ↦ time_typed read g f group other h d
      ]

  group_typed : (place : Place) (field : DeclaredField) (g : ℕ) (f : Frame) → field_at views scope place ≡ Some field → exists views scope place ≡ true → field.sort ≡ field_sort.Group → is_raw (shape.Frame g f) ≡ false
      → has_shape_kind leaves (shape.Frame g f) (or_text (dimension_kind field_sort.Group (Some f) (group_kind schema views scope columns Kept place))) (field_formula schema views scope columns place) ≡ true
  group_typed place field g f at there is other =
      let end = fields_end schema views scope columns clear place there in
      let kinds = kinds_in columns (dated_of schema views scope columns Null place) in
      let group = group_kind schema views scope columns Kept place in
      let missed : misses_kind field_sort.Group (field_kinds schema views scope columns Null place) ≡ false =
      subst (λ z. (if is_number z then list_any (takes_no_number schema views scope columns Null) (referred views scope place.part field) else misses_kind z (field_kinds schema views scope columns Null place)) ≡ false) is
      (unclashing schema views scope columns leaves known same codes clear place field at there) in
      let timed : has_time kinds ≡ true = not_false (has_time kinds) (sym (ap (λ b. not (has_time (if b then kinds else every_kind))) end) ∙ missed) in
      ap (λ b. has_shape_kind leaves (shape.Frame g f) (or_text (dimension_kind field_sort.Group (Some f) group)) (or_null (expr_in (if b then Some (resolved_field schema views scope columns Kept place) else None)))) end
      ∙ kept_timed (formula_of schema views scope columns Kept place) (dated_of schema views scope columns Kept place) g f group other
      (ap has_time (sym (kinds_agree schema views scope columns leaves known same codes (dated_of schema views scope columns Kept place))) ∙ ap (λ e. has_time (kinds_in columns e)) (sym (same_dated schema views scope columns known place)) ∙ timed)
      (of_field_dated schema views scope columns codes Kept place)

  -- a dimension by its sort
  plain_typed : (t : Option DimensionType) (tiers : List _) (e : Formula) → is_typed leaves (or_text (kind_of_type t)) e ≡ true → (g : ℕ) → has_shape_kind leaves (shape_with g None (field_sort.Dimension t) tiers) (or_text (kind_of_type t)) e ≡ true
  plain_typed (Some type.Tier) tiers e h g = h
  plain_typed (Some type.Text) tiers e h g = h
  plain_typed (Some type.Number) tiers e h g = h
  plain_typed (Some type.Truth) tiers e h g = h
  plain_typed None tiers e h g = h

  shape_typed : (d : NamedDimension) (field : DeclaredField) (g : ℕ) (s : FieldSort) (f : Option Frame) → field_at views scope d.found.place ≡ Some field → exists views scope d.found.place ≡ true → field.sort ≡ s → IsFramed s f
      → is_raw (shape_with g f s field.tiers) ≡ false
      → has_shape_kind leaves (shape_with g f s field.tiers) (or_text (dimension_kind s f (group_kind schema views scope columns Kept d.found.place))) (field_formula schema views scope columns d.found.place) ≡ true
  shape_typed d field g (field_sort.Dimension t) None at there is framed other =
      plain_typed t field.tiers (field_formula schema views scope columns d.found.place) (dimension_typed schema views scope columns leaves known same codes clear d.found.place field t at there is) g
  shape_typed d field g field_sort.Group (Some f) at there is framed other = group_typed d.found.place field g f at there is other
  shape_typed d field g (field_sort.Dimension t) (Some f) at there is framed other = absurd framed
  shape_typed d field g field_sort.Group None at there is framed other = absurd framed
  shape_typed d field g (field_sort.Measure o) f at there is framed other = absurd framed

  pub made_typed : (d : NamedDimension) → IsSorted views scope d → (is_raw (field_with schema views scope columns d).shape || is_typed_field leaves (field_with schema views scope columns d)) ≡ true
  made_typed d is = of_raw (is_raw made.shape) refl
    where
      made : Field
      made = field_with schema views scope columns d

      g : ℕ
      g = group_number (groups views scope) d.found.place

      shape_is : made.shape ≡ shape_with g d.found.frame is.field.sort is.field.tiers
      shape_is = ap (shape_if g d.found.frame) is.at

      kind_is : made.kind ≡ or_text (dimension_kind is.field.sort d.found.frame (group_kind schema views scope columns Kept d.found.place))
      kind_is = ap (λ o. or_text (Rattle.std.specs.Option.option_and_then (λ field. dimension_kind field.sort d.found.frame (group_kind schema views scope columns Kept d.found.place)) o)) is.at

      tiered : has_tiers made.shape ≡ true
      tiered = place_tiers schema views scope columns bounds g d.found.frame d.found.place (field_at views scope d.found.place) refl

      shaped : is_raw made.shape ≡ false → has_shape_kind leaves made.shape made.kind made.expr ≡ true
      shaped other =
          (λ i. has_shape_kind leaves (shape_is i) (kind_is i) made.expr)
          ∙ shape_typed d is.field g is.field.sort d.found.frame is.at is.there refl is.framed (sym (ap is_raw shape_is) ∙ other)

      of_raw : (b : Bool) → is_raw made.shape ≡ b → (is_raw made.shape || is_typed_field leaves made) ≡ true
      of_raw true e = ap (λ b. b || is_typed_field leaves made) e
      of_raw false e = ap (λ b. b || is_typed_field leaves made) e ∙ both (has_tiers made.shape) (has_shape_kind leaves made.shape made.kind made.expr) tiered (shaped e)

  pub fields_typed : list_all (λ f. is_raw f.shape || is_typed_field leaves f) (fields schema views scope columns) ≡ true
  fields_typed = each (dimensions views scope) (dimensions_sorted views scope)
    where
      each : (named : List NamedDimension) → AllByRecursion (IsSorted views scope) named → list_all (λ (f : Field). is_raw f.shape || is_typed_field leaves f) (map (field_with schema views scope columns) named) ≡ true
      each [] is = refl
      each (d ∷ named) is =
          let made = field_with schema views scope columns d in
          both (is_raw made.shape || is_typed_field leaves made) (list_all (λ (f : Field). is_raw f.shape || is_typed_field leaves f) (map (field_with schema views scope columns) named)) (made_typed d is.0) (each named is.1)
