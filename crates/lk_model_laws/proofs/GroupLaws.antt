-- The timeframes of one group are of one part and one expression.
use Rattle.std.proofs.Common.{◌≡◌, ◌∙◌, ℕ, true, List, refl, ap, sym, Option, Some, None}
use Rattle.std.specs.Prelude.{ℤ, is_some, slice_get}
use Rattle.std.specs.List.{AllByRecursion}
use Rattle.lk_types.specs.declared.explore.Field.{Field}
use Rattle.lk_types.specs.declared.explore.Shape.{Shape}
use Rattle.lk_types.specs.declared.explore.Shape.TheVariants as shape
use Rattle.lk_types.specs.declared.schema.Frame.{Frame}
use Rattle.lk_types.specs.declared.schema.Schema.{Schema}
use Rattle.lk_objects.specs.declared.field.DeclaredField.{DeclaredField}
use Rattle.lk_objects.specs.declared.field.DimensionType.TheVariants as type
use Rattle.lk_objects.specs.declared.field.FieldSort.{FieldSort}
use Rattle.lk_objects.specs.declared.field.FieldSort.TheVariants as field_sort
use Rattle.lk_objects.specs.declared.view.DeclaredView.{DeclaredView}
use Rattle.lk_fields.specs.declared.scope.Place.{Place}
use Rattle.lk_fields.specs.declared.scope.Scope.{Scope}
use Rattle.lk_fields.specs.Existing.{field_at}
use Rattle.lk_formulas.specs.declared.columns.ColumnKinds.{ColumnKinds}
use Rattle.lk_semantics.specs.Resolved.{AreOfOneGroup}
use Rattle.lk_model_laws.proofs.NamedTypes.{NamedDimension}
use Rattle.lk_resolved.specs.Fields.{field_with, fields, shape_if, shape_with}
use Rattle.lk_resolved.specs.Formulas.{field_formula}
use Rattle.lk_resolved.specs.Names.{dimensions, group_number, groups}
use Rattle.lk_model_laws.proofs.DimensionLaws.{IsMade, dimensions_made, group_numbered}
use Rattle.lk_model_laws.proofs.ListLaws.{all_map}

-- ---- shapes

-- two fields, whatever their shapes are
grouped : (f g : Field) (s t : Shape)
    → ((k : ℕ) (a b : Frame) → s ≡ shape.Frame k a → t ≡ shape.Frame k b → (f.part ≡ g.part) × (f.expr ≡ g.expr))
    → AreOfOneGroup (record f { shape = s }) (record g { shape = t })
grouped f g shape.Plain t h = tt
grouped f g (shape.Tier bounds) t h = tt
grouped f g (shape.Frame k a) shape.Plain h = tt
grouped f g (shape.Frame k a) (shape.Tier bounds) h = tt
grouped f g (shape.Frame k a) (shape.Frame j b) h = λ same. h k a b refl (ap (λ n. shape.Frame n b) (sym same))

plain_no : (k : ℕ) (f : Frame) → shape.Plain ≡ shape.Frame k f → ⊥
plain_no k f h = cc

tier_no : (bounds : List ℤ) (k : ℕ) (f : Frame) → shape.Tier bounds ≡ shape.Frame k f → ⊥
tier_no bounds k f h = cc

same_number : (n k : ℕ) (a f : Frame) → shape.Frame n a ≡ shape.Frame k f → n ≡ k
same_number n k a f h = cc

-- a shape is a timeframe only with the number of its group, where there is a timeframe
framed : (n : ℕ) (frame : Option Frame) (s : FieldSort) (tiers : List ℤ) (k : ℕ) (f : Frame) → shape_with n frame s tiers ≡ shape.Frame k f → (n ≡ k) × (is_some frame ≡ true)
framed n (Some a) s tiers k f h = (same_number n k a f h, refl)
framed n None (field_sort.Dimension None) tiers k f h = absurd (plain_no k f h)
framed n None (field_sort.Dimension (Some type.Text)) tiers k f h = absurd (plain_no k f h)
framed n None (field_sort.Dimension (Some type.Number)) tiers k f h = absurd (plain_no k f h)
framed n None (field_sort.Dimension (Some type.Truth)) tiers k f h = absurd (plain_no k f h)
framed n None (field_sort.Dimension (Some type.Tier)) tiers k f h = absurd (tier_no tiers k f h)
framed n None field_sort.Group tiers k f h = absurd (plain_no k f h)
framed n None (field_sort.Measure o) tiers k f h = absurd (plain_no k f h)

framed_if : (n : ℕ) (frame : Option Frame) (o : Option DeclaredField) (k : ℕ) (f : Frame) → shape_if n frame o ≡ shape.Frame k f → (n ≡ k) × (is_some frame ≡ true)
framed_if n frame None k f h = absurd (plain_no k f h)
framed_if n frame (Some field) k f h = framed n frame field.sort field.tiers k f h

same_place : (p q : Place) → Some p ≡ Some q → p ≡ q
same_place p q h = cc

-- ---- the fields of an explore

module _ (schema : Schema) (views : List DeclaredView) (scope : Scope) (columns : ColumnKinds) where
  pub one_group : (d e : NamedDimension) → IsMade views scope d → IsMade views scope e
      → AreOfOneGroup (field_with schema views scope columns d) (field_with schema views scope columns e)
  one_group d e is_d is_e =
      let f = field_with schema views scope columns d in
      let g = field_with schema views scope columns e in
      grouped f g f.shape g.shape (λ k a b of_d of_e.
      let number_d = framed_if (group_number (groups views scope) d.found.place) d.found.frame (field_at views scope d.found.place) k a of_d in
      let number_e = framed_if (group_number (groups views scope) e.found.place) e.found.frame (field_at views scope e.found.place) k b of_e in
      let at_d = group_numbered views scope d.found.place is_d.there (is_d.grouped number_d.1) in
      let at_e = group_numbered views scope e.found.place is_e.there (is_e.grouped number_e.1) in
      let same : d.found.place ≡ e.found.place =
      same_place d.found.place e.found.place (sym at_d ∙ ap (λ n. slice_get (groups views scope) n) (number_d.0 ∙ sym number_e.0) ∙ at_e) in
      (ap (λ place. place.part) same, ap (field_formula schema views scope columns) same))

  -- all of them
  pub fields_grouped : AllByRecursion (λ f. AllByRecursion (AreOfOneGroup f) (fields schema views scope columns)) (fields schema views scope columns)
  fields_grouped =
      let made = dimensions_made views scope in
      all_map (λ f. AllByRecursion (AreOfOneGroup f) (fields schema views scope columns)) (IsMade views scope) (field_with schema views scope columns)
      (λ d is. all_map (AreOfOneGroup (field_with schema views scope columns d)) (IsMade views scope) (field_with schema views scope columns) (λ e other. one_group d e is other) (dimensions views scope) made)
      (dimensions views scope) made
