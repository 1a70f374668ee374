-- In an explore without a fault no field stands on a cycle, and so the references of each end.
use Rattle.std.proofs.Common.{◌≡◌, ◌∙◌, Bool, true, false, List, [], ◌∷◌, refl, ap, sym, subst, ⊎_elim, Some, None}
use Rattle.std.specs.Prelude.{if◌then◌else◌}
use Rattle.std.specs.List.{AllByRecursion}
use Rattle.std.specs.Option.{option_map}
use Rattle.std.proofs.lemmas.Bool.{false≢true}
use Rattle.lk_val.specs.Least.{is_in}
use Rattle.lk_types.specs.declared.schema.Schema.{Schema}
use Rattle.lk_params.specs.declared.number.Number.TheVariants.{N7}
use Rattle.lk_objects.specs.declared.field.DeclaredField.{DeclaredField}
use Rattle.lk_objects.specs.declared.view.DeclaredView.{DeclaredView}
use Rattle.lk_fields.specs.declared.scope.Place.{Place}
use Rattle.lk_fields.specs.declared.scope.Scope.{Scope}
use Rattle.lk_fields.specs.Existing.{all_places, exists, field_at, is_on_cycle, is_same_place}
use Rattle.lk_fields.proofs.LostLaws.{same_exact}
use Rattle.lk_formulas.specs.declared.columns.ColumnKinds.{ColumnKinds}
use Rattle.lk_formulas.specs.declared.columns.UnknownColumn.TheVariants as unknown_column
use Rattle.lk_formulas.specs.Formulas.{ends}
use Rattle.lk_formulas.specs.Resolved.{resolved_field}
use Rattle.lk_scope.specs.Order.{places_by_name}
use Rattle.lk_scope.specs.Pieces.{first_at}
use Rattle.lk_scope.specs.Scopes.{full_name, part_name}
use Rattle.lk_field_faults.specs.ExploreFields.{explore_field_line, explore_fields_fault, line_at, line_of_existing, misread_line}
use Rattle.lk_field_faults.specs.Expressions.{expression_line, expression_number, number_with}
use Rattle.lk_semantics.proofs.EveryLaws.{first}
use Rattle.lk_model_laws.proofs.EndLaws.{all_end}
use Rattle.lk_model_laws.proofs.ExistingLaws.{field_there}
use Rattle.lk_model_laws.proofs.PieceLaws.{none_at, none_map, none_right, some_none}
use Rattle.lk_model_laws.proofs.PlaceLaws.{by_name_there, one_of}

-- what holds of each place of a list holds of one that stands in it
pub place_in : (P : Place → Type 0) (places : List Place) (place : Place) → AllByRecursion P places → is_in is_same_place place places ≡ true → P place
place_in P [] place each inside = absurd (false≢true inside)
place_in P (p ∷ places) place each inside =
    ⊎_elim (λ here. subst P (sym (same_exact place p here)) each.0) (λ later. place_in P places place each.1 later)
    (one_of (is_same_place place p) (is_in is_same_place place places) inside)

module _ (schema : Schema) (views : List DeclaredView) (scope : Scope) (columns : ColumnKinds) (none : explore_fields_fault schema views scope columns ≡ None) where
  field_clear : (place : Place) → exists views scope place ≡ true → explore_field_line schema views scope columns place ≡ None
  field_clear place there =
      place_in (λ p. explore_field_line schema views scope columns p ≡ None) (places_by_name views scope) place
      (none_at (explore_field_line schema views scope columns) (places_by_name views scope) none)
      (by_name_there views scope place (inside place there))
    where
      inside : (p : Place) → exists views scope p ≡ true → is_in is_same_place p (all_places views scope) ≡ true
      inside p h = first (is_in is_same_place p (all_places views scope)) _ h

  -- a field of the explore has no fault
  pub existing_clear : (place : Place) (field : DeclaredField) → field_at views scope place ≡ Some field → exists views scope place ≡ true
      → line_of_existing schema views scope columns (full_name (part_name scope place.part) field.name) place field ≡ None
  existing_clear place field at there =
      let line : line_at schema views scope columns place (Some field) ≡ None = ap (line_at schema views scope columns place) (sym at) ∙ field_clear place there in
      ap (λ b. if b then line_of_existing schema views scope columns (full_name (part_name scope place.part) field.name) place field else None) (sym there) ∙ line

  -- nor has its expression
  pub expression_clear : (place : Place) (field : DeclaredField) → field_at views scope place ≡ Some field → exists views scope place ≡ true → expression_number schema views scope columns place field ≡ None
  expression_clear place field at there =
      let object = full_name (part_name scope place.part) field.name in
      none_map (expression_line object) (expression_number schema views scope columns place field)
      (none_right (first_at (misread_line views scope object place.part) field.filters) (option_map (expression_line object) (expression_number schema views scope columns place field)) (existing_clear place field at there))

  off_cycle : (place : Place) → exists views scope place ≡ true → ends views scope place ≡ false → is_on_cycle views scope place ≡ false
  off_cycle place there endless =
      let at = field_there views scope place there in
      let number : (if is_on_cycle views scope place then Some N7 else None) ≡ None =
      ap (λ b. number_with schema views scope columns place at.0 (if b then Some (resolved_field schema views scope columns unknown_column.Null place) else None)) (sym endless)
      ∙ expression_clear place at.0 at.1 there in
      decided (is_on_cycle views scope place) number
    where
      decided : (b : Bool) → (if b then Some N7 else None) ≡ None → b ≡ false
      decided true h = absurd (some_none h)
      decided false h = refl

  -- the references of each of its fields end
  pub fields_end : (place : Place) → exists views scope place ≡ true → ends views scope place ≡ true
  fields_end place there = all_end views scope off_cycle place there
