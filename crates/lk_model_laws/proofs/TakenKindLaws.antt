-- The kind that a column of a derived table takes is known, and that of its field in the model, where the kinds are known of all columns that the field's formula mentions.
use Rattle.std.proofs.Common.{◌≡◌, ◌∙◌, ℕ, Bool, true, false, List, refl, ap, Option, Some, None}
use Rattle.std.specs.Prelude.{if◌then◌else◌}
use Rattle.std.specs.Option.{option_or}
use Rattle.lk_types.specs.Kinds.{every_kind, is_empty, single}
use Rattle.lk_types.specs.declared.kind_set.KindSet.{KindSet}
use Rattle.lk_types.specs.declared.schema.Kind.{Kind}
use Rattle.lk_types.specs.declared.schema.Kind.TheVariants as kind
use Rattle.lk_types.specs.declared.schema.Schema.{Schema}
use Rattle.lk_objects.specs.declared.field.DeclaredField.{DeclaredField}
use Rattle.lk_objects.specs.declared.view.DeclaredView.{DeclaredView}
use Rattle.lk_fields.specs.declared.scope.Place.{Place}
use Rattle.lk_fields.specs.declared.scope.Scope.{Scope}
use Rattle.lk_fields.specs.Existing.{field_at}
use Rattle.lk_formulas.specs.declared.columns.ColumnKinds.{ColumnKinds}
use Rattle.lk_formulas.specs.declared.columns.UnknownColumn.TheVariants.{Kept, Null}
use Rattle.lk_formulas.specs.Columns.{known_kind}
use Rattle.lk_formulas.specs.FieldKinds.{extreme_kind, field_kinds, group_kind, is_sure, single_time, time_kind, value_kind}
use Rattle.lk_formulas.specs.FormulaKinds.{kinds_in}
use Rattle.lk_formulas.specs.Formulas.{dated_of, ends, is_certain}
use Rattle.lk_semantics.proofs.EveryLaws.{both}
use Rattle.lk_model_laws.proofs.DependLaws.{HasKnown, IsShownCode, certain_of, same_dated_of, same_kinds_in}
use Rattle.lk_model_laws.proofs.MentionedLaws.{IsOver}

some_or : (o : Option Kind) (k : Kind) → (j : Kind) × (option_or o (Some k) ≡ Some j)
some_or None k = (k, refl)
some_or (Some j) k = (j, refl)

module _ (schema : Schema) (views : List DeclaredView) (scope : Scope) (t : ℕ → Bool)
    (shown : (place : Place) (field : DeclaredField) → field_at views scope place ≡ Some field → IsShownCode field.sql)
    (j k : ColumnKinds) (same : (p c : ℕ) → t p ≡ true → known_kind j p c ≡ known_kind k p c) (known : HasKnown schema views scope t shown k)
    (all : ColumnKinds) (place : Place) (end : ends views scope place ≡ true) (over : IsOver t (dated_of schema views scope k Kept place)) where
  -- the kinds of the field's expression in the model
  abbrev pub kinds_kept : KindSet
  kinds_kept = kinds_in k (dated_of schema views scope k Kept place)

  itself : (p c : ℕ) → t p ≡ true → known_kind k p c ≡ known_kind k p c
  itself p c h = refl

  -- those that are tested
  pub tested_kinds : kinds_in k (dated_of schema views scope k Null place) ≡ kinds_kept
  tested_kinds = ap (kinds_in k) (same_dated_of schema views scope t shown k k Null itself known place over)

  first_kinds : field_kinds schema views scope j Null place ≡ kinds_kept
  first_kinds =
      ap (λ b. if b then kinds_in j (dated_of schema views scope j Null place) else every_kind) end
      ∙ ap (kinds_in j) (same_dated_of schema views scope t shown j k Null same known place over)
      ∙ same_kinds_in schema views scope t shown j k Null same known (dated_of schema views scope k Kept place) over

  last_kinds : field_kinds schema views scope k Kept place ≡ kinds_kept
  last_kinds = ap (λ b. if b then kinds_kept else every_kind) end

  module _ (certain : is_certain schema views scope all Kept place ≡ true) (some : is_empty kinds_kept ≡ false) where
    first_sure : is_sure schema views scope j Null place ≡ true
    first_sure = both (ends views scope place) (is_certain schema views scope j Null place) end (certain_of schema views scope t shown j k Null same known all Kept place over certain)

    last_sure : is_sure schema views scope k Kept place ≡ true
    last_sure = both (ends views scope place) (is_certain schema views scope k Kept place) end (certain_of schema views scope t shown k k Kept itself known all Kept place over certain)

    -- of a time group
    pub group_taken : (kd : Kind) × (group_kind schema views scope j Null place ≡ Some kd) × (group_kind schema views scope k Kept place ≡ Some kd)
    group_taken =
        let found = some_or (single_time kinds_kept) kind.Moment in
        let time : time_kind kinds_kept true ≡ Some found.0 = ap (λ b. if b then None else option_or (single_time kinds_kept) (Some kind.Moment)) some ∙ found.1 in
        (found.0, (λ i. time_kind (first_kinds i) (first_sure i)) ∙ time, (λ i. time_kind (last_kinds i) (last_sure i)) ∙ time)

    -- of a least or greatest value
    pub extreme_taken : (kd : Kind) × (extreme_kind schema views scope j Null place ≡ Some kd) × (extreme_kind schema views scope k Kept place ≡ Some kd)
    extreme_taken =
        let found = some_or (single kinds_kept) kind.Text in
        let value : value_kind kinds_kept true ≡ Some found.0 = ap (λ b. if b then None else option_or (single kinds_kept) (Some kind.Text)) some ∙ found.1 in
        (found.0, (λ i. value_kind (first_kinds i) (first_sure i)) ∙ value, (λ i. value_kind (last_kinds i) (last_sure i)) ∙ value)
