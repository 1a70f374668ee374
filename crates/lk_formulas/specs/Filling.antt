-- How fields are resolved round by round: each once all that it refers to is resolved.
use Rattle.std.specs.Prelude.{◌≡◌, ℕ, suc, Bool, true, false, not, ◌&&◌, List, [], ◌∷◌, Option, Some, None, is_some}
use Rattle.std.specs.List.{list_all}
use Rattle.lk_types.specs.declared.schema.Schema.{Schema}
use Rattle.lk_objects.specs.declared.view.DeclaredView.{DeclaredView}
use Rattle.lk_fields.specs.declared.rows.Row.{Row}
use Rattle.lk_fields.specs.declared.rows.Rule.TheVariants.{Ends}
use Rattle.lk_fields.specs.declared.scope.Place.{Place}
use Rattle.lk_fields.specs.declared.scope.Scope.{Scope}
use Rattle.lk_fields.specs.Rows.{is_marked, marks_after}
use Rattle.lk_formulas.specs.declared.columns.ColumnKinds.{ColumnKinds}
use Rattle.lk_formulas.specs.declared.columns.UnknownColumn.{UnknownColumn}
use Rattle.lk_formulas.specs.declared.resolved.ResolvedField.{ResolvedField}
use Rattle.lk_formulas.specs.Referents.{field_numbered}
use Rattle.lk_formulas.specs.Resolved.{field_told}

-- the field of a number is kept
abbrev pub is_kept : List (Option ResolvedField) → ℕ → Bool
is_kept fields number = is_some (field_numbered fields number)

-- all that a field refers to is kept
abbrev pub is_ready : List (Option ResolvedField) → Row → Bool
is_ready fields row = not row.lacks && list_all (is_kept fields) row.names

-- it is kept after the next step
abbrev pub is_due : List (Option ResolvedField) → ℕ → Row → Bool
is_due fields number row = not (is_kept fields number) && is_ready fields row

-- each field that is marked is kept
abbrev pub Covers : List Bool → List (Option ResolvedField) → Type 0
Covers marks fields = (i : ℕ) → is_marked marks i ≡ true → is_kept fields i ≡ true

module _ (schema : Schema) (views : List DeclaredView) (scope : Scope) (columns : ColumnKinds) (u : UnknownColumn) where
  -- what is kept of a field is what is told of it
  abbrev pub IsRight : Place → Option ResolvedField → Type 0
  IsRight place None = Unit {0}
  IsRight place (Some field) = Some field ≡ field_told schema views scope columns u place

  abbrev pub AreRight : List Place → List (Option ResolvedField) → Type 0
  AreRight [] [] = Unit {0}
  AreRight (place ∷ places) (field ∷ fields) = IsRight place field × AreRight places fields
  AreRight places fields = ⊥

  -- one step, at the field of a number
  pub record IsStep (places : List Place) (number : ℕ) (row : Row) (old new : List (Option ResolvedField)) (has_grown : Bool) : Type 0 where
    pub right : AreRight places new
    pub stays : (i : ℕ) → is_kept old i ≡ true → is_kept new i ≡ true
    pub taken : is_ready old row ≡ true → is_kept new number ≡ true
    pub same : has_grown ≡ false → new ≡ old

  -- one round, over all fields
  pub record IsRound (places : List Place) (rows : List Row) (old new : List (Option ResolvedField)) (has_grown : Bool) : Type 0 where
    pub right : AreRight places new
    pub covers : (k : ℕ) → Covers (marks_after Ends k rows) old → Covers (marks_after Ends (suc k) rows) new
    pub same : has_grown ≡ false → new ≡ old
