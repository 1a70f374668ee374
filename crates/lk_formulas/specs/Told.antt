-- When what is kept of fields tells all that a code refers to.
use Rattle.std.specs.Prelude.{◌≡◌, Bool, false, List, [], ◌∷◌, Option, Some, None}
use Rattle.std.specs.Option.{option_and_then}
use Rattle.lk_types.specs.Kinds.{every_kind}
use Rattle.lk_types.specs.declared.kind_set.KindSet.{KindSet}
use Rattle.lk_types.specs.declared.schema.Schema.{Schema}
use Rattle.lk_objects.specs.declared.code.Code.{Code}
use Rattle.lk_objects.specs.declared.code.Code.TheVariants as code
use Rattle.lk_objects.specs.declared.code.Reference.{Reference}
use Rattle.lk_objects.specs.declared.field.DeclaredField.{DeclaredField}
use Rattle.lk_objects.specs.declared.view.DeclaredView.{DeclaredView}
use Rattle.lk_fields.specs.declared.scope.Found.{Found}
use Rattle.lk_fields.specs.declared.scope.Place.{Place}
use Rattle.lk_fields.specs.declared.scope.Scope.{Scope}
use Rattle.lk_fields.specs.declared.scope.Sort.{Sort}
use Rattle.lk_fields.specs.declared.scope.Sort.TheVariants as sort
use Rattle.lk_fields.specs.declared.scope.Writer.{Writer}
use Rattle.lk_fields.specs.declared.scope.Writer.TheVariants as writer
use Rattle.lk_fields.specs.Rows.{number_of}
use Rattle.lk_formulas.specs.declared.columns.ColumnKinds.{ColumnKinds}
use Rattle.lk_formulas.specs.declared.columns.UnknownColumn.{UnknownColumn}
use Rattle.lk_formulas.specs.declared.resolved.ResolvedField.{ResolvedField}
use Rattle.lk_formulas.specs.Formulas.{field_named}
use Rattle.lk_formulas.specs.Referents.{field_numbered}
use Rattle.lk_formulas.specs.Resolved.{field_told}

-- what is kept of the field at a place
abbrev pub kept_at : List Place → List (Option ResolvedField) → Place → Option ResolvedField
kept_at places fields place = option_and_then (field_numbered fields) (number_of places place)

-- the kinds of a field that is kept, and every kind of one that is not
abbrev pub kinds_kept : Option ResolvedField → KindSet
kinds_kept None = every_kind
kinds_kept (Some field) = field.code.kinds

abbrev pub is_sure_kept : Option ResolvedField → Bool
is_sure_kept None = false
is_sure_kept (Some field) = field.code.is_certain

module _ (schema : Schema) (views : List DeclaredView) (scope : Scope) (columns : ColumnKinds) (u : UnknownColumn) (places : List Place) (fields : List (Option ResolvedField)) where
  -- what is kept of the field that a name means is what is told of it
  abbrev pub IsTold : Option Found → Type 0
  IsTold None = Unit {0}
  IsTold (Some found) = kept_at places fields found.place ≡ field_told schema views scope columns u found.place

  abbrev pub AreAllTold : Writer → Sort → List Reference → Type 0
  AreAllTold w s [] = Unit {0}
  AreAllTold w s (r ∷ rs) = IsTold (field_named views scope w s r) × AreAllTold w s rs

  -- all fields that a code refers to are told
  abbrev pub IsCodeTold : Writer → Code → Type 0
  IsCodeTold w (code.Expr written) = AreAllTold w sort.Dimension written.references
  IsCodeTold w (code.Number written) = AreAllTold w sort.Measure written.references
  IsCodeTold w c = Unit {0}

  -- all fields that the `sql` of a field of a part refers to are told
  abbrev pub IsFieldTold : Place → Option DeclaredField → Type 0
  IsFieldTold place None = Unit {0}
  IsFieldTold place (Some field) = IsCodeTold (writer.Field place.part) field.sql
