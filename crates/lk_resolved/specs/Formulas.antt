-- The formulas of a resolved explore: over columns, of which one of unknown kind stays a column.
use Rattle.std.specs.Prelude.{ℕ, List, Option, Some, None}
use Rattle.std.specs.Option.{option_and_then}
use Rattle.lk_types.specs.Formula.{Formula}
use Rattle.lk_types.specs.declared.schema.Schema.{Schema}
use Rattle.lk_objects.specs.declared.code.Code.{Code}
use Rattle.lk_objects.specs.declared.view.DeclaredView.{DeclaredView}
use Rattle.lk_fields.specs.declared.scope.Place.{Place}
use Rattle.lk_fields.specs.declared.scope.Scope.{Scope}
use Rattle.lk_fields.specs.declared.scope.Writer.{Writer}
use Rattle.lk_formulas.specs.declared.columns.ColumnKinds.{ColumnKinds}
use Rattle.lk_formulas.specs.declared.columns.UnknownColumn.TheVariants as unknown_column
use Rattle.lk_formulas.specs.declared.resolved.ResolvedCode.{ResolvedCode}
use Rattle.lk_formulas.specs.Formulas.{null}
use Rattle.lk_formulas.specs.Resolved.{code_told, resolved_in}

-- what stands where there is no formula: of a field that reaches a cycle, and of one with too many nodes, which no project without a fault has
abbrev pub or_null : Option Formula → Formula
or_null None = null
or_null (Some e) = e

abbrev pub expr_in : Option ResolvedCode → Option Formula
expr_in None = None
expr_in (Some code) = code.expr

module _ (schema : Schema) (views : List DeclaredView) (scope : Scope) (columns : ColumnKinds) where
  -- the formula of the field at a place, of a dimension group without a timeframe
  abbrev pub field_formula : Place → Formula
  field_formula place = or_null (expr_in (code_told schema views scope columns unknown_column.Kept place))

  -- the formula of a code in the text of a field, or in the explore's own
  abbrev pub code_formula : Writer → Code → Formula
  code_formula w c = or_null (resolved_in schema views scope columns unknown_column.Kept w c).expr
