-- The fault of a field's expression, with the fields that it refers to put in: a cycle, too many nodes, or a clash of kinds. (Looker, LookML reference: substitution operators, type; lookd)
use Rattle.std.specs.Prelude.{ℕ, Bool, false, ◌||◌, nat_lt, List, [], Option, Some, None, codes, if◌then◌else◌}
use Rattle.lk_val.specs.declared.fault.FaultLine.{FaultLine}
use Rattle.lk_types.specs.declared.schema.Schema.{Schema}
use Rattle.lk_objects.specs.declared.code.Code.{Code}
use Rattle.lk_objects.specs.declared.code.Code.TheVariants as code
use Rattle.lk_objects.specs.declared.field.DeclaredField.{DeclaredField}
use Rattle.lk_objects.specs.declared.view.DeclaredView.{DeclaredView}
use Rattle.lk_params.specs.declared.number.Number.{Number}
use Rattle.lk_params.specs.declared.number.Number.TheVariants.{N7, N15, E3}
use Rattle.lk_params.specs.Findings.{named_line}
use Rattle.lk_fields.specs.declared.scope.Place.{Place}
use Rattle.lk_fields.specs.declared.scope.Scope.{Scope}
use Rattle.lk_fields.specs.declared.scope.Writer.TheVariants as writer
use Rattle.lk_fields.specs.Existing.{is_on_cycle}
use Rattle.lk_formulas.specs.declared.columns.ColumnKinds.{ColumnKinds}
use Rattle.lk_formulas.specs.declared.columns.UnknownColumn.TheVariants as unknown_column
use Rattle.lk_formulas.specs.declared.resolved.ResolvedCode.{ResolvedCode}
use Rattle.lk_formulas.specs.FieldKinds.{field_clashes}
use Rattle.lk_formulas.specs.NumberSizes.{number_nodes, told}
use Rattle.lk_formulas.specs.Resolved.{code_told, most_nodes, resolved_in}

-- more nodes than an expression may have
abbrev pub is_over : ℕ → Bool
is_over nodes = nat_lt most_nodes nodes

module _ (schema : Schema) (views : List DeclaredView) (scope : Scope) (columns : ColumnKinds) where
  -- a `sql_distinct_key` of too many nodes; one that is no expression has another fault
  abbrev pub is_key_over : ℕ → Code → Bool
  is_key_over part (code.Expr written) = is_over (resolved_in schema views scope columns unknown_column.Null (writer.Field part) (code.Expr written)).size
  is_key_over part c = false

  -- too many nodes, given those of the field's formula: in that, in a measure of type number with those that it takes put
  -- in, or in the key
  abbrev pub is_large : Place → DeclaredField → ℕ → Bool
  is_large place field size =
      is_over size || is_over (told (number_nodes views scope place)) || is_key_over place.part field.key

  -- of a field that reaches no cycle, by the nodes of its formula: too many of them, or else a clash of kinds
  abbrev pub number_of_formula : Place → DeclaredField → ℕ → Option Number
  number_of_formula place field size =
      if is_large place field size then Some N15
      else if field_clashes schema views scope columns unknown_column.Null place field then Some E3
      else None

  -- the number of the first fault of a field's expression, given its formula; of a field without one, a cycle on which it
  -- stands
  abbrev pub number_with : Place → DeclaredField → Option ResolvedCode → Option Number
  number_with place field None = if is_on_cycle views scope place then Some N7 else None
  number_with place field (Some formula) = number_of_formula place field formula.size

  abbrev pub expression_number : Place → DeclaredField → Option Number
  expression_number place field = number_with place field (code_told schema views scope columns unknown_column.Null place)

-- its line: a limit has a name, and what is not the field's
abbrev pub expression_line : List ℕ → Number → FaultLine
expression_line object N15 = named_line N15 (codes "nodes") []
expression_line object number = named_line number object []
