-- The faults of the fields of a view: a name that two of them make, and then those of each field by name. (lookd)
use Rattle.std.specs.Prelude.{ℕ, List, [], ◌∷◌, ◌++◌, Option, Some, None, codes}
use Rattle.std.specs.List.{flat_map}
use Rattle.std.specs.Option.{option_or}
use Rattle.lk_val.specs.declared.fault.FaultLine.{FaultLine}
use Rattle.lk_types.specs.declared.schema.Schema.{Schema}
use Rattle.lk_objects.specs.declared.field.DeclaredField.{DeclaredField}
use Rattle.lk_objects.specs.declared.view.DeclaredView.{DeclaredView}
use Rattle.lk_params.specs.declared.finding.Finding.{Finding}
use Rattle.lk_params.specs.declared.number.Number.{Number}
use Rattle.lk_params.specs.declared.number.Order.TheVariants as order
use Rattle.lk_params.specs.Findings.{finding}
use Rattle.lk_fields.specs.declared.scope.Place.{Place}
use Rattle.lk_fields.specs.declared.scope.Scope.{Scope}
use Rattle.lk_fields.specs.Existing.{all_places, field_at, fields_at}
use Rattle.lk_formulas.specs.declared.columns.ColumnKinds.{ColumnKinds}
use Rattle.lk_scope.specs.Pieces.{first_at, line_with}
use Rattle.lk_scope.specs.Scopes.{full_name, part_name}
use Rattle.lk_field_faults.specs.Expressions.{expression_line, expression_number}
use Rattle.lk_field_faults.specs.FieldNames.{code_findings, filter_findings}
use Rattle.lk_field_faults.specs.MadeNames.{twice_line}

-- the fault of an expression, at the field's `sql`
abbrev pub expression_findings : List ℕ → Option Number → List Finding
expression_findings object None = []
expression_findings object (Some number) = finding order.Field number (codes "sql") (expression_line object number) ∷ []

module _ (schema : Schema) (views : List DeclaredView) (scope : Scope) (columns : ColumnKinds) where
  -- what is found in a field beside the faults of its own parameters: names in its code and in its filters, and its expression
  abbrev pub field_findings : List ℕ → Place → DeclaredField → List Finding
  field_findings object place field =
      code_findings schema views scope object (codes "sql") place.part field.sql
      ++ code_findings schema views scope object (codes "sql_distinct_key") place.part field.key
      ++ flat_map (filter_findings views scope object place.part) field.filters
      ++ expression_findings object (expression_number schema views scope columns place field)

  abbrev pub line_of_field : Place → Option DeclaredField → Option FaultLine
  line_of_field place None = None
  line_of_field place (Some field) =
      line_with field.first (field_findings (full_name (part_name scope place.part) field.name) place field)

  -- the first fault of the field at a place, under the name `view.field`
  abbrev pub field_line : Place → Option FaultLine
  field_line place = line_of_field place (field_at views scope place)

  -- the first fault of the fields of a view, in the scope of that view alone
  abbrev pub view_fields_fault : Option FaultLine
  view_fields_fault = option_or (twice_line (part_name scope 0) (fields_at views scope 0)) (first_at field_line (all_places views scope))
