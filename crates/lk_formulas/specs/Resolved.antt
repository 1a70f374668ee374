-- What is told of the formula of a field or of a code. (lookd)
use Rattle.std.specs.Prelude.{◌≡◌, ℕ, Bool, nat_lt, if◌then◌else◌, List, map, Option, Some, None}
use Rattle.lk_types.specs.Formula.{Formula}
use Rattle.lk_types.specs.declared.schema.Schema.{Schema}
use Rattle.lk_objects.specs.declared.code.Code.{Code}
use Rattle.lk_objects.specs.declared.view.DeclaredView.{DeclaredView}
use Rattle.lk_fields.specs.declared.scope.Place.{Place}
use Rattle.lk_fields.specs.declared.scope.Scope.{Scope}
use Rattle.lk_fields.specs.declared.scope.Writer.{Writer}
use Rattle.lk_fields.specs.Existing.{all_places}
use Rattle.lk_fields.specs.FieldSets.{IsSetOf}
use Rattle.lk_fields.specs.Substituted.{nodes_in, told_nodes}
use Rattle.lk_formulas.specs.declared.columns.ColumnKinds.{ColumnKinds}
use Rattle.lk_formulas.specs.declared.columns.UnknownColumn.{UnknownColumn}
use Rattle.lk_formulas.specs.declared.resolved.ResolvedCode.{ResolvedCode}
use Rattle.lk_formulas.specs.declared.resolved.ResolvedField.{ResolvedField}
use Rattle.lk_formulas.specs.declared.table.FieldTable.{FieldTable}
use Rattle.lk_formulas.specs.FormulaKinds.{kinds_in}
use Rattle.lk_formulas.specs.Formulas.{dated_in, dated_of, ends, formula_in, formula_of, is_certain, is_certain_in}
use Rattle.lk_formulas.specs.NumberSizes.{number_nodes, told}

-- the most nodes that an expression may have (lookd)
abbrev pub most_nodes : ℕ
most_nodes = 10000

-- a formula with its text literals read, where as it is written it has not too many nodes
abbrev pub kept : Formula → Formula → Option Formula
kept e read = if nat_lt most_nodes (nodes_in e) then None else Some read

-- what is told of a formula, given it as it is written and read, and whether all that stands in it is known
abbrev pub resolved : ColumnKinds → Formula → Formula → Bool → ResolvedCode
resolved columns e read certain = record { size = told_nodes e; kinds = kinds_in columns read; is_certain = certain; expr = kept e read }

module _ (schema : Schema) (views : List DeclaredView) (scope : Scope) (columns : ColumnKinds) (u : UnknownColumn) where
  -- of a field's `sql`
  abbrev pub resolved_field : Place → ResolvedCode
  resolved_field place = resolved columns (formula_of schema views scope columns u place) (dated_of schema views scope columns u place) (is_certain schema views scope columns u place)

  -- of a code that stands in the text of a field or in the explore's own
  abbrev pub resolved_in : Writer → Code → ResolvedCode
  resolved_in w c = resolved columns (formula_in schema views scope columns u w c) (dated_in schema views scope columns u w c) (is_certain_in schema views scope columns u w c)

  -- what is kept of a field
  abbrev pub field_kept : Place → ResolvedField
  field_kept place = record { code = resolved_field place; number_size = told (number_nodes views scope place) }

  -- nothing of one that reaches a cycle
  abbrev pub field_told : Place → Option ResolvedField
  field_told place = if ends views scope place then Some (field_kept place) else None

  -- what is told of the formula of a field, none where it reaches a cycle
  abbrev pub code_told : Place → Option ResolvedCode
  code_told place = if ends views scope place then Some (resolved_field place) else None

  -- the table was made of these
  pub record IsTableOf (table : FieldTable) : Type 0 where
    pub set_is : IsSetOf views scope table.set
    pub places_are : table.places ≡ all_places views scope
    pub fields_are : table.fields ≡ map field_told (all_places views scope)
