-- The faults that fields have only in an explore, where their text may name other views. (lookd)
use Rattle.std.specs.Prelude.{ℕ, List, Option, Some, None, if◌then◌else◌}
use Rattle.std.specs.Option.{option_map, option_or}
use Rattle.lk_val.specs.declared.fault.FaultLine.{FaultLine}
use Rattle.lk_types.specs.declared.schema.Schema.{Schema}
use Rattle.lk_objects.specs.declared.field.DeclaredField.{DeclaredField}
use Rattle.lk_objects.specs.declared.filter_text.FilterText.{FilterText}
use Rattle.lk_objects.specs.declared.view.DeclaredView.{DeclaredView}
use Rattle.lk_params.specs.declared.number.Number.TheVariants.{F1}
use Rattle.lk_params.specs.Findings.{placed_line}
use Rattle.lk_fields.specs.declared.scope.Found.{Found}
use Rattle.lk_fields.specs.declared.scope.Place.{Place}
use Rattle.lk_fields.specs.declared.scope.Scope.{Scope}
use Rattle.lk_fields.specs.declared.scope.Sort.TheVariants as sort
use Rattle.lk_fields.specs.declared.scope.Writer.TheVariants as writer
use Rattle.lk_fields.specs.Existing.{exists, field_at}
use Rattle.lk_fields.specs.Scopes.{found_by}
use Rattle.lk_formulas.specs.declared.columns.ColumnKinds.{ColumnKinds}
use Rattle.lk_scope.specs.Order.{places_by_name}
use Rattle.lk_scope.specs.Pieces.{first_at}
use Rattle.lk_scope.specs.Readings.{place_in, reading_of}
use Rattle.lk_scope.specs.Scopes.{full_name, part_name}
use Rattle.lk_field_faults.specs.Expressions.{expression_line, expression_number}

module _ (views : List DeclaredView) (scope : Scope) where
  abbrev pub misread_with : List ℕ → FilterText → Option Found → Option FaultLine
  misread_with object f None = None
  misread_with object f (Some found) = option_map (λ place. placed_line F1 place object) (place_in (reading_of views scope f found))

  -- a measure's filter that is no filter of the kind of the field that it names
  abbrev pub misread_line : List ℕ → ℕ → FilterText → Option FaultLine
  misread_line object part f = misread_with object f (found_by views scope (writer.Field part) f.name sort.Dimension)

module _ (schema : Schema) (views : List DeclaredView) (scope : Scope) (columns : ColumnKinds) where
  -- a filter that is none, and else the fault of the expression
  abbrev pub line_of_existing : List ℕ → Place → DeclaredField → Option FaultLine
  line_of_existing object place field = option_or (first_at (misread_line views scope object place.part) field.filters)
      (option_map (expression_line object) (expression_number schema views scope columns place field))

  -- only a field of the explore has faults there
  abbrev pub line_at : Place → Option DeclaredField → Option FaultLine
  line_at place None = None
  line_at place (Some field) =
      if exists views scope place then line_of_existing (full_name (part_name scope place.part) field.name) place field else None

  -- the first fault of the field at a place, under the name `part.field`
  abbrev pub explore_field_line : Place → Option FaultLine
  explore_field_line place = line_at place (field_at views scope place)

  -- the first fault of an explore's fields by name
  abbrev pub explore_fields_fault : Option FaultLine
  explore_fields_fault = first_at explore_field_line (places_by_name views scope)
