-- The faults of the names in a field's text, in its own view. (Looker, LookML reference: substitution operators, filters; lookd)
use Rattle.std.specs.Prelude.{ℕ, Bool, true, List, [], ◌∷◌, Option, Some, None, is_none, codes, if◌then◌else◌}
use Rattle.std.specs.List.{flat_map}
use Rattle.lk_types.specs.declared.schema.Schema.{Schema}
use Rattle.lk_objects.specs.declared.code.Code.{Code}
use Rattle.lk_objects.specs.declared.code.Code.TheVariants as code
use Rattle.lk_objects.specs.declared.code.Reference.{Reference}
use Rattle.lk_objects.specs.declared.code.Reference.TheVariants as reference
use Rattle.lk_objects.specs.declared.filter_text.FilterText.{FilterText}
use Rattle.lk_objects.specs.declared.view.DeclaredView.{DeclaredView}
use Rattle.lk_params.specs.declared.finding.Finding.{Finding}
use Rattle.lk_params.specs.declared.number.Order.TheVariants as order
use Rattle.lk_params.specs.declared.number.Number.TheVariants.{N3, N5, F1}
use Rattle.lk_params.specs.Findings.{finding, named_line, placed_line}
use Rattle.lk_params.specs.Known.{if_so}
use Rattle.lk_fields.specs.declared.scope.Found.{Found}
use Rattle.lk_fields.specs.declared.scope.Scope.{Scope}
use Rattle.lk_fields.specs.declared.scope.Sort.{Sort}
use Rattle.lk_fields.specs.declared.scope.Sort.TheVariants as sort
use Rattle.lk_fields.specs.declared.scope.Writer.TheVariants as writer
use Rattle.lk_fields.specs.Scopes.{found_by, found_in, is_called, split_name, view_at}
use Rattle.lk_formulas.specs.Columns.{column_named}
use Rattle.lk_scope.specs.Readings.{place_in, reading_of}

-- ---- code, at a parameter of the field

module _ (schema : Schema) (views : List DeclaredView) (scope : Scope) where
  -- a name without a view that means no field of the field's own view of the sort that its place needs, or a column that the
  -- view's table lacks; what names another view may be there in an explore
  abbrev pub reference_findings : List ℕ → List ℕ → ℕ → Sort → Reference → List Finding
  reference_findings object at part s (reference.Own name) =
      if_so (is_none (found_in views scope (writer.Field part) None name s)) (finding order.Field N3 at (named_line N3 object name))
  reference_findings object at part s (reference.Of view name) = []
  reference_findings object at part s (reference.Column name) =
      if_so (is_none (column_named schema views scope part name)) (finding order.Field N5 at (named_line N5 object name))

  -- an expression names dimensions, and that of a measure of type number measures
  abbrev pub code_findings : List ℕ → List ℕ → ℕ → Code → List Finding
  code_findings object at part (code.Expr written) = flat_map (reference_findings object at part sort.Dimension) written.references
  code_findings object at part (code.Number written) = flat_map (reference_findings object at part sort.Measure) written.references
  code_findings object at part c = []

-- ---- the filters of a measure

-- the place of the fault in a text that is no filter
abbrev pub misread : List ℕ → Option ℕ → List Finding
misread object None = []
misread object (Some place) = finding order.Field F1 (codes "filters") (placed_line F1 place object) ∷ []

module _ (views : List DeclaredView) (scope : Scope) where
  -- a name without a view, or with the declared name of the part's own view
  abbrev pub is_own : ℕ → Option (List ℕ) → Bool
  is_own part None = true
  is_own part (Some name) = is_called name (view_at views scope part)

  -- a filter, and the field that its name means
  abbrev pub filter_findings_at : List ℕ → FilterText → Option Found → List Finding
  filter_findings_at object f None = finding order.Field N3 (codes "filters") (named_line N3 object f.name) ∷ []
  filter_findings_at object f (Some found) = misread object (place_in (reading_of views scope f found))

  -- a filter on a field of the measure's own view: a name of no dimension, or a text that is no filter of the field's kind
  abbrev pub filter_findings : List ℕ → ℕ → FilterText → List Finding
  filter_findings object part f =
      if is_own part ((split_name f.name).0)
      then filter_findings_at object f (found_by views scope (writer.Field part) f.name sort.Dimension)
      else []
