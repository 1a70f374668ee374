-- The faults of names in an explore's own expressions, in which names without a view and columns are the base view's. (Looker, LookML reference: sql_on, sql_always_where; lookd)
use Rattle.std.specs.Prelude.{ℕ, List, [], Option, Some, None, is_none}
use Rattle.std.specs.List.{flat_map}
use Rattle.lk_types.specs.declared.schema.Schema.{Schema}
use Rattle.lk_objects.specs.declared.code.Code.{Code}
use Rattle.lk_objects.specs.declared.code.Code.TheVariants as code
use Rattle.lk_objects.specs.declared.code.Reference.{Reference}
use Rattle.lk_objects.specs.declared.code.Reference.TheVariants as reference
use Rattle.lk_objects.specs.declared.view.DeclaredView.{DeclaredView}
use Rattle.lk_params.specs.declared.finding.Finding.{Finding}
use Rattle.lk_params.specs.declared.number.Order.TheVariants as order
use Rattle.lk_params.specs.declared.number.Number.TheVariants.{N3, N5}
use Rattle.lk_params.specs.Findings.{finding, named_line}
use Rattle.lk_params.specs.Known.{if_so}
use Rattle.lk_fields.specs.declared.scope.Found.{Found}
use Rattle.lk_fields.specs.declared.scope.Scope.{Scope}
use Rattle.lk_fields.specs.declared.scope.Sort.TheVariants as sort
use Rattle.lk_fields.specs.declared.scope.Writer.TheVariants as writer
use Rattle.lk_fields.specs.Scopes.{found_in}
use Rattle.lk_formulas.specs.Columns.{column_named}
use Rattle.lk_scope.specs.ExploreNames.{if_exists}
use Rattle.lk_scope.specs.Scopes.{full_name}

-- the dimension of the explore that a reference means
abbrev pub dimension_meant : List DeclaredView → Scope → Option (List ℕ) → List ℕ → Option Found
dimension_meant views scope view name = if_exists views scope (found_in views scope writer.Explore view name sort.Dimension)

module _ (schema : Schema) (views : List DeclaredView) (scope : Scope) where
  -- a name that means no dimension of the explore, or a column that the base view's table lacks, at a parameter of the object
  abbrev pub reference_findings : List ℕ → List ℕ → Reference → List Finding
  reference_findings object at (reference.Own name) =
      if_so (is_none (dimension_meant views scope None name)) (finding order.Object N3 at (named_line N3 object name))
  reference_findings object at (reference.Of view name) =
      if_so (is_none (dimension_meant views scope (Some view) name)) (finding order.Object N3 at (named_line N3 object (full_name view name)))
  reference_findings object at (reference.Column name) =
      if_so (is_none (column_named schema views scope 0 name)) (finding order.Object N5 at (named_line N5 object name))

  abbrev pub text_findings : List ℕ → List ℕ → Code → List Finding
  text_findings object at (code.Expr written) = flat_map (reference_findings object at) written.references
  text_findings object at c = []
