-- The first fault of the objects of a project, one object after another. (lookd)
use Rattle.std.specs.Prelude.{ℕ, [], ◌∷◌, Option}
use Rattle.std.specs.Option.{option_or}
use Rattle.lk_val.specs.declared.fault.FaultLine.{FaultLine}
use Rattle.lk_types.specs.declared.schema.Schema.{Schema}
use Rattle.lk_objects.specs.declared.datagroup.DeclaredDatagroup.{DeclaredDatagroup}
use Rattle.lk_objects.specs.declared.explore.DeclaredExplore.{DeclaredExplore}
use Rattle.lk_objects.specs.declared.view.Declared.{Declared}
use Rattle.lk_objects.specs.declared.view.DeclaredView.{DeclaredView}
use Rattle.lk_fields.specs.declared.scope.Scope.{Scope}
use Rattle.lk_scope.specs.Pieces.{first_along, first_at, first_of, line_with}
use Rattle.lk_scope.specs.Scopes.{alone, scope_of}
use Rattle.lk_field_faults.specs.FieldFaults.{view_fields_fault}
use Rattle.lk_explore_faults.specs.ExploreFaults.{explore_fault}
use Rattle.lk_explore_faults.specs.ViewFaults.{view_fault}
use Rattle.lk_model.specs.ViewKinds.{columns_in}
use Rattle.lk_model.specs.declared.view_kinds.ViewKinds.{ViewKinds}

-- a datagroup names no other object, so its own parameters alone have faults
abbrev pub datagroup_line : DeclaredDatagroup → Option FaultLine
datagroup_line g = line_with g.first []

-- given the kinds of the columns of the views' rows
module _ (schema : Schema) (declared : Declared) (kinds : ViewKinds) where
  abbrev pub fields_line_in : Scope → Option FaultLine
  fields_line_in scope = view_fields_fault schema declared.views scope (columns_in kinds scope)

  -- the view of a number: what it has itself and names, and then its fields, in which no other view's name means anything
  abbrev pub view_line : ℕ → DeclaredView → Option FaultLine
  view_line number view = option_or (view_fault declared view) (fields_line_in (alone number view))

  unfoldable pub explore_line_in : DeclaredExplore → Scope → Option FaultLine
  explore_line_in x scope = explore_fault schema declared.views scope (columns_in kinds scope) declared.datagroups x

  unfoldable pub explore_line : DeclaredExplore → Option FaultLine
  explore_line x = explore_line_in x (scope_of declared.views x)

  -- the views by name, the datagroups by name, the explores by name: as the declared objects stand
  abbrev pub objects_fault : Option FaultLine
  objects_fault = first_of
      (first_along view_line 0 declared.views
      ∷ first_at datagroup_line declared.datagroups
      ∷ first_at explore_line declared.explores
      ∷ [])
