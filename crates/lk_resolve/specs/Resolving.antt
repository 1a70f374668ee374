-- The model of a project, or its first fault, given its effective objects. (Looker, LookML reference; lookd)
use Rattle.std.specs.Prelude.{◌≡◌, [], ◌∷◌, Option, Result, IfOk}
use Rattle.lk_val.specs.declared.fault.FaultLine.{FaultLine}
use Rattle.lk_val.specs.declared.fault.ModelFault.{ModelFault}
use Rattle.lk_types.specs.declared.model.Model.{Model}
use Rattle.lk_types.specs.declared.schema.Schema.{Schema}
use Rattle.lk_merge.specs.declared.project.Merged.{Merged}
use Rattle.lk_objects.specs.declared.view.Declared.{Declared}
use Rattle.lk_scope.specs.Pieces.{IsTested, first_of}
use Rattle.lk_model.specs.Counts.{counts_fault}
use Rattle.lk_model.specs.Faults.{objects_fault}
use Rattle.lk_model.specs.Models.{model_of}
use Rattle.lk_model.specs.ViewKinds.{kinds_of}
use Rattle.lk_model.specs.declared.view_kinds.ViewKinds.{ViewKinds}
use Rattle.lk_stored.specs.StoredFaults.{stored_fault}
use Rattle.lk_resolve.specs.Objects.{HasObjects}

-- given the kinds of the columns of the views' rows: the faults of the objects, and then those of the model that they give
abbrev pub later_fault : Schema → Declared → ViewKinds → Option FaultLine
later_fault schema declared kinds =
    first_of (objects_fault schema declared kinds ∷ stored_fault (model_of schema declared kinds) ∷ [])

-- what a file's own parameters show, then the counts, then the objects and the model
abbrev pub first_fault : Schema → Merged → Declared → Option FaultLine
first_fault schema merged declared = first_of
    (merged.stray
    ∷ counts_fault merged.files schema declared
    ∷ later_fault schema declared (kinds_of schema declared)
    ∷ [])

-- the model of what the objects say, or the first fault
pub record IsModelOf (schema : Schema) (merged : Merged) (declared : Declared) (result : Result Model ModelFault) : Type 0 where
  pub fault : IsTested result (first_fault schema merged declared)
  pub ok : IfOk result (λ model. model ≡ model_of schema declared (kinds_of schema declared))

-- the objects say something, of which this is the model or the first fault
pub record HasModel (schema : Schema) (merged : Merged) (result : Result Model ModelFault) : Type 0 where
  pub declared : Declared
  pub objects : HasObjects schema merged declared
  pub is_model : IsModelOf schema merged declared result
