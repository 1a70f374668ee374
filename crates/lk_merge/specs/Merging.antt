-- A project's effective objects, or its first fault of merging. (lookd)
use Rattle.std.specs.Prelude.{◌≡◌, length, Option, Some, None, Result, Ok, Err}
use Rattle.lk_val.specs.declared.fault.ModelFault.{ModelFault}
use Rattle.lk_val.specs.declared.fault.ModelFault.TheVariants.{Fault, NoMemory}
use Rattle.lk_val.specs.declared.fault.FaultLine.{FaultLine}
use Rattle.lk_overlay.specs.declared.kind.Kind.TheVariants as kind
use Rattle.lk_merge.specs.declared.project.Merged.{Merged}
use Rattle.lk_include.specs.declared.project.Project.{Project}
use Rattle.lk_merge.specs.Declarations.{declarations}
use Rattle.lk_merge.specs.Objects.{objects}
use Rattle.lk_merge.specs.MergeFaults.{merge_fault}
use Rattle.lk_merge.specs.Strays.{stray_of}

-- the effective objects of a project
abbrev pub merged_of : Project → Merged
merged_of project =
    let all = declarations project.trees in
    record {
      views = objects all kind.View;
      explores = objects all kind.Explore;
      datagroups = objects all kind.Datagroup;
      files = length project.trees;
      stray = stray_of project.trees;
    }

-- the first fault of merging
abbrev pub fault_of : Project → Option FaultLine
fault_of project = merge_fault (declarations project.trees)

-- a call that tests something answers its first fault, unless memory ran out
abbrev pub IsTested : {A : Type 0} → Result A ModelFault → Option FaultLine → Type 0
IsTested (Ok value) fault = fault ≡ None
IsTested (Err (Fault line)) fault = fault ≡ Some line
IsTested (Err NoMemory) fault = Unit {0}
