-- What files are loaded as, where neither memory is wanting nor a call of the files fails.
use Rattle.std.specs.Prelude.{◌≡◌, List, Result, Ok, Err}
use Rattle.lk_io.specs.declared.files.File.{File}
use Rattle.lk_include.specs.declared.project.ProjectFault.{ProjectFault}
use Rattle.lk_include.specs.declared.project.ProjectFault.TheVariants.{Model, Failed, NoMemory}
use Rattle.lk_ledger.specs.declared.kept.Kept.{Kept}
use Rattle.lk_resolve.specs.Loading.{IsLoadOf}
use Rattle.lk_resolve.specs.declared.loading.Loaded.{Loaded}

-- a model with users, or a fault of the project: neither want of memory nor a failure of the files
abbrev pub IsTold : Result Loaded ProjectFault → Type 0
IsTold (Ok loaded) = Unit {0}
IsTold (Err (Model line)) = Unit {0}
IsTold (Err Failed) = ⊥
IsTold (Err NoMemory) = ⊥

-- the files are loaded as a model with users, or have this first fault
pub record IsLoadTold (files : List File) (result : Result Loaded ProjectFault) : Type 0 where
  pub is_load : IsLoadOf files result
  pub told : IsTold result

-- a store hands over what it keeps
abbrev pub IsHanded : Kept → Kept → Type 0
IsHanded kept handed = handed ≡ kept
