-- What a load answers of the files' content, and what a store hands over.
use Rattle.std.specs.Prelude.{◌≡◌, Result, Ok, Err}
use Rattle.lk_include.specs.declared.project.ProjectFault.{ProjectFault}
use Rattle.lk_include.specs.declared.project.ProjectFault.TheVariants.{Model, Failed, NoMemory}
use Rattle.lk_ledger.specs.declared.kept.Kept.{Kept}
use Rattle.lk_resolve.specs.declared.loading.Loaded.{Loaded}

-- a model with users, or a fault of the project: neither want of memory nor a failure of the files
abbrev pub IsTold : Result Loaded ProjectFault → Type 0
IsTold (Ok loaded) = Unit {0}
IsTold (Err (Model line)) = Unit {0}
IsTold (Err Failed) = ⊥
IsTold (Err NoMemory) = ⊥

-- at most one thing is handed over
abbrev pub SaysOne : (Kept → Type 0) → Type 0
SaysOne begins = (a b : Kept) → begins a → begins b → a ≡ b
