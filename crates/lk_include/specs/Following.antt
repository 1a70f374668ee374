-- What the steps of reading leave behind.
use Rattle.std.specs.Prelude.{◌≡◌, ℕ, List, [], ◌∷◌, Option, Some, None, Result, Ok, Err, ⊤}
use Rattle.lk_val.specs.declared.fault.FaultLine.{FaultLine}
use Rattle.lk_read.specs.declared.read_fault.ReadFault.{ReadFault}
use Rattle.lk_read.specs.declared.read_fault.ReadFault.TheVariants as refused
use Rattle.lk_io.specs.Folder.{paths_of}
use Rattle.lk_io.specs.declared.files.File.{File}
use Rattle.lk_include.specs.declared.listing.Listing.{Listing}
use Rattle.lk_include.specs.declared.project.ProjectFault.{ProjectFault}
use Rattle.lk_include.specs.declared.project.ProjectFault.TheVariants as fault
use Rattle.lk_include.specs.declared.reading.Reading.{Reading}
use Rattle.lk_include.specs.declared.reading.Task.{Task}
use Rattle.lk_include.specs.declared.reading.Task.TheVariants.{Read}
use Rattle.lk_include.specs.Gathering.{Progress, Pending, Outcome, stops, goes_on, lookml_paths, refused_line}

-- the listing is that of the files
pub record IsListing (listing : Listing) (files : List File) : Type 0 where
  pub paths : listing.paths ≡ paths_of files
  pub lookml : listing.lookml ≡ lookml_paths files

abbrev pub progress_of : Reading → Progress
progress_of reading = record { trees = reading.trees; left = reading.left; tasks = reading.tasks.items }

-- the answer is the outcome's fault, or of the outside
abbrev pub IsStopped : ProjectFault → Outcome → Type 0
IsStopped (fault.Model line) outcome = outcome ≡ stops line
IsStopped why outcome = ⊤

-- a call ends well with the outcome's progress, or answers its fault
abbrev pub IsStep : {A : Type 0} → Result A ProjectFault → Outcome → Progress → Type 0
IsStep (Ok done) outcome now = outcome ≡ goes_on now
IsStep (Err why) outcome now = IsStopped why outcome

-- what is pending, where a file is to be read next, or nothing is to be done
abbrev pub next_pending : Option (List ℕ) → List (List ℕ) → List Task → Pending
next_pending None left tasks = record { left = left; tasks = [] }
next_pending (Some path) left tasks = record { left = left; tasks = Read path ∷ tasks }

-- the line of a text's fault; none for want of memory
abbrev pub refusal_of : List ℕ → ReadFault → Option FaultLine
refusal_of path refused.NoMemory = None
refusal_of path why = Some (refused_line path why)

-- a fault that is answered is the expected one
abbrev pub IsTold : Option FaultLine → ProjectFault → Type 0
IsTold expected (fault.Model line) = expected ≡ Some line
IsTold expected why = ⊤
