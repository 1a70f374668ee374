-- What a folder's project opens over what a store handed over: the edition of its opening, or the line on why there is none. (lookd)
use Rattle.std.specs.Prelude.{◌≡◌, ◌+◌, ℕ, ℤ, List, [], ◌∷◌, codes, Option, Some, None, IfSome, Result, Ok, Err}
use Rattle.lk_val.specs.declared.fault.FaultLine.{FaultLine}
use Rattle.lk_val.specs.declared.fault.ModelFault.{ModelFault}
use Rattle.lk_val.specs.declared.fault.ModelFault.TheVariants as model
use Rattle.lk_io.specs.declared.files.File.{File}
use Rattle.lk_types.specs.Printing.{value_text}
use Rattle.lk_types.specs.declared.schema.TableDef.{TableDef}
use Rattle.lk_table.specs.declared.fault.BatchFault.{BatchFault}
use Rattle.lk_table.specs.declared.fault.BatchFault.TheVariants as batch
use Rattle.lk_include.specs.Gathering.{file_line}
use Rattle.lk_include.specs.declared.project.ProjectFault.{ProjectFault}
use Rattle.lk_include.specs.declared.project.ProjectFault.TheVariants as project
use Rattle.lk_ledger.specs.declared.kept.Kept.{Kept}
use Rattle.lk_resolve.specs.Loading.{IsLoadOf}
use Rattle.lk_resolve.specs.declared.loading.Loaded.{Loaded}
use Rattle.lk_seed.specs.Faults.{seed_fault}
use Rattle.lk_seed.specs.Seeds.{data_path, seeds_of}
use Rattle.lk_seed.specs.Seeds as seeds
use Rattle.lk_state.specs.Openings.{Seed}
use Rattle.lk_state.specs.declared.fault.OpenFault.{OpenFault}
use Rattle.lk_state.specs.declared.fault.OpenFault.TheVariants as opening
use Rattle.lk_edition.specs.Histories.{Stands}
use Rattle.lk_edition.specs.Offices.{IsOpening}
use Rattle.lk_edition.specs.Standings.{Standing}
use Rattle.lk_serve.specs.Replies.{fault_reply}
use Rattle.lk_serve.specs.declared.opening.DataFiles.{DataFiles}
use Rattle.lk_serve.specs.declared.opening.DataFiles.TheVariants as data_files
use Rattle.lk_serve.specs.declared.replies.Reply.{Reply}

-- ---- the seeds of an opening

-- the batches of the data files, each with the number of its table, from one number on
abbrev pub numbered : ℕ → List seeds.Seed → List Seed
numbered n [] = []
numbered n (None ∷ more) = numbered (n + 1) more
numbered n (Some body ∷ more) = (n, body) ∷ numbered (n + 1) more

-- ---- an edition that does not open

-- the fault of a kept batch, by its table: its row, its code, and its column or key
abbrev pub unread_line : List ℕ → ℕ → List ℕ → List ℕ → FaultLine
unread_line table row code name = record { code = codes "O1"; path = table; place = row; name = code; other = name }

abbrev pub unread_fault : List ℕ → BatchFault → ModelFault
unread_fault table (batch.L3 row column) = model.Fault (unread_line table row (codes "L3") column)
unread_fault table (batch.L4 key) = model.Fault (unread_line table 0 (codes "L4") (value_text key))
unread_fault table (batch.L5 row) = model.Fault (unread_line table row (codes "L5") [])
unread_fault table batch.NoMemory = model.NoMemory

-- the line of a fault; want of memory has none
abbrev pub line_of : ModelFault → Option FaultLine
line_of (model.Fault line) = Some line
line_of model.NoMemory = None

-- the fault of an opening, where neither the store failed nor memory was refused
abbrev pub open_fault : OpenFault → ModelFault
open_fault (opening.Unread table fault) = unread_fault table fault
open_fault (opening.Seed table fault) = seed_fault (data_path table) fault
open_fault opening.Full = model.Fault (file_line (codes "L6") [] 0 [])
open_fault (opening.Large name) = model.Fault (file_line (codes "G2") [] 0 name)
open_fault opening.Store = model.NoMemory
open_fault opening.NoMemory = model.NoMemory

abbrev pub open_line : OpenFault → Option FaultLine
open_line fault = line_of (open_fault fault)

-- the line of some fault
abbrev pub TellsLine : Reply → Type 0
TellsLine reply = (line : FaultLine) × (reply ≡ fault_reply line)

-- ---- what the project's files open

-- it opens with this edition, or does not, with this line
abbrev pub Opens : Option FaultLine → Reply → Type 0
Opens None reply = ⊥
Opens (Some line) reply = reply ≡ fault_reply line

abbrev pub OpenedAs : Result Standing OpenFault → Result Standing Reply → Type 0
OpenedAs (Ok e) result = result ≡ Ok e
OpenedAs (Err fault) (Ok e) = ⊥
OpenedAs (Err fault) (Err reply) = Opens (open_line fault) reply

-- over the batches of the data files, and what the store handed over, at a moment
pub record OverSeeds (loaded : Loaded) (begins : Kept → Type 0) (now : ℤ) (seeds : List seeds.Seed) (result : Result Standing Reply) : Type 0 where
  pub opened : Result Standing OpenFault
  pub is_opening : IsOpening loaded.model loaded.users begins (numbered 0 seeds) now opened
  pub told : OpenedAs opened result

abbrev pub OverFiles : Loaded → (Kept → Type 0) → ℤ → Result (List seeds.Seed) ProjectFault → Result Standing Reply → Type 0
OverFiles loaded begins now (Ok seeds) result = OverSeeds loaded begins now seeds result
OverFiles loaded begins now (Err (project.Model fault)) result = result ≡ Err (fault_reply fault)
OverFiles loaded begins now (Err project.Failed) result = ⊥
OverFiles loaded begins now (Err project.NoMemory) result = ⊥

-- the batches that an opening puts in place of the rows of their tables: those of the data files, where it reads them
abbrev pub batches_of : DataFiles → List TableDef → List File → Result (List seeds.Seed) ProjectFault
batches_of data_files.Read tables files = seeds_of tables files
batches_of data_files.Unread tables files = Ok []

abbrev pub OverBatches : DataFiles → List File → (Kept → Type 0) → ℤ → Result Loaded ProjectFault → Result Standing Reply → Type 0
OverBatches which files begins now (Ok loaded) result = OverFiles loaded begins now (batches_of which loaded.model.schema.tables files) result
OverBatches which files begins now (Err (project.Model fault)) result = result ≡ Err (fault_reply fault)
OverBatches which files begins now (Err project.Failed) result = ⊥
OverBatches which files begins now (Err project.NoMemory) result = ⊥

-- the edition that a folder's project opens at a moment over what a store handed over, or the line on why it does not
pub record IsOpenedBy (which : DataFiles) (files : List File) (begins : Kept → Type 0) (now : ℤ) (result : Result Standing Reply) : Type 0 where
  pub loaded : Result Loaded ProjectFault
  pub is_load : IsLoadOf files loaded
  pub over : OverBatches which files begins now loaded result

-- the same at the next moment of a clock, as far as it tells
pub record IsOpenedNextBy (which : DataFiles) (files : List File) (begins : Kept → Type 0) (next : Option ℤ) (result : Result Standing Reply) : Type 0 where
  pub moment : ℤ
  pub is_next : IfSome next (λ told. moment ≡ told)
  pub is : IsOpenedBy which files begins moment result

-- it opened so with an edition whose history is its state alone
pub record HasOpenedBy (which : DataFiles) (files : Option (List File)) (begins : Kept → Type 0) (next : Option ℤ) : Type 0 where
  pub e : Standing
  pub stands : Stands e []
  pub is : IfSome files (λ told. IsOpenedNextBy which told begins next (Ok e))

-- ---- the same with the data files

abbrev pub OverLoaded : List File → (Kept → Type 0) → ℤ → Result Loaded ProjectFault → Result Standing Reply → Type 0
OverLoaded files begins now loaded result = OverBatches data_files.Read files begins now loaded result

abbrev pub IsOpened : List File → (Kept → Type 0) → ℤ → Result Standing Reply → Type 0
IsOpened files begins now result = IsOpenedBy data_files.Read files begins now result

abbrev pub IsOpenedNext : List File → (Kept → Type 0) → Option ℤ → Result Standing Reply → Type 0
IsOpenedNext files begins next result = IsOpenedNextBy data_files.Read files begins next result

abbrev pub HasOpened : Option (List File) → (Kept → Type 0) → Option ℤ → Type 0
HasOpened files begins next = HasOpenedBy data_files.Read files begins next
