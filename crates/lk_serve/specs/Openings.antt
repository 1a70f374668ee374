-- The steps of an opening.
use Rattle.std.specs.Prelude.{◌≡◌, ◌≤◌, ⊤, ℕ, ◌++◌, ◌∷◌, [], List, Some, None, Result, Ok, Err}
use Rattle.lk_val.specs.declared.fault.ModelFault.{ModelFault}
use Rattle.lk_io.specs.Causes.{Rose}
use Rattle.lk_io.specs.declared.files.File.{File}
use Rattle.lk_state.specs.Openings.{Seed}
use Rattle.lk_state.specs.declared.fault.OpenFault.{OpenFault}
use Rattle.lk_state.specs.declared.fault.OpenFault.TheVariants as opening
use Rattle.lk_resolve.specs.Loading.{IsLoadOf}
use Rattle.lk_resolve.specs.declared.loading.Loaded.{Loaded}
use Rattle.lk_seed.specs.Seeds as seeds
use Rattle.lk_include.specs.declared.project.ProjectFault.{ProjectFault}
use Rattle.lk_include.specs.declared.project.ProjectFault.TheVariants as project
use Rattle.lk_serve.specs.Replies.{fault_reply}
use Rattle.lk_serve.specs.Opened.{Opens, TellsLine, batches_of, line_of, numbered, open_line}
use Rattle.lk_serve.specs.declared.opening.DataFiles.{DataFiles}
use Rattle.lk_serve.specs.declared.opening.DataFiles.TheVariants as data_files
use Rattle.lk_serve.specs.declared.opening.Why.{Why}
use Rattle.lk_serve.specs.declared.opening.Why.TheVariants as why
use Rattle.lk_serve.specs.declared.replies.Reply.{Reply}
use Rattle.lk_serve.specs.declared.replies.Status.TheVariants.{Faulty}

-- the project loads, and these are the batches of its data files, where these are read
pub record IsProjectBy (which : DataFiles) (files : List File) (loaded : Loaded) (given : List Seed) : Type 0 where
  pub is_load : IsLoadOf files (Ok loaded)
  pub found : List seeds.Seed
  pub is_found : Ok found ≡ batches_of which loaded.model.schema.tables files
  pub numbers : given ≡ numbered 0 found

-- the files have no line: the project loads, and its data files, where they are read, give batches
pub record HasProjectBy (which : DataFiles) (files : List File) : Type 0 where
  pub loaded : Loaded
  pub given : List Seed
  pub is : IsProjectBy which files loaded given

-- the same with the data files
abbrev pub HasProject : List File → Type 0
HasProject files = HasProjectBy data_files.Read files

-- a batch behind some, where its table has one
abbrev pub with_seed : List Seed → ℕ → seeds.Seed → List Seed
with_seed given number None = given
with_seed given number (Some body) = given ++ (number, body) ∷ []

-- the line says why nothing opens; the store, the files and memory say nothing
abbrev pub IsWhy : (Reply → Type 0) → Why → Type 0
IsWhy Is (why.Told reply) = Is reply
IsWhy Is why.Store = ⊤
IsWhy Is why.Files = ⊤
IsWhy Is why.Memory = ⊤

-- the line is that of a fault
abbrev pub IsFaulty : Why → Type 0
IsFaulty (why.Told reply) = (reply.status ≡ Faulty) × TellsLine reply
IsFaulty why.Store = ⊤
IsFaulty why.Files = ⊤
IsFaulty why.Memory = ⊤

-- the files give no batches, with this line
abbrev pub IsFileLine : Result (List seeds.Seed) ProjectFault → Reply → Type 0
IsFileLine (Ok found) reply = ⊥
IsFileLine (Err (project.Model fault)) reply = reply ≡ fault_reply fault
IsFileLine (Err project.Failed) reply = ⊥
IsFileLine (Err project.NoMemory) reply = ⊥

-- a project that loads so opens nothing over any store, with this line
abbrev pub IsUnservedBy : DataFiles → List File → Result Loaded ProjectFault → Reply → Type 0
IsUnservedBy which files (Ok loaded) reply = IsFileLine (batches_of which loaded.model.schema.tables files) reply
IsUnservedBy which files (Err (project.Model fault)) reply = reply ≡ fault_reply fault
IsUnservedBy which files (Err project.Failed) reply = ⊥
IsUnservedBy which files (Err project.NoMemory) reply = ⊥

-- the files open nothing over any store, with this line
pub record IsLineBy (which : DataFiles) (files : List File) (reply : Reply) : Type 0 where
  pub loaded : Result Loaded ProjectFault
  pub is_load : IsLoadOf files loaded
  pub over : IsUnservedBy which files loaded reply

-- ---- faults

-- the line of a fault, or want of memory
abbrev pub TellsFault : ModelFault → Why → Type 0
TellsFault fault (why.Told reply) = Opens (line_of fault) reply
TellsFault fault why.Memory = ⊤
TellsFault fault why.Store = ⊥
TellsFault fault why.Files = ⊥

-- why an office did not open
abbrev pub OpensNot : OpenFault → Why → Type 0
OpensNot fault (why.Told reply) = Opens (open_line fault) reply
OpensNot fault why.Memory = ⊤
OpensNot fault why.Store = fault ≡ opening.Store
OpensNot fault why.Files = ⊥

-- why the project's files open nothing
abbrev pub ProjectNot : ProjectFault → Why → Type 0
ProjectNot (project.Model line) (why.Told reply) = reply ≡ fault_reply line
ProjectNot project.Failed (why.Told reply) = ⊥
ProjectNot project.NoMemory (why.Told reply) = ⊥
ProjectNot fault why.Memory = ⊤
ProjectNot fault why.Files = fault ≡ project.Failed
ProjectNot fault why.Store = ⊥

-- the counts of the store and of the files never fall, and each is named only where its count rose
pub record HasWhyCause (store store' files files' : ℕ) (reason : Why) : Type 0 where
  pub later : store ≤ store'
  pub kept : reason ≡ why.Store → Rose store store'
  pub read : reason ≡ why.Files → Rose files files'
