-- What a folder's files are loaded as: a model and users, or the first fault of the project. (Looker, LookML reference; lookd)
use Rattle.std.specs.Prelude.{◌≡◌, List, Option, Some, None, Result, Ok, Err}
use Rattle.lk_val.specs.declared.fault.FaultLine.{FaultLine}
use Rattle.lk_val.specs.declared.fault.ModelFault.{ModelFault}
use Rattle.lk_val.specs.declared.fault.ModelFault.TheVariants.{Fault, NoMemory}
use Rattle.lk_io.specs.declared.files.File.{File}
use Rattle.lk_types.specs.declared.model.Model.{Model}
use Rattle.lk_types.specs.declared.schema.Schema.{Schema}
use Rattle.lk_include.specs.Gathering.{gathered}
use Rattle.lk_include.specs.Reading.{AreRead}
use Rattle.lk_include.specs.declared.project.Project.{Project}
use Rattle.lk_include.specs.declared.project.ProjectFault.{ProjectFault}
use Rattle.lk_include.specs.declared.project.ProjectFault.TheVariants as project
use Rattle.lk_merge.specs.Merging.{fault_of, merged_of}
use Rattle.lk_merge.specs.declared.project.Merged.{Merged}
use Rattle.lk_schema.specs.Schemas.{schema_of}
use Rattle.lk_schema.specs.Users.{users_of}
use Rattle.lk_schema.specs.declared.users.Users.{Users}
use Rattle.lk_resolve.specs.Resolving.{HasModel}
use Rattle.lk_resolve.specs.declared.loading.Loaded.{Loaded}

-- ---- a project that is gathered

-- the users beside the model, or the fault of the model
abbrev pub loaded_with : Users → Result Model ModelFault → Result Loaded ModelFault
loaded_with users (Err fault) = Err fault
loaded_with users (Ok model) = Ok (record { model = model; users = users })

-- the objects have a model or a first fault, and this is what comes of it
pub record HasLoaded (schema : Schema) (users : Users) (merged : Merged) (result : Result Loaded ModelFault) : Type 0 where
  pub model : Result Model ModelFault
  pub has_model : HasModel schema merged model
  pub is : result ≡ loaded_with users model

abbrev pub AfterMerging : Schema → Users → Merged → Option FaultLine → Result Loaded ModelFault → Type 0
AfterMerging schema users merged (Some line) result = result ≡ Err (Fault line)
AfterMerging schema users merged None result = HasLoaded schema users merged result

abbrev pub AfterUsers : Project → Schema → Result Users ModelFault → Result Loaded ModelFault → Type 0
AfterUsers p schema (Err fault) result = result ≡ Err fault
AfterUsers p schema (Ok users) result = AfterMerging schema users (merged_of p) (fault_of p) result

abbrev pub AfterSchema : Project → Result Schema ModelFault → Result Loaded ModelFault → Type 0
AfterSchema p (Err fault) result = result ≡ Err fault
AfterSchema p (Ok schema) result = AfterUsers p schema (users_of p.users) result

-- the schema's fault goes before the users', and that before those of merging and of the objects
abbrev pub IsLoaded : Project → Result Loaded ModelFault → Type 0
IsLoaded p result = AfterSchema p (schema_of p.schema) result

-- some project loads so whose trees are those of texts
pub record IsLoadedFromTexts (loaded : Loaded) : Type 0 where
  pub project : Project
  pub are_read : AreRead project.trees
  pub is_loaded : IsLoaded project (Ok loaded)

-- ---- a folder's files

-- what was found in a project is told of the folder
abbrev pub loaded_as : Result Loaded ModelFault → Result Loaded ProjectFault
loaded_as (Ok loaded) = Ok loaded
loaded_as (Err (Fault line)) = Err (project.Model line)
loaded_as (Err NoMemory) = Err project.NoMemory

pub record HasLoad (p : Project) (result : Result Loaded ProjectFault) : Type 0 where
  pub loaded : Result Loaded ModelFault
  pub is_loaded : IsLoaded p loaded
  pub is : result ≡ loaded_as loaded

abbrev pub AfterGathering : Result Project ProjectFault → Result Loaded ProjectFault → Type 0
AfterGathering (Err fault) result = result ≡ Err fault
AfterGathering (Ok p) result = HasLoad p result

-- what the files are: the project that they gather to, loaded, or the first fault on the way
abbrev pub IsLoadOf : List File → Result Loaded ProjectFault → Type 0
IsLoadOf files result = AfterGathering (gathered files) result
