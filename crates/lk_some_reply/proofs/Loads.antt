-- The files of a project are loaded as something, given that its objects say something.
use Rattle.std.proofs.Common.{◌≡◌, List, Option, Some, None, Result, Ok, Err, refl}
use Rattle.lk_val.specs.declared.fault.FaultLine.{FaultLine}
use Rattle.lk_val.specs.declared.fault.ModelFault.{ModelFault}
use Rattle.lk_val.specs.declared.fault.ModelFault.TheVariants as model
use Rattle.lk_io.specs.declared.files.File.{File}
use Rattle.lk_types.specs.declared.schema.Schema.{Schema}
use Rattle.lk_include.specs.Gathering.{gathered}
use Rattle.lk_include.specs.declared.project.Project.{Project}
use Rattle.lk_include.specs.declared.project.ProjectFault.{ProjectFault}
use Rattle.lk_include.specs.declared.project.ProjectFault.TheVariants as project
use Rattle.lk_merge.specs.Merging.{fault_of, merged_of}
use Rattle.lk_merge.specs.declared.project.Merged.{Merged}
use Rattle.lk_objects.specs.declared.view.Declared.{Declared}
use Rattle.lk_schema.specs.Schemas.{schema_of}
use Rattle.lk_schema.specs.Users.{users_of}
use Rattle.lk_schema.specs.declared.users.Users.{Users}
use Rattle.lk_model.specs.Models.{model_of}
use Rattle.lk_model.specs.ViewKinds.{kinds_of}
use Rattle.lk_resolve.specs.Loading.{AfterGathering, AfterMerging, AfterSchema, AfterUsers, HasLoaded, IsLoaded, loaded_as, loaded_with}
use Rattle.lk_resolve.specs.Objects.{HasObjects}
use Rattle.lk_resolve.specs.Resolving.{IsModelOf, first_fault}
use Rattle.lk_resolve.specs.declared.loading.Loaded.{Loaded}
use Rattle.lk_types.specs.declared.model.Model.{Model}
use Rattle.lk_complete_laws.specs.Holding.{HoldsOfSome}
use Rattle.lk_complete_laws.proofs.NotNot.{of_these, of_this}
use Rattle.lk_some_reply.specs.Loads.{IsLoadTold, IsTold}
use Rattle.lk_some_reply.proofs.Failing.{FailsBy}
use Rattle.lk_some_reply.proofs.Lines.{IsFileLine, IsLine, gathered_lines, schema_lines, users_lines}

-- ---- models

-- what is loaded, or a fault that has a line
record IsLoadedSo (Is : Result Loaded ModelFault → Type 0) (result : Result Loaded ModelFault) : Type 0 where
  is : Is result
  line : FailsBy IsLine result

-- what is loaded so is loaded otherwise too, where each result is
module _ {Is So : Result Loaded ModelFault → Type 0} where
  loaded_so : ((result : Result Loaded ModelFault) → Is result → So result) → HoldsOfSome (IsLoadedSo Is) → HoldsOfSome (IsLoadedSo So)
  loaded_so f some =
      of_these {Holds = IsLoadedSo Is} {Fits = IsLoadedSo So} some (λ result h.
      of_this {Holds = IsLoadedSo So} result (record { is = f result h.is; line = h.line }))

module _ (schema : Schema) (users : Users) (merged : Merged) (declared : Declared) (objects : HasObjects schema merged declared) where
  has_loaded : (m : Result Model ModelFault) → IsModelOf schema merged declared m → HasLoaded schema users merged (loaded_with users m)
  has_loaded m is = record {
    model = m;
    has_model = record { declared = declared; objects = objects; is_model = is };
    is = refl;
  }

  faulty : (line : FaultLine) → first_fault schema merged declared ≡ Some line → HoldsOfSome (IsLoadedSo (HasLoaded schema users merged))
  faulty line found =
      of_this {Holds = IsLoadedSo (HasLoaded schema users merged)} (Err (model.Fault line))
      (record { is = has_loaded (Err (model.Fault line)) (record { fault = found; ok = tt }); line = tt })

  faultless : (whole : Model) → whole ≡ model_of schema declared (kinds_of schema declared) → first_fault schema merged declared ≡ None
      → HoldsOfSome (IsLoadedSo (HasLoaded schema users merged))
  faultless whole is found =
      of_this {Holds = IsLoadedSo (HasLoaded schema users merged)} (Ok (record { model = whole; users = users }))
      (record { is = has_loaded (Ok whole) (record { fault = found; ok = is }); line = tt })

  by_fault : (o : Option FaultLine) → first_fault schema merged declared ≡ o → HoldsOfSome (IsLoadedSo (HasLoaded schema users merged))
  by_fault (Some line) found = faulty line found
  by_fault None found = faultless (model_of schema declared (kinds_of schema declared)) refl found

-- ---- loads, given that the objects say something

told_as : (l : Result Loaded ModelFault) → FailsBy IsLine l → IsTold (loaded_as l)
told_as (Ok loaded) h = tt
told_as (Err (model.Fault line)) h = tt
told_as (Err model.NoMemory) h = h

-- what a project that is gathered, or is not, is loaded as
record IsGatheredTold (g : Result Project ProjectFault) (result : Result Loaded ProjectFault) : Type 0 where
  is : AfterGathering g result
  told : IsTold result

module _ (some_objects : (schema : Schema) (merged : Merged) → HoldsOfSome (HasObjects schema merged)) where
  after_merging : (schema : Schema) (users : Users) (merged : Merged) (o : Option FaultLine) → HoldsOfSome (IsLoadedSo (AfterMerging schema users merged o))
  after_merging schema users merged (Some line) =
      of_this {Holds = IsLoadedSo (AfterMerging schema users merged (Some line))} (Err (model.Fault line)) (record { is = refl; line = tt })
  after_merging schema users merged None =
      of_these {Holds = HasObjects schema merged} {Fits = IsLoadedSo (AfterMerging schema users merged None)} (some_objects schema merged) (λ declared objects.
      loaded_so {Is = HasLoaded schema users merged} {So = AfterMerging schema users merged None} (λ result h. h)
      (by_fault schema users merged declared objects (first_fault schema merged declared) refl))

  after_users : (p : Project) (schema : Schema) (u : Result Users ModelFault) → FailsBy IsLine u → HoldsOfSome (IsLoadedSo (AfterUsers p schema u))
  after_users p schema (Err fault) h = of_this {Holds = IsLoadedSo (AfterUsers p schema (Err fault))} (Err fault) (record { is = refl; line = h })
  after_users p schema (Ok users) h =
      loaded_so {Is = AfterMerging schema users (merged_of p) (fault_of p)} {So = AfterUsers p schema (Ok users)} (λ result k. k)
      (after_merging schema users (merged_of p) (fault_of p))

  after_schema : (p : Project) (s : Result Schema ModelFault) → FailsBy IsLine s → HoldsOfSome (IsLoadedSo (AfterSchema p s))
  after_schema p (Err fault) h = of_this {Holds = IsLoadedSo (AfterSchema p (Err fault))} (Err fault) (record { is = refl; line = h })
  after_schema p (Ok schema) h =
      loaded_so {Is = AfterUsers p schema (users_of p.users)} {So = AfterSchema p (Ok schema)} (λ result k. k)
      (after_users p schema (users_of p.users) (users_lines p.users))

  loaded_told : (p : Project) (l : Result Loaded ModelFault) → IsLoaded p l → FailsBy IsLine l → HoldsOfSome (IsGatheredTold (Ok p))
  loaded_told p l is line =
      of_this {Holds = IsGatheredTold (Ok p)} (loaded_as l) (record { is = record { loaded = l; is_loaded = is; is = refl }; told = told_as l line })

  some_loaded : (p : Project) → HoldsOfSome (IsLoadedSo (IsLoaded p))
  some_loaded p =
      loaded_so {Is = AfterSchema p (schema_of p.schema)} {So = IsLoaded p} (λ result k. k) (after_schema p (schema_of p.schema) (schema_lines p.schema))

  after_gathering : (g : Result Project ProjectFault) → FailsBy IsFileLine g → HoldsOfSome (IsGatheredTold g)
  after_gathering (Err (project.Model line)) h =
      of_this {Holds = IsGatheredTold (Err (project.Model line))} (Err (project.Model line)) (record { is = refl; told = tt })
  after_gathering (Err project.Failed) h = absurd h
  after_gathering (Err project.NoMemory) h = absurd h
  after_gathering (Ok p) h =
      of_these {Holds = IsLoadedSo (IsLoaded p)} {Fits = IsGatheredTold (Ok p)} (some_loaded p) (λ l k. loaded_told p l k.is k.line)

  -- what the files gathered to is loaded as something
  pub some_load : (files : List File) → HoldsOfSome (IsLoadTold files)
  some_load files =
      of_these {Holds = IsGatheredTold (gathered files)} {Fits = IsLoadTold files} (after_gathering (gathered files) (gathered_lines files)) (λ result h.
      of_this {Holds = IsLoadTold files} result (record { is_load = h.is; told = h.told }))
