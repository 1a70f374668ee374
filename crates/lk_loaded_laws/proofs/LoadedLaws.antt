-- The model of a folder's files is resolved.
use Rattle.std.proofs.Common.{◌≡◌, ℕ, true, ◌&&◌, List, [], ◌∷◌, refl, ap, sym, subst, Option, Some, None}
use Rattle.std.specs.Prelude.{Result, Ok, Err}
use Rattle.std.specs.List.{list_all}
use Rattle.lk_val.specs.declared.fault.FaultLine.{FaultLine}
use Rattle.lk_val.specs.declared.fault.ModelFault.{ModelFault}
use Rattle.lk_val.specs.declared.fault.ModelFault.TheVariants as model_fault
use Rattle.lk_io.specs.declared.files.File.{File}
use Rattle.lk_read.specs.Outline.{Outline}
use Rattle.lk_types.specs.declared.model.Model.{Model}
use Rattle.lk_types.specs.declared.schema.Schema.{Schema}
use Rattle.lk_include.specs.Gathering.{gathered}
use Rattle.lk_include.specs.Reading.{AreRead}
use Rattle.lk_include.specs.declared.project.Project.{Project}
use Rattle.lk_include.specs.declared.project.ProjectFault.{ProjectFault}
use Rattle.lk_merge.specs.Declarations.{declarations}
use Rattle.lk_merge.specs.Merging.{fault_of, merged_of}
use Rattle.lk_merge.specs.Objects.{objects}
use Rattle.lk_overlay.specs.declared.kind.Kind.TheVariants.{Explore, View}
use Rattle.lk_schema.specs.Schemas.{schema_of}
use Rattle.lk_schema.specs.Users.{users_of}
use Rattle.lk_schema.specs.declared.users.Users.{Users}
use Rattle.lk_semantics.specs.Resolved.{IsResolved}
use Rattle.lk_semantics.proofs.EveryLaws.{both}
use Rattle.lk_resolve.specs.Loading.{AfterGathering, AfterMerging, AfterSchema, AfterUsers, IsLoadOf, IsLoaded, loaded_as, loaded_with}
use Rattle.lk_resolve.specs.Resolving.{HasModel}
use Rattle.lk_resolve.specs.declared.loading.Loaded.{Loaded}
use Rattle.lk_model_laws.specs.Spelled.{are_spelled, has_own_joins, is_spelled_object}
use Rattle.lk_model_laws.proofs.ResolvedModelLaws.{is_resolved_model}
use Rattle.lk_loaded_laws.proofs.GatheredLaws.{AreTrees, project_fine}
use Rattle.lk_loaded_laws.proofs.MergedObjectLaws.{declarations_spelled, explores_own, objects_spelled}
use Rattle.lk_loaded_laws.proofs.SpelledFileLaws.{file_spelled}

-- the effective objects of a project whose trees texts spell
pub merged_objects : (p : Project) → AreTrees p.trees → are_spelled (merged_of p) ≡ true
merged_objects p trees =
    let all = declarations p.trees in
    let spelled = declarations_spelled p.trees trees in
    both (list_all is_spelled_object (objects all View) && list_all is_spelled_object (objects all Explore)) (list_all has_own_joins (objects all Explore))
    (both (list_all is_spelled_object (objects all View)) (list_all is_spelled_object (objects all Explore)) (objects_spelled all spelled View) (objects_spelled all spelled Explore))
    (explores_own all spelled)

-- ---- no answer is a fault and a model

ok_err : {A E : Type 0} {x : A} {e : E} → Ok x ≡ Err e → ⊥
ok_err h = cc

-- a value, and another where there is a fault
abbrev ok_or : {A E : Type 0} → A → Result A E → A
ok_or other (Ok x) = x
ok_or other (Err e) = other

abbrev IsResolvedLoad : Loaded → Type 0
IsResolvedLoad loaded = IsResolved loaded.model

module _ (p : Project) (trees : AreTrees p.trees) (loaded : Loaded) where
  of_model : (schema : Schema) (users : Users) (r : Result Model ModelFault) → schema_of p.schema ≡ Ok schema → HasModel schema (merged_of p) r → Ok loaded ≡ loaded_with users r → IsResolvedLoad loaded
  of_model schema users (Err fault) read h is = absurd (ok_err is)
  of_model schema users (Ok model) read h is =
      subst IsResolvedLoad (sym (ap (ok_or loaded) is)) (is_resolved_model p.schema schema (merged_of p) model read h (merged_objects p trees))

  after_merging : (schema : Schema) (users : Users) (o : Option FaultLine) → schema_of p.schema ≡ Ok schema → AfterMerging schema users (merged_of p) o (Ok loaded) → IsResolvedLoad loaded
  after_merging schema users (Some line) read h = absurd (ok_err h)
  after_merging schema users None read h = of_model schema users h.model read h.has_model h.is

  after_users : (schema : Schema) (users : Result Users ModelFault) → schema_of p.schema ≡ Ok schema → AfterUsers p schema users (Ok loaded) → IsResolvedLoad loaded
  after_users schema (Err fault) read h = absurd (ok_err h)
  after_users schema (Ok users) read h = after_merging schema users (fault_of p) read h

  after_schema : (schema : Result Schema ModelFault) → schema_of p.schema ≡ schema → AfterSchema p schema (Ok loaded) → IsResolvedLoad loaded
  after_schema (Err fault) read h = absurd (ok_err h)
  after_schema (Ok schema) read h = after_users schema (users_of p.users) read h

  after_load : (r : Result Loaded ModelFault) → IsLoaded p r → Ok loaded ≡ loaded_as r → IsResolvedLoad loaded
  after_load (Err (model_fault.Fault line)) h is = absurd (ok_err is)
  after_load (Err model_fault.NoMemory) h is = absurd (ok_err is)
  after_load (Ok other) h is = after_schema (schema_of p.schema) refl (subst (λ l. IsLoaded p (Ok l)) (sym (ap (ok_or loaded) is)) h)

-- ---- of trees that texts spell

trees_spelled : (trees : List (List ℕ × Outline)) → AreRead trees → AreTrees trees
trees_spelled [] h = tt
trees_spelled (file ∷ trees) h = (file_spelled 32 h.0.text file.1 h.0.spells, trees_spelled trees h.1)

-- what such a project loads to
pub read_model_resolved : (p : Project) (loaded : Loaded) → AreRead p.trees → IsLoaded p (Ok loaded) → IsResolvedLoad loaded
read_model_resolved p loaded read h = after_load p (trees_spelled p.trees read) loaded (Ok loaded) h refl

-- ---- of a folder's files

module _ (files : List File) (loaded : Loaded) where
  after_gathering : (r : Result Project ProjectFault) → gathered files ≡ r → AfterGathering r (Ok loaded) → IsResolvedLoad loaded
  after_gathering (Err fault) at h = absurd (ok_err h)
  after_gathering (Ok p) at h = after_load p (project_fine files p at) loaded h.loaded h.is_loaded h.is

  -- what is loaded
  pub loaded_resolved : IsLoadOf files (Ok loaded) → IsResolvedLoad loaded
  loaded_resolved h = after_gathering (gathered files) refl h
