-- A project says one thing and is loaded as one thing.
use Rattle.std.proofs.Common.{◌≡◌, ◌∙◌, List, [], ◌∷◌, refl, sym, ap, subst}
use Rattle.std.specs.Prelude.{Option, Some, None, Result, Ok, Err, IfOk, unwrap_or}
use Rattle.lk_val.specs.declared.fault.FaultLine.{FaultLine}
use Rattle.lk_val.specs.declared.fault.ModelFault.{ModelFault}
use Rattle.lk_val.specs.declared.fault.ModelFault.TheVariants.{Fault, NoMemory}
use Rattle.lk_io.specs.declared.files.File.{File}
use Rattle.lk_types.specs.declared.model.Model.{Model}
use Rattle.lk_types.specs.declared.schema.Schema.{Schema}
use Rattle.lk_params.specs.Parameters.{items_of}
use Rattle.lk_include.specs.Gathering.{gathered}
use Rattle.lk_include.specs.declared.project.Project.{Project}
use Rattle.lk_include.specs.declared.project.ProjectFault.{ProjectFault}
use Rattle.lk_merge.specs.Merging.{fault_of, merged_of}
use Rattle.lk_merge.specs.declared.project.Merged.{Merged}
use Rattle.lk_merge.specs.declared.project.Object.{Object}
use Rattle.lk_objects.specs.declared.explore.DeclaredExplore.{DeclaredExplore}
use Rattle.lk_objects.specs.declared.view.Declared.{Declared}
use Rattle.lk_objects.specs.declared.view.DeclaredView.{DeclaredView}
use Rattle.lk_schema.specs.Schemas.{schema_of}
use Rattle.lk_schema.specs.Users.{users_of}
use Rattle.lk_schema.specs.declared.users.Users.{Users}
use Rattle.lk_scope.specs.Pieces.{IsTested}
use Rattle.lk_model.specs.Models.{model_of}
use Rattle.lk_model.specs.ViewKinds.{kinds_of}
use Rattle.lk_resolve.specs.Loading.{AfterGathering, AfterMerging, AfterSchema, AfterUsers, HasLoaded, IsLoadOf, loaded_as, loaded_with}
use Rattle.lk_resolve.specs.Objects.{AreExplores, AreViews, HasObjects}
use Rattle.lk_resolve.specs.Resolving.{HasModel, IsModelOf, first_fault}
use Rattle.lk_resolve.specs.declared.loading.Loaded.{Loaded}
use Rattle.lk_one_reply.specs.Told.{IsTold}
use Rattle.lk_one_reply.proofs.OneExplore.{one_explore}
use Rattle.lk_one_reply.proofs.OneObject.{OneCode, OneFilters, one_view}

-- ---- objects

module _ (one_code : OneCode) (one_filters : OneFilters) where
  one_views : (schema : Schema) (os : List Object) (vs ws : List DeclaredView) → AreViews schema os vs → AreViews schema os ws → vs ≡ ws
  one_views schema [] [] [] h k = refl
  one_views schema [] [] (w ∷ ws) h k = absurd k
  one_views schema [] (v ∷ vs) ws h k = absurd h
  one_views schema (o ∷ os) [] ws h k = absurd h
  one_views schema (o ∷ os) (v ∷ vs) [] h k = absurd k
  one_views schema (o ∷ os) (v ∷ vs) (w ∷ ws) h k =
      let head = one_view one_code one_filters schema o.name (items_of o.tree) v w h.0 k.0 in
      let tail = one_views schema os vs ws h.1 k.1 in
      (λ i. head i ∷ tail i)

  one_explores : (os : List Object) (xs ys : List DeclaredExplore) → AreExplores os xs → AreExplores os ys → xs ≡ ys
  one_explores [] [] [] h k = refl
  one_explores [] [] (y ∷ ys) h k = absurd k
  one_explores [] (x ∷ xs) ys h k = absurd h
  one_explores (o ∷ os) [] ys h k = absurd h
  one_explores (o ∷ os) (x ∷ xs) [] h k = absurd k
  one_explores (o ∷ os) (x ∷ xs) (y ∷ ys) h k =
      let head = one_explore one_code one_filters o.name (items_of o.tree) x y h.0 k.0 in
      let tail = one_explores os xs ys h.1 k.1 in
      (λ i. head i ∷ tail i)

  pub one_declared : (schema : Schema) (merged : Merged) (d e : Declared) → HasObjects schema merged d → HasObjects schema merged e → d ≡ e
  one_declared schema merged d e h k =
      let views : d.views ≡ e.views = one_views schema merged.views d.views e.views h.views_are k.views_are in
      let explores : d.explores ≡ e.explores = one_explores merged.explores d.explores e.explores h.explores_are k.explores_are in
      let datagroups : d.datagroups ≡ e.datagroups = h.datagroups_are ∙ sym k.datagroups_are in
      (λ i. record { views = views i; explores = explores i; datagroups = datagroups i })

-- ---- models and loads, given that the objects say one thing

abbrev pub OneDeclared : Type 0
OneDeclared = (schema : Schema) (merged : Merged) (d e : Declared) → HasObjects schema merged d → HasObjects schema merged e → d ≡ e

-- a fault or a value, and not want of memory
abbrev IsSaid : {A : Type 0} → Result A ModelFault → Type 0
IsSaid (Ok value) = Unit {0}
IsSaid (Err (Fault line)) = Unit {0}
IsSaid (Err NoMemory) = ⊥

abbrev IsNone : {A : Type 0} → Option A → Type 0
IsNone None = Unit {0}
IsNone (Some a) = ⊥

some_none : {A : Type 0} {a : A} {o : Option A} → o ≡ None → o ≡ Some a → ⊥
some_none e f = subst IsNone (sym e ∙ f) tt

same_line : {l m : FaultLine} {o : Option FaultLine} → o ≡ Some l → o ≡ Some m → l ≡ m
same_line {l} e f = ap (λ o. unwrap_or o l) (sym e ∙ f)

same_result : (fault : Option FaultLine) (model : Model) (r s : Result Model ModelFault) → IsSaid r → IsSaid s
    → IsTested r fault → IfOk r (λ m. m ≡ model) → IsTested s fault → IfOk s (λ m. m ≡ model) → r ≡ s
same_result fault model (Ok a) (Ok b) _ _ tested is other_tested other_is = ap (λ m. Ok m) (is ∙ sym other_is)
same_result fault model (Ok a) (Err (Fault line)) _ _ tested is other_tested other_is = absurd (some_none tested other_tested)
same_result fault model (Ok a) (Err NoMemory) _ said tested is other_tested other_is = absurd said
same_result fault model (Err (Fault line)) (Ok b) _ _ tested is other_tested other_is = absurd (some_none other_tested tested)
same_result fault model (Err (Fault line)) (Err (Fault other)) _ _ tested is other_tested other_is = ap (λ l. Err (Fault l)) (same_line tested other_tested)
same_result fault model (Err (Fault line)) (Err NoMemory) _ said tested is other_tested other_is = absurd said
same_result fault model (Err NoMemory) s said _ tested is other_tested other_is = absurd said

said_with : (users : Users) (m : Result Model ModelFault) → IsSaid (loaded_with users m) → IsSaid m
said_with users (Ok model) h = tt
said_with users (Err (Fault line)) h = tt
said_with users (Err NoMemory) h = h

said_as : (l : Result Loaded ModelFault) → IsTold (loaded_as l) → IsSaid l
said_as (Ok loaded) h = tt
said_as (Err (Fault line)) h = tt
said_as (Err NoMemory) h = h

module _ (one : OneDeclared) where
  one_model : (schema : Schema) (merged : Merged) (r s : Result Model ModelFault) → IsSaid r → IsSaid s
      → HasModel schema merged r → HasModel schema merged s → r ≡ s
  one_model schema merged r s r_said s_said h k =
      let same : h.declared ≡ k.declared = one schema merged h.declared k.declared h.objects k.objects in
      let other : IsModelOf schema merged h.declared s = subst (λ d. IsModelOf schema merged d s) (sym same) k.is_model in
      same_result (first_fault schema merged h.declared) (model_of schema h.declared (kinds_of schema h.declared)) r s r_said s_said
      h.is_model.fault h.is_model.ok other.fault other.ok

  one_loaded : (schema : Schema) (users : Users) (merged : Merged) (r s : Result Loaded ModelFault) → IsSaid r → IsSaid s
      → HasLoaded schema users merged r → HasLoaded schema users merged s → r ≡ s
  one_loaded schema users merged r s r_said s_said h k =
      let same : h.model ≡ k.model =
      one_model schema merged h.model k.model (said_with users h.model (subst IsSaid h.is r_said)) (said_with users k.model (subst IsSaid k.is s_said))
      h.has_model k.has_model in
      h.is ∙ ap (loaded_with users) same ∙ sym k.is

  after_merging : (schema : Schema) (users : Users) (merged : Merged) (o : Option FaultLine) (r s : Result Loaded ModelFault) → IsSaid r → IsSaid s
      → AfterMerging schema users merged o r → AfterMerging schema users merged o s → r ≡ s
  after_merging schema users merged (Some line) r s r_said s_said h k = h ∙ sym k
  after_merging schema users merged None r s r_said s_said h k = one_loaded schema users merged r s r_said s_said h k

  after_users : (p : Project) (schema : Schema) (u : Result Users ModelFault) (r s : Result Loaded ModelFault) → IsSaid r → IsSaid s
      → AfterUsers p schema u r → AfterUsers p schema u s → r ≡ s
  after_users p schema (Err fault) r s r_said s_said h k = h ∙ sym k
  after_users p schema (Ok users) r s r_said s_said h k = after_merging schema users (merged_of p) (fault_of p) r s r_said s_said h k

  after_schema : (p : Project) (m : Result Schema ModelFault) (r s : Result Loaded ModelFault) → IsSaid r → IsSaid s
      → AfterSchema p m r → AfterSchema p m s → r ≡ s
  after_schema p (Err fault) r s r_said s_said h k = h ∙ sym k
  after_schema p (Ok schema) r s r_said s_said h k = after_users p schema (users_of p.users) r s r_said s_said h k

  after_gathering : (g : Result Project ProjectFault) (r s : Result Loaded ProjectFault) → IsTold r → IsTold s
      → AfterGathering g r → AfterGathering g s → r ≡ s
  after_gathering (Err fault) r s r_told s_told h k = h ∙ sym k
  after_gathering (Ok p) r s r_told s_told h k =
      let same : h.loaded ≡ k.loaded =
      after_schema p (schema_of p.schema) h.loaded k.loaded (said_as h.loaded (subst IsTold h.is r_told)) (said_as k.loaded (subst IsTold k.is s_told))
      h.is_loaded k.is_loaded in
      h.is ∙ ap loaded_as same ∙ sym k.is

  pub one_load : (files : List File) (r s : Result Loaded ProjectFault) → IsTold r → IsTold s → IsLoadOf files r → IsLoadOf files s → r ≡ s
  one_load files r s r_told s_told h k = after_gathering (gathered files) r s r_told s_told h k
