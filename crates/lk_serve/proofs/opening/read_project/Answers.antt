use Rattle.std.proofs.Common.{◌≡◌, sym, subst}
use Rattle.std.proofs.lemmas.Result.{IfOk-weaker}
use Rattle.lk_resolve.specs.declared.loading.Loaded.{Loaded}
use Rattle.lk_semantics.specs.Resolved.{IsResolved}
use Rattle.lk_loaded_laws.proofs.LoadedLaws.{read_model_resolved}
use Rattle.lk_serve.proofs.opening.read_project.Goals as goal

-- what is loaded comes from texts, so its model is resolved
pub returns-in-Ok-clause-resolved : goal.returns-in-Ok-clause-resolved
returns-in-Ok-clause-resolved g c =
    let read = c.in-Ok.ensures.read in
    let resolved = read_model_resolved read.project c.in-Ok.loaded read.are_read read.is_loaded in
    IfOk-weaker c.opening_of.result (λ opening. opening.loaded ≡ c.in-Ok.loaded) (λ opening. IsResolved opening.loaded.model)
    (λ opening is. subst (λ (loaded : Loaded). IsResolved loaded.model) (sym is) resolved) c.opening_of.ensures.loaded
