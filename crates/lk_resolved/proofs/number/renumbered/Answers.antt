use Rattle.std.proofs.Common.{◌≡◌, ◌∙◌, ℕ, ap, refl}
use Rattle.std.proofs.lemmas.Result.{IfOk-weaker}
use Rattle.std.specs.Prelude.{slice_get}
use Rattle.lk_resolved.specs.Fields.{number_named, renumbered}
use Rattle.lk_resolved.specs.NumberNodes.{number_at}
use Rattle.lk_resolved.proofs.NumberLaws.{number_by}
use Rattle.lk_resolved.proofs.number.renumbered.Goals as goal

pub returns : goal.returns
returns c =
    let written = c.args.written.now in
    let named = number_named c.args.fields.now.views.now c.args.fields.now.scope.now c.args.part in
    let numbers = c.as_slice-2.result.now in
    let at : (k : ℕ) → number_at numbers k ≡ named (slice_get written.references k) =
    λ k. ap (λ ns. number_at ns k) (c.as_slice-2.ensures ∙ c.in_ok-numbers.ensures) ∙ number_by named refl c.as_slice.result.now k ∙ ap (λ rs. named (slice_get rs k)) c.as_slice.ensures in
    IfOk-weaker c.with_numbers.result (λ e. e ≡ renumbered (number_at numbers) written.expr) (λ e. e ≡ renumbered (λ k. named (slice_get written.references k)) written.expr)
    (λ e is. is ∙ (λ i. renumbered (λ k. at k i) written.expr))
    c.with_numbers.ensures
