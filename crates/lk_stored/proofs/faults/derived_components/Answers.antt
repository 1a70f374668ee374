use Rattle.std.proofs.Common.{◌≡◌, ◌∙◌, ap}
use Rattle.std.proofs.lemmas.Result.{IfOk-weaker}
use Rattle.lk_semantics.specs.Answers.{components_of, picked_measures, query_components}
use Rattle.lk_semantics.specs.Derived.{derived_query}
use Rattle.lk_stored.proofs.JoinLaws.{derived_components_are}
use Rattle.lk_stored.proofs.faults.derived_components.Goals as goal

pub returns : goal.returns
returns c =
    let x = c.args.x.now in
    let d = c.args.table.now in
    IfOk-weaker c.components.result (λ measures. measures ≡ components_of x c.as_slice-2.result.now) (λ measures. measures ≡ query_components x (derived_query x d))
    (λ measures is.
    is
    ∙ ap (components_of x) (c.as_slice-2.ensures ∙ c.in_ok-measures.ensures ∙ ap picked_measures (c.as_slice.ensures ∙ c.in_ok-picks.ensures))
    ∙ derived_components_are x d)
    c.components.ensures
