use Rattle.std.proofs.Common.{◌≡◌, ◌∙◌, ap, subst}
use Rattle.std.specs.Prelude.{IfOk, List, ℕ}
use Rattle.lk_semantics.specs.Answers.{measures_in}
use Rattle.lk_tree.proofs.ComponentLaws.{measures-nodes}
use Rattle.lk_tree.proofs.component.measures_in.Goals as goal

pub returns : goal.returns
returns c =
    subst (λ (w : List ℕ). IfOk c.node_measures.result (λ measures. measures ≡ w))
    (measures-nodes c.nodes.result.now c.nodes.ensures.whole ∙ ap measures_in c.nodes.ensures.value) c.node_measures.ensures
