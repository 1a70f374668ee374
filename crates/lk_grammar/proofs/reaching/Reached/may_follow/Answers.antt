use Rattle.std.proofs.Common.{◌∙◌}
use Rattle.lk_grammar.specs.Steps.{step}
use Rattle.lk_grammar.proofs.MachineLaws.{tells}
use Rattle.lk_grammar.proofs.reaching.Reached.may_follow.Goals as goal

pub returns : goal.returns
returns c rules depth form text reached sound live =
    tells rules sound depth form text c.args.byte live (λ v. v.items) c.in_ok-next.next c.is_some.result c.args.self.now.place c.is_some.ensures reached.place_is
    (c.in_ok-next.ensures ∙ (λ i. step (reached.rules_are i) ((c.as_slice.ensures.value ∙ reached.stacks_are) i) c.args.byte))
