use Rattle.std.proofs.Common.{◌∙◌, sym, subst}
use Rattle.std.specs.Prelude.{if◌then◌else◌}
use Rattle.lk_tree.specs.PartSets.{HasParts}
use Rattle.lk_tree.proofs.fanning.earlier_views.Goals as goal

pub returns-then-repeats_earlier : goal.returns-then-repeats_earlier
returns-then-repeats_earlier c = λ before fanned h.
    subst (λ b. HasParts c.args.views.before (if b then before else fanned)) (sym (sym c.repeats_earlier.ensures ∙ c.if-repeats_earlier.true)) h.earlier

pub returns-else-repeats_earlier : goal.returns-else-repeats_earlier
returns-else-repeats_earlier c = λ before fanned h.
    subst (λ b. HasParts c.args.views.fanned (if b then before else fanned)) (sym (sym c.repeats_earlier.ensures ∙ c.if-repeats_earlier.false)) h.repeated
