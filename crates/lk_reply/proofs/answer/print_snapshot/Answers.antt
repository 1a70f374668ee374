use Rattle.std.proofs.Common.{◌∙◌}
use Rattle.std.specs.Prelude.{codes, decimal}
use Rattle.lk_reply.proofs.AnswerLaws.{regrouped}
use Rattle.lk_reply.proofs.answer.print_snapshot.Goals as goal

pub returns : goal.returns
returns c = c.from_string.ensures ∙ c.in_ok-line.ensures.ok ∙ regrouped (codes "# snapshot ") (decimal c.args.snapshot) (codes ", ") c.args.completeness.now (codes "\n")
