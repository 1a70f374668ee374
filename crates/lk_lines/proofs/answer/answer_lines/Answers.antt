use Rattle.std.proofs.Common.{◌≡◌, List, subst}
use Rattle.std.specs.Prelude.{IfOk}
use Rattle.lk_types.specs.declared.answer.GroupRow.{GroupRow}
use Rattle.lk_semantics.specs.Answers.{cut}
use Rattle.lk_lines.proofs.answer.answer_lines.Goals as goal

pub returns : goal.returns
returns c = λ ascends.
    subst (λ (lines : List GroupRow). IfOk c.cut.result (λ answer. answer ≡ cut c.args.b.now.limit lines)) (c.in_ok-lines.ensures ascends) c.cut.ensures
