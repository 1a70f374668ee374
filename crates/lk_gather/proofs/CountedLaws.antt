-- What holds of a counted answer, where it holds of the answer.
use Rattle.std.proofs.Common.{◌≡◌, ℕ, subst, ◌∙◌}
use Rattle.std.specs.Prelude.{Result, Ok, Err, IfOk}
use Rattle.lk_types.specs.declared.answer.Answer.{Answer}
use Rattle.lk_exec.specs.declared.visit.ExecFault.{ExecFault}
use Rattle.lk_gather.specs.declared.answering.Counted.{Counted}

pub answer_kept : (answer : Result Answer ExecFault) (result : Result Counted ExecFault) (wanted : Answer)
    → IfOk result (λ counted. answer ≡ Ok counted.answer) → IfOk answer (λ a. a ≡ wanted) → IfOk result (λ counted. counted.answer ≡ wanted)
answer_kept answer (Ok counted) wanted is holds = subst (λ (a : Result Answer ExecFault). IfOk a (λ a. a ≡ wanted)) is holds
answer_kept answer (Err why) wanted is holds = tt

pub rows_kept : (result : Result Counted ExecFault) (rows wanted : ℕ)
    → IfOk result (λ counted. counted.rows ≡ rows) → rows ≡ wanted → IfOk result (λ counted. counted.rows ≡ wanted)
rows_kept (Ok counted) rows wanted is holds = is ∙ holds
rows_kept (Err why) rows wanted is holds = tt

pub always : (result : Result Counted ExecFault) (Fact : Type 0) → Fact → IfOk result (λ counted. Fact)
always (Ok counted) Fact fact = fact
always (Err why) Fact fact = tt
