-- The reply to a query over HTTP: its status, whether its body is in CSV, and its body. (RFC 9110, section 15; lookd)
use Rattle.std.specs.Prelude.{ℕ, Bool, false, List, if◌then◌else◌}
use Rattle.lk_types.specs.declared.answer.Reply.{Reply}
use Rattle.lk_types.specs.declared.explore.Explore.{Explore}
use Rattle.lk_ask.specs.declared.fault.AskFault.{AskFault}
use Rattle.lk_ask.specs.declared.fault.AskFault.TheVariants as fault
use Rattle.lk_ask.specs.declared.told.Told.{Told}
use Rattle.lk_reply.specs.Answers.{answer_text}
use Rattle.lk_reply.specs.JsonAnswers.{answer_json}
use Rattle.lk_reply.specs.Refusals.{refusal_text}

-- an unknown explore is not found, an unknown user and a lacking attribute are forbidden, two values for a key are a conflict,
-- too many rows are too large, and the others are bad requests
abbrev pub status_of : AskFault → ℕ
status_of (fault.Q1 explore) = 404
status_of (fault.Q2 user) = 403
status_of fault.Q3 = 400
status_of (fault.Q4 field) = 400
status_of (fault.Q5 field attribute) = 403
status_of (fault.Q6 field place) = 400
status_of (fault.Q7 measure) = 400
status_of (fault.Q8 limit) = 400
status_of (fault.Q9 measure key) = 409
status_of fault.Q10 = 413
status_of fault.NoMemory = 507

abbrev pub refusal_reply : AskFault → Reply
refusal_reply fault = record { status = status_of fault; csv = false; body = refusal_text fault }

abbrev pub answer_body : Bool → Explore → Told → ℕ → List ℕ
answer_body csv x told snapshot = if csv then answer_text x told snapshot else answer_json x told snapshot

abbrev pub answer_reply : Bool → Explore → Told → ℕ → Reply
answer_reply csv x told snapshot = record { status = 200; csv = csv; body = answer_body csv x told snapshot }
