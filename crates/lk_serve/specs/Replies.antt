-- What the program writes, and the status that it ends with.
use Rattle.std.specs.Prelude.{ℕ, List, [], ◌∷◌, ◌++◌, codes}
use Rattle.lk_val.specs.Faults.{fault_text}
use Rattle.lk_val.specs.declared.fault.FaultLine.{FaultLine}
use Rattle.lk_types.specs.declared.answer.Reply as sent
use Rattle.lk_types.specs.declared.model.Model.{Model}
use Rattle.lk_semantics.specs.Derived.{explore_at}
use Rattle.lk_ask.specs.declared.fault.AskFault.{AskFault}
use Rattle.lk_ask.specs.declared.told.Told.{Told}
use Rattle.lk_reply.specs.Answers.{answer_text}
use Rattle.lk_reply.specs.Refusals.{refusal_text}
use Rattle.lk_serve.specs.declared.replies.Reply.{Reply}
use Rattle.lk_serve.specs.declared.replies.Status.{Status}
use Rattle.lk_serve.specs.declared.replies.Status.TheVariants.{Done, Faulty, Usage, Refused}

-- the status of the process: 0 done, 1 a fault of the project, 2 wrong words, 8 a refused query (lookd)
abbrev pub code_of : Status → ℕ
code_of Done = 0
code_of Faulty = 1
code_of Usage = 2
code_of Refused = 8

-- the reply comes before the input is read
abbrev pub ComesUnread : Status → Type 0
ComesUnread Usage = Unit {0}
ComesUnread Faulty = Unit {0}
ComesUnread Done = ⊥
ComesUnread Refused = ⊥

-- a check ended: the project has no fault, or it has one
abbrev pub IsTold : Status → Type 0
IsTold Done = Unit {0}
IsTold Faulty = Unit {0}
IsTold Usage = ⊥
IsTold Refused = ⊥

-- a line and its end
abbrev pub line : List ℕ → List ℕ
line text = text ++ 10 ∷ []

abbrev pub usage_reply : Reply
usage_reply = record { body = line (codes "usage: lookd query|check|sql|script|serve|gen .."); status = Usage }

abbrev pub ok_reply : Reply
ok_reply = record { body = line (codes "ok"); status = Done }

-- the line of a project's fault
abbrev pub fault_reply : FaultLine → Reply
fault_reply fault = record { body = fault_text fault; status = Faulty }

-- the input is too long for a query's body
abbrev pub long_reply : Reply
long_reply = record { body = line (codes "{\"error\":\"H3\"}"); status = Refused }

abbrev pub refused_reply : AskFault → Reply
refused_reply fault = record { body = line (refusal_text fault); status = Refused }

-- an answer as it is printed
abbrev pub printed_answer : sent.Reply → Reply
printed_answer answer = record { body = answer.body; status = Done }

-- the answer over the tables of the snapshot of a number
abbrev pub answer_reply : Model → ℕ → Told → Reply
answer_reply m number told = record { body = answer_text (explore_at m told.bound.explore) told number; status = Done }
