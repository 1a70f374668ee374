-- What the program writes, and the status that it ends with.
use Rattle.std.specs.Prelude.{ℕ, List, [], ◌∷◌, ◌++◌, codes}
use Rattle.lk_val.specs.Faults.{fault_text}
use Rattle.lk_val.specs.declared.fault.FaultLine.{FaultLine}
use Rattle.lk_ask.specs.declared.fault.AskFault.{AskFault}
use Rattle.lk_reply.specs.Refusals.{refusal_text}
use Rattle.lookd_why.specs.declared.reply.Reply.{Reply}
use Rattle.lookd_why.specs.declared.reply.Status.{Status}
use Rattle.lookd_why.specs.declared.reply.Status.TheVariants.{Done, Faulty, Usage, Refused}

-- the status of the process: 0 done, 1 a fault of the project, 2 wrong words, 8 a refused query (lookd)
abbrev pub code_of : Status → ℕ
code_of Done = 0
code_of Faulty = 1
code_of Usage = 2
code_of Refused = 8

-- a line and its end
abbrev pub line : List ℕ → List ℕ
line text = text ++ 10 ∷ []

abbrev pub usage_reply : Reply
usage_reply = record { body = line (codes "usage: lookd_why DIR USER EXPLORE"); status = Usage }

-- the line of a project's fault
abbrev pub fault_reply : FaultLine → Reply
fault_reply fault = record { body = fault_text fault; status = Faulty }

-- the input is too long for a query
abbrev pub long_reply : Reply
long_reply = record { body = line (codes "{\"error\":\"H3\"}"); status = Refused }

abbrev pub refused_reply : AskFault → Reply
refused_reply fault = record { body = line (refusal_text fault); status = Refused }

-- the lines on the aggregate tables
abbrev pub told_reply : List ℕ → Reply
told_reply text = record { body = text; status = Done }
