use Rattle.std.proofs.Common.{◌≡◌, ◌++◌, drop, map}
use Rattle.lk_csv.specs.Records.{records_text}
use Rattle.lk_reply.specs.Answers.{fields_of}
use Rattle.lk_reply.proofs.answer.append_lines.Given as goal

abbrev pub invariant-loop-row : goal.invariant-loop-row
invariant-loop-row l = l.text ++ records_text (map (fields_of l.x l.picks) (drop l.row-index l.rows)) ≡ l.fn.text ++ records_text (map (fields_of l.x l.picks) l.rows)
