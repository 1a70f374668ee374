use Rattle.std.proofs.Common.{drop}
use Rattle.lk_reply.specs.Answers.{fields_of}
use Rattle.lk_reply.proofs.AnswerLaws.{ended}
use Rattle.lk_reply.proofs.answer.fields_of.Goals as goal

pub returns-in-empty : goal.returns-in-empty
returns-in-empty c =
    ended c.args.x.now (drop c.loop-pick.pick-index c.args.picks.now) c.loop-pick.rest.now c.loop-pick.fields
    (fields_of c.args.x.now c.args.picks.now c.args.cells.now) c.in-empty.len_below c.loop-pick.invariant
