use Rattle.std.proofs.Common.{ap}
use Rattle.lk_turns.specs.Runs.{how_ended}
use Rattle.lk_turns.proofs.StepLaws.{refused}
use Rattle.lk_turns.proofs.answering.refuse.Goals as goal

pub returns-clause-sent : goal.returns-clause-sent
returns-clause-sent g c =
    refused c.closed_by.result c.reply_fault-reply.result c.requires c.reply_fault-reply.ensures c.closes.ensures
    (ap (how_ended c.args.last) c.closed_by.ensures) c.send.ensures.sent
