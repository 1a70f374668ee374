use Rattle.std.proofs.Common.{drop, map}
use Rattle.serde_json.specs.View.{view}
use Rattle.lk_reply.specs.JsonAnswers.{cells_of}
use Rattle.lk_reply.proofs.JsonLaws.{ended}
use Rattle.lk_reply.proofs.json_answer.cells_of.Goals as goal

pub returns-in-empty : goal.returns-in-empty
returns-in-empty c =
    ended c.args.x.now (drop c.loop-pick.pick-index c.args.picks.now) c.loop-pick.rest.now (map view c.loop-pick.values.items)
    (cells_of c.args.x.now c.args.picks.now c.args.cells.now) c.in-empty.len_below c.loop-pick.invariant
