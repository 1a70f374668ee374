use Rattle.std.proofs.Common.{◌≡◌, ◌++◌, drop, map}
use Rattle.serde_json.specs.View.{view}
use Rattle.lk_reply.specs.JsonAnswers.{cells_of}
use Rattle.lk_reply.proofs.json_answer.cells_of.Given as goal

abbrev pub invariant-loop-pick : goal.invariant-loop-pick
invariant-loop-pick l =
    map view l.values.items ++ cells_of l.x (drop l.pick-index l.picks) l.rest ≡ cells_of l.x l.picks l.cells
