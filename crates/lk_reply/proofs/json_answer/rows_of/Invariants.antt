use Rattle.std.proofs.Common.{◌≡◌, ◌++◌, drop, map}
use Rattle.serde_json.specs.View.{view}
use Rattle.lk_reply.specs.JsonAnswers.{row_of}
use Rattle.lk_reply.proofs.json_answer.rows_of.Given as goal

abbrev pub invariant-loop-cells : goal.invariant-loop-cells
invariant-loop-cells l =
    map view l.rows.items ++ map (row_of l.x l.picks) (drop l.cells-index l.lines) ≡ map (row_of l.x l.picks) l.lines
