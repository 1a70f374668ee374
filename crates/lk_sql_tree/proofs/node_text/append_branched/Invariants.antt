use Rattle.std.proofs.Common.{◌≡◌, ◌++◌, length}
use Rattle.lk_sql_tree.specs.NodeTexts.{branched}
use Rattle.lk_sql_tree.proofs.node_text.append_branched.Given as goal

abbrev pub invariant-loop-rest : goal.invariant-loop-rest
invariant-loop-rest l = l.text ++ branched l.rest ≡ l.fn.text ++ branched l.operands

abbrev pub decreases-loop-rest : goal.decreases-loop-rest
decreases-loop-rest l = length l.rest
