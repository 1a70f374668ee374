use Rattle.std.proofs.Common.{take}
use Rattle.lk_expr_tree.specs.RawCode.{tree_of}
use Rattle.lk_expr_tree.specs.Calls.{unknown_call}
use Rattle.lk_expr_tree.proofs.CallLaws.{IsPassed}
use Rattle.lk_expr_tree.proofs.calls.unknown_call.Given as goal

-- the walk has come to the first nodes
abbrev pub invariant-loop-index : goal.invariant-loop-index
invariant-loop-index l = IsPassed (unknown_call (tree_of l.e)) (take l.index l.nodes) l.found l.passed_over
