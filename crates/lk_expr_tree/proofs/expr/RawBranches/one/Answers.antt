use Rattle.std.proofs.Common.{arith}
use Rattle.lk_expr_tree.proofs.RawLaws.{two_depth, branches_one}
use Rattle.lk_expr_tree.proofs.expr.RawBranches.one.Goals as goal

pub invariant_of-result : goal.invariant_of-result
invariant_of-result c = record { whole = rw c.in_ok-append.ensures (two_depth c.args.c c.args.a); some = omega arith }

pub returns : goal.returns
returns c = branches_one _ c.args.c c.args.a c.in_ok-append.ensures
