use Rattle.std.proofs.Common.{arith}
use Rattle.lk_expr_tree.proofs.RawLaws.{branches_depth, branches_more}
use Rattle.lk_expr_tree.proofs.expr.RawBranches.with.Goals as goal

pub invariant_of-result : goal.invariant_of-result
invariant_of-result c = record {
  whole = rw (c.in_ok-append-2.ensures, c.in_ok-append.ensures, c.in_ok-count.ensures) (branches_depth c.args.self c.args.c c.args.a);
  some = omega (arith, c.in_ok-count.ensures);
}

pub returns : goal.returns
returns c = branches_more _ c.args.self c.args.c c.args.a (rw c.in_ok-append.ensures at c.in_ok-append-2.ensures)
