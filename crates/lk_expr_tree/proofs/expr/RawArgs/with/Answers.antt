use Rattle.std.proofs.Common.{arith}
use Rattle.lk_expr_tree.proofs.RawLaws.{then_depth, args_more}
use Rattle.lk_expr_tree.proofs.expr.RawArgs.with.Goals as goal

pub invariant_of-result : goal.invariant_of-result
invariant_of-result c = record {
  whole = rw (c.in_ok-append.ensures, c.in_ok-count.ensures) (then_depth c.args.self.count c.args.self.nodes c.args.a c.args.self.whole);
  some = omega (arith, c.in_ok-count.ensures);
}

pub returns : goal.returns
returns c = args_more _ c.args.self c.args.a c.in_ok-append.ensures
