use Rattle.std.proofs.Common.{◌≡◌, IfOk, subst}
use Rattle.lk_expr_tree.specs.Grammar.{Tree}
use Rattle.lk_expr_tree.specs.RawCode.{tree_of}
use Rattle.lk_expr_tree.proofs.RawLaws.{then_depth, branches_else}
use Rattle.lk_expr_tree.proofs.expr.RawExpr.case_else.Goals as goal

pub over-requires : goal.over-requires
over-requires c = rw (c.in_ok-append.ensures, c.in_ok-count.ensures) (then_depth c.args.branches.count c.args.branches.nodes c.args.other c.args.branches.whole)

pub returns : goal.returns
returns c =
    subst (λ (t : Tree). IfOk c.over.result (λ e. tree_of e ≡ t)) (branches_else c.args.branches c.args.other c.in_ok-count.count c.in_ok-count.ensures)
    (rw c.in_ok-append.ensures at c.over.ensures)
