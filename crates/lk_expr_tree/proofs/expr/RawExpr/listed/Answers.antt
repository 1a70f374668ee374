use Rattle.std.proofs.Common.{◌≡◌, IfOk, subst}
use Rattle.lk_expr_tree.specs.Grammar.{Tree}
use Rattle.lk_expr_tree.specs.RawCode.{tree_of}
use Rattle.lk_expr_tree.proofs.RawLaws.{list_depth, list_made}
use Rattle.lk_expr_tree.proofs.expr.RawExpr.listed.Goals as goal

pub over-requires : goal.over-requires
over-requires c = rw (c.in_ok-append.ensures, c.in_ok-count.ensures) (list_depth c.args.a c.args.list)

pub returns : goal.returns
returns c =
    subst (λ (t : Tree). IfOk c.over.result (λ e. tree_of e ≡ t)) (list_made c.args.a c.args.list c.args.negated c.in_ok-count.count)
    (rw c.in_ok-append.ensures at c.over.ensures)
