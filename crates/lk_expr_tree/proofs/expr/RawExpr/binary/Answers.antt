use Rattle.std.proofs.Common.{◌≡◌, List, IfOk, subst}
use Rattle.lk_expr_tree.specs.Grammar.{Tree}
use Rattle.lk_expr_tree.specs.RawCode.{tree_of}
use Rattle.lk_expr_tree.specs.RawNodes.{made}
use Rattle.lk_expr_tree.proofs.RawLaws.{two_depth, two_trees}
use Rattle.lk_expr_tree.proofs.expr.RawExpr.binary.Goals as goal

pub over-requires : goal.over-requires
over-requires c = rw (c.in_ok-append.ensures, c.requires) (two_depth c.args.a c.args.b)

pub returns : goal.returns
returns c =
    subst (λ (ts : List Tree). IfOk c.over.result (λ e. tree_of e ≡ made c.args.node ts)) (two_trees c.args.a c.args.b)
    (rw c.in_ok-append.ensures at c.over.ensures)
