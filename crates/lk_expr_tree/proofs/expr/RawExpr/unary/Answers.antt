use Rattle.std.proofs.Common.{◌≡◌, List, IfOk, subst}
use Rattle.lk_expr_tree.specs.Grammar.{Tree}
use Rattle.lk_expr_tree.specs.RawCode.{tree_of}
use Rattle.lk_expr_tree.specs.RawNodes.{made}
use Rattle.lk_expr_tree.proofs.RawLaws.{one_tree}
use Rattle.lk_expr_tree.proofs.expr.RawExpr.unary.Goals as goal

pub returns : goal.returns
returns c = subst (λ (ts : List Tree). IfOk c.over.result (λ e. tree_of e ≡ made c.args.node ts)) (one_tree c.args.a) c.over.ensures
