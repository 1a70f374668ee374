use Rattle.std.proofs.Common.{◌≡◌, IfOk, subst}
use Rattle.lk_expr_tree.specs.Grammar.{Tree}
use Rattle.lk_expr_tree.specs.RawCode.{tree_of}
use Rattle.lk_expr_tree.proofs.RawLaws.{branches_ended}
use Rattle.lk_expr_tree.proofs.expr.RawBranches.ended.Goals as goal

pub returns : goal.returns
returns c = subst (λ (t : Tree). IfOk c.over.result (λ e. tree_of e ≡ t)) (branches_ended c.args.self) c.over.ensures
