use Rattle.std.proofs.Common.{◌≡◌, IfOk, subst}
use Rattle.lk_expr_tree.specs.Grammar.{Tree}
use Rattle.lk_expr_tree.specs.RawCode.{tree_of}
use Rattle.lk_expr_tree.proofs.RawLaws.{args_called}
use Rattle.lk_expr_tree.proofs.expr.RawArgs.called.Goals as goal

pub returns : goal.returns
returns c = subst (λ (t : Tree). IfOk c.over.result (λ e. tree_of e ≡ t)) (args_called c.args.self c.args.name c.args.place) c.over.ensures
