use Rattle.std.proofs.Common.{refl}
use Rattle.lk_expr_tree.proofs.RawLaws.{args_one}
use Rattle.lk_expr_tree.proofs.expr.RawArgs.one.Goals as goal

pub returns : goal.returns
returns c = args_one _ c.args.a refl
