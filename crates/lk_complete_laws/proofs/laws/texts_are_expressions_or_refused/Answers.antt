use Rattle.lk_complete_laws.proofs.ExprReadings.{expr_read}
use Rattle.lk_complete_laws.proofs.laws.texts_are_expressions_or_refused.Goals as goal

pub returns : goal.returns
returns c = expr_read
