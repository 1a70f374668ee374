use Rattle.std.proofs.Common.{length}
use Rattle.lk_expr_token.proofs.functions.+is_word.Given as goal

abbrev pub decreases-is_word : goal.decreases-is_word
decreases-is_word l = length l.name.now
