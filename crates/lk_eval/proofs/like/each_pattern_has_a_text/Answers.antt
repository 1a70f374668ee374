use Rattle.lk_eval.proofs.PatternLaws.{text_read}
use Rattle.lk_eval.proofs.like.each_pattern_has_a_text.Goals as goal

pub returns : goal.returns
returns c = text_read
