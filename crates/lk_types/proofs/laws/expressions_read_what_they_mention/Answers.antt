use Rattle.lk_types.proofs.MentionLaws.{value_of-agree}
use Rattle.lk_types.proofs.laws.expressions_read_what_they_mention.Goals as goal

pub returns : goal.returns
returns c = record { mentioned = λ e r s agree. value_of-agree e r s (record { at = agree }) }
