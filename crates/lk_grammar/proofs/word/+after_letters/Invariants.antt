use Rattle.std.proofs.Common.{length}
use Rattle.lk_grammar.proofs.word.+after_letters.Given as goal

abbrev pub decreases-after_letters : goal.decreases-after_letters
decreases-after_letters l = length l.small.now
