use Rattle.std.proofs.Common.{length}
use Rattle.lk_grammar.proofs.form.Form.+letters.Given as goal

abbrev pub decreases-letters : goal.decreases-letters
decreases-letters l = length l.small.now
