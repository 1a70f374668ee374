use Rattle.std.proofs.Common.{length}
use Rattle.lk_grammar.proofs.form.Form.+any_of.Given as goal

abbrev pub decreases-any_of : goal.decreases-any_of
decreases-any_of l = length l.bytes.now
