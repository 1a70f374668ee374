use Rattle.std.proofs.Common.{length}
use Rattle.lk_grammar.proofs.form.Form.+exactly.Given as goal

abbrev pub decreases-exactly : goal.decreases-exactly
decreases-exactly l = length l.bytes.now
