use Rattle.std.proofs.Common.{length}
use Rattle.std.specs.Vec.Iter.{into_iter_items}
use Rattle.lk_grammar.proofs.form.+sequence_of.Given as goal

abbrev pub decreases-sequence_of : goal.decreases-sequence_of
decreases-sequence_of l = length (into_iter_items l.forms.now)
