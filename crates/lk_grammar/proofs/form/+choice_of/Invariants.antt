use Rattle.std.proofs.Common.{length}
use Rattle.std.specs.Vec.Iter.{into_iter_items}
use Rattle.lk_grammar.proofs.form.+choice_of.Given as goal

abbrev pub decreases-choice_of : goal.decreases-choice_of
decreases-choice_of l = length (into_iter_items l.forms.now)
