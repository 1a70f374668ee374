use Rattle.std.proofs.Common.{◌≡◌, ◌++◌, drop}
use Rattle.lk_semantics.specs.Answers.{dims_of}
use Rattle.lk_tree.proofs.joins.fields_of.Given as goal

abbrev pub invariant-loop-pick : goal.invariant-loop-pick
invariant-loop-pick l = l.fields ++ dims_of (drop l.pick-index l.picks) ≡ dims_of l.picks

abbrev pub invariant-loop-field : goal.invariant-loop-field
invariant-loop-field l = l.fields ++ drop l.field-index l.more ≡ dims_of l.picks ++ l.more
