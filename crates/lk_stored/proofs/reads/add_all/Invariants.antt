use Rattle.std.proofs.Common.{◌≡◌, ◌++◌, drop}
use Rattle.lk_stored.proofs.reads.add_all.Given as goal

abbrev pub invariant-loop-field : goal.invariant-loop-field
invariant-loop-field l = l.fields ++ drop l.field-index l.more ≡ l.fn.fields ++ l.more
