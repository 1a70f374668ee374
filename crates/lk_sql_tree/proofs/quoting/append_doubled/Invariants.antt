use Rattle.std.proofs.Common.{◌≡◌, ◌++◌, take}
use Rattle.lk_sql_tree.specs.Texts.{doubled}
use Rattle.lk_sql_tree.proofs.quoting.append_doubled.Given as goal

abbrev pub invariant-loop-byte : goal.invariant-loop-byte
invariant-loop-byte l = l.text ≡ l.fn.text ++ doubled l.quote (take l.byte-index l.inner)
