use Rattle.std.proofs.Common.{◌≡◌, ◌++◌, drop}
use Rattle.lk_read.specs.Canonical.{characters}
use Rattle.lk_read.proofs.print.print_characters.Given as goal

-- what is written, and what is left, is all
abbrev pub invariant-loop-byte : goal.invariant-loop-byte
invariant-loop-byte l = l.text ++ characters (drop l.byte-index l.string) ≡ l.fn.text ++ characters l.string
