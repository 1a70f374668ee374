use Rattle.std.proofs.Common.{◌≡◌, length}
use Rattle.lk_sql_read.specs.Quoting.{first_characters, with_bytes}
use Rattle.lk_sql_read.proofs.quoting.first_characters.Given as goal

abbrev pub invariant-loop-byte : goal.invariant-loop-byte
invariant-loop-byte l = with_bytes l.characters.items (first_characters l.quote l.rest) ≡ first_characters l.quote l.text

abbrev pub decreases-loop-byte : goal.decreases-loop-byte
decreases-loop-byte l = length l.rest
