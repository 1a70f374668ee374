use Rattle.std.proofs.Common.{◌≡◌, ◌++◌, drop, false}
use Rattle.lk_sql_read.specs.Quoting.{pieces_from}
use Rattle.lk_sql_read.proofs.quoting.pieces_of.Given as goal

abbrev pub invariant-loop-byte : goal.invariant-loop-byte
invariant-loop-byte l = l.pieces ++ pieces_from l.escaped (drop l.byte-index l.pattern) ≡ pieces_from false l.pattern
