use Rattle.std.proofs.Common.{◌≡◌, ◌++◌, drop, map}
use Rattle.lk_types.specs.declared.expr.Piece.TheVariants.{Byte}
use Rattle.lk_filter_text.proofs.patterns.push_bytes.Given as goal

-- the pieces so far, and those of the bytes that are left, are all pieces
abbrev pub invariant-loop-byte : goal.invariant-loop-byte
invariant-loop-byte l = l.pieces ++ map Byte (drop l.byte-index l.bytes) ≡ l.initial.pieces ++ map Byte l.bytes
