-- The pieces so far, and the others fit.
use Rattle.std.proofs.Common.{◌≡◌, ◌++◌, ◌+◌, ◌≤◌, length, drop, sum_by}
use Rattle.std.specs.List.{flat_map}
use Rattle.arrayvec.specs.ArrayVec.{array_vec_len}
use Rattle.lk_http.proofs.reply.gather.Given as goal

abbrev pub invariant-loop-piece : goal.invariant-loop-piece
invariant-loop-piece l = record {
  fits : array_vec_len l.bytes + sum_by (λ piece. length piece.now) (drop l.piece-index l.pieces) ≤ 256;
  done : l.bytes.items ++ flat_map (λ piece. piece.now) (drop l.piece-index l.pieces) ≡ flat_map (λ piece. piece.now) l.pieces;
}
