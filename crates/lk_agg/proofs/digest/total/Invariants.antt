use Rattle.std.proofs.Common.{◌≡◌, ◌*◌, ◌^◌, drop, map, pos, ◌+ℤ◌, ◌≤ℤ◌}
use Rattle.std.specs.Prelude.{neg_ℤ}
use Rattle.lk_semantics.specs.Measures.{total}
use Rattle.lk_agg.proofs.digest.total.Given as goal

abbrev pub invariant-loop-pair : goal.invariant-loop-pair
invariant-loop-pair g l = record {
  rest : l.sum +ℤ total (map g.T.Paired.pair (drop l.pair-index l.pairs)) ≡ total (map g.T.Paired.pair l.pairs);
  low : neg_ℤ (pos (2 ^ 63 * l.pair-index)) ≤ℤ l.sum;
  high : l.sum ≤ℤ pos (2 ^ 63 * l.pair-index);
}
