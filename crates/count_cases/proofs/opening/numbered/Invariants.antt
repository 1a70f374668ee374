-- As many tables are numbered as were gone over, and each batch has the number of one of them.
use Rattle.std.proofs.Common.{◌≡◌, ◌+◌, ◌<◌, length}
use Rattle.std.specs.List.{All}
use Rattle.lk_state.specs.Openings.{Seed}
use Rattle.count_cases.proofs.opening.numbered.Given as goal

abbrev pub invariant-loop-seed : goal.invariant-loop-seed
invariant-loop-seed l = record {
  count : l.number + length l.seed-iterator.rest.items ≡ length l.fn.seeds;
  below : All (λ (seed : Seed). seed.0 < length l.fn.seeds) l.given.items;
}
