-- The batches so far, and those of the tables to come.
use Rattle.std.proofs.Common.{◌≡◌, ◌++◌, ◌+◌, ◌<◌, length}
use Rattle.std.specs.List.{All}
use Rattle.lk_state.specs.Openings.{Seed}
use Rattle.lk_serve.specs.Opened.{numbered}
use Rattle.lk_serve.proofs.opening.numbered.Given as goal

abbrev pub invariant-loop-seed : goal.invariant-loop-seed
invariant-loop-seed l = record {
  count : l.number + length l.seed-iterator.rest.items ≡ length l.fn.seeds;
  so_far : l.given.items ++ numbered l.number l.seed-iterator.rest.items ≡ numbered 0 l.fn.seeds;
  below : All (λ (seed : Seed). seed.0 < length l.fn.seeds) l.given.items;
}
