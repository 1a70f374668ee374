use Rattle.std.proofs.Common.{◌≡◌, ◌<◌, ◌≤◌, ℕ, length, slice_index_or}
use Rattle.lk_links.proofs.connections.longest.Given as goal

abbrev pub invariant-loop-place : goal.invariant-loop-place
invariant-loop-place g l =
    (1 ≤ l.place) × (l.place ≤ l.place-end) × (l.place-end ≡ length l.connections) × (l.longest < l.place)
    × ((place : ℕ) (other : _) → place < l.place
    → length (slice_index_or l.connections place other).worker.desk.seen ≤ length (slice_index_or l.connections l.longest other).worker.desk.seen)
