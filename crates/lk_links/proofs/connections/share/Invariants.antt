use Rattle.std.proofs.Common.{◌≡◌, ◌<◌, ◌≤◌, ℕ, length, slice_index_or}
use mathlib.Core.List.{IsPrefix}
use Rattle.lk_front.specs.Chains.{IsChain}
use Rattle.lk_edition.specs.Versions.{Follows, Opens}
use Rattle.lk_links.proofs.connections.share.Given as goal

abbrev pub invariant-loop-connection : goal.invariant-loop-connection
invariant-loop-connection g l =
    (l.connection-index ≤ l.connection-index-end) × (l.connection-index-end ≡ length l.connections) × IsChain Opens Follows l.desk.seen
    × ((place : ℕ) (other : _) → place < length l.connections → length (slice_index_or l.connections place other).worker.desk.seen ≤ length l.desk.seen)
    × ((place : ℕ) (other : _) → place < l.connection-index → IsPrefix (slice_index_or l.connections place other).worker.desk.seen l.desk.seen)
