use Rattle.std.proofs.Common.{◌≡◌, ◌≤◌, ◌+◌, length, drop}
use Rattle.std.specs.List.{position_or_len}
use Rattle.lk_resolved.specs.Names.{goes_before}
use Rattle.lk_resolved.proofs.names.place_of.Given as goal

abbrev pub invariant-loop-place : goal.invariant-loop-place
invariant-loop-place l =
    record {
      begun : l.place ≤ length l.named;
      rest : l.place + position_or_len (goes_before l.dimension) (drop l.place l.named) ≡ position_or_len (goes_before l.dimension) l.named;
    }
