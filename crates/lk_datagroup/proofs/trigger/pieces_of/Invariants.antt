use Rattle.std.proofs.Common.{◌≡◌, ◌++◌, map, drop}
use Rattle.std.specs.List.{filter}
use Rattle.lk_datagroup.specs.Triggers.{is_given}
use Rattle.lk_datagroup.proofs.trigger.pieces_of.Given as goal

abbrev pub invariant-loop-piece : goal.invariant-loop-piece
invariant-loop-piece l =
    map (λ p. p.now) l.pieces.items ++ filter is_given (map (λ p. p.now) (drop l.piece-index l.piece-items)) ≡ filter is_given (map (λ p. p.now) l.piece-items)
