use Rattle.std.proofs.Common.{◌≡◌, ◌≤◌, ◌∷◌, [], length, drop, MatchOption}
use Rattle.lk_shelf.proofs.steps.show.Given as goal

-- either the stand has to be logged, and nothing is pending, or it is what is pending
abbrev pub invariant-loop : goal.invariant-loop
invariant-loop g l =
    (goal.iterator-loop g).can_next l.iterator' × (goal.iterator-loop g).is_finite l.iterator'
    × (l.writer.desk ≡ l.fn.writer.desk)
    × MatchOption l.next (drop l.writer.behind l.writer.log.items ≡ l.fn.stand ∷ []) (λ stand. (stand ≡ l.fn.stand) × (drop l.writer.behind l.writer.log.items ≡ []))

-- it is what is pending, and its list is no shorter than the shown one
abbrev pub invariant-loop-2 : goal.invariant-loop-2
invariant-loop-2 g l =
    (goal.iterator-loop-2 g).can_next l.iterator' × (goal.iterator-loop-2 g).is_finite l.iterator'
    × (drop l.writer.behind l.writer.log.items ≡ l.fn.stand ∷ [])
    × (length l.writer.desk.shown.value ≤ length l.fn.stand)
