use Rattle.std.proofs.Common.{◌≡◌}
use Rattle.lk_shelf.proofs.steps.add.Given as goal

-- a try that did not add left the beginning as it was
abbrev pub invariant-loop : goal.invariant-loop
invariant-loop g l =
    (goal.iterator-loop g).can_next l.iterator' × (goal.iterator-loop g).is_finite l.iterator'
    × (l.front ≡ l.fn.front)
