use Rattle.std.proofs.Common.{◌≡◌, drop}
use Rattle.lk_fill.specs.Fills.{needed_over}
use Rattle.lk_fill.proofs.needed.needed_over.Given as goal

abbrev pub invariant-loop-place : goal.invariant-loop-place
invariant-loop-place l = l.needed ≡ needed_over l.m l.at_hand (drop l.place l.order) l.wanted
