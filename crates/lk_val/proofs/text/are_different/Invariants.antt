use Rattle.std.proofs.Common.{◌≡◌, drop}
use Rattle.lk_val.specs.Texts.{are_different}
use Rattle.lk_val.proofs.text.are_different.Given as goal

abbrev pub invariant-loop-place : goal.invariant-loop-place
invariant-loop-place l = are_different (drop l.place l.texts) ≡ are_different l.texts
