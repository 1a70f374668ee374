use Rattle.std.proofs.Common.{◌≡◌, ◌++◌, drop, map}
use Rattle.lk_csv.proofs.writing.byte_slices.Given as goal

abbrev pub invariant-loop-text : goal.invariant-loop-text
invariant-loop-text l = map (λ slice. slice.now) l.slices.items ++ drop l.text-index l.texts ≡ l.texts
