use Rattle.std.proofs.Common.{◌≡◌, ◌++◌, drop}
use Rattle.std.specs.Prelude.{map}
use Rattle.lk_merge.proofs.by_name.same.Given as goal

abbrev pub invariant-loop-d : goal.invariant-loop-d
invariant-loop-d l = map (λ d. d.now) l.ds.items ++ map (λ d. d.now) (drop l.d-index l.own) ≡ map (λ d. d.now) l.own
