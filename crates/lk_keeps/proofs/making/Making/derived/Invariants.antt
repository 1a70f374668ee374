use Rattle.std.proofs.Common.{◌≡◌, ◌++◌, drop, map}
use Rattle.std.specs.List.{enumerate_from}
use Rattle.lk_keeps.specs.Anew.{derived_anew}
use Rattle.lk_keeps.proofs.making.Making.derived.Given as goal

abbrev pub invariant-loop-place : goal.invariant-loop-place
invariant-loop-place l =
    let m = l.self.model.now in
    let rows = derived_anew m l.self.groups.now l.self.set.now.stored l.self.keeps.now in
    l.derived ++ map rows (enumerate_from l.place (drop l.place m.derived)) ≡ map rows (enumerate_from 0 m.derived)
