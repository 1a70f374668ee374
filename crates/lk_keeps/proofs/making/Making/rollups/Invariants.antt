use Rattle.std.proofs.Common.{◌≡◌, ◌++◌, drop, map}
use Rattle.std.specs.Prelude.{flat_map}
use Rattle.std.specs.List.{enumerate_from}
use Rattle.lk_keeps.specs.Keeps.{sources_over}
use Rattle.lk_keeps.specs.Large.{large_rollups}
use Rattle.lk_keeps.specs.Steps.{rollups_anew}
use Rattle.lk_keeps.proofs.making.Making.rollups.Given as goal

abbrev pub invariant-loop-place : goal.invariant-loop-place
invariant-loop-place l =
    let m = l.self.model.now in
    let groups = l.self.groups.now in
    let stored = l.self.set.now.stored in
    let rows = rollups_anew m groups stored l.self.keeps.now in
    let large = large_rollups groups (sources_over m stored) in
    record {
      made : l.rollups ++ map rows (enumerate_from l.place (drop l.place m.explores)) ≡ map rows (enumerate_from 0 m.explores);
      large : flat_map large (drop l.place m.explores) ≡ flat_map large m.explores;
    }
