use Rattle.std.proofs.Common.{◌≡◌, ◌++◌, drop, map}
use Rattle.std.specs.List.{enumerate_from}
use Rattle.lk_semantics.specs.Derived.{explore_at}
use Rattle.lk_keeps.specs.Anew.{rollup_anew}
use Rattle.lk_keeps.specs.Keeps.{sources_over}
use Rattle.lk_keeps.specs.Large.{large_rollups}
use Rattle.lk_keeps.specs.Steps.{large_among, rollups_anew}
use Rattle.lk_keeps.proofs.making.Making.rollups_of.Given as goal

abbrev pub invariant-loop-place : goal.invariant-loop-place
invariant-loop-place l =
    let m = l.self.model.now in
    let groups = l.self.groups.now in
    let stored = l.self.set.now.stored in
    let x = explore_at m l.explore in
    let s = sources_over m stored in
    record {
      made : l.rollups ++ map (rollup_anew m groups stored l.self.keeps.now l.explore x) (enumerate_from l.place (drop l.place x.rollups))
          ≡ rollups_anew m groups stored l.self.keeps.now (l.explore, x);
      large : large_among groups s x (drop l.place x.rollups) ≡ large_rollups groups s x;
    }
