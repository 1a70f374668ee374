use Rattle.std.proofs.Common.{◌≡◌, drop}
use Rattle.std.specs.List.{enumerate_from}
use Rattle.lk_keeps.specs.Keeps.{sources_over}
use Rattle.lk_keeps.specs.Large.{large_tables}
use Rattle.lk_keeps.specs.Steps.{large_persisted}
use Rattle.lk_keeps.proofs.making.Making.test_tables.Given as goal

-- what is too large is among the tables that are left
abbrev pub invariant-loop-place : goal.invariant-loop-place
invariant-loop-place l =
    let m = l.self.model.now in
    let groups = l.self.groups.now in
    let s = sources_over m l.self.set.now.stored in
    large_persisted groups s (enumerate_from l.place (drop l.place m.derived)) ≡ large_tables m groups s
