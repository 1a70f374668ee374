use Rattle.std.proofs.Common.{◌≡◌, ◌++◌, drop}
use Rattle.std.specs.Prelude.{flat_map}
use Rattle.lk_keeps.specs.Wanted.{read_for}
use Rattle.lk_keeps.proofs.wanted.add_read_by.Given as goal

abbrev pub invariant-loop-rollup : goal.invariant-loop-rollup
invariant-loop-rollup l =
    l.wanted ++ flat_map (read_for l.groups l.number l.x) (drop l.rollup-index l.x.rollups) ≡ l.fn.wanted ++ flat_map (read_for l.groups l.number l.x) l.x.rollups
