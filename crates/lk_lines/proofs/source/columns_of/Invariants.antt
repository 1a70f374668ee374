use Rattle.std.proofs.Common.{◌≡◌, ◌++◌, drop, map}
use Rattle.lk_lines.specs.Sources.{column_of}
use Rattle.lk_lines.proofs.source.columns_of.Given as goal

abbrev pub invariant-loop-pick : goal.invariant-loop-pick
invariant-loop-pick l = l.columns ++ map (column_of l.x l.components) (drop l.pick-index l.picks) ≡ map (column_of l.x l.components) l.picks
