use Rattle.std.proofs.Common.{◌≡◌, ◌++◌, drop, map}
use Rattle.std.specs.List.{enumerate_from}
use Rattle.lk_keeps.specs.Built.{all_built, rows_built}
use Rattle.lk_keeps.proofs.built.all_built.Given as goal

abbrev pub invariant-loop-place : goal.invariant-loop-place
invariant-loop-place l =
    l.rows ++ map (rows_built l.keeps l.group) (enumerate_from l.place (drop l.place l.m.derived)) ≡ all_built l.m l.keeps l.group
