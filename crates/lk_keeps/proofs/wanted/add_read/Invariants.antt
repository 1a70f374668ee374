use Rattle.std.proofs.Common.{◌≡◌, ◌++◌, drop}
use Rattle.std.specs.Prelude.{flat_map}
use Rattle.std.specs.List.{enumerate_from}
use Rattle.lk_keeps.specs.Wanted.{read_for_explore}
use Rattle.lk_keeps.proofs.wanted.add_read.Given as goal

abbrev pub invariant-loop-place : goal.invariant-loop-place
invariant-loop-place l =
    l.wanted ++ flat_map (read_for_explore l.groups) (enumerate_from l.place (drop l.place l.explores)) ≡ l.fn.wanted ++ flat_map (read_for_explore l.groups) (enumerate_from 0 l.explores)
