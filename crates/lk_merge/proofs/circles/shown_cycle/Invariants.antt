use Rattle.std.proofs.Common.{◌≡◌, drop}
use Rattle.std.specs.Prelude.{find}
use Rattle.lk_merge.specs.MergeFaults.{is_on_cycle}
use Rattle.lk_merge.proofs.circles.shown_cycle.Given as goal

abbrev pub invariant-loop-name : goal.invariant-loop-name
invariant-loop-name l = find (is_on_cycle l.all.them.now l.kind) (drop l.name-index l.names) ≡ find (is_on_cycle l.all.them.now l.kind) l.names
