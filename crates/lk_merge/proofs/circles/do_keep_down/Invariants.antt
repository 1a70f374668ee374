use Rattle.std.proofs.Common.{◌≡◌, drop}
use Rattle.lk_merge.specs.Ranks.{do_keep_down}
use Rattle.lk_merge.proofs.circles.do_keep_down.Given as goal

abbrev pub invariant-loop-name : goal.invariant-loop-name
invariant-loop-name l = do_keep_down l.all.them.now l.kind l.names l.numbers (drop l.name-index l.names) ≡ do_keep_down l.all.them.now l.kind l.names l.numbers l.names
