use Rattle.std.proofs.Common.{◌≡◌, drop}
use Rattle.lk_merge.specs.Ranks.{do_descend}
use Rattle.lk_merge.proofs.ranks.do_descend.Given as goal

abbrev pub invariant-loop-name : goal.invariant-loop-name
invariant-loop-name l =
    do_descend l.all.them.now l.kind l.names l.ranks (drop l.name-index l.names) ≡ do_descend l.all.them.now l.kind l.names l.ranks l.names
