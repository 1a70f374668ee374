use Rattle.std.proofs.Common.{◌≡◌, drop}
use Rattle.std.specs.List.{list_any}
use Rattle.lk_tree.specs.Standings.{presents_by}
use Rattle.lk_tree.proofs.standing.is_present_over.Given as goal

abbrev pub invariant-loop-j : goal.invariant-loop-j
invariant-loop-j l = list_any (presents_by l.x l.marks l.w) (drop l.j-index l.joins) ≡ list_any (presents_by l.x l.marks l.w) l.joins
