use Rattle.std.proofs.Common.{◌≡◌, map, length}
use Rattle.lk_view.specs.Tables.{last_name, unless_empty}
use Rattle.lk_view.proofs.table.last_of_plain.Given as goal

abbrev pub decreases-loop-rest : goal.decreases-loop-rest
decreases-loop-rest l = length l.rest

abbrev pub invariant-loop-rest : goal.invariant-loop-rest
invariant-loop-rest l = last_name unless_empty (map (λ t. t.now) l.rest) ≡ last_name unless_empty (map (λ t. t.now) l.fn.texts)
