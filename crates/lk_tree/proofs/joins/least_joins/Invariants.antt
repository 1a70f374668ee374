use Rattle.std.proofs.Common.{◌≡◌, List, ℕ, length}
use Rattle.std.specs.Prelude.{nat_eq}
use Rattle.lk_val.specs.Least.{grown_times}
use Rattle.lk_semantics.specs.Joins.{is_asked, numbers_below}
use Rattle.lk_tree.specs.Asking.{IsAsking}
use Rattle.lk_tree.proofs.joins.least_joins.Given as goal

abbrev pub invariant-loop-round : goal.invariant-loop-round
invariant-loop-round l = (parts : List ℕ) → IsAsking l.x parts l.asked l.asking → l.joins ≡ grown_times nat_eq (numbers_below (length l.x.joins)) (is_asked l.x parts) l._round
