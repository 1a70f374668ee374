use Rattle.std.proofs.Common.{◌≡◌, ◌||◌, List, ℕ}
use Rattle.std.specs.Prelude.{filter}
use Rattle.lk_types.specs.Expressions.{has_number}
use Rattle.lk_semantics.specs.Joins.{is_asked, numbers_below}
use Rattle.lk_tree.specs.Asking.{IsAsking}
use Rattle.lk_tree.proofs.joins.grown.Given as goal

abbrev pub invariant-loop-j : goal.invariant-loop-j
invariant-loop-j l = (parts : List ℕ) → IsAsking l.x parts l.asked l.asking → l.more ≡ filter (λ j. has_number j l.joins || is_asked l.x parts l.joins j) (numbers_below l.j)
