use Rattle.std.proofs.Common.{◌≡◌, drop}
use Rattle.lk_semantics.specs.Answers.{first_each}
use Rattle.lk_tree.proofs.ComponentLaws.{found_first}
use Rattle.lk_tree.proofs.component.first_each.Given as goal

abbrev pub invariant-loop-n : goal.invariant-loop-n
invariant-loop-n l = found_first l.first (drop l.n-index l.numbers) ≡ first_each l.numbers
