use Rattle.shelf_tests.specs.Numbers.{CountsItself}
use Rattle.shelf_tests.proofs.tests.learn_forty.Given as goal

-- each number that was published is how many stand before it
abbrev pub invariant-loop : goal.invariant-loop
invariant-loop g l = CountsItself l.publisher.0
