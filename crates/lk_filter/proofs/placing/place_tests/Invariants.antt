-- What is placed so far, and what is left when it is placed, are all the tests placed.
use Rattle.std.proofs.Common.{◌≡◌, ◌++◌, map, drop}
use Rattle.lk_types.specs.Filters.{placed_test}
use Rattle.lk_filter.proofs.placing.place_tests.Given as goal

abbrev pub invariant-loop-test : goal.invariant-loop-test
invariant-loop-test l = l.placed_tests ++ map (placed_test l.today) (drop l.test-index l.tests) ≡ map (placed_test l.today) l.tests
