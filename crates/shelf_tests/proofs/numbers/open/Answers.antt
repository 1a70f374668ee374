use Rattle.std.proofs.Common.{ap}
use Rattle.std.specs.Arc.{arc_value}
use Rattle.shelf_tests.proofs.NumberLaws.{opened_counts}
use Rattle.shelf_tests.proofs.numbers.open.Goals as goal

pub returns : goal.returns
returns g c = opened_counts c.shelf.result (arc_value c.in_ok-first.first) (ap (λ counted. counted.number) c.in_ok-first.ensures.ok) c.shelf.ensures
