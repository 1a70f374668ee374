use Rattle.std.proofs.Common.{arith}
use Rattle.std.proofs.lemmas.Int.{ints}
use Rattle.lk_agg.proofs.halves.Halves.add.Goals as goal

pub returns-then-low-lt0 : goal.returns-then-low-lt0
returns-then-low-lt0 c = omega (arith, ints)

pub returns-then-low-lt-CARRY : goal.returns-then-low-lt-CARRY
returns-then-low-lt-CARRY c = omega (arith, ints)

pub returns-else-low-lt-CARRY : goal.returns-else-low-lt-CARRY
returns-else-low-lt-CARRY c = omega (arith, ints)
