use Rattle.std.proofs.Common.{◌≡◌, ◌-ℤ◌, arith, of_z, to_z}
use Rattle.std.proofs.lemmas.Int.{ints}
use Rattle.std.specs.Prelude.{int_le}
use Rattle.lk_trigger.proofs.trigger.has_passed.Goals as goal
use mir.Syntax.{w128}

pub returns : goal.returns
returns c =
    let seconds : to_z w128 (of_z w128 c.from-3.result) ≡ c.args.seconds = omega (arith, ints) in
    let between : to_z w128 (of_z w128 (to_z w128 (of_z w128 c.from.result) -ℤ to_z w128 (of_z w128 c.from-2.result))) ≡ c.args.now -ℤ c.args.since = omega (arith, ints) in
    λ i. int_le (seconds i) (between i)
