use Rattle.std.proofs.Common.{arith}
use Rattle.lk_fields.proofs.DotLaws.{with_dot, without_dot}
use Rattle.lk_fields.proofs.names.split_name.Goals as goal

pub returns-in-None : goal.returns-in-None
returns-in-None c = without_dot c.args.whole.now (c.in-None.ensures.byte (omega (arith)) (λ w o f. f))

pub returns-in-Some : goal.returns-in-Some
returns-in-Some c =
    let cut = c.in-Some.ensures.byte (omega (arith)) (λ w o f. f) in
    with_dot c.args.whole.now c.in-Some.view.now c.in-Some.name.now cut.0 cut.1 cut.2
