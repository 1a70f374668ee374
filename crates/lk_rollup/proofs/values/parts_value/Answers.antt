use Rattle.std.proofs.Common.{◌∙◌, ap, arith, of_z, to_z, w64}
use Rattle.std.proofs.lemmas.Int.{ints, to_z-of_z}
use Rattle.lk_val.specs.declared.value.Value.TheVariants as value
use Rattle.lk_rollup.proofs.ValueLaws.{held, not_held}
use Rattle.lk_rollup.proofs.values.parts_value.Goals as goal
use mir.Syntax.{w128}

pub returns-then-count-ltminus9223372036854775808 : goal.returns-then-count-ltminus9223372036854775808
returns-then-count-ltminus9223372036854775808 c = not_held c.args.count (λ fits. omega (arith, ints, fits, c.if-count-ltminus9223372036854775808.true))

pub returns-then-count-gt9223372036854775807 : goal.returns-then-count-gt9223372036854775807
returns-then-count-gt9223372036854775807 c = not_held c.args.count (λ fits. omega (arith, ints, fits, c.if-count-gt9223372036854775807.true))

pub returns : goal.returns
returns c =
    ap (λ n. value.Num (record { 0 = to_z w64 (of_z w64 n) })) (to_z-of_z w128 c.args.count c.ranges.count)
    ∙ held c.args.count (omega (arith, ints, c.if-count-ltminus9223372036854775808.false, c.if-count-gt9223372036854775807.false))
