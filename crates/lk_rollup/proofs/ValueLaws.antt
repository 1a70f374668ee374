-- A count of 1/10,000 as a value: a number, where it is one of 64 bits.
use Rattle.std.proofs.Common.{◌≡◌, ℤ, FitsSigned, ap, of_z, to_z, w64, ◌∙◌}
use Rattle.std.proofs.lemmas.Int.{to_z-of_z}
use Rattle.lk_val.specs.Rounding.{number_of}
use Rattle.lk_val.specs.declared.value.Value.TheVariants as value
use Rattle.lk_val.proofs.RoundingSteps.{number-in, number-out}
use Rattle.lk_types.specs.Expressions.{value_of_num}

pub held : (z : ℤ) → FitsSigned w64 z → value.Num (record { 0 = to_z w64 (of_z w64 z) }) ≡ value_of_num (number_of z)
held z fits = (λ i. value.Num (record { 0 = to_z-of_z w64 z fits i })) ∙ ap value_of_num (number-in z fits)

pub not_held : (z : ℤ) → (FitsSigned w64 z → ⊥) → value.Null ≡ value_of_num (number_of z)
not_held z out = ap value_of_num (number-out z out)
