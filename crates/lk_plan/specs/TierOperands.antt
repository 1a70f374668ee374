-- The operands of the CASE of a tier, one behind the other.
use Rattle.std.specs.Prelude.{Bool, ◌&&◌, ℤ, pos, neg_ℤ, ◌*ℤ◌, int_le, List, [], ◌∷◌, ◌++◌}
use Rattle.lk_types.specs.Formula.{Formula, Compare}
use Rattle.lk_types.specs.declared.expr.Comparison.{Comparison}
use Rattle.lk_types.specs.declared.expr.Comparison.TheVariants as comparison
use Rattle.lk_plan.specs.FieldFormulas.{number_literal}

-- a whole number that is a number of a column
abbrev pub is_bound : ℤ → Bool
is_bound b = int_le (neg_ℤ (pos 922337203685477)) b && int_le b (pos 922337203685477)

-- a condition on the number and the value of a tier
abbrev pub tier_pair : Formula → Comparison → ℤ → ℤ → List Formula
tier_pair e c bound low = Compare c e (number_literal bound) ∷ number_literal low ∷ []

-- the pairs of all tiers, from one above a bound on
abbrev pub tier_operands : Formula → ℤ → List ℤ → List Formula
tier_operands e low [] = tier_pair e comparison.AtLeast low low
tier_operands e low (b ∷ bounds) = tier_pair e comparison.Less (b *ℤ pos 10000) low ++ tier_operands e (b *ℤ pos 10000) bounds
