use Rattle.lk_plan.proofs.TierLaws.{are_bounds}
use Rattle.lk_plan.proofs.field.field_formula.Goals as goal

pub tier_formula-requires : goal.tier_formula-requires
tier_formula-requires c = rw c.as_slice.ensures (are_bounds c.in-Tier.bounds (rw c.in-Tier.is at c.requires))
