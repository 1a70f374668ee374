-- A plan whose conditions are those of its query, on the rows that the query joins.
use Rattle.std.proofs.Common.{◌≡◌, true, ◌&&◌, subst, sym}
use Rattle.std.specs.Prelude.{All}
use Rattle.lk_types.specs.Dates.{are_literals_dated}
use Rattle.lk_types.specs.Expressions.{is_true, value_of}
use Rattle.lk_types.specs.Formula.{Formula}
use Rattle.lk_types.specs.declared.bound.Bound.{Bound}
use Rattle.lk_types.specs.declared.bound.Plan.{Plan}
use Rattle.lk_types.specs.declared.explore.Explore.{Explore}
use Rattle.lk_types.specs.declared.rows.Sources.{Sources}
use Rattle.lk_semantics.specs.Joins.{is_met, joined_rows}
use Rattle.lk_semantics.specs.Rows.{passes_all}
use Rattle.lk_gather.specs.Asked.{IsPlan}

pub is_plan : (x : Explore) (s : Sources) (b : Bound) (visible passing : Formula) (plan : Plan)
    → plan.bound ≡ b → plan.visible ≡ visible → plan.passing ≡ passing
    → All (λ row. is_true (value_of visible row) ≡ passes_all x b.access row) (joined_rows x s b.joins)
    → All (λ row. is_true (value_of passing row) ≡ (is_met x.always_where row && passes_all x b.rows row)) (joined_rows x s b.joins)
    → are_literals_dated visible ≡ true → are_literals_dated passing ≡ true → IsPlan x s plan
is_plan x s b visible passing plan b_is visible_is passing_is sees counts visible_dated passing_dated =
    subst (IsPlan x s) (λ i. record { bound = sym b_is i; visible = sym visible_is i; passing = sym passing_is i; fanned = plan.fanned })
    (record { visible = sees; passing = counts; visible_dated = visible_dated; passing_dated = passing_dated })
