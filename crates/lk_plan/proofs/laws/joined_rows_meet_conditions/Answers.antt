use Rattle.std.proofs.Common.{◌≡◌, ◌&&◌, All, subst, sym}
use Rattle.lk_types.specs.Expressions.{is_true, value_of}
use Rattle.lk_types.specs.declared.rows.Joined.{Joined}
use Rattle.lk_semantics.specs.Derived.{explore_at}
use Rattle.lk_semantics.specs.Joins.{is_met}
use Rattle.lk_semantics.specs.Rows.{passes_all}
use Rattle.lk_derived.proofs.ReadRows.{joined_whole}
use Rattle.lk_plan.specs.Conditions.{passing_condition, visible_condition}
use Rattle.lk_plan.proofs.PlanLaws.{passing_is, visible_is}
use Rattle.lk_plan.proofs.ResolvedLaws.{resolved_at}
use Rattle.lk_plan.proofs.SourceLaws.{each_row}
use Rattle.lk_plan.proofs.laws.joined_rows_meet_conditions.Goals as goal

pub returns-clause-visible : goal.returns-clause-visible
returns-clause-visible c = λ m s b resolved bound h.
    let x = explore_at m b.explore in
    subst (All (λ (row : Joined). is_true (value_of (visible_condition x b) row) ≡ passes_all x b.access row)) (sym (joined_whole m s b h))
    (each_row m (record { tables = s.stored }) resolved h.valid x b.joins (λ (row : Joined). is_true (value_of (visible_condition x b) row) ≡ passes_all x b.access row)
    (λ row has dated. visible_is m x (resolved_at m resolved b.explore bound.explore) row has dated b))

pub returns-clause-passing : goal.returns-clause-passing
returns-clause-passing c = λ m s b resolved bound h.
    let x = explore_at m b.explore in
    subst (All (λ (row : Joined). is_true (value_of (passing_condition x b) row) ≡ (is_met x.always_where row && passes_all x b.rows row))) (sym (joined_whole m s b h))
    (each_row m (record { tables = s.stored }) resolved h.valid x b.joins (λ (row : Joined). is_true (value_of (passing_condition x b) row) ≡ (is_met x.always_where row && passes_all x b.rows row))
    (λ row has dated. passing_is m x (resolved_at m resolved b.explore bound.explore) row has dated b))
