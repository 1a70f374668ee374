use Rattle.std.proofs.Common.{◌≡◌, ◌+◌, length, of_z, subst, sym, to_z, true, w64}
use Rattle.std.proofs.lemmas.Int.{to_z-of_z}
use Rattle.lk_semantics.specs.DatedRows.{are_joins_dated}
use Rattle.lk_semantics.specs.Derived.{explore_at}
use Rattle.lk_types.specs.declared.bound.Bound.{Bound}
use Rattle.lk_types.specs.declared.explore.Explore.{Explore}
use Rattle.lk_filter.specs.PlacedModel.{placed_explore, placed_model}
use Rattle.lk_gather.specs.Asked.{IsPlan}
use Rattle.lk_gather.specs.Measures.{is_fine_explore}
use Rattle.lk_plan.proofs.ResolvedLaws.{resolved_at}
use Rattle.lk_ask.specs.Counts.{IsCounted}
use Rattle.lk_gather.proofs.PlanLaws.{is_plan}
use Rattle.lk_placed_laws.proofs.RouteLaws.{explore_is}
use Rattle.lk_ask.proofs.asking.counted_of.Goals as goal

pub counted_by-requires-clause-parts : goal.counted_by-requires-clause-parts
counted_by-requires-clause-parts c =
    let m = c.args.m.now in
    let n = c.args.bound.now.explore in
    subst (λ (x : Explore). length x.parts ≡ length x.joins + 1) (sym c.explore_of-x.ensures)
    (c.resolved_explores_are_fine.ensures.parts m (explore_at m n) (resolved_at m c.requires.model n c.requires.bound.explore))

pub counted_by-requires-clause-explore : goal.counted_by-requires-clause-explore
counted_by-requires-clause-explore c =
    let m = c.args.m.now in
    let n = c.args.bound.now.explore in
    subst (λ x. is_fine_explore x ≡ true) (sym c.explore_of-x.ensures)
    (c.resolved_explores_are_fine.ensures.explore m (explore_at m n) (resolved_at m c.requires.model n c.requires.bound.explore))

pub counted_by-requires-clause-conditions : goal.counted_by-requires-clause-conditions
counted_by-requires-clause-conditions c =
    let m = c.args.m.now in
    let n = c.args.bound.now.explore in
    subst (λ x. are_joins_dated x ≡ true) (sym c.explore_of-x.ensures)
    (c.resolved_explores_are_fine.ensures.conditions m (explore_at m n) (resolved_at m c.requires.model n c.requires.bound.explore))

pub counted_by-requires-clause-tables : goal.counted_by-requires-clause-tables
counted_by-requires-clause-tables c =
    c.rows_read_are_dated.ensures c.args.m.now c.args.sources.now c.args.bound.now c.requires.model c.requires.tables

pub counted_by-requires-clause-plan : goal.counted_by-requires-clause-plan
counted_by-requires-clause-plan c =
    let m = c.args.m.now in
    let b = c.args.bound.now in
    let s = c.args.sources.now in
    let x = explore_at m b.explore in
    let fine = resolved_at m c.requires.model b.explore c.requires.bound.explore in
    subst (λ y. IsPlan y s c.in_ok-plan.plan) (sym c.explore_of-x.ensures)
    (is_plan x s b _ _ c.in_ok-plan.plan c.in_ok-plan.ensures.bound c.in_ok-plan.ensures.visible c.in_ok-plan.ensures.passing
    (c.joined_rows_meet_conditions.ensures.visible m s b c.requires.model c.requires.bound c.requires.tables)
    (c.joined_rows_meet_conditions.ensures.passing m s b c.requires.model c.requires.bound c.requires.tables)
    (c.conditions_are_dated.ensures.visible m x b fine) (c.conditions_are_dated.ensures.passing m x b fine))

pub returns : goal.returns
returns c =
    let b = c.args.bound.now in
    let x = c.explore_of-x.result.now in
    let s = c.args.sources.now in
    let m = c.args.m.now in
    let n = b.explore in
    let now = to_z w64 (of_z w64 c.args.now) in
    let r = c.counted_by.result in
    subst (λ moment. IsCounted (explore_at m n) (explore_at (placed_model moment m) n) s b r) (to_z-of_z w64 c.args.now c.ranges.now)
    (subst (λ (y : Explore). IsCounted (explore_at m n) y s b r) (sym (explore_is now m n))
    (subst (λ (y : Explore). IsCounted y (placed_explore now y) s b r) c.explore_of-x.ensures
    (subst (λ (d : Bound). IsCounted x (placed_explore now x) s d r) c.in_ok-plan.ensures.bound c.counted_by.ensures)))
