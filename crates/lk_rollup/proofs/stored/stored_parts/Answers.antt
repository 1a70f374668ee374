use Rattle.std.proofs.Common.{◌≡◌, ◌∙◌, ap, pos, subst, sym, true}
use Rattle.std.proofs.lemmas.Bool.{false≢true}
use Rattle.std.specs.Option.{is_some}
use Rattle.lk_val.specs.Memory.{Unless}
use Rattle.lk_types.specs.declared.bound.Bound.{Bound}
use Rattle.lk_types.specs.declared.explore.Explore.{Explore}
use Rattle.lk_semantics.specs.DatedRows.{are_joins_dated}
use Rattle.lk_semantics.specs.Derived.{explore_at}
use Rattle.lk_filter.specs.PlacedModel.{placed_explore}
use Rattle.lk_gather.specs.Asked.{IsPlan}
use Rattle.lk_gather.specs.Groups.{conflict_over, is_no_memory, parts_over}
use Rattle.lk_gather.specs.Measures.{is_fine_explore}
use Rattle.lk_gather.proofs.PlanLaws.{is_plan}
use Rattle.lk_regroup_laws.proofs.ResolvedLaws.{resolved_explore}
use Rattle.lk_rollup.proofs.StoredGroups.{conflict_at, conflict_whole, parts_at, parts_whole}
use Rattle.lk_rollup.proofs.StoredLaws.{measures_typed}
use Rattle.lk_rollup.proofs.stored.stored_parts.Goals as goal

pub kept_parts-requires-clause-explore : goal.kept_parts-requires-clause-explore
kept_parts-requires-clause-explore c =
    let m = c.args.m.now in
    let n = c.args.query.now.explore in
    subst (λ x. is_fine_explore x ≡ true) (sym c.explore_of.ensures)
    (c.resolved_explores_are_fine.ensures.explore m (explore_at m n) (resolved_explore m c.requires.model n c.requires.query.explore))

pub kept_parts-requires-clause-conditions : goal.kept_parts-requires-clause-conditions
kept_parts-requires-clause-conditions c =
    let m = c.args.m.now in
    let n = c.args.query.now.explore in
    subst (λ x. are_joins_dated x ≡ true) (sym c.explore_of.ensures)
    (c.resolved_explores_are_fine.ensures.conditions m (explore_at m n) (resolved_explore m c.requires.model n c.requires.query.explore))

pub kept_parts-requires-clause-plan : goal.kept_parts-requires-clause-plan
kept_parts-requires-clause-plan c =
    let m = c.args.m.now in
    let b = c.args.query.now in
    let s = c.args.t.now in
    let x = explore_at m b.explore in
    let fine = resolved_explore m c.requires.model b.explore c.requires.query.explore in
    subst (λ y. IsPlan y s c.in_ok-plan.plan) (sym c.explore_of.ensures)
    (is_plan x s b _ _ c.in_ok-plan.plan c.in_ok-plan.ensures.bound c.in_ok-plan.ensures.visible c.in_ok-plan.ensures.passing
    (c.joined_rows_meet_conditions.ensures.visible m s b c.requires.model c.requires.query c.requires.tables)
    (c.joined_rows_meet_conditions.ensures.passing m s b c.requires.model c.requires.query c.requires.tables)
    (c.conditions_are_dated.ensures.visible m x b fine) (c.conditions_are_dated.ensures.passing m x b fine))

pub returns-in-Ok : goal.returns-in-Ok
returns-in-Ok c =
    let m = c.args.m.now in
    let b = c.args.query.now in
    let s = c.args.t.now in
    let x = explore_at m b.explore in
    c.in-Ok.ensures.ok.1
    ∙ ap (λ (z : Explore). parts_over (placed_explore _ z) s c.in_ok-plan.plan.bound) c.explore_of.ensures
    ∙ ap (λ (q : Bound). parts_over (placed_explore _ x) s q) c.in_ok-plan.ensures.bound
    ∙ parts_at _ x s b (measures_typed m c.requires.model b.explore c.requires.query.explore) c.requires.fixed
    ∙ parts_whole m s b c.requires.tables

pub unreachable-requires : goal.unreachable-requires
unreachable-requires c =
    let m = c.args.m.now in
    let b = c.args.query.now in
    let s = c.args.t.now in
    let x = explore_at m b.explore in
    let none =
    ap (λ (z : Explore). conflict_over (placed_explore _ z) s c.in_ok-plan.plan.bound) c.explore_of.ensures
    ∙ ap (λ (q : Bound). conflict_over (placed_explore _ x) s q) c.in_ok-plan.ensures.bound
    ∙ conflict_at _ x s b (measures_typed m c.requires.model b.explore c.requires.query.explore) c.requires.fixed
    ∙ conflict_whole m s b c.requires.tables
    ∙ c.requires.calm in
    let told =
    subst (λ fault. Unless (is_no_memory fault) (is_some (conflict_over (placed_explore (pos 0) c.explore_of.result.now) s c.in_ok-plan.plan.bound) ≡ true))
    c.in-Err-Conflict.field-0-is c.in-Err-Conflict.ensures.conflict in
    false≢true (sym (ap is_some none) ∙ told)
