use Rattle.std.proofs.Common.{◌≡◌, ◌∙◌, ap, refl, subst, sym, true}
use Rattle.std.specs.Prelude.{List, None}
use Rattle.lk_val.specs.Memory.{IsUnlessMemory}
use Rattle.lk_types.specs.declared.explore.Explore.{Explore}
use Rattle.lk_types.specs.declared.explore.Rollup.{Rollup}
use Rattle.lk_semantics.specs.Answers.{query_components}
use Rattle.lk_semantics.specs.Derived.{explore_at}
use Rattle.lk_semantics.specs.Resolved.{IsInModel, have_fixed_filters}
use Rattle.lk_semantics.specs.Rollups.{partials_of, rollup_at}
use Rattle.lk_derived.specs.ReadRows.{HasRowsFor, whole}
use Rattle.lk_gather.specs.Groups.{conflict_over, parts_over}
use Rattle.lk_regroup_laws.specs.Regroup.{RollupRow}
use Rattle.lk_rollup.specs.Builds.{is_no_memory, query_of_rollup, rollup_capped}
use Rattle.lk_rollup.proofs.StoredGroups.{conflict_unfiltered}
use Rattle.lk_rollup.proofs.StoredLaws.{query_is, rollup_fixed}
use Rattle.lk_rollup.proofs.building.build.Goals as goal

pub stored_parts-requires-clause-query : goal.stored_parts-requires-clause-query
stored_parts-requires-clause-query c =
    let m = c.args.m.now in
    let is = query_is m c.args.x c.args.r _ _ _ c.explore_of-explore.ensures c.rollup_of-rollup.ensures c.in_ok-query.ensures in
    subst (IsInModel m) (sym is) (c.rollups_keep_their_queries.ensures.model m c.args.x c.args.r c.requires.model c.requires.explore c.requires.rollup)

pub stored_parts-requires-clause-fixed : goal.stored_parts-requires-clause-fixed
stored_parts-requires-clause-fixed c =
    let m = c.args.m.now in
    let is = query_is m c.args.x c.args.r _ _ _ c.explore_of-explore.ensures c.rollup_of-rollup.ensures c.in_ok-query.ensures in
    subst (λ q. have_fixed_filters (explore_at m q.explore) (query_components (explore_at m q.explore) q) ≡ true) (sym is)
    (rollup_fixed m c.args.x c.args.r c.requires.model c.requires.explore)

pub stored_parts-requires-clause-tables : goal.stored_parts-requires-clause-tables
stored_parts-requires-clause-tables c =
    let m = c.args.m.now in
    let is = query_is m c.args.x c.args.r _ _ _ c.explore_of-explore.ensures c.rollup_of-rollup.ensures c.in_ok-query.ensures in
    subst (HasRowsFor m c.args.t.now) (sym is) c.requires.tables

pub stored_parts-requires-clause-calm : goal.stored_parts-requires-clause-calm
stored_parts-requires-clause-calm c =
    let m = c.args.m.now in
    let s = whole m c.args.t.now in
    let is = query_is m c.args.x c.args.r _ _ _ c.explore_of-explore.ensures c.rollup_of-rollup.ensures c.in_ok-query.ensures in
    subst (λ q. conflict_over (explore_at m q.explore) s q ≡ None) (sym is)
    (conflict_unfiltered (explore_at m c.args.x) s (query_of_rollup m c.args.x c.args.r) refl
    ∙ c.stored_queries_have_no_conflict.ensures.rollups m (record { tables = c.args.t.now.stored }) c.args.x c.args.r c.requires.model c.requires.tables.valid c.requires.explore)

pub returns : goal.returns
returns c =
    let m = c.args.m.now in
    let s = whole m c.args.t.now in
    let x = explore_at m c.args.x in
    let is = query_is m c.args.x c.args.r _ _ _ c.explore_of-explore.ensures c.rollup_of-rollup.ensures c.in_ok-query.ensures in
    let rows = c.in_ok-rows.ensures ∙ ap (λ q. parts_over (explore_at m q.explore) s q) is ∙ c.rollups_keep_their_queries.ensures.kept x s c.args.x (rollup_at x c.args.r) in
    let rollup = c.rollup_of-rollup.ensures ∙ ap (λ (z : Explore). rollup_at z c.args.r) c.explore_of-explore.ensures in
    subst (λ (r : Rollup). IsUnlessMemory is_no_memory c.capped.result (rollup_capped r (partials_of x s (rollup_at x c.args.r)))) rollup
    (subst (λ (all : List RollupRow). IsUnlessMemory is_no_memory c.capped.result (rollup_capped c.rollup_of-rollup.result.now all)) rows c.capped.ensures)
