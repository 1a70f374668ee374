use Rattle.std.proofs.Common.{◌≡◌, ◌∙◌, None, ap, sym, subst}
use Rattle.lk_scope.specs.Pieces.{IsTested, first_along, first_at}
use Rattle.lk_explore_faults.specs.Conditions.{filter_condition_line, join_condition_line}
use Rattle.lk_explore_faults.specs.FilterFaults.{filter_line, rollup_line}
use Rattle.lk_explore_faults.specs.JoinFaults.{join_line}
use Rattle.lk_explore_faults.proofs.PieceLaws.{eighth}
use Rattle.lk_explore_faults.proofs.explore_faults.test_explore.Goals as goal

pub returns : goal.returns
returns c =
    let schema = c.args.fields.now.schema.now in
    let views = c.args.fields.now.views.now in
    let scope = c.args.fields.now.scope.now in
    let columns = c.args.fields.now.columns.now in
    let x = c.args.explore.now in
    let joins : first_along (join_line schema views scope x.joins) 1 x.joins ≡ None =
    ap (λ js. first_along (join_line schema views scope js) 1 js) (sym c.as_slice-joins.ensures) ∙ c.in_ok-test_joins.ensures in
    let filters : first_at (filter_line schema views scope x.name) x.filters ≡ None =
    ap (λ n. first_at (filter_line schema views scope n) x.filters) (sym c.as_str-name.ensures)
    ∙ ap (first_at (filter_line schema views scope c.as_str-name.result.now)) (sym c.as_slice-filters.ensures)
    ∙ c.in_ok-test_filters.ensures in
    let rollups : first_at (rollup_line views scope c.args.datagroups.now) x.rollups ≡ None =
    ap (first_at (rollup_line views scope c.args.datagroups.now)) (sym c.as_slice.ensures) ∙ c.in_ok-test_rollups.ensures in
    let join_conditions : first_along (join_condition_line schema views scope columns) 1 x.joins ≡ None =
    ap (first_along (join_condition_line schema views scope columns) 1) (sym c.as_slice-joins.ensures)
    ∙ c.in_ok-test_join_conditions.ensures in
    let last : IsTested c.test_filter_conditions.result (first_at (filter_condition_line schema views scope columns x.name) x.filters) =
    subst (λ piece. IsTested c.test_filter_conditions.result piece)
    (ap (λ n. first_at (filter_condition_line schema views scope columns n) c.as_slice-filters.result.now) c.as_str-name.ensures
    ∙ ap (first_at (filter_condition_line schema views scope columns x.name)) c.as_slice-filters.ensures)
    c.test_filter_conditions.ensures in
    eighth c.test_filter_conditions.result _ _ _ _ _ _ _ _ c.in_ok-test_own.ensures c.in_ok-test_twin.ensures joins filters rollups
    c.in_ok-test_explore_fields.ensures join_conditions last
