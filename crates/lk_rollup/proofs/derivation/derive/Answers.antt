use Rattle.std.proofs.Common.{◌≡◌, ◌∙◌, ap, refl, subst, sym, true}
use Rattle.std.specs.Prelude.{List, None, nat_lt, length, map}
use Rattle.std.specs.List.Sorted.{IsStrictlySortedBy}
use Rattle.lk_val.specs.Memory.{IsUnlessMemory}
use Rattle.lk_val.specs.Values.{tuple_cmp}
use Rattle.lk_types.specs.Tables.{Rows}
use Rattle.lk_types.specs.declared.answer.GroupRow.{GroupRow}
use Rattle.lk_types.specs.declared.explore.Explore.{Explore}
use Rattle.lk_types.specs.declared.model.Derived.{Derived}
use Rattle.lk_semantics.specs.Answers.{dims_of, lines_of, ops_of, query_components, rows_grouped}
use Rattle.lk_semantics.specs.Derived.{derived_rows, explore_at, value_of_cell}
use Rattle.lk_semantics.specs.Resolved.{IsInModel, are_filters_of, are_fixed, have_fixed_filters}
use Rattle.lk_semantics.specs.Rollups.{derived_at}
use Rattle.lk_derived.specs.ReadRows.{HasRowsFor, whole}
use Rattle.lk_gather.specs.Groups.{conflict_over, given_to, groups_over}
use Rattle.lk_gather.proofs.AnswerLaws.{rows_ascend}
use Rattle.lk_rollup.specs.Builds.{derived_capped, is_no_memory, query_of_derived}
use Rattle.lk_rollup.proofs.StoredGroups.{conflict_unfiltered, counted_unfiltered}
use Rattle.lk_rollup.proofs.StoredLaws.{always_fixed, always_typed, derived_explore, derived_fixed, derived_in_model, derived_query_is}
use Rattle.lk_rollup.proofs.derivation.derive.Goals as goal

pub explore_of-explore-requires : goal.explore_of-explore-requires
explore_of-explore-requires c =
    let m = c.args.m.now in
    subst (λ (d : Derived). nat_lt d.explore (length m.explores) ≡ true) (sym c.derived_of-derived.ensures) (derived_explore m c.requires.model c.args.d c.requires.derived)

pub derived_query-requires-clause-typed : goal.derived_query-requires-clause-typed
derived_query-requires-clause-typed c =
    let m = c.args.m.now in
    let x = c.explore_of-explore.ensures ∙ ap (λ (d : Derived). explore_at m d.explore) c.derived_of-derived.ensures in
    subst (λ (z : Explore). are_filters_of z z.always ≡ true) (sym x) (always_typed m c.requires.model c.args.d c.requires.derived)

pub derived_query-requires-clause-fixed : goal.derived_query-requires-clause-fixed
derived_query-requires-clause-fixed c =
    let m = c.args.m.now in
    let x = c.explore_of-explore.ensures ∙ ap (λ (d : Derived). explore_at m d.explore) c.derived_of-derived.ensures in
    subst (λ (z : Explore). are_fixed z.always ≡ true) (sym x) (always_fixed m c.requires.model c.args.d c.requires.derived)

pub stored_groups-requires-clause-query : goal.stored_groups-requires-clause-query
stored_groups-requires-clause-query c =
    let m = c.args.m.now in
    let is = derived_query_is m c.args.d _ _ _ c.derived_of-derived.ensures c.explore_of-explore.ensures c.in_ok-query.ensures in
    subst (IsInModel m) (sym is) (derived_in_model m c.requires.model c.args.d c.requires.derived)

pub stored_groups-requires-clause-fixed : goal.stored_groups-requires-clause-fixed
stored_groups-requires-clause-fixed c =
    let m = c.args.m.now in
    let is = derived_query_is m c.args.d _ _ _ c.derived_of-derived.ensures c.explore_of-explore.ensures c.in_ok-query.ensures in
    subst (λ q. have_fixed_filters (explore_at m q.explore) (query_components (explore_at m q.explore) q) ≡ true) (sym is)
    (derived_fixed m c.requires.model c.args.d c.requires.derived)

pub stored_groups-requires-clause-tables : goal.stored_groups-requires-clause-tables
stored_groups-requires-clause-tables c =
    let m = c.args.m.now in
    let is = derived_query_is m c.args.d _ _ _ c.derived_of-derived.ensures c.explore_of-explore.ensures c.in_ok-query.ensures in
    subst (HasRowsFor m c.args.t.now) (sym is) c.requires.tables

pub stored_groups-requires-clause-calm : goal.stored_groups-requires-clause-calm
stored_groups-requires-clause-calm c =
    let m = c.args.m.now in
    let s = whole m c.args.t.now in
    let is = derived_query_is m c.args.d _ _ _ c.derived_of-derived.ensures c.explore_of-explore.ensures c.in_ok-query.ensures in
    let q = query_of_derived m c.args.d in
    subst (λ b. conflict_over (explore_at m b.explore) s b ≡ None) (sym is)
    (conflict_unfiltered (explore_at m q.explore) s q refl
    ∙ c.stored_queries_have_no_conflict.ensures.derived m (record { tables = c.args.t.now.stored }) c.args.d c.requires.model c.requires.tables.valid c.requires.derived)

pub returns : goal.returns
returns c =
    let m = c.args.m.now in
    let s = whole m c.args.t.now in
    let q = query_of_derived m c.args.d in
    let x = explore_at m q.explore in
    let is = derived_query_is m c.args.d _ _ _ c.derived_of-derived.ensures c.explore_of-explore.ensures c.in_ok-query.ensures in
    let explore = c.explore_of-explore.ensures ∙ ap (λ (d : Derived). explore_at m d.explore) c.derived_of-derived.ensures in
    let groups = c.in_ok-groups.ensures ∙ ap (λ b. groups_over (explore_at m b.explore) s b) is in
    let ascends = subst (λ (rows : List GroupRow). IsStrictlySortedBy tuple_cmp (map (λ row. row.group) rows)) (sym groups)
    (rows_ascend (length (dims_of q.picks)) (ops_of x (query_components x q)) (given_to x s q)) in
    let lines = c.in_ok-lines.ensures ascends ∙ (λ i. lines_of (explore i) (is i) (groups i))
    ∙ ap (λ rows. lines_of x q (rows_grouped x (dims_of q.picks) (query_components x q) rows)) (counted_unfiltered x s q refl) in
    let rows = c.in_ok-rows.ensures ∙ ap (map (λ (line : GroupRow). map value_of_cell line.cells)) lines in
    subst (λ (d : Derived). IsUnlessMemory is_no_memory c.capped.result (derived_capped d c.args.cap (derived_rows m s (derived_at m c.args.d)))) c.derived_of-derived.ensures
    (subst (λ (all : Rows). IsUnlessMemory is_no_memory c.capped.result (derived_capped c.derived_of-derived.result.now c.args.cap all)) rows c.capped.ensures)
