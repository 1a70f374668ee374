-- The further joins of an aggregate table of a resolved model keep the rows of a query's joins.
use Rattle.std.proofs.Common.{◌≡◌, ℕ, true, ◌++◌, ◌||◌, map, sym, subst}
use Rattle.std.specs.List.{list_all}
use Rattle.lk_types.specs.declared.bound.Bound.{Bound}
use Rattle.lk_types.specs.Tables.{are_valid_tables}
use Rattle.lk_types.specs.declared.model.Model.{Model}
use Rattle.lk_types.specs.declared.rows.Tables.{Tables}
use Rattle.lk_types.specs.Expressions.{has_number}
use Rattle.lk_semantics.specs.Answers.{components_of, dims_of, filtered, picked_measures}
use Rattle.lk_semantics.specs.Derived.{asked_parts, explore_at, sources_of}
use Rattle.lk_semantics.specs.Joins.{IsClosedUnderNeed, joined_rows}
use Rattle.lk_semantics.specs.Resolved.{IsInModel, IsResolved}
use Rattle.lk_semantics.specs.Rollups.{joins_fit, keeps_rows, rollup_at, rollup_joins}
use Rattle.lk_semantics.proofs.JoinLaws.{needed_joins-kept}
use Rattle.lk_tree_laws.proofs.KeyLaws.{both}
use Rattle.lk_tree_laws.proofs.ModelLaws.{keyed_by_model}
use Rattle.lk_regroup_laws.specs.Asked.{explore_of, rollup_of}
use Rattle.lk_regroup_laws.specs.Further.{only_joins}
use Rattle.lk_regroup_laws.proofs.ResolvedLaws.{resolved_explore}
use Rattle.lk_regroup_laws.proofs.SafeJoins.{further_joins_keep_rows}

-- the joins of a query are closed under what they ask for
pub query_closed : (m : Model) (b : Bound) → IsInModel m b
    → IsClosedUnderNeed (explore_at m b.explore) (asked_parts (explore_at m b.explore) (dims_of b.picks ++ filtered b.rows ++ filtered b.access)
    (components_of (explore_at m b.explore) (picked_measures b.picks ++ filtered b.having))) b.joins
query_closed m b is =
    let x = explore_at m b.explore in
    let parts = asked_parts x (dims_of b.picks ++ filtered b.rows ++ filtered b.access) (components_of x (picked_measures b.picks ++ filtered b.having)) in
    subst (IsClosedUnderNeed x parts) (sym is.joins) (needed_joins-kept x parts)

-- the rows that an aggregate table's joins give are those of the query's joins, once the views of its other joins are left out
pub further : (m : Model) (t : Tables) (b : Bound) (n : ℕ) → IsResolved m → IsInModel m b → are_valid_tables m.schema.tables t.tables ≡ true
    → joins_fit (explore_of m b) (rollup_of m b n) b ≡ true
    → map (only_joins (explore_of m b) b.joins) (joined_rows (explore_of m b) (sources_of m t) (rollup_joins (explore_of m b) (rollup_of m b n))) ≡ joined_rows (explore_of m b) (sources_of m t) b.joins
further m t b n is bound valid fit =
    let x = explore_at m b.explore in
    let js = rollup_joins x (rollup_at x n) in
    let split = both (list_all (λ j. has_number j js) b.joins) (list_all (λ j. has_number j b.joins || keeps_rows x j) js) fit in
    let parts = asked_parts x (dims_of b.picks ++ filtered b.rows ++ filtered b.access) (components_of x (picked_measures b.picks ++ filtered b.having)) in
    further_joins_keep_rows x parts b.joins (query_closed m b bound) (sources_of m t)
    (keyed_by_model m (sources_of m t) valid x (resolved_explore m is b.explore bound.explore).keys) js split.0 split.1
