-- What a query is told from an aggregate table that fits it is its answer over the tables of the table's build.
use Rattle.std.proofs.Common.{◌≡◌, ℕ, ◌<◌, ℤ, true, List, [], length, refl, sym, ap, ◌∙◌}
use Rattle.std.specs.Prelude.{map, nat_lt, slice_index, slice_index_or}
use Rattle.std.specs.List.{list_all}
use Rattle.std.proofs.lemmas.List.{get_or-map}
use Rattle.lk_types.specs.Dates.{is_dated}
use Rattle.lk_types.specs.Tables.{Rows, are_valid_tables}
use Rattle.lk_types.specs.declared.answer.RouteFrom.TheVariants as from
use Rattle.lk_types.specs.declared.bound.Bound.{Bound}
use Rattle.lk_types.specs.declared.explore.Explore.{Explore}
use Rattle.lk_types.specs.declared.explore.Rollup.{Rollup}
use Rattle.lk_types.specs.declared.model.Model.{Model}
use Rattle.lk_types.specs.declared.rows.Sources.{Sources}
use Rattle.lk_types.specs.declared.rows.Tables.{Tables}
use Rattle.lk_semantics.specs.Answers.{answer_of}
use Rattle.lk_semantics.specs.Derived.{explore_at, no_explore, sources_of}
use Rattle.lk_semantics.specs.Resolved.{IsInModel, IsResolved}
use Rattle.lk_semantics.specs.Rollups.{fits, no_rollup, partials_of, rollup_at}
use Rattle.lk_regroup_laws.specs.Asked.{explore_of, kept_rows, rollup_of}
use Rattle.lk_regroup_laws.specs.Regroup.{RollupRow, answer_regrouped}
use Rattle.lk_filter.specs.PlacedModel.{placed_model}
use Rattle.lk_placed_laws.proofs.PlacedLaws.{at_made}
use Rattle.lk_keeps.specs.Keeps.{AreKept, Keeps, sources_over}
use Rattle.lk_keeps.proofs.ListLaws.{of_test}
use Rattle.lk_route.specs.Routes.{built_numbers}
use Rattle.lk_ask.specs.Asks.{told_by}
use Rattle.lk_state.specs.States.{State}
use Rattle.lk_edition.specs.Histories.{Stands, states_of, tables_built}
use Rattle.lk_edition.specs.Standings.{Standing}
use Rattle.lk_answer.specs.Answers.{rows_kept, told_rolled, told_where}
use Rattle.lk_answer.specs.Replies.{tables_at, told_of}
use Rattle.lk_answer.specs.Routes.{LeadsTo}
use Rattle.lk_answer.proofs.RouteLaws.{rollup_within, tables_are, tables_valid}

-- what an aggregate table keeps of some tables
abbrev kept_of : Model → (ℕ → List Rows) → Explore → Rollup → List RollupRow
kept_of m built x r = partials_of x (sources_over m (built r.datagroup)) r

-- the rows that are kept of it
kept_at : (m : Model) (built : ℕ → List Rows) (keeps : Keeps) → keeps.rollups ≡ map (λ (x : Explore). map (kept_of m built x) x.rollups) m.explores
    → (n r : ℕ) → nat_lt r (length (explore_at m n).rollups) ≡ true → rows_kept keeps n r ≡ kept_of m built (explore_at m n) (rollup_at (explore_at m n) r)
kept_at m built keeps are n r there =
    let x = explore_at m n in
    ap (λ (rollups : List (List (List RollupRow))). slice_index_or (slice_index_or rollups n []) r []) are
    ∙ ap (λ (rows : List (List RollupRow)). slice_index_or rows r []) (at_made (λ (y : Explore). map (kept_of m built y) y.rollups) m.explores n no_explore [] refl)
    ∙ get_or-map (kept_of m built x) x.rollups r no_rollup [] (of_test r (length x.rollups) there)

-- the answer from the rows of an aggregate table that fits a query is the one over its build's tables
abbrev pub Alike : Type 0
Alike = (m : Model) (t : Tables) (b : Bound) (n : ℕ) → IsResolved m → IsInModel m b → are_valid_tables m.schema.tables t.tables ≡ true
    → fits (explore_of m b) (rollup_of m b n) b ≡ true → answer_regrouped (explore_of m b) (rollup_of m b n) b (kept_rows m t b n) ≡ answer_of (explore_of m b) (sources_of m t) b

-- which is the same at each moment
abbrev pub Timeless : Type 0
Timeless = (m : Model) (now : ℤ) (s : Sources) (b : Bound) (n : ℕ) → IsResolved m → fits (explore_at m b.explore) (rollup_at (explore_at m b.explore) n) b ≡ true
    → answer_of (explore_at (placed_model now m) b.explore) s b ≡ answer_of (explore_at m b.explore) s b

-- the groups that an aggregate table keeps of valid tables have days and moments of the years 1 to 9999
abbrev pub Dated : Type 0
Dated = (m : Model) (t : Tables) (e n : ℕ) → IsResolved m → are_valid_tables m.schema.tables t.tables ≡ true
    → list_all (λ (row : RollupRow). list_all is_dated row.0) (partials_of (explore_at m e) (sources_of m t) (rollup_at (explore_at m e) n)) ≡ true

pub kept_dated : Dated → (m : Model) (keeps : Keeps) → IsResolved m → AreKept m keeps → (n r : ℕ) → nat_lt r (length (explore_at m n).rollups) ≡ true
    → list_all (λ (row : RollupRow). list_all is_dated row.0) (rows_kept keeps n r) ≡ true
kept_dated dated m keeps resolved are n r there =
    let g = (rollup_at (explore_at m n) r).datagroup in
    ap (list_all (λ (row : RollupRow). list_all is_dated row.0)) (kept_at m are.built keeps (ap (λ (k : Keeps). k.rollups) are.is) n r there)
    ∙ dated m (record { tables = are.built g }) n r resolved (are.valid g)

module _ (alike : Alike) (timeless : Timeless) where
  module _ (e : Standing) (past : List State) (stands : Stands e past) (now : ℤ) (b : Bound) (within : IsInModel e.model b) where
    pub rolled_is : (r : ℕ) → LeadsTo e.model b (from.Rollup r)
        → told_where e now b (from.Rollup r)
        ≡ told_of e.model now (tables_at (states_of e past) (slice_index (built_numbers e.builds) (rollup_at (explore_at e.model b.explore) r).datagroup)) b (from.Rollup r)
    rolled_is r leads =
        let m = e.model in
        let x = explore_at m b.explore in
        let y = explore_at (placed_model now m) b.explore in
        let g = (rollup_at x r).datagroup in
        let there : g < length m.datagroups = rollup_within m stands.resolved b.explore r leads.0 in
        let stored : List Rows = tables_built e past g in
        let tables : Tables = record { tables = stored } in
        let kept = kept_at m (tables_built e past) e.keeps (ap (λ (k : Keeps). k.rollups) stands.keeps) b.explore r leads.0 in
        ap (λ rows. told_rolled x r rows b) kept
        ∙ ap (told_by y b 0) (alike m tables b r stands.resolved within (tables_valid e past stands g there) leads.1 ∙ sym (timeless m now (sources_over m stored) b r stands.resolved leads.1))
        ∙ ap (λ rows. told_by y b 0 (answer_of y (sources_over m rows) b)) (sym (tables_are e past stands g there))
