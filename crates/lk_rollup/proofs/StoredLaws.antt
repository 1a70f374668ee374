-- The queries of aggregate tables and of derived ones are queries of their model, without relative dates.
use Rattle.std.proofs.Common.{◌≡◌, ℕ, ℤ, Bool, true, false, ◌&&◌, List, [], ◌∷◌, ◌++◌, map, length, refl, sym, ap, ◌∙◌}
use Rattle.std.specs.Prelude.{filter, if◌then◌else◌, nat_lt, not}
use Rattle.std.specs.List.{list_all}
use Rattle.std.specs.Ordering.{nat_cmp, is_le}
use Rattle.std.specs.Cmp.Lexicographic.{slice_cmp}
use Rattle.std.proofs.lemmas.List.{append-nil}
use Rattle.lk_types.specs.Expressions.{has_number}
use Rattle.lk_types.specs.declared.bound.Bound.{Bound}
use Rattle.lk_types.specs.declared.explore.Explore.{Explore}
use Rattle.lk_types.specs.declared.explore.Rollup.{Rollup}
use Rattle.lk_types.specs.declared.filter.Filter.{Filter}
use Rattle.lk_types.specs.declared.model.Derived.{Derived}
use Rattle.lk_types.specs.declared.model.Model.{Model}
use Rattle.lk_types.specs.declared.model.Pick.{Pick}
use Rattle.lk_semantics.specs.Answers.{components_of, dims_of, filtered, picked_measures, query_components}
use Rattle.lk_semantics.specs.Derived.{by_name, derived_query, explore_at, joins_for, no_explore, put_by_name, query_joins, with_always}
use Rattle.lk_semantics.specs.Resolved.{IsInModel, IsResolved, are_fields, are_filters_of, are_fixed, have_fixed_filters, is_fixed_rollup, is_none_or_below, is_numbered_datagroup, is_numbered_derived, is_numbered_explore, is_pick}
use Rattle.lk_semantics.specs.Rollups.{derived_at, rollup_at}
use Rattle.lk_semantics.specs.Rows.{field_at}
use Rattle.lk_semantics.proofs.EveryLaws.{Every, both, every-append, every-at, every-filter, every-map, first, second}
use Rattle.lk_placed_laws.proofs.FixedLaws.{filters_kept}
use Rattle.lk_query.specs.Rows.{left_out, with_always_at}
use Rattle.lk_query.proofs.RowLaws.{any_filtered}
use Rattle.lk_regroup_laws.specs.Stored.{rollup_query}
use Rattle.lk_rollup.specs.Builds.{query_of_derived, query_of_rollup}
use Rattle.lk_regroup_laws.proofs.ResolvedLaws.{numbered_derived, resolved_derived, resolved_explore}
use Rattle.lk_regroup_laws.proofs.RollupQueries.{components_are}

-- ---- filters with the defaults that they leave out

module _ (x : Explore) (t : ℕ × Filter → Bool) where
  every-put : (f : ℕ × Filter) (gs : List (ℕ × Filter)) → t f ≡ true → Every t gs → Every t (put_by_name x f gs)
  every-put f [] p q = both (t f) true p refl
  every-put f (g ∷ gs) p q =
      let rest = every-put f gs p (second (t g) (list_all t gs) q) in
      elim (is_le (slice_cmp nat_cmp (field_at x f.0).name (field_at x g.0).name)) as (λ b. list_all t (if b then f ∷ g ∷ gs else g ∷ put_by_name x f gs) ≡ true) [
        | true ↦ both (t f) (list_all t (g ∷ gs)) p q
        | false ↦ both (t g) (list_all t (put_by_name x f gs)) (first (t g) (list_all t gs) q) rest
      ]

  every-by_name : (fs : List (ℕ × Filter)) → Every t fs → Every t (by_name x fs)
  every-by_name [] p = refl
  every-by_name (f ∷ fs) p = every-put f (by_name x fs) (first (t f) (list_all t fs) p) (every-by_name fs (second (t f) (list_all t fs) p))

  every-with_always : (fs : List (ℕ × Filter)) → Every t fs → Every t x.always → Every t (with_always x fs)
  every-with_always fs p q =
      let left : ℕ × Filter → Bool = λ f. not (has_number f.0 (filtered fs)) in
      every-by_name (fs ++ filter left x.always) (every-append t fs (filter left x.always) p (every-filter t left x.always q))

of_filtered : (t : ℕ → Bool) (fs : List (ℕ × Filter)) → list_all t (filtered fs) ≡ list_all (λ f. t f.0) fs
of_filtered t [] = refl
of_filtered t (f ∷ fs) = ap (λ b. t f.0 && b) (of_filtered t fs)

-- defaults without relative dates are the same at each moment
pub always_at : (now : ℤ) (x : Explore) (fs : List (ℕ × Filter)) → are_filters_of x x.always ≡ true → are_fixed x.always ≡ true
    → with_always_at now x fs ≡ with_always x fs
always_at now x fs typed fixed =
    let defaults = left_out fs x.always in
    ap (λ ds. by_name x (fs ++ ds)) (filters_kept now x defaults (every-filter _ _ x.always typed) (every-filter _ _ x.always fixed))
    ∙ (λ i. by_name x (fs ++ filter (λ (f : ℕ × Filter). not (any_filtered f.0 fs i)) x.always))

-- ---- what a model says of the measures of its explores

pub measures_typed : (m : Model) → IsResolved m → (n : ℕ) → nat_lt n (length m.explores) ≡ true
    → list_all (λ k. are_filters_of (explore_at m n) k.filters) (explore_at m n).measures ≡ true
measures_typed m is n there =
    let x = explore_at m n in
    second (are_filters_of x x.always) (list_all (λ k. are_filters_of x k.filters) x.measures)
    (first (are_filters_of x x.always && list_all (λ k. are_filters_of x k.filters) x.measures) _ (resolved_explore m is n there).filters)

-- ---- what it says of its derived tables

module _ (m : Model) (is : IsResolved m) (d : ℕ) (within : nat_lt d (length m.derived) ≡ true) where
  abbrev table : Derived
  table = derived_at m d

  abbrev x : Explore
  x = explore_at m table.explore

  with_fields : (nat_lt table.explore (length m.explores) && list_all (λ c. is_pick x c.1) table.columns && are_fields x (filtered table.filters)) ≡ true
  with_fields = first _ (is_none_or_below (length m.datagroups) table.datagroup) (numbered_derived m is d within)

  with_picks : (nat_lt table.explore (length m.explores) && list_all (λ c. is_pick x c.1) table.columns) ≡ true
  with_picks = first (nat_lt table.explore (length m.explores) && list_all (λ c. is_pick x c.1) table.columns) (are_fields x (filtered table.filters)) with_fields

  pub derived_explore : nat_lt table.explore (length m.explores) ≡ true
  derived_explore = first (nat_lt table.explore (length m.explores)) (list_all (λ c. is_pick x c.1) table.columns) with_picks

  both_fixed : (are_fixed table.filters && are_fixed x.always) ≡ true
  both_fixed = first (are_fixed table.filters && are_fixed x.always) (have_fixed_filters x (query_components x (derived_query x table))) (resolved_derived m is d within).fixed

  pub always_fixed : are_fixed x.always ≡ true
  always_fixed = second (are_fixed table.filters) (are_fixed x.always) both_fixed

  always_and_measures : (are_filters_of x x.always && list_all (λ n. are_filters_of x n.filters) x.measures) ≡ true
  always_and_measures = first (are_filters_of x x.always && list_all (λ n. are_filters_of x n.filters) x.measures) _ (resolved_explore m is table.explore derived_explore).filters

  pub always_typed : are_filters_of x x.always ≡ true
  always_typed = first (are_filters_of x x.always) (list_all (λ n. are_filters_of x n.filters) x.measures) always_and_measures

  pub derived_fixed : have_fixed_filters x (query_components x (derived_query x table)) ≡ true
  derived_fixed = second (are_fixed table.filters && are_fixed x.always) (have_fixed_filters x (query_components x (derived_query x table))) (resolved_derived m is d within).fixed

  numbered_explore : is_numbered_explore m x ≡ true
  numbered_explore =
      every-at (is_numbered_explore m) m.explores table.explore no_explore
      (second (list_all (λ t. is_none_or_below (length t.columns) t.key) m.schema.tables) (list_all (is_numbered_explore m) m.explores)
      (first _ (list_all (is_numbered_derived m) m.derived) (first _ (list_all (is_numbered_datagroup m) m.datagroups) is.numbered))) refl

  always_there : are_fields x (filtered x.always) ≡ true
  always_there = second _ (are_fields x (filtered x.always)) (first _ (are_fields x (map (λ a. a.0) x.access)) (first _ _ numbered_explore))

  fields_there : are_fields x (filtered (with_always x table.filters)) ≡ true
  fields_there =
      let t : ℕ → Bool = λ f. nat_lt f (length x.fields) in
      of_filtered t (with_always x table.filters)
      ∙ every-with_always x (λ f. t f.0) table.filters
      (sym (of_filtered t table.filters) ∙ second (nat_lt table.explore (length m.explores) && list_all (λ c. is_pick x c.1) table.columns) (are_fields x (filtered table.filters)) with_fields)
      (sym (of_filtered t x.always) ∙ always_there)

  rows_typed : are_filters_of x (with_always x table.filters) ≡ true
  rows_typed = every-with_always x _ table.filters (resolved_derived m is d within).filters always_typed

  rows_fixed : are_fixed (with_always x table.filters) ≡ true
  rows_fixed = every-with_always x _ table.filters (first (are_fixed table.filters) (are_fixed x.always) both_fixed) always_fixed

  pub derived_in_model : IsInModel m (derived_query x table)
  derived_in_model = record {
    explore = derived_explore;
    picks = every-map (is_pick x) (λ c. is_pick x c.1) (λ c. c.1) (λ c h. h) table.columns (second (nat_lt table.explore (length m.explores)) (list_all (λ c. is_pick x c.1) table.columns) with_picks);
    joins = refl;
    fields = fields_there;
    measures = refl;
    kinds = both (are_filters_of x (with_always x table.filters)) true rows_typed refl;
    placed = ap are_fixed (append-nil (with_always x table.filters)) ∙ rows_fixed;
    sorts = refl;
    limit = refl;
  }

-- ---- and of its aggregate tables

pub rollup_fixed : (m : Model) (e n : ℕ) → IsResolved m → nat_lt e (length m.explores) ≡ true
    → have_fixed_filters (explore_at m e) (query_components (explore_at m e) (rollup_query (explore_at m e) e (rollup_at (explore_at m e) n))) ≡ true
rollup_fixed m e n is there =
    let x = explore_at m e in
    let r = rollup_at x n in
    ap (have_fixed_filters x) (components_are x e r)
    ∙ second (are_fixed r.filters) (have_fixed_filters x (components_of x r.measures)) (every-at (is_fixed_rollup x) x.rollups n _ (resolved_explore m is e there).fixed refl)

-- the query that is made of what equals the explore and the aggregate table
pub query_is : (m : Model) (e n : ℕ) (x : Explore) (r : Rollup) (q : Bound) → x ≡ explore_at m e → r ≡ rollup_at x n → q ≡ rollup_query x e r → q ≡ query_of_rollup m e n
query_is m e n x r q explore rollup is = is ∙ (λ i. rollup_query (explore i) e ((rollup ∙ ap (λ z. rollup_at z n) explore) i))

pub derived_query_is : (m : Model) (d : ℕ) (x : Explore) (table : Derived) (q : Bound) → table ≡ derived_at m d → x ≡ explore_at m table.explore → q ≡ derived_query x table
    → q ≡ query_of_derived m d
derived_query_is m d x table q derived explore is = is ∙ ap (λ z. derived_query z table) explore ∙ ap (λ t. derived_query (explore_at m t.explore) t) derived

-- the joins of a query without access filters and filters on measures, from lists that equal its own
pub joins_stored : (x : Explore) (picks picked : List Pick) (rows own : List (ℕ × Filter)) (fields more joins : List ℕ) → picked ≡ picks → own ≡ rows
    → fields ≡ filtered own → more ≡ fields → joins ≡ joins_for x (dims_of picked ++ more) (picked_measures picked) → joins ≡ query_joins x picks rows [] []
joins_stored x picks picked rows own fields more joins picks_are rows_are fields_are more_are is =
    let all = more_are ∙ fields_are ∙ ap filtered rows_are in
    is ∙ (λ i. joins_for x (dims_of (picks_are i) ++ all i) (picked_measures (picks_are i)))
    ∙ (λ i. joins_for x (sym (append-nil (dims_of picks ++ filtered rows)) i) (sym (append-nil (picked_measures picks)) i))
