-- The rows of a resolved model's derived tables are the same at each moment: no filter of their queries has a relative date.
use Rattle.std.proofs.Common.{◌≡◌, ◌∙◌, ℕ, zero, suc, ℤ, true, false, ◌&&◌, List, [], ◌∷◌, ◌++◌, length, map, refl, ap}
use Rattle.std.specs.Prelude.{filter, if◌then◌else◌, nat_lt, not}
use Rattle.std.specs.List.{list_all, AllByRecursion}
use Rattle.std.specs.Ordering.{nat_cmp, is_le}
use Rattle.std.specs.Cmp.Lexicographic.{slice_cmp}
use Rattle.std.proofs.lemmas.List.{length-map}
use Rattle.lk_types.specs.Expressions.{has_number}
use Rattle.lk_types.specs.Tables.{Rows}
use Rattle.lk_types.specs.declared.answer.GroupRow.{GroupRow}
use Rattle.lk_types.specs.declared.bound.Bound.{Bound}
use Rattle.lk_types.specs.declared.explore.Explore.{Explore}
use Rattle.lk_types.specs.declared.filter.Filter.{Filter}
use Rattle.lk_types.specs.declared.model.Derived.{Derived}
use Rattle.lk_types.specs.declared.model.Model.{Model}
use Rattle.lk_types.specs.declared.rows.Sources.{Sources}
use Rattle.lk_types.specs.declared.rows.Tables.{Tables}
use Rattle.lk_semantics.specs.Answers.{dims_of, filtered, lines_of, picked_measures, query_components, rows_grouped}
use Rattle.lk_semantics.specs.Derived.{answer_rows, by_name, derived_query, derived_rows, derived_within, explore_at, put_by_name, query_joins, sources_of, value_of_cell, with_always}
use Rattle.lk_semantics.specs.Joins.{joined_rows}
use Rattle.lk_semantics.specs.Measures.{group_rows}
use Rattle.lk_semantics.specs.Resolved.{IsResolved, IsResolvedDerived, are_filters_of, are_fixed, have_fixed_filters, is_none_or_below, is_numbered_datagroup, is_numbered_derived, is_numbered_explore, is_pick, are_fields}
use Rattle.lk_semantics.specs.Rows.{field_at, passing_rows}
use Rattle.lk_filter.specs.PlacedModel.{placed_derived, placed_explore, placed_field_filter, placed_model}
use Rattle.lk_semantics.proofs.EveryLaws.{first, second}
use Rattle.lk_placed_laws.proofs.PlacedLaws.{joined_are, lines_are, ops_are, query_components_are}
use Rattle.lk_placed_laws.proofs.FixedLaws.{filters_kept, given_are, joins_for_are}
use Rattle.lk_placed_laws.proofs.RouteLaws.{explore_is}
use Rattle.lk_plan.proofs.ResolvedLaws.{resolved_at}

-- ---- queries of an explore at a moment

module _ (now : ℤ) (x : Explore) where
  abbrev y : Explore
  y = placed_explore now x

  put_is : (f : ℕ × Filter) (gs : List (ℕ × Filter)) → put_by_name y f gs ≡ put_by_name x f gs
  put_is f [] = refl
  put_is f (g ∷ gs) =
      ap (λ rest. if is_le (slice_cmp nat_cmp (field_at x f.0).name (field_at x g.0).name) then f ∷ g ∷ gs else g ∷ rest) (put_is f gs)

  by_name_is : (fs : List (ℕ × Filter)) → by_name y fs ≡ by_name x fs
  by_name_is [] = refl
  by_name_is (f ∷ fs) = put_is f (by_name y fs) ∙ ap (put_by_name x f) (by_name_is fs)

  with_always_is : (fs : List (ℕ × Filter)) → are_filters_of x fs ≡ true → are_fixed fs ≡ true → are_filters_of x x.always ≡ true → are_fixed x.always ≡ true
      → with_always y (map (placed_field_filter now) fs) ≡ with_always x fs
  with_always_is fs typed fixed always_typed always_fixed =
      ap (with_always y) (filters_kept now x fs typed fixed)
      ∙ ap (λ always. by_name y (fs ++ filter (λ f. not (has_number f.0 (filtered fs))) always)) (filters_kept now x x.always always_typed always_fixed)
      ∙ by_name_is (fs ++ filter (λ f. not (has_number f.0 (filtered fs))) x.always)

  -- ---- rows of groups whose measures have no relative dates

  rows_are : list_all (λ n. are_filters_of x n.filters) x.measures ≡ true → (s : Sources) (b : Bound) → have_fixed_filters x (query_components x b) ≡ true
      → answer_rows y s b ≡ answer_rows x s b
  rows_are typed s b fixed =
      let dims = dims_of b.picks in
      let lines : List GroupRow → Rows = map (λ line. map value_of_cell line.cells) in
      ap lines (lines_are now x b _)
      ∙ ap (λ ms. lines (lines_of x b (rows_grouped y dims ms (passing_rows y b.rows (joined_rows y s b.joins))))) (query_components_are now x b)
      ∙ ap (λ rows. lines (lines_of x b (rows_grouped y dims (query_components x b) (passing_rows x b.rows rows)))) (joined_are now x s b.joins)
      ∙ (λ i. lines (lines_of x b (group_rows (length dims) (ops_are now x (query_components x b) i) (given_are now x typed dims (query_components x b) (passing_rows x b.rows (joined_rows x s b.joins)) fixed i))))

-- ---- the model

module _ (now : ℤ) (m : Model) (resolved : IsResolved m) where
  table_is : (s : Sources) (d : Derived) → IsResolvedDerived m d → is_numbered_derived m d ≡ true → derived_rows (placed_model now m) s (placed_derived now d) ≡ derived_rows m s d
  table_is s d h numbered =
      let x = explore_at m d.explore in
      let y = placed_explore now x in
      let there = first (nat_lt d.explore (length m.explores)) (list_all (λ c. is_pick x c.1) d.columns)
      (first (nat_lt d.explore (length m.explores) && list_all (λ c. is_pick x c.1) d.columns) (are_fields x (filtered d.filters))
      (first _ (is_none_or_below (length m.datagroups) d.datagroup) numbered)) in
      let explore = resolved_at m resolved d.explore there in
      let always_and_measures = first (are_filters_of x x.always && list_all (λ n. are_filters_of x n.filters) x.measures) _ explore.filters in
      let always_typed = first (are_filters_of x x.always) (list_all (λ n. are_filters_of x n.filters) x.measures) always_and_measures in
      let typed = second (are_filters_of x x.always) (list_all (λ n. are_filters_of x n.filters) x.measures) always_and_measures in
      let both_fixed = first (are_fixed d.filters && are_fixed x.always) (have_fixed_filters x (query_components x (derived_query x d))) h.fixed in
      let fixed = second (are_fixed d.filters && are_fixed x.always) (have_fixed_filters x (query_components x (derived_query x d))) h.fixed in
      let picks = map (λ c. c.1) d.columns in
      let rows : with_always y (map (placed_field_filter now) d.filters) ≡ with_always x d.filters =
      with_always_is now x d.filters h.filters (first (are_fixed d.filters) (are_fixed x.always) both_fixed) always_typed (second (are_fixed d.filters) (are_fixed x.always) both_fixed) in
      let joins : query_joins y picks (with_always y (map (placed_field_filter now) d.filters)) [] [] ≡ query_joins x picks (with_always x d.filters) [] [] =
      ap (λ fs. query_joins y picks fs [] []) rows ∙ joins_for_are now x (dims_of picks ++ filtered (with_always x d.filters) ++ []) (picked_measures picks ++ []) in
      let query : derived_query y (placed_derived now d) ≡ derived_query x d = (λ i. record {
        explore = d.explore;
        picks = picks;
        joins = joins i;
        access = [];
        rows = rows i;
        having = [];
        sorts = [];
        limit = 1;
        fresh = false;
        csv = false;
      }) in
      ap (λ z. answer_rows z s (derived_query z (placed_derived now d))) (explore_is now m d.explore)
      ∙ ap (answer_rows y s) query
      ∙ rows_are now x typed s (derived_query x d) fixed

  tables_are : (s : Sources) (ds : List Derived) → AllByRecursion (IsResolvedDerived m) ds → list_all (is_numbered_derived m) ds ≡ true
      → map (derived_rows (placed_model now m) s) (map (placed_derived now) ds) ≡ map (derived_rows m s) ds
  tables_are s [] h numbered = refl
  tables_are s (d ∷ ds) h numbered =
      let one = table_is s d h.0 (first (is_numbered_derived m d) (list_all (is_numbered_derived m) ds) numbered) in
      let rest = tables_are s ds h.1 (second (is_numbered_derived m d) (list_all (is_numbered_derived m) ds) numbered) in
      (λ i. one i ∷ rest i)

  numbered_tables : list_all (is_numbered_derived m) m.derived ≡ true
  numbered_tables =
      second (list_all (λ t. is_none_or_below (length t.columns) t.key) m.schema.tables && list_all (is_numbered_explore m) m.explores) (list_all (is_numbered_derived m) m.derived)
      (first (list_all (λ t. is_none_or_below (length t.columns) t.key) m.schema.tables && list_all (is_numbered_explore m) m.explores && list_all (is_numbered_derived m) m.derived) (list_all (is_numbered_datagroup m) m.datagroups) resolved.numbered)

  within_are : (stored : List Rows) (n : ℕ) → derived_within (placed_model now m) stored n ≡ derived_within m stored n
  within_are stored zero = refl
  within_are stored (suc n) =
      ap (λ derived. map (derived_rows (placed_model now m) (record { stored = stored; derived = derived })) (map (placed_derived now) m.derived)) (within_are stored n)
      ∙ tables_are (record { stored = stored; derived = derived_within m stored n }) m.derived resolved.derived numbered_tables

  pub sources_are : (t : Tables) → sources_of (placed_model now m) t ≡ sources_of m t
  sources_are t =
      let derived = ap (derived_within (placed_model now m) t.tables) (length-map m.derived (placed_derived now)) ∙ within_are t.tables (length m.derived) in
      (λ i. record { stored = t.tables; derived = derived i })
