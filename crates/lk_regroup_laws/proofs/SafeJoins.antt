-- The joins of an aggregate table that a query does not need are such left joins.
use Rattle.std.proofs.Common.{◌≡◌, ℕ, zero, suc, ◌+◌, Bool, true, false, ◌&&◌, ◌||◌, List, [], ◌∷◌, ◌++◌, map, length, refl, sym, ap, ◌∙◌, arith, inl, inr, ⊎_elim, eq-eqb}
use Rattle.std.specs.Prelude.{filter, if◌then◌else◌, nat_eq, nat_lt, MatchBool, ◌⊎◌}
use Rattle.std.specs.List.{list_all, list_any}
use Rattle.std.proofs.lemmas.Bool.{false≢true, eqb-true}
use Rattle.std.proofs.lemmas.List.Folds.{list_all-append}
use Rattle.lk_types.specs.Expressions.{has_number}
use Rattle.lk_types.specs.declared.explore.Explore.{Explore}
use Rattle.lk_types.specs.declared.rows.Sources.{Sources}
use Rattle.lk_semantics.specs.Joins.{IsClosedUnderNeed, brings_one_of, condition_of, is_asked, join_at, joined_rows, mentions_of, numbers_below}
use Rattle.lk_semantics.specs.Rollups.{keeps_rows}
use Rattle.lk_tree_laws.proofs.AgreementLaws.{AreKeyed}
use Rattle.lk_tree_laws.proofs.KeyLaws.{both, one_of}
use Rattle.lk_tree_laws.proofs.RoundLaws.{all_at}
use Rattle.lk_regroup_laws.specs.Further.{joins_view, keeps_view, only_joins}
use Rattle.lk_regroup_laws.proofs.FurtherJoinLaws.{AreSafe, FindsAtMostOne, joined_rows-only, view_of_join}
use Rattle.lk_regroup_laws.proofs.PartnerLaws.{finds}
use Rattle.lk_regroup_laws.proofs.Steps.{or_first, or_second}

none_more : (a : Bool) → (a || false) ≡ a
none_more true = refl
none_more false = refl

-- ---- numbers below

weaker : (n : ℕ) (js : List ℕ) → list_all (λ j. nat_lt j n) js ≡ true → list_all (λ j. nat_lt j (suc n)) js ≡ true
weaker n [] h = refl
weaker n (j ∷ js) h =
    let split = both (nat_lt j n) (list_all (λ j. nat_lt j n) js) h in
    (λ i. one j split.0 i && weaker n js split.1 i)
  where
    one : (j : ℕ) → nat_lt j n ≡ true → nat_lt j (suc n) ≡ true
    one j h = grind (arith, h)

itself_below : (n : ℕ) → nat_lt n (suc n) ≡ true
itself_below n = grind arith

pub below : (n : ℕ) → list_all (λ j. nat_lt j n) (numbers_below n) ≡ true
below zero = refl
below (suc n) = list_all-append (λ j. nat_lt j (suc n)) (numbers_below n) (n ∷ []) ∙ (λ i. weaker n (numbers_below n) (below n) i && (itself_below n i && true))

in_below : (n j : ℕ) → nat_lt j n ≡ true → has_number j (numbers_below n) ≡ true
in_below zero j h = absurd (false≢true (sym (nothing_below j) ∙ h))
  where
    nothing_below : (j : ℕ) → nat_lt j 0 ≡ false
    nothing_below j = grind arith
in_below (suc n) j h = either (numbers_below n) (⊎_elim (λ less. inl (in_below n j less)) inr (last n j h))
  where
    last : (n j : ℕ) → nat_lt j (suc n) ≡ true → (nat_lt j n ≡ true) ⊎ (nat_eq j n ≡ true)
    last n j h = grind (arith, h)

    either : (ns : List ℕ) → (has_number j ns ≡ true) ⊎ (nat_eq j n ≡ true) → has_number j (ns ++ n ∷ []) ≡ true
    either [] (inl h) = absurd (false≢true h)
    either [] (inr h) = or_first (nat_eq j n) false h
    either (k ∷ ns) (inl h) = ⊎_elim (λ here. or_first (nat_eq j k) (has_number j (ns ++ n ∷ [])) here) (λ there. or_second (nat_eq j k) (has_number j (ns ++ n ∷ [])) (either ns (inl there))) (one_of (nat_eq j k) (has_number j ns) h)
    either (k ∷ ns) (inr h) = or_second (nat_eq j k) (has_number j (ns ++ n ∷ [])) (either ns (inr h))

module _ (x : Explore) (parts joins : List ℕ) (closed : IsClosedUnderNeed x parts joins) where
  -- a view that is no join's is past the explore's views
  kept : (p : ℕ) → ((j : ℕ) → p ≡ j + 1 → nat_lt j (length x.joins) ≡ true → has_number j joins ≡ true) → keeps_view x joins p ≡ true
  kept zero asked = refl
  kept (suc j) asked = elim (nat_lt j (length x.joins)) as (λ b. nat_lt j (length x.joins) ≡ b → keeps_view x joins (suc j) ≡ true) [
    | true ↦ λ h. or_first (joins_view joins (suc j)) (nat_lt (length x.joins) (suc j)) (let same : suc j ≡ j + 1 = omega arith in ap (joins_view joins) same ∙ view_of_join joins j ∙ asked j same h)
    | false ↦ λ h. or_second (joins_view joins (suc j)) (nat_lt (length x.joins) (suc j)) (past j (length x.joins) h)
  ] refl
    where
      past : (j n : ℕ) → nat_lt j n ≡ false → nat_lt n (suc j) ≡ true
      past j n h = grind (arith, h)

  -- the parts that these joins are needed for
  pub all_kept : (ps : List ℕ) → ((j : ℕ) → brings_one_of ps j ≡ true → nat_lt j (length x.joins) ≡ true → has_number j joins ≡ true) → list_all (keeps_view x joins) ps ≡ true
  all_kept [] asked = refl
  all_kept (p ∷ ps) asked =
      let here : keeps_view x joins p ≡ true = kept p (λ j is within. asked j (or_first (nat_eq (j + 1) p) (has_number (j + 1) ps) (eq-eqb (j + 1) p (sym is))) within) in
      let rest : list_all (keeps_view x joins) ps ≡ true = all_kept ps (λ j h within. asked j (or_second (nat_eq (j + 1) p) (has_number (j + 1) ps) h) within) in
      λ i. here i && rest i

  pub closed_at : (j : ℕ) → nat_lt j (length x.joins) ≡ true → is_asked x parts joins j ≡ true → has_number j joins ≡ true
  closed_at j within asked = closed j (in_below (length x.joins) j within) asked

  -- what a join of these mentions is there
  condition_kept : (i : ℕ) → has_number i joins ≡ true → list_all (keeps_view x joins) (mentions_of (condition_of (join_at x i))) ≡ true
  condition_kept i here = all_kept (mentions_of (condition_of (join_at x i))) (λ j brings within. closed_at j within (asked j brings))
    where
      some : (test : ℕ → Bool) (is : List ℕ) (i : ℕ) → has_number i is ≡ true → test i ≡ true → list_any test is ≡ true
      some test [] i h t = absurd (false≢true h)
      some test (k ∷ is) i h t =
          ⊎_elim (λ here. or_first (test k) (list_any test is) (ap test (sym (eqb-true i k here)) ∙ t))
          (λ there. or_second (test k) (list_any test is) (some test is i there t)) (one_of (nat_eq i k) (has_number i is) h)

      asked : (j : ℕ) → brings_one_of (mentions_of (condition_of (join_at x i))) j ≡ true → is_asked x parts joins j ≡ true
      asked j brings =
          or_second (brings_one_of parts j || has_number j x.always_join || brings_one_of (mentions_of x.always_where) j) _
          (some (λ i. has_number j (join_at x i).required || brings_one_of (mentions_of (condition_of (join_at x i))) j) joins i here
          (or_second (has_number j (join_at x i).required) (brings_one_of (mentions_of (condition_of (join_at x i))) j) brings))

  module _ (s : Sources) (keyed : AreKeyed x s) (js : List ℕ) (within : list_all (λ j. has_number j js) joins ≡ true)
      (further : list_all (λ j. has_number j joins || keeps_rows x j) js ≡ true) where
    safe_join : (j : ℕ) → nat_lt j (length x.joins) ≡ true → has_number j js ≡ true
        → (keeps_view x joins (j + 1) ≡ has_number j joins)
        × MatchBool (has_number j joins) (list_all (keeps_view x joins) (mentions_of (condition_of (join_at x j))) ≡ true) (FindsAtMostOne x s j)
    safe_join j below_all h = (
      ap (λ b. joins_view joins (j + 1) || b) (not_past j (length x.joins) below_all) ∙ none_more (joins_view joins (j + 1)) ∙ view_of_join joins j,
      elim (has_number j joins) as (λ b. has_number j joins ≡ b → (b || keeps_rows x j) ≡ true → MatchBool b (list_all (keeps_view x joins) (mentions_of (condition_of (join_at x j))) ≡ true) (FindsAtMostOne x s j)) [
        | true ↦ λ here _. condition_kept j here
        | false ↦ λ _ keeps. finds x s j keyed keeps
      ] refl (all_at (λ j. has_number j joins || keeps_rows x j) js j further h),
    )
      where
        not_past : (j n : ℕ) → nat_lt j n ≡ true → nat_lt n (j + 1) ≡ false
        not_past j n h = grind (arith, h)

    safe_among : (ns : List ℕ) → list_all (λ j. nat_lt j (length x.joins)) ns ≡ true → AreSafe x s joins (filter (λ j. has_number j js) ns)
    safe_among [] all = tt
    safe_among (j ∷ ns) all =
        let split = both (nat_lt j (length x.joins)) (list_all (λ j. nat_lt j (length x.joins)) ns) all in
        elim (has_number j js) as (λ b. has_number j js ≡ b → AreSafe x s joins (if b then j ∷ filter (λ j. has_number j js) ns else filter (λ j. has_number j js) ns)) [
          | true ↦ λ h. let one = safe_join j split.0 h in (one.0, one.1, safe_among ns split.1)
          | false ↦ λ _. safe_among ns split.1
        ] refl

    same_order : (ns : List ℕ) → filter (λ j. has_number j joins) (filter (λ j. has_number j js) ns) ≡ filter (λ j. has_number j joins) ns
    same_order [] = refl
    same_order (j ∷ ns) = elim (has_number j js) as (λ b. has_number j js ≡ b → filter (λ j. has_number j joins) (if b then j ∷ filter (λ j. has_number j js) ns else filter (λ j. has_number j js) ns)
        ≡ (if has_number j joins then j ∷ filter (λ j. has_number j joins) ns else filter (λ j. has_number j joins) ns)) [
          | true ↦ λ _. ap (λ rest. if has_number j joins then j ∷ rest else rest) (same_order ns)
          | false ↦ λ out. same_order ns ∙ ap (λ b. if b then j ∷ filter (λ j. has_number j joins) ns else filter (λ j. has_number j joins) ns) (sym (not_these j out))
        ] refl
      where
        not_these : (j : ℕ) → has_number j js ≡ false → has_number j joins ≡ false
        not_these j out = elim (has_number j joins) as (λ b. has_number j joins ≡ b → b ≡ false) [
          | true ↦ λ h. absurd (false≢true (sym out ∙ all_at (λ j. has_number j js) joins j within h))
          | false ↦ λ _. refl
        ] refl

    -- the rows of the rollup's joins, without the views that the query's do not bring, are those of the query's joins
    pub further_joins_keep_rows : map (only_joins x joins) (joined_rows x s js) ≡ joined_rows x s joins
    further_joins_keep_rows = joined_rows-only x s joins js (safe_among (numbers_below (length x.joins)) (below (length x.joins))) (same_order (numbers_below (length x.joins)))
