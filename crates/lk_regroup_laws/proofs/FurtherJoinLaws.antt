-- A left join by a key that a query has no need of: without its view the rows are those without the join.
use Rattle.std.proofs.Common.{◌≡◌, ℕ, zero, suc, ◌+◌, ◌≤◌, Bool, true, false, ◌&&◌, ◌||◌, List, [], ◌∷◌, ◌++◌, map, length, refl, sym, ap, ◌∙◌, arith, Some, None, zero-add, add-zero, eq-eqb, inl, inr}
use Rattle.std.specs.Prelude.{filter, flat_map, not, if◌then◌else◌, Option, nat_eq, ◌==◌, slice_get, slice_set, replicate, MatchBool}
use Rattle.std.specs.List.{list_any, list_all, enumerate_from}
use Rattle.std.proofs.lemmas.Bool.{false≢true, eqb-true}
use Rattle.std.proofs.lemmas.Bool.Decides.{eqb_tells}
use Rattle.std.proofs.lemmas.List.{map-append}
use Rattle.lk_types.specs.Formula.{Formula}
use Rattle.lk_types.specs.Expressions.{is_true, mentions, has_number}
use Rattle.lk_types.specs.Tables.{Cells, Rows}
use Rattle.lk_types.specs.declared.rows.Joined.{Joined}
use Rattle.lk_types.specs.declared.rows.Sources.{Sources}
use Rattle.lk_types.specs.declared.explore.Explore.{Explore}
use Rattle.lk_types.specs.declared.explore.JoinKind.{JoinKind}
use Rattle.lk_types.specs.declared.explore.JoinKind.TheVariants.{Left, Full, Inner, Cross}
use Rattle.lk_types.proofs.MentionLaws.{Agree, value_of-agree}
use Rattle.lk_semantics.specs.Joins.{rows_from, part_at, join_at, mentions_of, condition_of, is_cross, is_met, partners, with_part, null_row, left_joined, or_alone, is_lone, lone_rights, joined_by, join_rows, joined_after, base_rows, in_declared_order, joined_rows}
use Rattle.lk_semantics.proofs.JoinLaws.{HasFewPartners, left_joined-widened, widened, first_or}
use Rattle.lk_regroup_laws.specs.Further.{joins_view, keeps_view, only_joins}

-- ---- lists of parts

-- the parts from place n on whose places pass
abbrev kept : (ℕ → Bool) → ℕ → List (Option Cells) → List (Option Cells)
kept t n parts = map (λ p. if t p.0 then p.1 else None) (enumerate_from n parts)

kept-set_in : (t : ℕ → Bool) (c : Cells) (n : ℕ) (parts : List (Option Cells)) (p : ℕ) → t (n + p) ≡ true → kept t n (slice_set parts p (Some c)) ≡ slice_set (kept t n parts) p (Some c)
kept-set_in t c n [] p h = refl
kept-set_in t c n (x ∷ xs) zero h = ap (λ b. (if b then Some c else None) ∷ kept t (n + 1) xs) (ap t (sym (add-zero n)) ∙ h)
kept-set_in t c n (x ∷ xs) (suc p) h =
    let same : n + suc p ≡ (n + 1) + p = omega arith in
    ap (λ ys. (if t n then x else None) ∷ ys) (kept-set_in t c (n + 1) xs p (ap t (sym same) ∙ h))

kept-set_out : (t : ℕ → Bool) (c : Cells) (n : ℕ) (parts : List (Option Cells)) (p : ℕ) → t (n + p) ≡ false → kept t n (slice_set parts p (Some c)) ≡ kept t n parts
kept-set_out t c n [] p h = refl
kept-set_out t c n (x ∷ xs) zero h =
    let out : t n ≡ false = ap t (sym (add-zero n)) ∙ h in
    ap (λ b. (if b then Some c else None) ∷ kept t (n + 1) xs) out ∙ sym (ap (λ b. (if b then x else None) ∷ kept t (n + 1) xs) out)
kept-set_out t c n (x ∷ xs) (suc p) h =
    let same : n + suc p ≡ (n + 1) + p = omega arith in
    ap (λ ys. (if t n then x else None) ∷ ys) (kept-set_out t c (n + 1) xs p (ap t (sym same) ∙ h))

kept-get : (t : ℕ → Bool) (n : ℕ) (parts : List (Option Cells)) (p : ℕ) → t (n + p) ≡ true → slice_get (kept t n parts) p ≡ slice_get parts p
kept-get t n [] p h = refl
kept-get t n (x ∷ xs) zero h = ap (λ b. Some (if b then x else None)) (ap t (sym (add-zero n)) ∙ h)
kept-get t n (x ∷ xs) (suc p) h = let same : n + suc p ≡ (n + 1) + p = omega arith in kept-get t (n + 1) xs p (ap t (sym same) ∙ h)

kept-none : (t : ℕ → Bool) (n k : ℕ) → kept t n (replicate k None) ≡ replicate k None
kept-none t n zero = refl
kept-none t n (suc k) = λ i. either (t n) i ∷ kept-none t (n + 1) k i
  where
    either : (b : Bool) → ◌≡◌ {A = Option Cells} (if b then None else None) None
    either true = refl
    either false = refl

-- ---- rows without some views

module _ (t : ℕ → Bool) where
  abbrev only : Joined → Joined
  only row = record { parts = kept t 0 row.parts }

  only-in : (p : ℕ) (row : Joined) (c : Cells) → t p ≡ true → only (with_part p row c) ≡ with_part p (only row) c
  only-in p row c h = λ i. record { parts = kept-set_in t c 0 row.parts p (ap t (zero-add p) ∙ h) i }

  only-out : (p : ℕ) (row : Joined) (c : Cells) → t p ≡ false → only (with_part p row c) ≡ only row
  only-out p row c h = λ i. record { parts = kept-set_out t c 0 row.parts p (ap t (zero-add p) ∙ h) i }

  passes_at : (ps : List ℕ) (p : ℕ) → list_all t ps ≡ true → has_number p ps ≡ true → t p ≡ true
  passes_at [] p all h = absurd (false≢true h)
  passes_at (q ∷ qs) p all h =
      elim (t q) as (λ b. t q ≡ b → (b && list_all t qs) ≡ true → t p ≡ true) [
        | true ↦ λ tq all. elim (nat_eq p q) as (λ b. nat_eq p q ≡ b → (b || has_number p qs) ≡ true → t p ≡ true) [ true ↦ λ e _. ap t (eqb-true p q e) ∙ tq | false ↦ λ _ h. passes_at qs p all h ] refl h
        | false ↦ λ _ all. absurd (false≢true all)
      ] refl all

  pub only-agree : (row : Joined) (ps : List ℕ) → list_all t ps ≡ true → Agree (only row) row ps
  only-agree row ps all = record { at = λ p h. kept-get t 0 row.parts p (ap t (zero-add p) ∙ passes_at ps p all h) }

  pub is_met-only : (on : Option Formula) (row : Joined) → list_all t (mentions_of on) ≡ true → is_met on (only row) ≡ is_met on row
  is_met-only None row all = refl
  is_met-only (Some e) row all = ap is_true (value_of-agree e (only row) row (only-agree row (mentions e) all))

  module _ (on : Option Formula) (p : ℕ) (in_p : t p ≡ true) (reads : list_all t (mentions_of on) ≡ true) where
    same_row : (row : Joined) (c : Cells) → with_part p (only row) c ≡ only (with_part p row c)
    same_row row c = sym (only-in p row c in_p)

    same_met : (row : Joined) (c : Cells) → is_met on (with_part p (only row) c) ≡ is_met on (with_part p row c)
    same_met row c = ap (is_met on) (same_row row c) ∙ is_met-only on (with_part p row c) reads

    partners-only : (rights : Rows) (row : Joined) → partners on p rights (only row) ≡ map only (partners on p rights row)
    partners-only [] row = refl
    partners-only (c ∷ cs) row =
        (λ i. if same_met row c i then same_row row c i ∷ partners-only cs row i else partners-only cs row i)
        ∙ elim (is_met on (with_part p row c)) as (λ b. (if b then only (with_part p row c) ∷ map only (partners on p cs row) else map only (partners on p cs row)) ≡ map only (if b then with_part p row c ∷ partners on p cs row else partners on p cs row)) [ true ↦ refl | false ↦ refl ]

    or_alone-only : (row : Joined) (ps : List Joined) → or_alone (only row) (map only ps) ≡ map only (or_alone row ps)
    or_alone-only row [] = refl
    or_alone-only row (q ∷ qs) = refl

    flat_map-only : (g h : Joined → List Joined) → ((row : Joined) → g (only row) ≡ map only (h row)) → (rows : List Joined) → flat_map g (map only rows) ≡ map only (flat_map h rows)
    flat_map-only g h each [] = refl
    flat_map-only g h each (row ∷ rows) = (λ i. each row i ++ flat_map-only g h each rows i) ∙ sym (map-append only (h row) (flat_map h rows))

    left-only : (rights : Rows) (rows : List Joined) → left_joined on p (map only rows) rights ≡ map only (left_joined on p rows rights)
    left-only rights rows = flat_map-only (λ row. or_alone row (partners on p rights row)) (λ row. or_alone row (partners on p rights row)) (λ row. ap (or_alone (only row)) (partners-only rights row) ∙ or_alone-only row (partners on p rights row)) rows

    met_by-only : (c : Cells) (rows : List Joined) → list_any (λ row. is_met on (with_part p row c)) (map only rows) ≡ list_any (λ row. is_met on (with_part p row c)) rows
    met_by-only c [] = refl
    met_by-only c (row ∷ rows) = λ i. same_met row c i || met_by-only c rows i

    lone-only : (rows : List Joined) (rights : Rows) → lone_rights on p (map only rows) rights ≡ lone_rights on p rows rights
    unfolding is_lone
    lone-only rows [] = refl
    lone-only rows (c ∷ cs) = λ i. if not (met_by-only c rows i) then c ∷ lone-only rows cs i else lone-only rows cs i

    nulls-only : (x : Explore) (cs : Rows) → map (with_part p (null_row x)) cs ≡ map only (map (with_part p (null_row x)) cs)
    nulls-only x [] = refl
    nulls-only x (c ∷ cs) = λ i. (ap (λ row. with_part p row c) (λ j. record { parts = sym (kept-none t 0 (length x.parts)) j }) ∙ same_row (null_row x) c) i ∷ nulls-only x cs i

  -- a join whose view and condition are kept goes alike on rows without the other views
  step_in : (x : Explore) (s : Sources) (j : ℕ) (rows : List Joined) → t (j + 1) ≡ true → list_all t (mentions_of (condition_of (join_at x j))) ≡ true → join_rows x s (map only rows) j ≡ map only (join_rows x s rows j)
  step_in x s j rows in_p reads = by_kind (join_at x j).kind reads
    where
      by_kind : (k : JoinKind) → list_all t (mentions_of (if is_cross k then None else (join_at x j).on)) ≡ true → joined_by k x (join_at x j).on (j + 1) (map only rows) (rows_from s (part_at x (j + 1)).origin) ≡ map only (joined_by k x (join_at x j).on (j + 1) rows (rows_from s (part_at x (j + 1)).origin))
      by_kind Inner reads = flat_map-only (join_at x j).on (j + 1) in_p reads _ _ (partners-only (join_at x j).on (j + 1) in_p reads (rows_from s (part_at x (j + 1)).origin)) rows
      by_kind Cross reads = flat_map-only None (j + 1) in_p refl _ _ (partners-only None (j + 1) in_p refl (rows_from s (part_at x (j + 1)).origin)) rows
      by_kind Left reads = left-only (join_at x j).on (j + 1) in_p reads (rows_from s (part_at x (j + 1)).origin) rows
      by_kind Full reads =
          (λ i. left-only (join_at x j).on (j + 1) in_p reads (rows_from s (part_at x (j + 1)).origin) rows i ++ (ap (map (with_part (j + 1) (null_row x))) (lone-only (join_at x j).on (j + 1) in_p reads rows (rows_from s (part_at x (j + 1)).origin)) ∙ nulls-only (join_at x j).on (j + 1) in_p reads x _) i)
          ∙ sym (map-append only (left_joined (join_at x j).on (j + 1) rows (rows_from s (part_at x (j + 1)).origin)) _)

  first_or-only : (on : Option Formula) (p : ℕ) (out : t p ≡ false) (rights : Rows) (row : Joined) → only (first_or row (partners on p rights row)) ≡ only row
  first_or-only on p out [] row = refl
  first_or-only on p out (c ∷ cs) row = elim (is_met on (with_part p row c)) as (λ b. only (first_or row (if b then with_part p row c ∷ partners on p cs row else partners on p cs row)) ≡ only row) [ true ↦ only-out p row c out | false ↦ first_or-only on p out cs row ]

  widened-only : (on : Option Formula) (p : ℕ) (out : t p ≡ false) (rights : Rows) (rows : List Joined) → map only (map (widened on p rights) rows) ≡ map only rows
  widened-only on p out rights [] = refl
  widened-only on p out rights (row ∷ rows) = λ i. first_or-only on p out rights row i ∷ widened-only on p out rights rows i

-- ---- joins that others leave out

one_more : (j i : ℕ) → ((j + 1) == (i + 1)) ≡ nat_eq j i
one_more j i = elim (eqb_tells j i) [
  | inl same ↦ eq-eqb (j + 1) (i + 1) (ap (λ n. n + 1) same.1) ∙ sym same.0
  | inr other ↦ elim (eqb_tells (j + 1) (i + 1)) [ inl wrong ↦ absurd (other.1 (let e : j + 1 ≡ i + 1 = wrong.1 in omega arith)) | inr right ↦ right.0 ∙ sym other.0 ]
]

not_none : (j : ℕ) → ((j + 1) == 0) ≡ false
not_none j = elim (eqb_tells (j + 1) 0) [ inl wrong ↦ absurd (let e : j + 1 ≡ 0 = wrong.1 in omega arith) | inr right ↦ right.0 ]

-- a join's view is among the views exactly where the join is among the joins
pub view_of_join : (joins : List ℕ) (j : ℕ) → joins_view joins (j + 1) ≡ has_number j joins
view_of_join joins j = ap (λ b. b || list_any (λ i. (j + 1) == i + 1) joins) (not_none j) ∙ each joins
  where
    each : (is : List ℕ) → list_any (λ i. (j + 1) == i + 1) is ≡ has_number j is
    each [] = refl
    each (i ∷ is) = λ k. one_more j i k || each is k

-- a left join that finds at most one partner for any row
pub record FindsAtMostOne (x : Explore) (s : Sources) (j : ℕ) : Type 0 where
  pub is_left : (join_at x j).kind ≡ Left
  pub few : (row : Joined) → length (partners (join_at x j).on (j + 1) (rows_from s (part_at x (j + 1)).origin) row) ≤ 1

-- each join is one of `joins` and its condition mentions their views alone, or it finds at most one partner
abbrev pub AreSafe : Explore → Sources → List ℕ → List ℕ → Type 0
AreSafe x s joins [] = Unit {0}
AreSafe x s joins (j ∷ js) =
    (keeps_view x joins (j + 1) ≡ has_number j joins)
    × MatchBool (has_number j joins) (list_all (keeps_view x joins) (mentions_of (condition_of (join_at x j))) ≡ true) (FindsAtMostOne x s j) × AreSafe x s joins js

few_all : (x : Explore) (s : Sources) (j : ℕ) → FindsAtMostOne x s j → (rows : List Joined) → HasFewPartners (join_at x j).on (j + 1) (rows_from s (part_at x (j + 1)).origin) rows
few_all x s j f [] = tt
few_all x s j f (row ∷ rows) = (f.few row, few_all x s j f rows)

module _ (x : Explore) (s : Sources) (joins : List ℕ) where
  abbrev only_these : Joined → Joined
  only_these = only_joins x joins

  step_out : (j : ℕ) → keeps_view x joins (j + 1) ≡ false → FindsAtMostOne x s j → (rows : List Joined) → map only_these (join_rows x s rows j) ≡ map only_these rows
  step_out j out f rows =
      let rights : Rows = rows_from s (part_at x (j + 1)).origin in
      ap (map only_these) (
      ap (λ k. joined_by k x (join_at x j).on (j + 1) rows rights) f.is_left
      ∙ left_joined-widened (join_at x j).on (j + 1) rights rows (few_all x s j f rows))
      ∙ widened-only (keeps_view x joins) (join_at x j).on (j + 1) out rights rows

  joined_after-only : (js : List ℕ) → AreSafe x s joins js → (rows : List Joined) →
      map only_these (joined_after x s rows js) ≡ joined_after x s (map only_these rows) (filter (λ j. has_number j joins) js)
  joined_after-only [] safe rows = refl
  joined_after-only (j ∷ js) safe rows =
      joined_after-only js safe.2 (join_rows x s rows j)
      ∙ elim (has_number j joins) as (λ b. keeps_view x joins (j + 1) ≡ b → MatchBool b (list_all (keeps_view x joins) (mentions_of (condition_of (join_at x j))) ≡ true) (FindsAtMostOne x s j) →
      joined_after x s (map only_these (join_rows x s rows j)) (filter (λ i. has_number i joins) js) ≡ joined_after x s (map only_these rows) (if b then j ∷ filter (λ i. has_number i joins) js else filter (λ i. has_number i joins) js)) [
        | true ↦ λ e reads. ap (λ rs. joined_after x s rs (filter (λ i. has_number i joins) js)) (sym (step_in (keeps_view x joins) x s j rows e reads))
        | false ↦ λ e few. ap (λ rs. joined_after x s rs (filter (λ i. has_number i joins) js)) (step_out j e few rows)
      ] safe.0 safe.1

  -- the rows of many joins, without the views that some of the joins do not bring, are the rows of those joins
  pub joined_rows-only : (js : List ℕ) → AreSafe x s joins (in_declared_order x js)
      → filter (λ j. has_number j joins) (in_declared_order x js) ≡ in_declared_order x joins → map only_these (joined_rows x s js) ≡ joined_rows x s joins
  joined_rows-only js safe same =
      joined_after-only (in_declared_order x js) safe (base_rows x s)
      ∙ ap (λ rows. joined_after x s rows (filter (λ j. has_number j joins) (in_declared_order x js))) (sym (nulls-only (keeps_view x joins) None 0 refl refl x (rows_from s (part_at x 0).origin)))
      ∙ ap (joined_after x s (base_rows x s)) same
