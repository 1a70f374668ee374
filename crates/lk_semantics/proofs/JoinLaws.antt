-- The needed joins are a least set; a condition is true where its conjuncts are; an index finds the partners; a join that finds at most one partner keeps the rows.
use Rattle.std.proofs.Common.{◌≡◌, ℕ, ◌≤◌, Bool, true, false, ◌&&◌, ◌||◌, List, [], ◌∷◌, ◌++◌, map, length, refl, sym, ap, ◌∙◌, arith, Some, None, eq-eqb}
use Rattle.std.specs.Prelude.{filter, if◌then◌else◌, Option, nat_eq}
use Rattle.std.specs.List.{list_all}
use Rattle.std.proofs.lemmas.Bool.{false≢true, eqb-true}
use Rattle.std.proofs.lemmas.List.Folds.{list_all-append}
use Rattle.lk_val.specs.declared.value.Value.{Value}
use Rattle.lk_val.specs.declared.value.Value.TheVariants as value
use Rattle.lk_val.proofs.LeastLaws.{IsEquality, IsMonotone, IsKept, least_set-kept, least_set-within, any_within}
use Rattle.lk_types.specs.Formula.{Formula, Column, Literal, Framed, Not, And, Or, Compare, IsNull, In, Between, Like, Number, Negate, Concat, Lower, Upper, Case, Coalesce, NullIf}
use Rattle.lk_types.specs.Expressions.{value_of, is_true, conjuncts, value_of_truth, and_of, truth_of, has_number}
use Rattle.lk_types.specs.Tables.{Rows, Cells}
use Rattle.lk_semantics.specs.Joins.{join_at, condition_of, mentions_of, numbers_below, is_asked, needed_joins, brings_one_of, is_met, partners, with_part, left_joined, or_alone}
use Rattle.lk_types.specs.declared.rows.Joined.{Joined}
use Rattle.lk_types.specs.declared.explore.Explore.{Explore}

-- ---- needed joins

pub numbers_equal : IsEquality nat_eq
numbers_equal = record { itself = λ n. eq-eqb n n refl; exact = λ m n h. eqb-true m n h }

or_second : (a b c : Bool) → (b ≡ true → c ≡ true) → (a || b) ≡ true → (a || c) ≡ true
or_second true b c f h = refl
or_second false b c f h = f h

is_asked-monotone : (x : Explore) (parts : List ℕ) → IsMonotone numbers_equal (numbers_below (length x.joins)) (is_asked x parts)
is_asked-monotone x parts s t within j h =
    or_second (brings_one_of parts j || has_number j x.always_join || brings_one_of (mentions_of x.always_where) j) _ _
    (any_within numbers_equal (λ i. has_number j (join_at x i).required || brings_one_of (mentions_of (condition_of (join_at x i))) j) s t within) h

-- no further join is asked for
pub needed_joins-kept : (x : Explore) (parts : List ℕ) → IsKept numbers_equal (numbers_below (length x.joins)) (is_asked x parts) (needed_joins x parts)
needed_joins-kept x parts = least_set-kept numbers_equal (numbers_below (length x.joins)) (is_asked x parts) (is_asked-monotone x parts)

-- and each needed join is in every list to which no further join is asked for
pub needed_joins-least : (x : Explore) (parts : List ℕ) (joins : List ℕ) → IsKept numbers_equal (numbers_below (length x.joins)) (is_asked x parts) joins → (j : ℕ) → has_number j (needed_joins x parts) ≡ true → has_number j joins ≡ true
needed_joins-least x parts joins kept j h = least_set-within numbers_equal (numbers_below (length x.joins)) (is_asked x parts) (is_asked-monotone x parts) joins kept j h

-- ---- conjuncts

and_true : (a : Bool) → a ≡ (a && true)
and_true true = refl
and_true false = refl

both_true : (a b : Option Bool) → is_true (value_of_truth (and_of a b)) ≡ (is_true (value_of_truth a) && is_true (value_of_truth b))
both_true (Some true) b = refl
both_true (Some false) b = refl
both_true None (Some false) = refl
both_true None (Some true) = refl
both_true None None = refl

of_truth : (v : Value) → is_true (value_of_truth (truth_of v)) ≡ is_true v
of_truth value.Null = refl
of_truth (value.Text t) = refl
of_truth (value.Num n) = refl
of_truth (value.Truth b) = refl
of_truth (value.Day d) = refl
of_truth (value.Moment m) = refl

-- a condition is true where each of its conjuncts is
pub is_true-conjuncts : (e : Formula) (row : Joined) → is_true (value_of e row) ≡ list_all (λ c. is_true (value_of c row)) (conjuncts e)
is_true-conjuncts (And a b) row =
    both_true (truth_of (value_of a row)) (truth_of (value_of b row))
    ∙ (λ i. of_truth (value_of a row) i && of_truth (value_of b row) i)
    ∙ (λ i. is_true-conjuncts a row i && is_true-conjuncts b row i)
    ∙ sym (list_all-append (λ c. is_true (value_of c row)) (conjuncts a) (conjuncts b))
is_true-conjuncts (Column part column) row = and_true (is_true (value_of (Column part column) row))
is_true-conjuncts (Literal v) row = and_true (is_true v)
is_true-conjuncts (Framed f a) row = and_true (is_true (value_of (Framed f a) row))
is_true-conjuncts (Not a) row = and_true (is_true (value_of (Not a) row))
is_true-conjuncts (Or a b) row = and_true (is_true (value_of (Or a b) row))
is_true-conjuncts (Compare c a b) row = and_true (is_true (value_of (Compare c a b) row))
is_true-conjuncts (IsNull a) row = and_true (is_true (value_of (IsNull a) row))
is_true-conjuncts (In a xs) row = and_true (is_true (value_of (In a xs) row))
is_true-conjuncts (Between a low high) row = and_true (is_true (value_of (Between a low high) row))
is_true-conjuncts (Like a pieces) row = and_true (is_true (value_of (Like a pieces) row))
is_true-conjuncts (Number op a b) row = and_true (is_true (value_of (Number op a b) row))
is_true-conjuncts (Negate a) row = and_true (is_true (value_of (Negate a) row))
is_true-conjuncts (Concat a b) row = and_true (is_true (value_of (Concat a b) row))
is_true-conjuncts (Lower a) row = and_true (is_true (value_of (Lower a) row))
is_true-conjuncts (Upper a) row = and_true (is_true (value_of (Upper a) row))
is_true-conjuncts (Case cases) row = and_true (is_true (value_of (Case cases) row))
is_true-conjuncts (Coalesce xs) row = and_true (is_true (value_of (Coalesce xs) row))
is_true-conjuncts (NullIf a b) row = and_true (is_true (value_of (NullIf a b) row))

-- ---- an index

-- a test that passes only what another passes need not see the rest
filter_first : {X Y : Type 0} (f : X → Y) (p : Y → Bool) (u : X → Bool) (xs : List X) → ((x : X) → p (f x) ≡ true → u x ≡ true) → filter p (map f (filter u xs)) ≡ filter p (map f xs)
filter_first f p u [] imp = refl
filter_first f p u (x ∷ xs) imp =
    elim (u x) as (λ b. u x ≡ b → filter p (map f (if b then x ∷ filter u xs else filter u xs)) ≡ filter p (f x ∷ map f xs)) [
      | true ↦ λ _. elim (p (f x)) as (λ c. (if c then f x ∷ filter p (map f (filter u xs)) else filter p (map f (filter u xs))) ≡ (if c then f x ∷ filter p (map f xs) else filter p (map f xs))) [ true ↦ ap (λ t. f x ∷ t) (filter_first f p u xs imp) | false ↦ filter_first f p u xs imp ]
      | false ↦ λ ux. elim (p (f x)) as (λ c. p (f x) ≡ c → filter p (map f (filter u xs)) ≡ (if c then f x ∷ filter p (map f xs) else filter p (map f xs))) [ true ↦ λ px. absurd (false≢true (sym ux ∙ imp x px)) | false ↦ λ _. filter_first f p u xs imp ] refl
    ] refl

-- the partners among the right rows that an index gives are all partners, in their order
pub partners-indexed : (on : Option Formula) (p : ℕ) (rights : Rows) (row : Joined) (found : Cells → Bool) →
    ((cells : Cells) → is_met on (with_part p row cells) ≡ true → found cells ≡ true) → partners on p (filter found rights) row ≡ partners on p rights row
partners-indexed on p rights row found finds = filter_first (with_part p row) (is_met on) found rights finds

all_at : (test : Formula → Bool) (c : Formula) (before after : List Formula) → list_all test (before ++ c ∷ after) ≡ true → test c ≡ true
all_at test c [] after h = first (test c) (list_all test after) h
  where
    first : (a b : Bool) → (a && b) ≡ true → a ≡ true
    first true b h = refl
    first false b h = absurd (false≢true h)
all_at test c (d ∷ before) after h = all_at test c before after (second (test d) (list_all test (before ++ c ∷ after)) h)
  where
    second : (a b : Bool) → (a && b) ≡ true → b ≡ true
    second true b h = h
    second false b h = absurd (false≢true h)

-- a right row is a partner only where the two sides of each equation among the conjuncts compare equal
pub partner_meets : (e c : Formula) (before after : List Formula) (row : Joined) → conjuncts e ≡ before ++ c ∷ after → is_true (value_of e row) ≡ true → is_true (value_of c row) ≡ true
partner_meets e c before after row is h = all_at (λ d. is_true (value_of d row)) c before after (ap (list_all (λ d. is_true (value_of d row))) (sym is) ∙ sym (is_true-conjuncts e row) ∙ h)

-- ---- a further left join

-- each row has at most one partner
abbrev pub HasFewPartners : Option Formula → ℕ → Rows → List Joined → Type 0
HasFewPartners on p rights [] = Unit {0}
HasFewPartners on p rights (row ∷ rows) = (length (partners on p rights row) ≤ 1) × HasFewPartners on p rights rows

-- the row with its one partner, or alone
abbrev pub first_or : Joined → List Joined → Joined
first_or row [] = row
first_or row (r ∷ rs) = r

abbrev pub widened : Option Formula → ℕ → Rows → Joined → Joined
widened on p rights row = first_or row (partners on p rights row)

-- a left join by a key leaves the rows as they were, in order, each with one part more
pub left_joined-widened : (on : Option Formula) (p : ℕ) (rights : Rows) (rows : List Joined) → HasFewPartners on p rights rows → left_joined on p rows rights ≡ map (widened on p rights) rows
left_joined-widened on p rights [] few = refl
left_joined-widened on p rights (row ∷ rows) few =
    elim (partners on p rights row) as (λ ps. length ps ≤ 1 → or_alone row ps ++ left_joined on p rows rights ≡ first_or row ps ∷ map (widened on p rights) rows) [
      | [] ↦ λ _. ap (λ t. row ∷ t) (left_joined-widened on p rights rows few.1)
      | r ∷ rs ↦ λ few_here. elim rs as (λ qs. length (r ∷ qs) ≤ 1 → (r ∷ qs) ++ left_joined on p rows rights ≡ r ∷ map (widened on p rights) rows) [
        | [] ↦ λ _. ap (λ t. r ∷ t) (left_joined-widened on p rights rows few.1)
        | q ∷ qs ↦ λ many. absurd (omega arith)
      ] few_here
    ] few.0
