-- Sets of views as truth values, and the joins of a set one after the other.
use Rattle.std.proofs.Common.{◌≡◌, ℕ, zero, suc, ◌+◌, ◌-◌, ◌<◌, ◌≤◌, Bool, true, false, ◌&&◌, ◌||◌, List, [], ◌∷◌, ◌++◌, length, refl, sym, ap, ◌∙◌, arith, ⊎_elim}
use Rattle.std.specs.Prelude.{filter, if◌then◌else◌, nat_eq, replicate, slice_index_or, slice_set}
use Rattle.std.specs.List.{list_any}
use Rattle.std.proofs.lemmas.Bool.{false≢true, cases_eq, cases_lt, eq-eqb, ne_eqb}
use Rattle.lk_types.specs.Expressions.{has_number}
use Rattle.lk_types.specs.declared.explore.Explore.{Explore}
use Rattle.lk_semantics.specs.Joins.{fanned_after, in_declared_order, is_fanned, join_at, numbers_below}
use Rattle.lk_tree.specs.declared.fanning.Views.{Views}
use Rattle.lk_tree.specs.PartSets.{AreBehind, AreViews, HasParts, fanned_by}

-- ---- sets

at_set : (set : List Bool) (k : ℕ) → k < length set → slice_index_or (slice_set set k true) k false ≡ true
at_set [] k within = absurd (omega (arith, within))
at_set (b ∷ bs) zero within = refl
at_set (b ∷ bs) (suc k) within = at_set bs k (omega (arith, within))

at_other : (set : List Bool) (k p : ℕ) → (p ≡ k → ⊥) → slice_index_or (slice_set set k true) p false ≡ slice_index_or set p false
at_other [] k p apart = refl
at_other (b ∷ bs) zero zero apart = absurd (apart refl)
at_other (b ∷ bs) zero (suc p) apart = refl
at_other (b ∷ bs) (suc k) zero apart = refl
at_other (b ∷ bs) (suc k) (suc p) apart = at_other bs k p (λ is. apart (ap suc is))

set_length : (set : List Bool) (k : ℕ) → length (slice_set set k true) ≡ length set
set_length [] k = refl
set_length (b ∷ bs) zero = refl
set_length (b ∷ bs) (suc k) = ap suc (set_length bs k)

pub past_set : (set : List Bool) (p : ℕ) → length set ≤ p → slice_index_or set p false ≡ false
past_set [] p past = refl
past_set (b ∷ bs) zero past = absurd (omega (arith, past))
past_set (b ∷ bs) (suc p) past = past_set bs p (omega (arith, past))

-- a set with one view more
pub set_more : (set : List Bool) (parts : List ℕ) (part : ℕ) → part < 32 → HasParts set parts → HasParts (slice_set set part true) (part ∷ parts)
set_more set parts part within h = record {
  each = set_length set part ∙ h.each;
  has = λ p. ⊎_elim
      (λ is. ap (λ q. slice_index_or (slice_set set part true) q false) is ∙ at_set set part (omega (arith, within, h.each)) ∙ sym (ap (λ b. b || has_number p parts) (eq-eqb p part is)))
      (λ apart. at_other set part p apart ∙ h.has p ∙ ap (λ b. b || has_number p parts) (sym (ne_eqb p part apart)))
      (cases_eq p part);
}

none_in : (n p : ℕ) → slice_index_or (replicate n false) p false ≡ false
none_in zero p = refl
none_in (suc n) zero = refl
none_in (suc n) (suc p) = none_in n p

-- ---- a view that a condition mentions

or_true : (b : Bool) → (b || true) ≡ true
or_true true = refl
or_true false = refl

holds_there : (f : ℕ → Bool) (p : ℕ) (ms : List ℕ) → f p ≡ true → has_number p ms ≡ true → list_any f ms ≡ true
holds_there f p [] h there = absurd (false≢true there)
holds_there f p (m ∷ ms) h there =
    ⊎_elim (λ same. ap (λ b. b || list_any f ms) (ap f (sym same) ∙ h))
    (λ apart. ap (λ b. f m || b) (holds_there f p ms h (ap (λ b. b || has_number p ms) (sym (ne_eqb p m apart)) ∙ there)) ∙ or_true (f m))
    (cases_eq p m)

pub one_of_some : (set : List Bool) (parts mentioned : List ℕ) (p : ℕ) → HasParts set parts → slice_index_or set p false ≡ true → has_number p mentioned ≡ true → list_any (λ q. has_number q parts) mentioned ≡ true
one_of_some set parts mentioned p h is there = holds_there (λ q. has_number q parts) p mentioned (sym (h.has p) ∙ is) there

none_of : (f : ℕ → Bool) (all some : List ℕ) → ((p : ℕ) → has_number p all ≡ true → f p ≡ false) → ((p : ℕ) → has_number p some ≡ true → has_number p all ≡ true) → list_any f some ≡ false
none_of f all [] none within = refl
none_of f all (m ∷ ms) none within =
    ap (λ b. b || list_any f ms) (none m (within m (ap (λ b. b || has_number m ms) (eq-eqb m m refl))))
    ∙ none_of f all ms none (λ p there. within p (ap (λ b. nat_eq p m || b) there ∙ or_true (nat_eq p m)))
  where
    or_true : (b : Bool) → (b || true) ≡ true
    or_true true = refl
    or_true false = refl

pub none_of_all : (set : List Bool) (parts mentioned : List ℕ) → HasParts set parts → ((p : ℕ) → p < 32 → (slice_index_or set p false && has_number p mentioned) ≡ false) → list_any (λ q. has_number q parts) mentioned ≡ false
none_of_all set parts mentioned h none =
    none_of (λ q. has_number q parts) mentioned mentioned
    (λ p there. ⊎_elim
    (λ less. sym (h.has p) ∙ and_true (slice_index_or set p false) ∙ ap (λ b. slice_index_or set p false && b) (sym there) ∙ none p less)
    (λ past. sym (h.has p) ∙ past_set set p (omega (arith, past, h.each)))
    (cases_lt p 32))
    (λ p there. there)
  where
    and_true : (b : Bool) → b ≡ (b && true)
    and_true true = refl
    and_true false = refl

-- ---- the joins of a set, one after the other

-- so many numbers, ascending from one
abbrev pub numbers_from : ℕ → ℕ → List ℕ
numbers_from k zero = []
numbers_from k (suc n) = k ∷ numbers_from (k + 1) n

from_more : (k n : ℕ) → numbers_from k (suc n) ≡ numbers_from k n ++ (k + n) ∷ []
from_more k zero = let e : k ≡ k + 0 = omega arith in ap (λ m. m ∷ []) e
from_more k (suc n) = let e : (k + 1) + n ≡ k + suc n = omega arith in ap (λ ns. k ∷ ns) (from_more (k + 1) n ∙ ap (λ m. numbers_from (k + 1) n ++ m ∷ []) e)

below_from : (n : ℕ) → numbers_below n ≡ numbers_from 0 n
below_from zero = refl
below_from (suc n) = let e : n ≡ 0 + n = omega arith in ap (λ ns. ns ++ n ∷ []) (below_from n) ∙ ap (λ m. numbers_from 0 n ++ m ∷ []) e ∙ sym (from_more 0 n)

-- the joins of a set from a number on
abbrev pub joins_from : Explore → List ℕ → ℕ → List ℕ
joins_from x joins k = filter (λ j. has_number j joins) (numbers_from k (length x.joins - k))

-- before the join of a number the views stand so: what is left gives the fanned views of all
pub record AreViewsAt (x : Explore) (joins : List ℕ) (k : ℕ) (views : Views) : Type 0 where
  pub before : List ℕ
  pub fanned : List ℕ
  pub are : AreViews views before fanned
  pub left : fanned_after x before fanned (joins_from x joins k) ≡ fanned_after x (0 ∷ []) [] (in_declared_order x joins)

module _ (x : Explore) (joins : List ℕ) (j : ℕ) (within : j < length x.joins) where
  next_number : joins_from x joins j ≡ (if has_number j joins then j ∷ joins_from x joins (j + 1) else joins_from x joins (j + 1))
  next_number = let e : length x.joins - j ≡ suc (length x.joins - (j + 1)) = omega (arith, within) in ap (λ n. filter (λ k. has_number k joins) (numbers_from j n)) e

  pub taken_next : has_number j joins ≡ true → joins_from x joins j ≡ j ∷ joins_from x joins (j + 1)
  taken_next is = next_number ∙ ap (λ b. if b then j ∷ joins_from x joins (j + 1) else joins_from x joins (j + 1)) is

  pub other_next : has_number j joins ≡ false → joins_from x joins j ≡ joins_from x joins (j + 1)
  other_next is = next_number ∙ ap (λ b. if b then j ∷ joins_from x joins (j + 1) else joins_from x joins (j + 1)) is

pub joins_start : (x : Explore) (joins : List ℕ) → joins_from x joins 0 ≡ in_declared_order x joins
joins_start x joins =
    let e : length x.joins - 0 ≡ length x.joins = omega arith in
    ap (λ n. filter (λ k. has_number k joins) (numbers_from 0 n)) e
    ∙ ap (filter (λ k. has_number k joins)) (sym (below_from (length x.joins)))

pub joins_end : (x : Explore) (joins : List ℕ) (k : ℕ) → length x.joins ≤ k → joins_from x joins k ≡ []
joins_end x joins k past = let e : length x.joins - k ≡ 0 = omega (arith, past) in ap (λ n. filter (λ j. has_number j joins) (numbers_from k n)) e

pub no_views : HasParts (replicate 32 false) []
no_views = record { each = refl; has = λ p. none_in 32 p }

-- behind one join more
pub next_views : (x : Explore) (joins : List ℕ) (j : ℕ) → j < length x.joins → (views behind : Views) → (at : AreViewsAt x joins j views)
    → AreBehind (has_number j joins) (join_at x j) j behind at.before at.fanned
    → AreViewsAt x joins (j + 1) behind
next_views x joins j within views behind at are =
    elim (has_number j joins) as (λ taken. has_number j joins ≡ taken → AreBehind taken (join_at x j) j behind at.before at.fanned → AreViewsAt x joins (j + 1) behind) [
      | true ↦ λ is h. record {
        before = (j + 1) ∷ at.before;
        fanned = fanned_by (join_at x j) (j + 1) at.before at.fanned;
        are = h;
        left = ap (fanned_after x at.before at.fanned) (sym (taken_next x joins j within is)) ∙ at.left;
      }
      | false ↦ λ is h. record {
        before = at.before;
        fanned = at.fanned;
        are = h;
        left = ap (fanned_after x at.before at.fanned) (sym (other_next x joins j within is)) ∙ at.left;
      }
    ] refl are

-- behind all joins the set has the fanned views
pub all_views : (x : Explore) (joins : List ℕ) (k : ℕ) (views : Views) (p : ℕ) → length x.joins ≤ k → AreViewsAt x joins k views → slice_index_or views.fanned p false ≡ is_fanned x joins p
all_views x joins k views p past at =
    at.are.repeated.has p ∙ ap (has_number p) (sym (ap (fanned_after x at.before at.fanned) (joins_end x joins k past)) ∙ at.left)

-- within a list no default is taken
pub any_default : {A : Type 0} (xs : List A) (j : ℕ) (d e : A) → j < length xs → slice_index_or xs j d ≡ slice_index_or xs j e
any_default [] j d e within = absurd (omega (arith, within))
any_default (x ∷ xs) zero d e within = refl
any_default (x ∷ xs) (suc j) d e within = any_default xs j d e (omega (arith, within))
