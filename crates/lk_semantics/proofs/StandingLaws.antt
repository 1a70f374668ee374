-- What a key determines is a least set: the rules hold of it, and it lies in every set that the rules keep.
use Rattle.std.proofs.Common.{◌≡◌, ℕ, ◌+◌, Bool, true, false, ◌&&◌, ◌||◌, List, [], ◌∷◌, ◌++◌, map, length, refl, sym, subst, ap, eq-eqb}
use Rattle.std.specs.Prelude.{◌==◌, not, nat_lt}
use Rattle.std.specs.List.{list_any, list_all}
use Rattle.std.proofs.lemmas.Bool.{false≢true, eqb-true}
use Rattle.lk_val.specs.Least.{is_in}
use Rattle.lk_val.proofs.LeastLaws.{IsEquality, IsMonotone, IsKept, least_set-kept, least_set-within}
use Rattle.lk_types.specs.Formula.{Formula, Compare}
use Rattle.lk_types.specs.Expressions.{mentions}
use Rattle.lk_semantics.specs.Joins.{join_at, numbers_below, mentions_of}
use Rattle.lk_semantics.specs.Rollups.{Standing, determined, present, is_same_standing, is_determined_in, is_present_in, is_enforced_key, mentions_only, is_key_equation, has_key_equation, conjuncts_of, is_left, is_inner, finds_joined, finds_earlier, has_full, stands, standings}
use Rattle.lk_types.specs.declared.explore.Explore.{Explore}
use Rattle.lk_types.specs.declared.explore.Join.{Join}
use Rattle.lk_types.specs.declared.expr.Comparison.TheVariants as comparison

pub standings_equal : IsEquality is_same_standing
standings_equal = record { itself = itself; exact = exact }
  where
    itself : (s : Standing) → is_same_standing s s ≡ true
    itself (determined v) = eq-eqb v v refl
    itself (present v) = eq-eqb v v refl

    exact : (s t : Standing) → is_same_standing s t ≡ true → s ≡ t
    exact (determined v) (determined w) h = ap determined (eqb-true v w h)
    exact (present v) (present w) h = ap present (eqb-true v w h)
    exact (determined v) (present w) h = absurd (false≢true h)
    exact (present v) (determined w) h = absurd (false≢true h)

-- where the first test passes, the second does
abbrev Implies : Bool → Bool → Type 0
Implies a b = a ≡ true → b ≡ true

and_implies : (a b c d : Bool) → Implies a c → Implies b d → Implies (a && b) (c && d)
and_implies true b c d f g h = subst (λ z. (z && d) ≡ true) (sym (f refl)) (g h)
and_implies false b c d f g h = absurd (false≢true h)

or_implies : (a b c d : Bool) → Implies a c → Implies b d → Implies (a || b) (c || d)
or_implies true b c d f g h = subst (λ z. (z || d) ≡ true) (sym (f refl)) refl
or_implies false b true d f g h = refl
or_implies false b false d f g h = g h

any_implies : {X : Type 0} (p q : X → Bool) → ((x : X) → Implies (p x) (q x)) → (xs : List X) → Implies (list_any p xs) (list_any q xs)
any_implies p q f [] h = h
any_implies p q f (x ∷ xs) h = or_implies (p x) (list_any p xs) (q x) (list_any q xs) (f x) (any_implies p q f xs) h

all_implies : {X : Type 0} (p q : X → Bool) → ((x : X) → Implies (p x) (q x)) → (xs : List X) → Implies (list_all p xs) (list_all q xs)
all_implies p q f [] h = h
all_implies p q f (x ∷ xs) h = and_implies (p x) (list_all p xs) (q x) (list_all q xs) (f x) (all_implies p q f xs) h

same : (a : Bool) → Implies a a
same a h = h

module _ (x : Explore) where
  key_equation_implies : (t u : ℕ → Bool) → ((p : ℕ) → Implies (t p) (u p)) → (w : ℕ) (c : Formula) → Implies (is_key_equation x t w c) (is_key_equation x u w c)
  key_equation_implies t u f w (Compare comparison.Equal a b) h =
      or_implies (is_enforced_key x w a && mentions_only t b) (is_enforced_key x w b && mentions_only t a) (is_enforced_key x w a && mentions_only u b) (is_enforced_key x w b && mentions_only u a)
      (and_implies (is_enforced_key x w a) (mentions_only t b) (is_enforced_key x w a) (mentions_only u b) (same (is_enforced_key x w a)) (all_implies t u f (mentions b)))
      (and_implies (is_enforced_key x w b) (mentions_only t a) (is_enforced_key x w b) (mentions_only u a) (same (is_enforced_key x w b)) (all_implies t u f (mentions a))) h
  key_equation_implies t u f w c h = absurd (false≢true h)

  module _ (s t : List Standing) (within : (y : Standing) → is_in is_same_standing y s ≡ true → is_in is_same_standing y t ≡ true) where
    has_key_equation_implies : (w : ℕ) (join : Join) → Implies (has_key_equation x (is_determined_in s) w join) (has_key_equation x (is_determined_in t) w join)
    has_key_equation_implies w join = any_implies (is_key_equation x (is_determined_in s) w) (is_key_equation x (is_determined_in t) w) (key_equation_implies (is_determined_in s) (is_determined_in t) (λ p. within (determined p)) w) (conjuncts_of join.on)

    finds_joined_implies : (w j : ℕ) → Implies (finds_joined x s w j) (finds_joined x t w j)
    finds_joined_implies w j =
        and_implies _ _ _ _
        (and_implies ((w == j + 1) && (is_left (join_at x j).kind || is_inner (join_at x j).kind)) _ ((w == j + 1) && (is_left (join_at x j).kind || is_inner (join_at x j).kind)) _ (same _) (has_key_equation_implies w (join_at x j)))
        (all_implies (λ p. (p == w) || is_determined_in s p) (λ p. (p == w) || is_determined_in t p) (λ p. or_implies (p == w) (is_determined_in s p) (p == w) (is_determined_in t p) (same (p == w)) (within (determined p))) (mentions_of (join_at x j).on))

    finds_earlier_implies : (w j : ℕ) → Implies (finds_earlier x s w j) (finds_earlier x t w j)
    finds_earlier_implies w j =
        and_implies _ _ _ _
        (and_implies _ _ _ _ (and_implies (is_present_in s (j + 1)) (nat_lt w (j + 1)) (is_present_in t (j + 1)) (nat_lt w (j + 1)) (within (present (j + 1))) (same (nat_lt w (j + 1)))) (same (is_left (join_at x j).kind || is_inner (join_at x j).kind)))
        (has_key_equation_implies w (join_at x j))

  pub stands-monotone : (joins : List ℕ) (v : ℕ) → IsMonotone standings_equal (map determined (numbers_below (length x.parts)) ++ map present (numbers_below (length x.parts))) (stands x joins v)
  stands-monotone joins v s t within (determined w) h =
      or_implies (w == v) _ (w == v) _ (same (w == v))
      (and_implies (not (has_full x joins)) _ (not (has_full x joins)) _ (same _)
      (any_implies (λ j. finds_joined x s w j || finds_earlier x s w j) (λ j. finds_joined x t w j || finds_earlier x t w j)
      (λ j. or_implies (finds_joined x s w j) (finds_earlier x s w j) (finds_joined x t w j) (finds_earlier x t w j) (finds_joined_implies s t within w j) (finds_earlier_implies s t within w j)) joins)) h
  stands-monotone joins v s t within (present w) h =
      or_implies (w == v) _ (w == v) _ (same (w == v))
      (and_implies (not (has_full x joins)) _ (not (has_full x joins)) _ (same _)
      (any_implies (λ j. (finds_joined x s w j && is_inner (join_at x j).kind) || finds_earlier x s w j) (λ j. (finds_joined x t w j && is_inner (join_at x j).kind) || finds_earlier x t w j)
      (λ j. or_implies (finds_joined x s w j && is_inner (join_at x j).kind) (finds_earlier x s w j) (finds_joined x t w j && is_inner (join_at x j).kind) (finds_earlier x t w j)
      (and_implies (finds_joined x s w j) (is_inner (join_at x j).kind) (finds_joined x t w j) (is_inner (join_at x j).kind) (finds_joined_implies s t within w j) (same (is_inner (join_at x j).kind))) (finds_earlier_implies s t within w j)) joins)) h

  -- the rules add nothing to the standings
  pub standings-kept : (joins : List ℕ) (v : ℕ) → IsKept standings_equal (map determined (numbers_below (length x.parts)) ++ map present (numbers_below (length x.parts))) (stands x joins v) (standings x joins v)
  standings-kept joins v = least_set-kept standings_equal (map determined (numbers_below (length x.parts)) ++ map present (numbers_below (length x.parts))) (stands x joins v) (stands-monotone joins v)

  -- and they lie in every set to which the rules add nothing
  pub standings-least : (joins : List ℕ) (v : ℕ) (t : List Standing) → IsKept standings_equal (map determined (numbers_below (length x.parts)) ++ map present (numbers_below (length x.parts))) (stands x joins v) t →
      (y : Standing) → is_in is_same_standing y (standings x joins v) ≡ true → is_in is_same_standing y t ≡ true
  standings-least joins v t kept y h = least_set-within standings_equal (map determined (numbers_below (length x.parts)) ++ map present (numbers_below (length x.parts))) (stands x joins v) (stands-monotone joins v) t kept y h
