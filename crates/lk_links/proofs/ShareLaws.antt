-- What the desks of connections have seen, one place further.
use Rattle.std.proofs.Common.{◌≡◌, ◌<◌, ◌+◌, ◌≤◌, ℕ, suc, List, length, slice_index_or, subst, sym, arith, inl, inr}
use Rattle.std.specs.Prelude.{◌⊎◌}
use Rattle.std.proofs.Math.Nat.{le-suc_iff}
use Rattle.std.proofs.lemmas.List.{get_or_read}

before_or_at : (place at : ℕ) → place < at + 1 → (place < at) ⊎ (suc place ≡ suc at)
before_or_at place at h = le-suc_iff.0 (omega (arith, h))

-- what holds at each place before one, and at that one, holds at each before the next
pub one_more : {C : Type 0} (Holds : C → Type 0) (all : List C) (at : ℕ) (item : C) → at < length all → item ≡ slice_index_or all at item → Holds item
    → ((place : ℕ) (other : C) → place < at → Holds (slice_index_or all place other))
    → (place : ℕ) (other : C) → place < at + 1 → Holds (slice_index_or all place other)
one_more Holds all at item inside is here before place other h = elim (before_or_at place at h) [
  | inl earlier ↦ before place other earlier
  | inr same ↦ subst (λ k. Holds (slice_index_or all k other)) (sym (omega (arith, same))) (subst Holds (get_or_read all at item inside is other) here)
]

-- ---- the connection whose count is the greatest, one place further

module _ {C : Type 0} (count : C → ℕ) (all : List C) where
  -- no place before one counts more than one that is read
  abbrev pub IsMost : ℕ → ℕ → Type 0
  IsMost upto most = (place : ℕ) (other : C) → place < upto → count (slice_index_or all place other) ≤ count (slice_index_or all most other)

  -- it stays the one where the next one counts no more
  pub most_stays : (most at : ℕ) (best item : C) → most < length all → at < length all → best ≡ slice_index_or all most best → item ≡ slice_index_or all at item
      → count item ≤ count best → IsMost at most → IsMost (at + 1) most
  most_stays most at best item in_most in_at best_is item_is no_more before place other h =
      subst (λ k. count (slice_index_or all place other) ≤ count k) (get_or_read all most best in_most best_is other)
      (one_more (λ k. count k ≤ count best) all at item in_at item_is no_more
      (λ p o inside. subst (λ k. count (slice_index_or all p o) ≤ count k) (sym (get_or_read all most best in_most best_is o)) (before p o inside)) place other h)

  -- and else the next one is it
  pub most_moves : (most at : ℕ) (best item : C) → most < length all → at < length all → best ≡ slice_index_or all most best → item ≡ slice_index_or all at item
      → count best ≤ count item → IsMost at most → IsMost (at + 1) at
  most_moves most at best item in_most in_at best_is item_is more before place other h =
      subst (λ k. count (slice_index_or all place other) ≤ count k) (get_or_read all at item in_at item_is other)
      (one_more (λ k. count k ≤ count item) all at item in_at item_is (omega arith)
      (λ p o inside. at_most p o (subst (λ k. count (slice_index_or all p o) ≤ count k) (sym (get_or_read all most best in_most best_is o)) (before p o inside))) place other h) where
        at_most : (p : ℕ) (o : C) → count (slice_index_or all p o) ≤ count best → count (slice_index_or all p o) ≤ count item
        at_most p o below = omega (arith, below, more)

-- what is said of two that are read is said of the two
pub no_more_than : {C : Type 0} (count : C → ℕ) (x y a b : C) → a ≡ x → b ≡ y → count x ≤ count y → count a ≤ count b
no_more_than count x y a b is is' below = subst (λ k. count k ≤ count b) (sym is) (subst (λ k. count x ≤ count k) (sym is') below)
