-- A number more in a list that a word counts.
use Rattle.std.proofs.Common.{◌≡◌, ℕ, ◌+◌, ◌<◌, ◌==◌, true, false, List, [], ◌∷◌, ◌++◌, length, None, refl, sym, ap, subst, inl, arith, length-append}
use Rattle.std.proofs.lemmas.List.{append-nil}
use Rattle.std.proofs.lemmas.Bool.Decides.{nat_tests}
use prog.Atomic.{either}
use Rattle.logbook.specs.Pages.{Cell, Goes, Moves, View, cell, keeps, no_nib, step}
use Rattle.lk_shelf.specs.Counts.{IsCountOf, Grows}

-- what is known by who has seen these numbers and has no pen
abbrev pub known : List ℕ → View ℕ ℕ
known seen = (seen, (no_nib, None))

-- the cells of a list of so many numbers
abbrev pub cells_of : ℕ → List Cell
cells_of count = (count, true) ∷ (0, true) ∷ []

module _ (seen : List ℕ) (number : ℕ) where
  -- what the exchange comes to where the list is this one by then
  abbrev pub Comes : ℕ → List Cell → List ℕ → Type 0
  Comes count cells numbers =
      Goes IsCountOf (λ shown. []) (λ before after (answer : ℕ). Unit {0}) 0 (known seen) (λ found. either (found == count) (count + 1) found) (Grows (step 0 count (count + 1) number) (known seen)) cells numbers

  -- nothing came behind what was seen: the number does
  pub next : Comes (length seen) (cells_of (length seen)) seen
  next =
      let found : (length seen == length seen) ≡ true = grind (arith, nat_tests) in
      let one_more : length seen + 1 ≡ length (seen ++ number ∷ []) = omega (arith, length-append seen (number ∷ [])) in
      (keeps, number ∷ [], None, tt, record { words = rw found (ap cells_of one_more) }, inl (refl, refl), rw found refl)

  -- other numbers came first: nothing does
  pub passed : (other : ℕ) (others : List ℕ) → Comes (length seen) (cells_of (length (seen ++ other ∷ others))) (seen ++ other ∷ others)
  passed other others =
      let numbers : List ℕ = seen ++ other ∷ others in
      let more : length numbers ≡ length seen + (length others + 1) = omega (arith, length-append seen (other ∷ others)) in
      let found : (length numbers == length seen) ≡ false = grind (arith, nat_tests) in
      (keeps, [], None, tt, record { words = rw found (ap (λ list. cells_of (length list)) (sym (append-nil numbers))) }, inl (refl, refl), rw found tt)

  by_then : (rest : List ℕ) → Comes (length seen) (cells_of (length (seen ++ rest))) (seen ++ rest)
  by_then [] = rw (append-nil seen) next
  by_then (other ∷ others) = passed other others

-- whatever the list is by then, it goes on by the number and its word by one, or both stay where the word is not the count of what was seen
pub counts : (seen : List ℕ) (count number : ℕ) → count ≡ length seen
    → Moves IsCountOf (λ shown. []) (λ before after (answer : ℕ). Unit {0}) 0 (known seen) (λ found. either (found == count) (count + 1) found) (Grows (step 0 count (count + 1) number) (known seen))
counts seen count number is cells numbers kept begins away =
    let here : Comes seen number count (cells_of (length numbers)) numbers =
    subst (λ expected. Comes seen number expected (cells_of (length numbers)) numbers) (sym is)
    (subst (λ list. Comes seen number (length seen) (cells_of (length list)) list) begins.1 (by_then seen number begins.0)) in
    subst (λ found. (0 < length found) × ((cell found 0).1 ≡ true) × Comes seen number count found numbers) (sym kept.words) (omega arith, refl, here)
