-- Lists made of what is numbered, item by item.
use Rattle.std.proofs.Common.{◌≡◌, ℕ, suc, ◌+◌, ◌<◌, List, [], ◌∷◌, ◌++◌, map, length, refl, sym, ap, subst, ◌∙◌, arith, drop}
use Rattle.std.specs.Prelude.{slice_index_or}
use Rattle.std.specs.List.{enumerate_from}
use Rattle.std.proofs.lemmas.List.{append_assoc, drop_more, get_or-map}
use Rattle.std.proofs.lemmas.List.FromFn.{get_or-enumerate_from, length-enumerate_from}

module _ {A B : Type 0} where
  numbered_from : (f g : ℕ × A → B) (k : ℕ) (xs : List A) (none : A)
      → ((i : ℕ) → i < length xs → f (k + i, slice_index_or xs i none) ≡ g (k + i, slice_index_or xs i none))
      → map f (enumerate_from k xs) ≡ map g (enumerate_from k xs)
  numbered_from f g k [] none h = refl
  numbered_from f g k (x ∷ xs) none h =
      let here : k + 0 ≡ k = omega arith in
      λ i. subst (λ j. f (j, x) ≡ g (j, x)) here (h 0 (omega arith)) i
      ∷ numbered_from f g (k + 1) xs none (λ n less. let next : k + suc n ≡ k + 1 + n = omega arith in
      subst (λ j. f (j, slice_index_or xs n none) ≡ g (j, slice_index_or xs n none)) next (h (suc n) (omega arith))) i

  unnumbered_from : (f : ℕ × A → B) (g : A → B) (k : ℕ) (xs : List A) (none : A)
      → ((i : ℕ) → i < length xs → f (k + i, slice_index_or xs i none) ≡ g (slice_index_or xs i none))
      → map f (enumerate_from k xs) ≡ map g xs
  unnumbered_from f g k [] none h = refl
  unnumbered_from f g k (x ∷ xs) none h =
      let here : k + 0 ≡ k = omega arith in
      λ i. subst (λ j. f (j, x) ≡ g x) here (h 0 (omega arith)) i
      ∷ unnumbered_from f g (k + 1) xs none (λ n less. let next : k + suc n ≡ k + 1 + n = omega arith in
      subst (λ j. f (j, slice_index_or xs n none) ≡ g (slice_index_or xs n none)) next (h (suc n) (omega arith))) i

  pub map_numbered : (f g : ℕ × A → B) (xs : List A) (none : A)
      → ((i : ℕ) → i < length xs → f (i, slice_index_or xs i none) ≡ g (i, slice_index_or xs i none)) → map f (enumerate_from 0 xs) ≡ map g (enumerate_from 0 xs)
  map_numbered f g xs none h =
      numbered_from f g 0 xs none (λ i less. let same : i ≡ 0 + i = omega arith in subst (λ j. f (j, slice_index_or xs i none) ≡ g (j, slice_index_or xs i none)) same (h i less))

  pub map_unnumbered : (f : ℕ × A → B) (g : A → B) (xs : List A) (none : A)
      → ((i : ℕ) → i < length xs → f (i, slice_index_or xs i none) ≡ g (slice_index_or xs i none)) → map f (enumerate_from 0 xs) ≡ map g xs
  map_unnumbered f g xs none h =
      unnumbered_from f g 0 xs none (λ i less. let same : i ≡ 0 + i = omega arith in subst (λ j. f (j, slice_index_or xs i none) ≡ g (slice_index_or xs i none)) same (h i less))

  pub numbered_at : (f : ℕ × A → B) (xs : List A) (i : ℕ) (none : A) (past : B) → i < length xs
      → slice_index_or (map f (enumerate_from 0 xs)) i past ≡ f (i, slice_index_or xs i none)
  numbered_at f xs i none past less =
      let same : 0 + i ≡ i = omega arith in
      get_or-map f (enumerate_from 0 xs) i (0, none) past (omega (arith, less, length-enumerate_from 0 xs))
      ∙ ap f (get_or-enumerate_from 0 xs i (0, none) less) ∙ ap (λ j. f (j, slice_index_or xs i none)) same

  -- one item more of what is made
  pub next_numbered : (f : ℕ × A → B) (xs : List A) (i : ℕ) (none : A) (made all : List B) (b : B) → i < length xs → b ≡ f (i, slice_index_or xs i none)
      → made ++ map f (enumerate_from i (drop i xs)) ≡ all → (made ++ b ∷ []) ++ map f (enumerate_from (i + 1) (drop (i + 1) xs)) ≡ all
  next_numbered f xs i none made all b less here so_far =
      append_assoc made (b ∷ []) (map f (enumerate_from (i + 1) (drop (i + 1) xs)))
      ∙ ap (λ y. made ++ y ∷ map f (enumerate_from (i + 1) (drop (i + 1) xs))) here
      ∙ ap (λ ys. made ++ map f (enumerate_from i ys)) (sym (drop_more xs i none less)) ∙ so_far
