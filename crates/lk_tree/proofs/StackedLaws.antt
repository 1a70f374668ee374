-- Measures that are still to be put in: what they are put together from, and how many steps that takes.
use Rattle.std.proofs.Common.{◌≡◌, ◌<◌, ℕ, zero, suc, ◌+◌, List, [], ◌∷◌, ◌++◌, length, drop, refl, sym, ap, ◌∙◌, append_assoc, append-nil, arith}
use Rattle.std.specs.Prelude.{Option, Some, None, flat_map, slice_index_or}
use Rattle.lk_types.specs.Calculation.{Calculation}
use Rattle.lk_types.specs.declared.explore.Explore.{Explore}
use Rattle.lk_semantics.specs.Answers.{measure_at, measures_in, or_parts, parts_of_measure}
use Rattle.lk_tree.specs.Components.{stacked}
use Rattle.lk_tree.proofs.ComponentLaws.{drop_next, parts_within}

-- what some measures are put together from, the last one first
abbrev pub parts_left : Explore → List (ℕ × ℕ) → List ℕ
parts_left x [] = []
parts_left x (one ∷ left) = parts_left x left ++ parts_of_measure x one.0 one.1

-- how many measures are met on the way through some
abbrev total : (ℕ → ℕ) → List ℕ → ℕ
total f [] = 0
total f (m ∷ measures) = f m + total f measures

abbrev steps_within : (ℕ → ℕ) → Option Calculation → ℕ
steps_within f None = 0
steps_within f (Some number) = total f (measures_in number)

abbrev steps : Explore → ℕ → ℕ → ℕ
steps x zero m = 1
steps x (suc n) m = suc (steps_within (steps x n) (measure_at x m).number)

abbrev pub steps_left : Explore → List (ℕ × ℕ) → ℕ
steps_left x [] = 0
steps_left x (one ∷ left) = steps x one.0 one.1 + steps_left x left

module _ (x : Explore) where
  left-append : (us vs : List (ℕ × ℕ)) → parts_left x (us ++ vs) ≡ parts_left x vs ++ parts_left x us
  left-append [] vs = sym (append-nil (parts_left x vs))
  left-append (u ∷ us) vs = ap (λ parts. parts ++ parts_of_measure x u.0 u.1) (left-append us vs) ∙ append_assoc (parts_left x vs) (parts_left x us) (parts_of_measure x u.0 u.1)

  left-stacked : (most : ℕ) (measures : List ℕ) → parts_left x (stacked most measures) ≡ flat_map (parts_of_measure x most) measures
  left-stacked most [] = refl
  left-stacked most (m ∷ measures) = left-append (stacked most measures) ((most, m) ∷ []) ∙ ap (λ parts. parts_of_measure x most m ++ parts) (left-stacked most measures)

  steps-append : (us vs : List (ℕ × ℕ)) → steps_left x (us ++ vs) ≡ steps_left x us + steps_left x vs
  steps-append [] vs = omega arith
  steps-append (u ∷ us) vs = omega (arith, steps-append us vs)

  steps-stacked : (most : ℕ) (measures : List ℕ) → steps_left x (stacked most measures) ≡ total (steps x most) measures
  steps-stacked most [] = refl
  steps-stacked most (m ∷ measures) = omega (arith, steps-append (stacked most measures) ((most, m) ∷ []), steps-stacked most measures)

  module _ (items rest : List (ℕ × ℕ)) (most m : ℕ) (popped : items ≡ rest ++ (most, m) ∷ []) where
    parts-popped : parts_left x items ≡ parts_of_measure x most m ++ parts_left x rest
    parts-popped = ap (parts_left x) popped ∙ left-append rest ((most, m) ∷ [])

    steps-popped : steps_left x items ≡ steps_left x rest + steps x most m
    steps-popped = omega (arith, ap (steps_left x) popped, steps-append rest ((most, m) ∷ []))

    -- a measure through no `number`
    pub none-parts : most ≡ 0 → parts_left x items ≡ parts_left x rest
    none-parts none = parts-popped ∙ ap (λ n. parts_of_measure x n m ++ parts_left x rest) none

    pub none-steps : most ≡ 0 → steps_left x rest < steps_left x items
    none-steps none = omega (arith, steps-popped, ap (λ n. steps x n m) none)

    module _ (n : ℕ) (further : most ≡ suc n) where
      -- a measure that is no `number`
      pub one-parts : (measure_at x m).number ≡ None → parts_left x items ≡ m ∷ parts_left x rest
      one-parts is = parts-popped ∙ ap (λ parts. parts ++ parts_left x rest) (ap (λ k. parts_of_measure x k m) further ∙ ap (or_parts m (parts_of_measure x n)) is)

      pub one-steps : steps_left x rest < steps_left x items
      one-steps = omega (arith, steps-popped, ap (λ k. steps x k m) further)

      module _ (number : Calculation) (is : (measure_at x m).number ≡ Some number) where
        -- a `number`
        pub more-parts : parts_left x items ≡ parts_left x (rest ++ stacked n (measures_in number))
        more-parts =
            parts-popped
            ∙ ap (λ parts. parts ++ parts_left x rest) (sym (parts_within x most n m number further is) ∙ sym (left-stacked n (measures_in number)))
            ∙ sym (left-append rest (stacked n (measures_in number)))

        pub more-steps : steps_left x (rest ++ stacked n (measures_in number)) < steps_left x items
        more-steps = omega (arith, steps-popped, steps-append rest (stacked n (measures_in number)), steps-stacked n (measures_in number), ap (λ k. steps x k m) further, ap (steps_within (steps x n)) is)

-- the measures from a place on, and the one before
pub stacked-next : (most : ℕ) (measures : List ℕ) (k : ℕ) (d : ℕ) → k < length measures → stacked most (drop (k + 1) measures) ++ (most, slice_index_or measures k d) ∷ [] ≡ stacked most (drop k measures)
stacked-next most measures k d within =
    let next : k + 1 ≡ suc k = omega arith in
    ap (λ j. stacked most (drop j measures) ++ (most, slice_index_or measures k d) ∷ []) next ∙ ap (stacked most) (sym (drop_next measures k d within))
