-- A comparison that is written out, by its operands from the last to the first.
use Rattle.std.proofs.Common.{◌≡◌, ℕ, false, List, [], ◌∷◌, ◌++◌, drop, length, min, take, refl, sym, ap, ◌∙◌, arith, length-append}
use Rattle.lk_val.specs.declared.value.Value.TheVariants as value
use Rattle.lk_types.specs.Formula.{Formula, And, Case, Compare, Literal, Or, otherwise, when}
use Rattle.lk_types.specs.FormulaNodes.{operand}
use Rattle.lk_types.specs.Unfolded.{any_equal, from_to, null_where_equal, or_equal}
use Rattle.lk_types.specs.declared.expr.Comparison.TheVariants as comparison
use Rattle.lk_dated.specs.Dated.{read_beside}
use Rattle.lk_dated.specs.DatedNodes.{equations_beside, first_beside}
use Rattle.lk_dated.specs.Sides.{side_at}
use Rattle.lk_dated.specs.declared.side.Side.{Side}

-- ---- BETWEEN

module _ (sides : List Side) where
  three : (first : List Formula) (low high : Formula) → length ((first ++ low ∷ []) ++ high ∷ []) ≡ 3
      → And (Compare comparison.AtLeast (read_beside (side_at sides 1).kinds (operand first 0)) low) (Compare comparison.AtMost (read_beside (side_at sides 2).kinds (operand first 0)) high)
      ≡ from_to (first_beside sides ((first ++ low ∷ []) ++ high ∷ []) 1) (first_beside sides ((first ++ low ∷ []) ++ high ∷ []) 2)
  three [] low high h = absurd (omega (arith, h))
  three (x ∷ []) low high h = refl
  three (x ∷ y ∷ rest) low high h = absurd (omega (arith, h, length-append (rest ++ low ∷ []) (high ∷ []), length-append rest (low ∷ [])))

  pub ranged_made : (all two first given : List Formula) (low high from to : Formula) (s t : Side) → length all ≡ 3 → all ≡ two ++ high ∷ [] → two ≡ first ++ low ∷ [] → given ≡ first
      → s ≡ side_at sides 1 → t ≡ side_at sides 2
      → from ≡ Compare comparison.AtLeast (read_beside s.kinds (operand given 0)) low → to ≡ Compare comparison.AtMost (read_beside t.kinds (operand given 0)) high
      → And from to ≡ from_to (first_beside sides all 1) (first_beside sides all 2)
  ranged_made all two first given low high from to s t count last middle given_is s_is t_is from_is to_is =
      let whole : all ≡ (first ++ low ∷ []) ++ high ∷ [] = last ∙ ap (λ xs. xs ++ high ∷ []) middle in
      (λ i. And (from_is i) (to_is i))
      ∙ (λ i. And (Compare comparison.AtLeast (read_beside (s_is i).kinds (operand (given_is i) 0)) low) (Compare comparison.AtMost (read_beside (t_is i).kinds (operand (given_is i) 0)) high))
      ∙ three first low high (sym (ap (λ (xs : List Formula). length xs) whole) ∙ count)
      ∙ sym (ap (λ xs. from_to (first_beside sides xs 1) (first_beside sides xs 2)) whole)

  -- ---- NULLIF

  two : (first : List Formula) (other : Formula) → length (first ++ other ∷ []) ≡ 2
      → Case (when (Compare comparison.Equal (read_beside (side_at sides 1).kinds (operand first 0)) other) (Literal value.Null) (otherwise (operand first 0)))
      ≡ null_where_equal (operand (first ++ other ∷ []) 0) (first_beside sides (first ++ other ∷ []) 1)
  two [] other h = absurd (omega (arith, h))
  two (x ∷ []) other h = refl
  two (x ∷ y ∷ rest) other h = absurd (omega (arith, h, length-append rest (other ∷ [])))

  pub null_made : (all first given : List Formula) (other condition null rest : Formula) (s : Side) → length all ≡ 2 → all ≡ first ++ other ∷ [] → given ≡ first → s ≡ side_at sides 1
      → condition ≡ Compare comparison.Equal (read_beside s.kinds (operand given 0)) other → null ≡ Literal value.Null → rest ≡ operand given 0
      → Case (when condition null (otherwise rest)) ≡ null_where_equal (operand all 0) (first_beside sides all 1)
  null_made all first given other condition null rest s count last given_is s_is condition_is null_is rest_is =
      (λ i. Case (when (condition_is i) (null_is i) (otherwise (rest_is i))))
      ∙ (λ i. Case (when (Compare comparison.Equal (read_beside (s_is i).kinds (operand (given_is i) 0)) other) (Literal value.Null) (otherwise (operand (given_is i) 0))))
      ∙ two first other (sym (ap (λ (xs : List Formula). length xs) last) ∙ count)
      ∙ sym (ap (λ xs. null_where_equal (operand xs 0) (first_beside sides xs 1)) last)

-- ---- IN

pub or_more : (x first other made equation more all : Formula) (side : Side) (left rest : List Side) (others behind : List Formula) → left ≡ side ∷ rest → others ≡ other ∷ behind → first ≡ x
    → equation ≡ Compare comparison.Equal (read_beside side.kinds first) other → more ≡ Or made equation
    → or_equal made (equations_beside x left others) ≡ all → or_equal more (equations_beside x rest behind) ≡ all
or_more x first other made equation more all side left rest others behind left_is others_is first_is equation_is more_is so_far =
    (λ i. or_equal (more_is i) (equations_beside x rest behind))
    ∙ (λ i. or_equal (Or made (equation_is i)) (equations_beside x rest behind))
    ∙ (λ i. or_equal (Or made (Compare comparison.Equal (read_beside side.kinds (first_is i)) other)) (equations_beside x rest behind))
    ∙ sym (λ i. or_equal made (equations_beside x (left_is i) (others_is i)))
    ∙ so_far

-- the first operand, and those behind it
pub one_at_most : (xs : List Formula) (m : ℕ) → m ≡ min (length xs) 1 → (operand (take m xs) 0 ≡ operand xs 0) × (drop m xs ≡ drop 1 xs)
one_at_most [] m is = let e : m ≡ 0 = omega (arith, is) in rw e (refl, refl)
one_at_most (x ∷ xs) m is = let e : m ≡ 1 = omega (arith, is) in rw e (refl, refl)

pub or_first : (x made : Formula) (sides left : List Side) (all others : List Formula) → made ≡ Literal (value.Truth false) → left ≡ drop 1 sides → others ≡ drop 1 all
    → or_equal made (equations_beside x left others) ≡ any_equal (equations_beside x (drop 1 sides) (drop 1 all))
or_first x made sides left all others made_is left_is others_is = λ i. or_equal (made_is i) (equations_beside x (left_is i) (others_is i))

pub or_last : (x made all : Formula) (left : List Side) (others : List Formula) → length left ≡ 0 → or_equal made (equations_beside x left others) ≡ all → made ≡ all
or_last x made all [] others none so_far = so_far
or_last x made all (side ∷ left) others none so_far = absurd (omega (arith, none))
