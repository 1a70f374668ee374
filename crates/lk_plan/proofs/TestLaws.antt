-- The conditions of tests are true where the tests are met, and known of every value but null.
use Rattle.std.proofs.Common.{◌≡◌, ℕ, Bool, true, false, ◌&&◌, ◌||◌, List, [], ◌∷◌, ◌++◌, map, Option, Some, None, refl, sym, ap, ◌∙◌, arith, pos}
use Rattle.std.specs.Prelude.{if◌then◌else◌}
use Rattle.std.specs.List.{list_any, list_all}
use Rattle.std.specs.Ordering.{int_cmp}
use Rattle.std.proofs.lemmas.Int.{ints}
use Rattle.lk_val.specs.Fractions.{Fraction, frac_cmp}
use Rattle.lk_val.proofs.IntRing.{cmp_product}
use Rattle.lk_val.specs.Values.{is_null}
use Rattle.lk_val.specs.declared.num.Num.{Num}
use Rattle.lk_val.specs.declared.value.Value.{Value}
use Rattle.lk_val.specs.declared.value.Value.TheVariants as value
use Rattle.lk_types.specs.Expressions.{value_of, holds}
use Rattle.lk_types.specs.Filters.{null_meets, number_meets, text_meets, truth_meets, compares, at_least, at_most, is_above, is_below}
use Rattle.lk_types.specs.Formula.{Formula, Literal, Compare, IsNull}
use Rattle.lk_types.specs.declared.expr.Comparison.{Comparison}
use Rattle.lk_types.specs.declared.expr.Comparison.TheVariants as comparison
use Rattle.lk_types.specs.declared.filter.Edge.{Edge}
use Rattle.lk_types.specs.declared.filter.Edge.TheVariants.{Lowest, At, Highest}
use Rattle.lk_types.specs.declared.filter.Test.{Test}
use Rattle.lk_types.specs.declared.filter.Test.TheVariants as test
use Rattle.lk_types.specs.declared.rows.Joined.{Joined}
use Rattle.lk_plan.specs.Joining.{no, listed, known_with}
use Rattle.lk_plan.specs.TestConditions.{compares_with, bound_condition, above_condition, below_condition, is_nowhere, number_condition, text_condition, truth_condition}
use Rattle.lk_plan.proofs.JoiningLaws.{holds_of, is_known, and_false, holds_with, holds_without, known_known_with, any-append, all-append, all_known, no_if, known_if, alone}

-- ---- numbers

abbrev frac : Num → Fraction
frac x = record { n = x.0; d = pos 10000 }

number_cmp : (x n : Num) → frac_cmp (frac x) (frac n) ≡ int_cmp x.0 n.0
number_cmp x n = cmp_product x.0 n.0 (pos 10000) (omega (arith, ints))

module _ (x : Formula) (row : Joined) where
  pub compares_known : (c : Comparison) (w : Value) → is_null (value_of x row) ≡ false → is_null w ≡ false → is_known row (Compare c x (Literal w)) ≡ true
  compares_known c w h k = rw (h, k) refl

  module _ (q : Num) (is : value_of x row ≡ value.Num q) where
    not_null : is_null (value_of x row) ≡ false
    not_null = rw is refl

    compare_is : (c : Comparison) (n : Num) → holds_of row (compares_with x c n) ≡ compares (frac q) c n
    compare_is c n = rw is (ap (holds c) (sym (number_cmp q n)))

    each_is : (cs : List (Comparison × Num)) → list_all (holds_of row) (map (λ c. compares_with x c.0 c.1) cs) ≡ list_all (λ c. compares (frac q) c.0 c.1) cs
    each_is [] = refl
    each_is (c ∷ cs) = λ i. compare_is c.0 c.1 i && each_is cs i

    from_is : (low : Option Num) → list_all (holds_of row) (listed (bound_condition x comparison.AtLeast low)) ≡ at_least (frac q) low
    from_is None = refl
    from_is (Some n) = alone (holds_of row (compares_with x comparison.AtLeast n)) (compares (frac q) comparison.AtLeast n) (compare_is comparison.AtLeast n)

    to_is : (high : Option Num) → list_all (holds_of row) (listed (bound_condition x comparison.AtMost high)) ≡ at_most (frac q) high
    to_is None = refl
    to_is (Some n) = alone (holds_of row (compares_with x comparison.AtMost n)) (compares (frac q) comparison.AtMost n) (compare_is comparison.AtMost n)

    above_is : (low : Edge) (closed : Bool) → (low ≡ Highest → ⊥) → list_all (holds_of row) (listed (above_condition x low closed)) ≡ is_above (frac q) low closed
    above_is Lowest closed h = refl
    above_is Highest closed h = absurd (h refl)
    above_is (At n) true h = alone (holds_of row (compares_with x comparison.AtLeast n)) (compares (frac q) comparison.AtLeast n) (compare_is comparison.AtLeast n)
    above_is (At n) false h = alone (holds_of row (compares_with x comparison.Greater n)) (compares (frac q) comparison.Greater n) (compare_is comparison.Greater n)

    below_is : (high : Edge) (closed : Bool) → (high ≡ Lowest → ⊥) → list_all (holds_of row) (listed (below_condition x high closed)) ≡ is_below (frac q) high closed
    below_is Lowest closed h = absurd (h refl)
    below_is Highest closed h = refl
    below_is (At n) true h = alone (holds_of row (compares_with x comparison.AtMost n)) (compares (frac q) comparison.AtMost n) (compare_is comparison.AtMost n)
    below_is (At n) false h = alone (holds_of row (compares_with x comparison.Less n)) (compares (frac q) comparison.Less n) (compare_is comparison.Less n)

    within_is : (low high : Edge) (lc hc : Bool) → (low ≡ Highest → ⊥) → (high ≡ Lowest → ⊥) → holds_of row (known_with x (listed (above_condition x low lc) ++ listed (below_condition x high hc))) ≡ (is_above (frac q) low lc && is_below (frac q) high hc)
    within_is low high lc hc h k =
        holds_with row x (listed (above_condition x low lc) ++ listed (below_condition x high hc)) not_null
        ∙ all-append (holds_of row) (listed (above_condition x low lc)) (listed (below_condition x high hc))
        ∙ (λ i. above_is low lc h i && below_is high hc k i)

    range_is : (low high : Edge) (lc hc : Bool) → holds_of row (if is_nowhere low high then no else known_with x (listed (above_condition x low lc) ++ listed (below_condition x high hc))) ≡ (is_above (frac q) low lc && is_below (frac q) high hc)
    range_is Highest high lc hc = refl
    range_is Lowest Lowest lc hc = refl
    range_is Lowest Highest lc hc = within_is Lowest Highest lc hc (λ e. cc) (λ e. cc)
    range_is Lowest (At n) lc hc = within_is Lowest (At n) lc hc (λ e. cc) (λ e. cc)
    range_is (At m) Lowest lc hc = sym (and_false (is_above (frac q) (At m) lc))
    range_is (At m) Highest lc hc = within_is (At m) Highest lc hc (λ e. cc) (λ e. cc)
    range_is (At m) (At n) lc hc = within_is (At m) (At n) lc hc (λ e. cc) (λ e. cc)

    pub number_is : (t : Test) → holds_of row (number_condition x t) ≡ number_meets (frac q) t
    number_is test.Null = not_null
    number_is test.Empty = not_null
    number_is (test.Is n) = compare_is comparison.Equal n
    number_is (test.Compare cs) = holds_with row x (map (λ c. compares_with x c.0 c.1) cs) not_null ∙ each_is cs
    number_is (test.To low high) =
        holds_with row x (listed (bound_condition x comparison.AtLeast low) ++ listed (bound_condition x comparison.AtMost high)) not_null
        ∙ all-append (holds_of row) (listed (bound_condition x comparison.AtLeast low)) (listed (bound_condition x comparison.AtMost high))
        ∙ (λ i. from_is low i && to_is high i)
    number_is (test.Range low high) = range_is low.edge high.edge low.closed high.closed
    number_is t = refl

  -- null is in no range, and meets no number
  module _ (is : value_of x row ≡ value.Null) where
    null : is_null (value_of x row) ≡ true
    null = rw is refl

    none_of : (c : Comparison) (w : Value) → holds_of row (Compare c x (Literal w)) ≡ false
    none_of c w = rw is refl

    no_each : (cs : List (Comparison × Num)) → list_any (holds_of row) (map (λ c. compares_with x c.0 c.1) cs) ≡ false
    no_each [] = refl
    no_each (c ∷ cs) = λ i. none_of c.0 (value.Num c.1) i || no_each cs i

    no_bound : (c : Comparison) (n : Option Num) → list_any (holds_of row) (listed (bound_condition x c n)) ≡ false
    no_bound c None = refl
    no_bound c (Some n) = λ i. none_of c (value.Num n) i || false

    no_above : (low : Edge) (closed : Bool) → list_any (holds_of row) (listed (above_condition x low closed)) ≡ false
    no_above Lowest closed = refl
    no_above Highest closed = refl
    no_above (At n) true = λ i. none_of comparison.AtLeast (value.Num n) i || false
    no_above (At n) false = λ i. none_of comparison.Greater (value.Num n) i || false

    no_below : (high : Edge) (closed : Bool) → list_any (holds_of row) (listed (below_condition x high closed)) ≡ false
    no_below Lowest closed = refl
    no_below Highest closed = refl
    no_below (At n) true = λ i. none_of comparison.AtMost (value.Num n) i || false
    no_below (At n) false = λ i. none_of comparison.Less (value.Num n) i || false

    pub number_null : (t : Test) → holds_of row (number_condition x t) ≡ null_meets t
    number_null test.Null = null
    number_null test.Empty = null
    number_null (test.Is n) = none_of comparison.Equal (value.Num n)
    number_null (test.Compare cs) = holds_without row x (map (λ c. compares_with x c.0 c.1) cs) null (no_each cs)
    number_null (test.To low high) =
        holds_without row x (listed (bound_condition x comparison.AtLeast low) ++ listed (bound_condition x comparison.AtMost high)) null
        (any-append (holds_of row) (listed (bound_condition x comparison.AtLeast low)) (listed (bound_condition x comparison.AtMost high)) (no_bound comparison.AtLeast low) (no_bound comparison.AtMost high))
    number_null (test.Range low high) =
        no_if row (is_nowhere low.edge high.edge) (known_with x (listed (above_condition x low.edge low.closed) ++ listed (below_condition x high.edge high.closed)))
        (holds_without row x (listed (above_condition x low.edge low.closed) ++ listed (below_condition x high.edge high.closed)) null
        (any-append (holds_of row) (listed (above_condition x low.edge low.closed)) (listed (below_condition x high.edge high.closed)) (no_above low.edge low.closed) (no_below high.edge high.closed)))
    number_null t = refl

    -- ---- texts and truth values

    pub text_null : (t : Test) → holds_of row (text_condition x t) ≡ null_meets t
    text_null test.Null = null
    text_null test.Empty = rw is refl
    text_null (test.Like p) = rw is refl
    text_null t = refl

    pub truth_null : (t : Test) → holds_of row (truth_condition x t) ≡ null_meets t
    truth_null test.Null = null
    truth_null test.Empty = null
    truth_null (test.Truth b) = none_of comparison.Equal (value.Truth b)
    truth_null t = refl

  pub text_is : (bytes : List ℕ) → value_of x row ≡ value.Text bytes → (t : Test) → holds_of row (text_condition x t) ≡ text_meets bytes t
  text_is [] is (test.Like p) = rw is refl
  text_is (c ∷ cs) is (test.Like p) = rw is refl
  text_is [] is test.Null = rw is refl
  text_is (c ∷ cs) is test.Null = rw is refl
  text_is [] is test.Empty = rw is refl
  text_is (c ∷ cs) is test.Empty = rw is refl
  text_is [] is t = refl
  text_is (c ∷ cs) is t = refl

  pub truth_is : (b : Bool) → value_of x row ≡ value.Truth b → (t : Test) → holds_of row (truth_condition x t) ≡ truth_meets b t
  truth_is true is test.Null = rw is refl
  truth_is false is test.Null = rw is refl
  truth_is true is test.Empty = rw is refl
  truth_is false is test.Empty = rw is refl
  truth_is true is (test.Truth true) = rw is refl
  truth_is true is (test.Truth false) = rw is refl
  truth_is false is (test.Truth true) = rw is refl
  truth_is false is (test.Truth false) = rw is refl
  truth_is true is t = refl
  truth_is false is t = refl

  -- ---- known of every value but null

  module _ (h : is_null (value_of x row) ≡ false) where
    null_test_known : is_known row (IsNull x) ≡ true
    null_test_known = refl

    bound_known : (c : Comparison) (n : Option Num) → list_all (is_known row) (listed (bound_condition x c n)) ≡ true
    bound_known c None = refl
    bound_known c (Some n) = λ i. compares_known c (value.Num n) h refl i && true

    each_known : (cs : List (Comparison × Num)) → list_all (is_known row) (map (λ c. compares_with x c.0 c.1) cs) ≡ true
    each_known [] = refl
    each_known (c ∷ cs) = λ i. compares_known c.0 (value.Num c.1) h refl i && each_known cs i

    above_known : (low : Edge) (closed : Bool) → list_all (is_known row) (listed (above_condition x low closed)) ≡ true
    above_known Lowest closed = refl
    above_known Highest closed = refl
    above_known (At n) true = λ i. compares_known comparison.AtLeast (value.Num n) h refl i && true
    above_known (At n) false = λ i. compares_known comparison.Greater (value.Num n) h refl i && true

    below_known : (high : Edge) (closed : Bool) → list_all (is_known row) (listed (below_condition x high closed)) ≡ true
    below_known Lowest closed = refl
    below_known Highest closed = refl
    below_known (At n) true = λ i. compares_known comparison.AtMost (value.Num n) h refl i && true
    below_known (At n) false = λ i. compares_known comparison.Less (value.Num n) h refl i && true

    pub number_known : (t : Test) → is_known row (number_condition x t) ≡ true
    number_known (test.Is n) = compares_known comparison.Equal (value.Num n) h refl
    number_known (test.Compare cs) = known_known_with row x (map (λ c. compares_with x c.0 c.1) cs) (each_known cs)
    number_known (test.To low high) =
        known_known_with row x (listed (bound_condition x comparison.AtLeast low) ++ listed (bound_condition x comparison.AtMost high))
        (all_known row (listed (bound_condition x comparison.AtLeast low)) (listed (bound_condition x comparison.AtMost high)) (bound_known comparison.AtLeast low) (bound_known comparison.AtMost high))
    number_known (test.Range low high) =
        known_if row (is_nowhere low.edge high.edge) (known_with x (listed (above_condition x low.edge low.closed) ++ listed (below_condition x high.edge high.closed)))
        (known_known_with row x (listed (above_condition x low.edge low.closed) ++ listed (below_condition x high.edge high.closed))
        (all_known row (listed (above_condition x low.edge low.closed)) (listed (below_condition x high.edge high.closed)) (above_known low.edge low.closed) (below_known high.edge high.closed)))
    number_known t = refl

    pub truth_known : (t : Test) → is_known row (truth_condition x t) ≡ true
    truth_known (test.Truth b) = compares_known comparison.Equal (value.Truth b) h refl
    truth_known t = refl

  pub text_known : (bytes : List ℕ) → value_of x row ≡ value.Text bytes → (t : Test) → is_known row (text_condition x t) ≡ true
  text_known bytes is (test.Like p) = rw is refl
  text_known bytes is test.Empty = rw is refl
  text_known bytes is t = refl
