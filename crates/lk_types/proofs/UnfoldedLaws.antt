-- IN, BETWEEN and NULLIF are the comparisons that they stand for.
use Rattle.std.proofs.Common.{◌≡◌, Bool, true, false, List, [], ◌∷◌, Option, Some, None, refl, sym, ap, ◌∙◌}
use Rattle.std.specs.Prelude.{if◌then◌else◌}
use Rattle.lk_val.specs.declared.value.Value.TheVariants as value
use Rattle.lk_types.specs.Formula.{Formula, Formulas, no_more, more, Literal, In, Between, NullIf, Or}
use Rattle.lk_types.specs.Expressions.{value_of, values_of, truth_of, value_of_truth, or_of, and_of, not_of, compared, is_one_of, is_true, is_true_truth}
use Rattle.lk_types.specs.Unfolded.{Sides, equation, or_equal, any_equal, beside_each, from_to, null_where_equal}
use Rattle.lk_types.specs.declared.rows.Joined.{Joined}
use Rattle.lk_types.specs.declared.expr.Comparison.TheVariants as comparison

-- a truth value of three is that of its value
truth_again : (t : Option Bool) → truth_of (value_of_truth t) ≡ t
truth_again None = refl
truth_again (Some b) = refl

true_again : (t : Option Bool) → is_true (value_of_truth t) ≡ is_true_truth t
true_again None = refl
true_again (Some b) = refl

not_again : (t : Option Bool) → not_of (not_of t) ≡ t
not_again None = refl
not_again (Some true) = refl
not_again (Some false) = refl

and_grouped : (a b c : Option Bool) → and_of (and_of a b) c ≡ and_of a (and_of b c)
and_grouped (Some true) b c = refl
and_grouped (Some false) b c = refl
and_grouped None (Some true) c = refl
and_grouped None (Some false) c = refl
and_grouped None None None = refl
and_grouped None None (Some true) = refl
and_grouped None None (Some false) = refl

or_grouped : (a b c : Option Bool) → or_of (or_of a b) c ≡ or_of a (or_of b c)
or_grouped a b c =
    (λ i. not_of (and_of (not_again (and_of (not_of a) (not_of b)) i) (not_of c)))
    ∙ ap not_of (and_grouped (not_of a) (not_of b) (not_of c))
    ∙ (λ i. not_of (and_of (not_of a) (sym (not_again (and_of (not_of b) (not_of c))) i)))

or_false : (a : Option Bool) → or_of a (Some false) ≡ a
or_false None = refl
or_false (Some true) = refl
or_false (Some false) = refl

-- the truth of a condition or of some equations
or_some : (e x : Formula) (all : Formulas) (row : Joined) → truth_of (value_of (or_equal e (beside_each x all)) row) ≡ or_of (truth_of (value_of e row)) (is_one_of (value_of x row) (values_of all row))
or_some e x no_more row = sym (or_false (truth_of (value_of e row)))
or_some e x (more a all) row =
    let this = compared comparison.Equal (value_of x row) (value_of a row) in
    or_some (Or e (equation (x, a))) x all row
    ∙ (λ i. or_of (truth_again (or_of (truth_of (value_of e row)) (truth_of (value_of_truth this))) i) (is_one_of (value_of x row) (values_of all row)))
    ∙ (λ i. or_of (or_of (truth_of (value_of e row)) (truth_again this i)) (is_one_of (value_of x row) (values_of all row)))
    ∙ or_grouped (truth_of (value_of e row)) this (is_one_of (value_of x row) (values_of all row))

-- the value of a condition is that of its truth
of_truth : (sides : List Sides) (e : Formula) (row : Joined) → value_of e row ≡ value_of_truth (truth_of (value_of e row)) → value_of (or_equal e sides) row ≡ value_of_truth (truth_of (value_of (or_equal e sides) row))
of_truth [] e row is = is
of_truth (s ∷ sides) e row is =
    of_truth sides (Or e (equation s)) row (λ i. value_of_truth (sym (truth_again (or_of (truth_of (value_of e row)) (truth_of (value_of (equation s) row)))) i))

false_or : (a : Option Bool) → or_of (Some false) a ≡ a
false_or None = refl
false_or (Some true) = refl
false_or (Some false) = refl

pub in_list : (x : Formula) (all : Formulas) (row : Joined) → value_of (In x all) row ≡ value_of (any_equal (beside_each x all)) row
in_list x all row =
    let no = Literal (value.Truth false) in
    sym (of_truth (beside_each x all) no row refl
    ∙ ap value_of_truth (or_some no x all row ∙ false_or (is_one_of (value_of x row) (values_of all row))))

pub between : (x low high : Formula) (row : Joined) → value_of (Between x low high) row ≡ value_of (from_to (x, low) (x, high)) row
between x low high row =
    let from = compared comparison.AtLeast (value_of x row) (value_of low row) in
    let to = compared comparison.AtMost (value_of x row) (value_of high row) in
    λ i. value_of_truth (and_of (sym (truth_again from) i) (sym (truth_again to) i))

pub null_if_case : (a b : Formula) (row : Joined) → value_of (NullIf a b) row ≡ value_of (null_where_equal a (a, b)) row
null_if_case a b row =
    let same = compared comparison.Equal (value_of a row) (value_of b row) in
    λ i. if sym (true_again same) i then value.Null else value_of a row
