-- The operands of a tier's CASE, and bounds that are numbers of a column.
use Rattle.std.proofs.Common.{◌≡◌, ℕ, ◌≤◌, true, ◌&&◌, List, [], ◌∷◌, ◌++◌, length, take, refl, sym, subst, arith, ℤ, pos, neg_ℤ, ◌*ℤ◌, int_le, int_lt}
use Rattle.std.specs.List.{list_all}
use Rattle.std.proofs.lemmas.Bool.{false≢true}
use Rattle.std.proofs.lemmas.Int.{ints}
use Rattle.std.proofs.lemmas.List.{take_all}
use Rattle.lk_postfix.specs.Postfix.{Builds}
use Rattle.lk_postfix.proofs.PostfixLaws.{Builds-one}
use Rattle.lk_types.specs.Formula.{Formula, Compare}
use Rattle.lk_types.specs.FormulaNodes.{arity, cases_of, made}
use Rattle.lk_types.specs.declared.expr.Node.{Node}
use Rattle.lk_types.specs.declared.expr.Comparison.TheVariants as comparison
use Rattle.lk_types.proofs.NodeLaws.{BuildsOne}
use Rattle.lk_semantics.specs.Resolved.{are_tiers}
use Rattle.lk_plan.specs.FieldFormulas.{number_literal, tier_cases}
use Rattle.lk_plan.specs.TierOperands.{is_bound, tier_operands}
use Rattle.lk_plan.proofs.JoiningLaws.{left, right, both}

pub cases_are : (e : Formula) (low : ℤ) (bounds : List ℤ) → cases_of (tier_operands e low bounds) ≡ tier_cases e low bounds
cases_are e low [] = refl
cases_are e low (b ∷ bounds) = λ i. Rattle.lk_types.specs.Formula.when (Compare comparison.Less e (number_literal (b *ℤ pos 10000))) (number_literal low) (cases_are e (b *ℤ pos 10000) bounds i)

-- the nodes of all operands, and the node that takes them
pub of_all : (nodes after : List Node) (n : Node) (k : ℕ) (all : List Formula) → Builds arity made nodes (take k all) → length all ≤ k → length all ≡ arity n → after ≡ nodes ++ n ∷ [] → BuildsOne after (made n all)
of_all nodes after n k all b reached many at =
    subst (λ ns. BuildsOne ns (made n all)) (sym at)
    (Builds-one arity made all n (subst (λ ts. Builds arity made nodes ts) (take_all k all reached) b) many)

-- ---- bounds

within : (b c : ℤ) → int_le (neg_ℤ (pos 922337203685477)) b ≡ true → int_lt b c ≡ true → is_bound c ≡ true → is_bound b ≡ true
within b c low less high = grind (arith, ints)

-- each of ascending bounds is a number of a column, since the first and the last are
pub are_bounds : (bounds : List ℤ) → are_tiers bounds ≡ true → list_all is_bound bounds ≡ true
are_bounds [] h = absurd (false≢true h)
are_bounds (b ∷ []) h = both (is_bound b) true h refl
are_bounds (b ∷ c ∷ bounds) h =
    let low = int_le (neg_ℤ (pos 922337203685477)) b in
    let front = left (low && int_lt b c) (are_tiers (c ∷ bounds)) h in
    let rest = are_bounds (c ∷ bounds) (right (low && int_lt b c) (are_tiers (c ∷ bounds)) h) in
    both (is_bound b) (list_all is_bound (c ∷ bounds)) (within b c (left low (int_lt b c) front) (right low (int_lt b c) front) (left (is_bound c) (list_all is_bound bounds) rest)) rest
