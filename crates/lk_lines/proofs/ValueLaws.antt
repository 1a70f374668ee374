-- What one pass over the nodes of a calculation computes.
use Rattle.std.proofs.Common.{◌≡◌, ℕ, zero, suc, ◌<◌, ◌+◌, pos, List, [], ◌∷◌, map, get_or, take, length, Option, refl, sym, ap, ◌∙◌, arith}
use Rattle.std.proofs.lemmas.List.Sums.{fold_more}
use Rattle.lk_val.specs.Fractions.{Fraction, IsReduced, reduced, frac_of_count, gcd}
use Rattle.lk_val.proofs.GcdLaws.{gcd-small, gcd-positive}
use Rattle.lk_val.proofs.FractionSteps.{reduced-is}
use Rattle.lk_val.proofs.FractionLaws.{reduced-unique, reduced-value}
use Rattle.lk_postfix.specs.Postfix.{after_nodes, after_node}
use Rattle.lk_postfix.proofs.PostfixLaws.{after_nodes-map}
use Rattle.lk_types.specs.Calculation.{Calculation}
use Rattle.lk_types.specs.CalculationNodes as nodes
use Rattle.lk_types.specs.declared.number.NumNode.{NumNode}
use Rattle.lk_types.specs.declared.number.NumNode.TheVariants as node
use Rattle.lk_semantics.specs.Answers.{applied, calculated, first_calculated, or_else, with_both}
use Rattle.lk_lines.specs.Values.{first_known, null_if, operand, value_made}

-- ---- counts

gcd-one : (n g : ℕ) → g ≡ gcd n 1 → g ≡ 1
gcd-one n g is = omega (arith, is, gcd-small n 1 (omega arith), gcd-positive n 1 (omega arith))

pub count-reduced : (n : ℕ) → IsReduced (frac_of_count n)
count-reduced n = record { positive = omega arith; lowest = gcd-one n (gcd n 1) refl }

-- a count as a fraction in lowest terms
pub count-made : (n : ℕ) → reduced (pos n) (pos 1) ≡ frac_of_count n
count-made n = reduced-unique (reduced (pos n) (pos 1)) (frac_of_count n) (reduced-is (pos n) (pos 1) (omega arith)) (count-reduced n) (reduced-value (pos n) (pos 1))

-- ---- node by node

module _ (known : ℕ → Option Fraction) where
  at_place : (ts : List Calculation) (i : ℕ) → operand (map (calculated known) ts) i ≡ calculated known (nodes.operand ts i)
  at_place [] i = refl
  at_place (t ∷ ts) zero = refl
  at_place (t ∷ ts) (suc i) = at_place ts i

  first_of : (ts : List Calculation) → first_known (map (calculated known) ts) ≡ first_calculated known (nodes.calculations_of ts)
  first_of [] = refl
  first_of (t ∷ ts) = ap (or_else (calculated known t)) (first_of ts)

  does : (n : NumNode) (ts : List Calculation) → value_made known n (map (calculated known) ts) ≡ calculated known (nodes.made n ts)
  does (node.Measure m) ts = refl
  does (node.Literal v) ts = refl
  does (node.Number op) ts = λ i. with_both (applied op) (at_place ts 0 i) (at_place ts 1 i)
  does node.Negate ts = rw (at_place ts 0) refl
  does (node.Coalesce count) ts = first_of ts
  does node.NullIf ts = λ i. null_if (at_place ts 0 i) (at_place ts 1 i)

  -- what the pass leaves is the value of the calculation
  pub value-nodes : (ns : List NumNode) → operand (after_nodes nodes.arity (value_made known) [] ns) 0 ≡ calculated known (nodes.calculation_of ns)
  value-nodes ns = ap (λ vs. operand vs 0) (after_nodes-map nodes.arity nodes.made (value_made known) (calculated known) does [] ns) ∙ at_place (after_nodes nodes.arity nodes.made [] ns) 0

  -- one more node
  pub node_more : (ns : List NumNode) (i : ℕ) (n : NumNode) → i < length ns → n ≡ get_or ns i n → after_nodes nodes.arity (value_made known) [] (take (i + 1) ns) ≡ after_node nodes.arity (value_made known) (after_nodes nodes.arity (value_made known) [] (take i ns)) n
  node_more ns i n lt is =
      fold_more (after_node nodes.arity (value_made known)) [] ns i n lt
      ∙ ap (after_node nodes.arity (value_made known) (after_nodes nodes.arity (value_made known) [] (take i ns))) (sym is)
