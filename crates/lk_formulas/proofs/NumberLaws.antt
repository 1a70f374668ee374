-- How many nodes an expression over measures has: the sum of what its nodes add.
use Rattle.std.proofs.Common.{◌≡◌, ℕ, ◌+◌, ◌-◌, ◌^◌, true, List, [], ◌∷◌, length, map, min, refl, sym, ap, ◌∙◌, arith}
use Rattle.std.specs.List.{sum_by}
use Rattle.std.proofs.Math.Nat.{add-zero, add_assoc, zero-add}
use Rattle.std.proofs.lemmas.List.Sums.{sum_by-cons}
use Rattle.lk_postfix.specs.Postfix.{Builds, gathered, is_whole}
use Rattle.lk_postfix.proofs.PostfixLaws.{Builds-whole, gathered-Builds}
use Rattle.lk_types.specs.Calculation.{Calculation, Coalesce, no_more}
use Rattle.lk_types.specs.CalculationNodes.{arity, calculation_of, calculations_of, made, operand}
use Rattle.lk_types.specs.declared.number.NumNode.{NumNode}
use Rattle.lk_types.specs.declared.number.NumNode.TheVariants as node
use Rattle.lk_fields.proofs.SubstitutionLaws.{map_at}
use Rattle.lk_formulas.specs.NumberSizes.{nodes_at, nodes_by, nodes_of_all_by, told}
use Rattle.lk_formulas.specs.NumberNodes.{count_number}

module _ (leaf : ℕ → ℕ) where
  -- what one node adds: a measure what stands for it
  abbrev own_count : NumNode → ℕ
  own_count (node.Measure m) = leaf m
  own_count n = 1

  abbrev all_of : List Calculation → ℕ
  all_of ts = gathered ◌+◌ 0 (nodes_by leaf) ts

  one_of : (ts : List Calculation) → length ts ≡ 1 → 1 + nodes_by leaf (operand ts 0) ≡ all_of ts + 1
  one_of [] h = absurd (omega arith)
  one_of (a ∷ []) h = omega arith
  one_of (a ∷ b ∷ ts) h = absurd (omega arith)

  two_of : (ts : List Calculation) → length ts ≡ 2 → 1 + nodes_by leaf (operand ts 0) + nodes_by leaf (operand ts 1) ≡ all_of ts + 1
  two_of [] h = absurd (omega arith)
  two_of (a ∷ []) h = absurd (omega arith)
  two_of (a ∷ b ∷ []) h = omega arith
  two_of (a ∷ b ∷ c ∷ ts) h = absurd (omega arith)

  in_all : (ts : List Calculation) → nodes_of_all_by leaf (calculations_of ts) ≡ all_of ts
  in_all [] = refl
  in_all (a ∷ ts) = ap (λ n. nodes_by leaf a + n) (in_all ts)

  does : (n : NumNode) (ts : List Calculation) → length ts ≡ arity n → nodes_by leaf (made n ts) ≡ all_of ts + own_count n
  does (node.Measure m) [] h = sym (zero-add (leaf m))
  does (node.Measure m) (t ∷ ts) h = absurd (omega arith)
  does (node.Literal n) [] h = refl
  does (node.Literal n) (t ∷ ts) h = absurd (omega arith)
  does (node.Number op) ts h = two_of ts h
  does node.Negate ts h = one_of ts h
  does (node.Coalesce count) ts h = omega (arith, in_all ts)
  does node.NullIf ts h = two_of ts h

  each : (ns : List NumNode) → gathered ◌+◌ 0 own_count ns ≡ sum_by own_count ns
  each [] = refl
  each (n ∷ ns) = ap (λ m. own_count n + m) (each ns) ∙ sym (sum_by-cons own_count n ns)

  one : (ns : List NumNode) → is_whole arity ns ≡ true → Builds arity made ns (calculation_of ns ∷ [])
  one ns h = Builds-whole arity made ns (Coalesce no_more) h

  counted : (ns : List NumNode) → is_whole arity ns ≡ true → sum_by own_count ns ≡ nodes_by leaf (calculation_of ns)
  counted ns h =
      sym (each ns)
      ∙ sym (gathered-Builds arity made ◌+◌ 0 add_assoc zero-add add-zero (nodes_by leaf) own_count does (one ns h))
      ∙ add-zero (nodes_by leaf (calculation_of ns))

-- ---- as numbers are told

told_node : (by counts : List ℕ) (n : NumNode) → counts ≡ map told by → count_number counts n ≡ told (own_count (nodes_at by) n)
told_node by counts (node.Measure m) is = ap (λ ns. count_number ns (node.Measure m)) is ∙ map_at told by m 1
told_node by counts (node.Literal n) is = refl
told_node by counts (node.Number op) is = refl
told_node by counts node.Negate is = refl
told_node by counts (node.Coalesce count) is = refl
told_node by counts node.NullIf is = refl

told_sum : (a b c m : ℕ) → min b m ≡ min c m → min (min a m + b) m ≡ min (a + c) m
told_sum a b c m h = grind arith

-- a sum of numbers that are told is told as the sum is
told_all : (f g : NumNode → ℕ) → ((n : NumNode) → f n ≡ told (g n)) → (ns : List NumNode) → told (sum_by f ns) ≡ told (sum_by g ns)
told_all f g is [] = refl
told_all f g is (n ∷ ns) =
    ap told (sum_by-cons f n ns ∙ ap (λ m. m + sum_by f ns) (is n))
    ∙ told_sum (g n) (sum_by f ns) (sum_by g ns) (2 ^ 64 - 1) (told_all f g is ns)
    ∙ ap told (sym (sum_by-cons g n ns))

pub told_numbers : (by counts : List ℕ) (ns : List NumNode) → counts ≡ map told by → is_whole arity ns ≡ true
    → min (sum_by (count_number counts) ns) (2 ^ 64 - 1) ≡ told (nodes_by (nodes_at by) (calculation_of ns))
told_numbers by counts ns is whole =
    told_all (count_number counts) (own_count (nodes_at by)) (λ n. told_node by counts n is) ns
    ∙ ap told (counted (nodes_at by) ns whole)
