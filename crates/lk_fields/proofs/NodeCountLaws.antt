-- How many nodes an expression has: as many as its list, and one more for each search in a list without operands.
use Rattle.std.proofs.Common.{◌≡◌, ℕ, suc, ◌+◌, ◌<◌, true, false, List, [], ◌∷◌, length, refl, sym, ap, ◌∙◌, arith}
use Rattle.std.specs.Prelude.{cond, drop, nat_eq}
use Rattle.std.specs.List.{count_by}
use Rattle.std.proofs.Math.Nat.{add-zero, add_assoc, zero-add}
use Rattle.std.proofs.lemmas.List.Sums.{sum_by-cons}
use Rattle.lk_postfix.specs.Postfix.{gathered, is_whole}
use Rattle.lk_postfix.proofs.PostfixLaws.{gathered-Builds}
use Rattle.lk_types.specs.Formula.{Formula}
use Rattle.lk_types.specs.FormulaNodes.{arity, cases_of, formula_of, formulas_of, made, operand}
use Rattle.lk_types.specs.declared.expr.Node.{Node}
use Rattle.lk_types.specs.declared.expr.Node.TheVariants as node
use Rattle.lk_types.proofs.NodeLaws.{own}
use Rattle.lk_fields.specs.Substituted.{nodes_in, nodes_in_all, nodes_in_cases}
use Rattle.lk_fields.specs.SubstitutedNodes.{is_bare_list}

-- what one node adds to the number, beside what its operands add
abbrev pub own_count : Node → ℕ
own_count n = 1 + cond (is_bare_list n) 1 0

abbrev pub all_of : List Formula → ℕ
all_of ts = gathered ◌+◌ 0 nodes_in ts

one_of : (ts : List Formula) → length ts ≡ 1 → 1 + nodes_in (operand ts 0) ≡ all_of ts + 1
one_of [] h = absurd (omega arith)
one_of (a ∷ []) h = omega arith
one_of (a ∷ b ∷ ts) h = absurd (omega arith)

two_of : (ts : List Formula) → length ts ≡ 2 → 1 + nodes_in (operand ts 0) + nodes_in (operand ts 1) ≡ all_of ts + 1
two_of [] h = absurd (omega arith)
two_of (a ∷ []) h = absurd (omega arith)
two_of (a ∷ b ∷ []) h = omega arith
two_of (a ∷ b ∷ c ∷ ts) h = absurd (omega arith)

three_of : (ts : List Formula) → length ts ≡ 3 → 1 + nodes_in (operand ts 0) + nodes_in (operand ts 1) + nodes_in (operand ts 2) ≡ all_of ts + 1
three_of [] h = absurd (omega arith)
three_of (a ∷ []) h = absurd (omega arith)
three_of (a ∷ b ∷ []) h = absurd (omega arith)
three_of (a ∷ b ∷ c ∷ []) h = omega arith
three_of (a ∷ b ∷ c ∷ d ∷ ts) h = absurd (omega arith)

in_all : (ts : List Formula) → nodes_in_all (formulas_of ts) ≡ all_of ts
in_all [] = refl
in_all (a ∷ ts) = ap (λ n. nodes_in a + n) (in_all ts)

in_cases : (ts : List Formula) → nodes_in_cases (cases_of ts) ≡ all_of ts
in_cases [] = refl
in_cases (a ∷ []) = omega arith
in_cases (c ∷ a ∷ ts) = omega (arith, in_cases ts)

no_test : (k : ℕ) → 0 < k → nat_eq k 0 ≡ false
no_test k h = grind arith

in_list : (k : ℕ) (ts : List Formula) → length ts ≡ k → 1 + nodes_in (operand ts 0) + nodes_in_all (formulas_of (drop 1 ts)) ≡ all_of ts + (1 + cond (nat_eq k 0) 1 0)
in_list k [] h = ap (λ m. 1 + cond (nat_eq m 0) 1 0) h ∙ sym (zero-add (1 + cond (nat_eq k 0) 1 0))
in_list k (a ∷ ts) h =
    let some : 1 + cond (nat_eq k 0) 1 0 ≡ 1 = ap (λ b. 1 + cond b 1 0) (no_test k (omega arith)) in
    omega (arith, in_all ts, some)

pub does : (n : Node) (ts : List Formula) → length ts ≡ arity n → nodes_in (made n ts) ≡ all_of ts + own_count n
does (node.Column p c) [] h = refl
does (node.Column p c) (t ∷ ts) h = absurd (omega arith)
does (node.Literal v) [] h = refl
does (node.Literal v) (t ∷ ts) h = absurd (omega arith)
does (node.Framed f) ts h = one_of ts h
does node.Not ts h = one_of ts h
does node.And ts h = two_of ts h
does node.Or ts h = two_of ts h
does (node.Compare c) ts h = two_of ts h
does node.IsNull ts h = one_of ts h
does (node.In count) ts h = in_list count ts h
does node.Between ts h = three_of ts h
does (node.Like pieces) ts h = one_of ts h
does (node.Number op) ts h = two_of ts h
does node.Negate ts h = one_of ts h
does node.Concat ts h = two_of ts h
does (node.Case count) ts h = omega (arith, in_cases ts)
does (node.Coalesce count) ts h = omega (arith, in_all ts)
does node.NullIf ts h = two_of ts h
does node.Lower ts h = one_of ts h
does node.Upper ts h = one_of ts h

shifted : (c l k : ℕ) → (1 + c) + (l + k) ≡ suc l + (c + k)
shifted c l k = omega arith

each : (ns : List Node) → gathered ◌+◌ 0 own_count ns ≡ length ns + count_by is_bare_list ns
each [] = refl
each (n ∷ ns) =
    ap (λ m. own_count n + m) (each ns)
    ∙ shifted (cond (is_bare_list n) 1 0) (length ns) (count_by is_bare_list ns)
    ∙ ap (λ m. suc (length ns) + m) (sym (sum_by-cons (λ x. cond (is_bare_list x) 1 0) n ns))

-- the nodes of the list, and one more for each search in a list without operands
pub counted : (ns : List Node) → is_whole arity ns ≡ true → length ns + count_by is_bare_list ns ≡ nodes_in (formula_of ns)
counted ns h =
    sym (each ns)
    ∙ sym (gathered-Builds arity made ◌+◌ 0 add_assoc zero-add add-zero nodes_in own_count does (own ns h))
    ∙ add-zero (nodes_in (formula_of ns))
