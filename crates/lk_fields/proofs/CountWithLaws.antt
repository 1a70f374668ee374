-- How many nodes an expression has with others in place of its columns: the sum of what its nodes add.
use Rattle.std.proofs.Common.{◌≡◌, ℕ, ◌+◌, ◌-◌, ◌^◌, Bool, true, false, List, [], ◌∷◌, length, map, min, refl, sym, ap, ◌∙◌, arith}
use Rattle.std.specs.Prelude.{cond, nat_eq, if◌then◌else◌}
use Rattle.std.specs.List.{sum_by}
use Rattle.std.proofs.Math.Nat.{add-zero, add_assoc, zero-add}
use Rattle.std.proofs.lemmas.List.{length-map}
use Rattle.std.proofs.lemmas.List.Sums.{sum_by-cons}
use Rattle.lk_val.specs.declared.value.Value.TheVariants as value
use Rattle.lk_postfix.specs.Postfix.{gathered, is_whole}
use Rattle.lk_postfix.proofs.PostfixLaws.{gathered-Builds}
use Rattle.lk_types.specs.Formula.{Formula, Literal}
use Rattle.lk_types.specs.FormulaNodes.{arity, formula_of, made}
use Rattle.lk_types.specs.declared.expr.Node.{Node}
use Rattle.lk_types.specs.declared.expr.Node.TheVariants as node
use Rattle.lk_types.proofs.NodeLaws.{own}
use Rattle.lk_fields.specs.Substituted.{nodes_in, replacement, substituted, told_nodes}
use Rattle.lk_fields.specs.SubstitutedNodes.{count_with, made_with}
use Rattle.lk_fields.proofs.NodeCountLaws as counts
use Rattle.lk_fields.proofs.NodeCountLaws.{all_of, own_count}
use Rattle.lk_fields.proofs.SubstitutionLaws as puts
use Rattle.lk_fields.proofs.SubstitutionLaws.{map_at}

module _ (s : ℕ → Formula) where
  abbrev nodes_put : Formula → ℕ
  nodes_put e = nodes_in (substituted s e)

  -- what one node adds: a column what stands for it
  abbrev own_with : Node → ℕ
  own_with (node.Column p c) = nodes_in (s c)
  own_with n = own_count n

  all_put : (ts : List Formula) → all_of (map (substituted s) ts) ≡ gathered ◌+◌ 0 nodes_put ts
  all_put [] = refl
  all_put (t ∷ ts) = ap (λ n. nodes_put t + n) (all_put ts)

  other : (n : Node) (ts : List Formula) → length ts ≡ arity n → made_with s n (map (substituted s) ts) ≡ made n (map (substituted s) ts) → nodes_put (made n ts) ≡ gathered ◌+◌ 0 nodes_put ts + own_count n
  other n ts h same =
      ap nodes_in (sym (puts.does s n ts) ∙ same)
      ∙ counts.does n (map (substituted s) ts) (length-map ts (substituted s) ∙ h)
      ∙ ap (λ m. m + own_count n) (all_put ts)

  does : (n : Node) (ts : List Formula) → length ts ≡ arity n → nodes_put (made n ts) ≡ gathered ◌+◌ 0 nodes_put ts + own_with n
  does (node.Column p c) [] h = sym (zero-add (nodes_in (s c)))
  does (node.Column p c) (t ∷ ts) h = absurd (omega arith)
  does (node.Literal v) ts h = other (node.Literal v) ts h refl
  does (node.Framed f) ts h = other (node.Framed f) ts h refl
  does node.Not ts h = other node.Not ts h refl
  does node.And ts h = other node.And ts h refl
  does node.Or ts h = other node.Or ts h refl
  does (node.Compare c) ts h = other (node.Compare c) ts h refl
  does node.IsNull ts h = other node.IsNull ts h refl
  does (node.In count) ts h = other (node.In count) ts h refl
  does node.Between ts h = other node.Between ts h refl
  does (node.Like pieces) ts h = other (node.Like pieces) ts h refl
  does (node.Number op) ts h = other (node.Number op) ts h refl
  does node.Negate ts h = other node.Negate ts h refl
  does node.Concat ts h = other node.Concat ts h refl
  does (node.Case count) ts h = other (node.Case count) ts h refl
  does (node.Coalesce count) ts h = other (node.Coalesce count) ts h refl
  does node.NullIf ts h = other node.NullIf ts h refl
  does node.Lower ts h = other node.Lower ts h refl
  does node.Upper ts h = other node.Upper ts h refl

  each : (ns : List Node) → gathered ◌+◌ 0 own_with ns ≡ sum_by own_with ns
  each [] = refl
  each (n ∷ ns) = ap (λ m. own_with n + m) (each ns) ∙ sym (sum_by-cons own_with n ns)

  summed : (ns : List Node) → is_whole arity ns ≡ true → sum_by own_with ns ≡ nodes_put (formula_of ns)
  summed ns h =
      sym (each ns)
      ∙ sym (gathered-Builds arity made ◌+◌ 0 add_assoc zero-add add-zero nodes_put own_with does (own ns h))
      ∙ add-zero (nodes_put (formula_of ns))

-- ---- as numbers are told

abbrev told : ℕ → ℕ
told n = min n (2 ^ 64 - 1)

-- a column adds what is told of it
told_column : (by : List Formula) (counts : List ℕ) (c : ℕ) → counts ≡ map told_nodes by → count_with counts (node.Column 0 c) ≡ told_nodes (replacement by c)
told_column by counts c is =
    ap (λ ns. count_with ns (node.Column 0 c)) is ∙ map_at told_nodes by c (Literal value.Null)

told_bare : (b : Bool) → (if b then 2 else 1) ≡ told (1 + cond b 1 0)
told_bare true = refl
told_bare false = refl

told_node : (by : List Formula) (counts : List ℕ) (n : Node) → counts ≡ map told_nodes by → count_with counts n ≡ told (own_with (replacement by) n)
told_node by counts (node.Column p c) is = told_column by counts c is
told_node by counts (node.Literal v) is = refl
told_node by counts (node.Framed f) is = refl
told_node by counts node.Not is = refl
told_node by counts node.And is = refl
told_node by counts node.Or is = refl
told_node by counts (node.Compare c) is = refl
told_node by counts node.IsNull is = refl
told_node by counts (node.In count) is = told_bare (nat_eq count 0)
told_node by counts node.Between is = refl
told_node by counts (node.Like pieces) is = refl
told_node by counts (node.Number op) is = refl
told_node by counts node.Negate is = refl
told_node by counts node.Concat is = refl
told_node by counts (node.Case count) is = refl
told_node by counts (node.Coalesce count) is = refl
told_node by counts node.NullIf is = refl
told_node by counts node.Lower is = refl
told_node by counts node.Upper is = refl

told_sum : (a b c m : ℕ) → min b m ≡ min c m → min (min a m + b) m ≡ min (a + c) m
told_sum a b c m h = grind arith

-- a sum of numbers that are told is told as the sum is
told_all : (f g : Node → ℕ) → ((n : Node) → f n ≡ told (g n)) → (ns : List Node) → told (sum_by f ns) ≡ told (sum_by g ns)
told_all f g is [] = refl
told_all f g is (n ∷ ns) =
    ap told (sum_by-cons f n ns ∙ ap (λ m. m + sum_by f ns) (is n))
    ∙ told_sum (g n) (sum_by f ns) (sum_by g ns) (2 ^ 64 - 1) (told_all f g is ns)
    ∙ ap told (sym (sum_by-cons g n ns))

pub told_with : (by : List Formula) (counts : List ℕ) (ns : List Node) → counts ≡ map told_nodes by → is_whole arity ns ≡ true → min (sum_by (count_with counts) ns) (2 ^ 64 - 1) ≡ told_nodes (substituted (replacement by) (formula_of ns))
told_with by counts ns is whole =
    told_all (count_with counts) (own_with (replacement by)) (λ n. told_node by counts n is) ns
    ∙ ap told (summed (replacement by) ns whole)
