-- Numbers put into nodes are put into what the nodes build.
use Rattle.std.proofs.Common.{◌≡◌, ℕ, zero, suc, ◌+◌, ◌-◌, List, [], ◌∷◌, map, refl, sym, ap, ◌∙◌}
use Rattle.std.specs.Prelude.{IfSome, Option, Some, None, if◌then◌else◌, nat_le, slice_get}
use Rattle.lk_postfix.specs.Postfix.{after_nodes, depth_after, is_one, is_whole, operands, replaced}
use Rattle.lk_postfix.proofs.PostfixLaws.{after_nodes-map}
use Rattle.lk_types.specs.Calculation.{Calculation, Apply, Negate, Coalesce, NullIf, more}
use Rattle.lk_types.specs.CalculationNodes as nodes
use Rattle.lk_types.specs.declared.number.NumNode.{NumNode}
use Rattle.lk_types.specs.declared.number.NumNode.TheVariants as node
use Rattle.lk_resolved.specs.Fields.{renumbered, renumbered_all}
use Rattle.lk_resolved.specs.NumberNodes.{node_renumbered, number_at}

module _ (s : ℕ → ℕ) where
  abbrev with_number : NumNode → NumNode
  with_number = node_renumbered s

  abbrev tree : Calculation → Calculation
  tree = renumbered s

  same_arity : (n : NumNode) → nodes.arity (with_number n) ≡ nodes.arity n
  same_arity (node.Measure i) = refl
  same_arity (node.Literal n) = refl
  same_arity (node.Number op) = refl
  same_arity node.Negate = refl
  same_arity (node.Coalesce count) = refl
  same_arity node.NullIf = refl

  at : (xs : List Calculation) (i : ℕ) → nodes.operand (map tree xs) i ≡ tree (nodes.operand xs i)
  at [] i = refl
  at (x ∷ xs) zero = refl
  at (x ∷ xs) (suc i) = at xs i

  all_of : (xs : List Calculation) → nodes.calculations_of (map tree xs) ≡ renumbered_all s (nodes.calculations_of xs)
  all_of [] = refl
  all_of (x ∷ xs) = ap (more (tree x)) (all_of xs)

  does : (n : NumNode) (xs : List Calculation) → nodes.made (with_number n) (map tree xs) ≡ tree (nodes.made n xs)
  does (node.Measure i) xs = refl
  does (node.Literal n) xs = refl
  does (node.Number op) xs = λ i. Apply op (at xs 0 i) (at xs 1 i)
  does node.Negate xs = ap Negate (at xs 0)
  does (node.Coalesce count) xs = ap Coalesce (all_of xs)
  does node.NullIf xs = λ i. NullIf (at xs 0 i) (at xs 1 i)

  mapped : (stack : List Calculation) (ns : List NumNode) → after_nodes nodes.arity nodes.made stack (map with_number ns) ≡ after_nodes nodes.arity (λ n xs. nodes.made (with_number n) xs) stack ns
  mapped stack [] = refl
  mapped stack (n ∷ ns) =
      ap (λ k. after_nodes nodes.arity nodes.made (replaced k (nodes.made (with_number n) (operands k stack)) stack) (map with_number ns)) (same_arity n)
      ∙ mapped (replaced (nodes.arity n) (nodes.made (with_number n) (operands (nodes.arity n) stack)) stack) ns

  pub calculation_renumbered : (ns : List NumNode) → nodes.calculation_of (map with_number ns) ≡ tree (nodes.calculation_of ns)
  calculation_renumbered ns =
      ap (λ stack. nodes.operand stack 0) (mapped [] ns ∙ after_nodes-map nodes.arity nodes.made (λ n xs. nodes.made (with_number n) xs) tree does [] ns)
      ∙ at (after_nodes nodes.arity nodes.made [] ns) 0

  same_depth : (d : ℕ) (ns : List NumNode) → depth_after nodes.arity d (map with_number ns) ≡ depth_after nodes.arity d ns
  same_depth d [] = refl
  same_depth d (n ∷ ns) =
      ap (λ k. if nat_le k d then depth_after nodes.arity ((d - k) + 1) (map with_number ns) else None) (same_arity n)
      ∙ ap (λ t. if nat_le (nodes.arity n) d then t else None) (same_depth ((d - nodes.arity n) + 1) ns)

  pub still_whole : (ns : List NumNode) → is_whole nodes.arity (map with_number ns) ≡ is_whole nodes.arity ns
  still_whole ns = ap is_one (same_depth 0 ns)

-- the number at a place of a list
pub number_by : {A : Type 0} (f : Option A → ℕ) → f None ≡ 0 → (xs : List A) (i : ℕ) → number_at (map (λ x. f (Some x)) xs) i ≡ f (slice_get xs i)
number_by f none [] i = sym none
number_by f none (x ∷ xs) zero = refl
number_by f none (x ∷ xs) (suc i) = number_by f none xs i

-- what is unwrapped is the value that there is
pub value_some : (o : Option Calculation) (v : Calculation) {w : Calculation} → o ≡ Some v → IfSome o (λ e. e ≡ w) → v ≡ w
value_some None v e h = cc
value_some (Some u) v e h = let same : u ≡ v = cc in sym same ∙ h
