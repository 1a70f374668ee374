-- What is made node by node is the expression with its text literals read.
use Rattle.std.proofs.Common.{◌≡◌, ℕ, List, [], ◌∷◌, map, drop, refl, ap, ◌∙◌}
use Rattle.lk_val.specs.declared.value.Value.TheVariants as value
use Rattle.lk_postfix.specs.Postfix.{after_nodes}
use Rattle.lk_postfix.proofs.PostfixLaws.{after_nodes-map}
use Rattle.lk_types.specs.Formula as formula
use Rattle.lk_types.specs.Formula.{Formula, Literal, more, when}
use Rattle.lk_types.specs.FormulaNodes.{arity, cases_of, formulas_of, made, operand}
use Rattle.lk_types.specs.Unfolded.{listed, null_if, ranged}
use Rattle.lk_types.specs.declared.expr.Node.{Node}
use Rattle.lk_types.specs.declared.expr.Node.TheVariants as node
use Rattle.lk_types.specs.declared.kind_set.KindSet.{KindSet}
use Rattle.lk_dated.specs.Dated.{all_dated_by, cases_dated_by, compare_sides, compared, dated_by}
use Rattle.lk_dated.specs.DatedNodes.{dated_made}
use Rattle.lk_dated.proofs.ReadLaws.{map_at, map_drop_one}

module _ (kinds : Formula → KindSet) (leaf : ℕ → ℕ → Formula) where
  abbrev d : Formula → Formula
  d e = dated_by kinds leaf e

  at : (xs : List Formula) (i : ℕ) → operand (map d xs) i ≡ d (operand xs i)
  at xs i = map_at d xs i (Literal value.Null)

  all_dated : (xs : List Formula) → formulas_of (map d xs) ≡ all_dated_by kinds leaf (formulas_of xs)
  all_dated [] = refl
  all_dated (x ∷ xs) = ap (λ rest. more (d x) rest) (all_dated xs)

  cases_dated : (xs : List Formula) → cases_of (map d xs) ≡ cases_dated_by kinds leaf (cases_of xs)
  cases_dated [] = refl
  cases_dated (a ∷ []) = refl
  cases_dated (c ∷ a ∷ xs) = ap (λ rest. when (d c) (d a) rest) (cases_dated xs)

  does : (n : Node) (xs : List Formula) → dated_made kinds leaf n (map d xs) ≡ d (made n xs)
  does (node.Column part column) xs = refl
  does (node.Literal l) xs = refl
  does (node.Framed f) xs = ap (formula.Framed f) (at xs 0)
  does node.Not xs = ap formula.Not (at xs 0)
  does node.And xs = λ i. formula.And (at xs 0 i) (at xs 1 i)
  does node.Or xs = λ i. formula.Or (at xs 0 i) (at xs 1 i)
  does (node.Compare c) xs = λ i. compare_sides c (compared kinds (at xs 0 i) (at xs 1 i))
  does node.IsNull xs = ap formula.IsNull (at xs 0)
  does (node.In count) xs = λ i. listed (compared kinds) (at xs 0 i) ((ap formulas_of (map_drop_one d xs) ∙ all_dated (drop 1 xs)) i)
  does node.Between xs = λ i. ranged (compared kinds) (at xs 0 i) (at xs 1 i) (at xs 2 i)
  does (node.Like pieces) xs = ap (λ a. formula.Like a pieces) (at xs 0)
  does (node.Number op) xs = λ i. formula.Number op (at xs 0 i) (at xs 1 i)
  does node.Negate xs = ap formula.Negate (at xs 0)
  does node.Concat xs = λ i. formula.Concat (at xs 0 i) (at xs 1 i)
  does (node.Case count) xs = ap formula.Case (cases_dated xs)
  does (node.Coalesce count) xs = ap formula.Coalesce (all_dated xs)
  does node.NullIf xs = λ i. null_if (compared kinds) (at xs 0 i) (at xs 1 i)
  does node.Lower xs = ap formula.Lower (at xs 0)
  does node.Upper xs = ap formula.Upper (at xs 0)

  -- the expressions that nodes leave, with their text literals read
  pub stack_dated : (ns : List Node) → after_nodes arity (dated_made kinds leaf) [] ns ≡ map d (after_nodes arity made [] ns)
  stack_dated ns = after_nodes-map arity made (dated_made kinds leaf) d does [] ns

  pub first_dated : (ns : List Node) → operand (after_nodes arity (dated_made kinds leaf) [] ns) 0 ≡ d (operand (after_nodes arity made [] ns) 0)
  first_dated ns = ap (λ ts. operand ts 0) (stack_dated ns) ∙ at (after_nodes arity made [] ns) 0
