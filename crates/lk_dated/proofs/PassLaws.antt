-- One pass over the nodes of an expression with a stack of sides and one of trees.
use Rattle.std.proofs.Common.{◌≡◌, ℕ, ◌+◌, ◌-◌, ◌<◌, ◌≤◌, true, List, [], ◌∷◌, length, take, drop, get_or, map, sym, ap, ◌∙◌, subst, arith}
use Rattle.std.proofs.lemmas.List.{drop-map, length-map, length-drop}
use Rattle.std.proofs.lemmas.List.Sums.{fold_more}
use Rattle.lk_postfix.specs.Postfix.{after_node, after_nodes, is_whole, operands, replaced}
use Rattle.lk_postfix.proofs.PostfixLaws.{after_nodes-map}
use Rattle.lk_types.specs.Formula.{Formula}
use Rattle.lk_types.specs.FormulaNodes.{arity, formula_of, made}
use Rattle.lk_types.specs.declared.expr.Node.{Node}
use Rattle.lk_types.specs.declared.kind_set.KindSet.{KindSet}
use Rattle.lk_types.proofs.NodeLaws.{own}
use Rattle.lk_dated.specs.declared.side.Side.{Side}
use Rattle.lk_dated.specs.Dated.{dated_by, stands_at}
use Rattle.lk_dated.specs.DatedNodes.{dated_made, tree_made}
use Rattle.lk_dated.specs.FormulaKinds.{kinds_by}
use Rattle.lk_dated.specs.Sides.{side_at, side_made, side_of}
use Rattle.lk_dated.proofs.DatedLaws.{first_dated, stack_dated}
use Rattle.lk_dated.proofs.ReadLaws.{at}
use Rattle.lk_dated.proofs.SideLaws.{side_does}
use Rattle.lk_dated.proofs.TreeLaws.{tree_is}

module _ (leaf : ℕ → ℕ → KindSet) (by : List Formula) where
  abbrev k : Formula → KindSet
  k e = kinds_by leaf e

  abbrev side : Formula → Side
  side e = side_of leaf e

  abbrev pub dated_stack : List Node → List Formula
  dated_stack ns = after_nodes arity (dated_made k (stands_at by)) [] ns

  -- the sides that nodes leave are those of what they build
  sides_are : (ns : List Node) → after_nodes arity (side_made (map side by)) [] ns ≡ map side (dated_stack ns)
  sides_are ns = after_nodes-map arity (dated_made k (stands_at by)) (side_made (map side by)) side (side_does leaf by) [] ns

  pub kinds_left : (ns : List Node) → (side_at (after_nodes arity (side_made (map side by)) [] ns) 0).kinds ≡ k (dated_by k (stands_at by) (formula_of ns))
  kinds_left ns =
      ap (λ (s : List Side). (side_at s 0).kinds) (sides_are ns)
      ∙ ap (λ (s : Side). s.kinds) (at leaf (dated_stack ns) 0)
      ∙ ap k (first_dated k (stands_at by) ns)

  tops : (n : ℕ) (xs : List Formula) → operands n (map side xs) ≡ map side (operands n xs)
  tops n xs = ap (λ m. drop (m - n) (map side xs)) (length-map xs side) ∙ drop-map side (length xs - n) xs

  made_is : (n : Node) (sides : List Side) (trees xs : List Formula) → sides ≡ map side xs → trees ≡ xs → arity n ≤ length xs
      → replaced (arity n) (tree_made (stands_at by) n (operands (arity n) sides) (operands (arity n) trees)) trees ≡ after_node arity (dated_made k (stands_at by)) xs n
  made_is n sides trees xs s t h =
      let many : length (operands (arity n) xs) ≡ arity n = omega (arith, length-drop (length xs - arity n) xs) in
      (λ i. replaced (arity n) (tree_made (stands_at by) n (operands (arity n) (s i)) (operands (arity n) (t i))) (t i))
      ∙ ap (λ ss. replaced (arity n) (tree_made (stands_at by) n ss (operands (arity n) xs)) xs) (tops (arity n) xs)
      ∙ ap (λ e. replaced (arity n) e xs) (tree_is leaf (stands_at by) n (operands (arity n) xs) many)

  -- the trees behind one more node
  pub goes_on : (ns : List Node) (i : ℕ) (n : Node) (sides : List Side) (trees after : List Formula) → i < length ns → n ≡ get_or ns i n
      → sides ≡ after_nodes arity (side_made (map side by)) [] (take i ns) → trees ≡ dated_stack (take i ns) → arity n ≤ length trees
      → after ≡ replaced (arity n) (tree_made (stands_at by) n (operands (arity n) sides) (operands (arity n) trees)) trees
      → after ≡ dated_stack (take (i + 1) ns)
  goes_on ns i n sides trees after lt is s t h made =
      made
      ∙ made_is n sides trees (dated_stack (take i ns)) (s ∙ sides_are (take i ns)) t (subst (λ xs. arity n ≤ length xs) t h)
      ∙ ap (after_node arity (dated_made k (stands_at by)) (dated_stack (take i ns))) is
      ∙ sym (fold_more (after_node arity (dated_made k (stands_at by))) [] ns i n lt)

  -- in the end there is the one tree
  pub ends : (ns : List Node) → is_whole arity ns ≡ true → dated_stack ns ≡ dated_by k (stands_at by) (formula_of ns) ∷ []
  ends ns h = stack_dated k (stands_at by) ns ∙ ap (map (dated_by k (stands_at by))) (own ns h).stack

-- one more node on the stack of sides
pub sides_on : (sides : List Side) (ns : List Node) (i : ℕ) (n : Node) (stack after : List Side) → i < length ns → n ≡ get_or ns i n
    → stack ≡ after_nodes arity (side_made sides) [] (take i ns) → after ≡ after_node arity (side_made sides) stack n
    → after ≡ after_nodes arity (side_made sides) [] (take (i + 1) ns)
sides_on sides ns i n stack after lt is s made =
    made ∙ ap (λ t. after_node arity (side_made sides) t n) s
    ∙ ap (after_node arity (side_made sides) (after_nodes arity (side_made sides) [] (take i ns))) is
    ∙ sym (fold_more (after_node arity (side_made sides)) [] ns i n lt)
