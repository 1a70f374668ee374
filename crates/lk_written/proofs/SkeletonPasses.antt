-- The pass that makes an expression, place by place of the list of nodes.
use Rattle.std.proofs.Common.{◌≡◌, ℕ, ◌+◌, ◌<◌, true, List, [], ◌∷◌, ◌++◌, length, take, drop, get_or, Some, sym, ap, ◌∙◌, subst, arith}
use Rattle.std.proofs.lemmas.List.{take_all}
use Rattle.lk_val.specs.declared.value.Value.TheVariants as value
use Rattle.lk_postfix.specs.Postfix.{Builds, depth_after, is_whole}
use Rattle.lk_postfix.proofs.PostfixLaws.{whole-Builds, tree-Builds}
use Rattle.lk_types.specs.Formula.{Literal}
use Rattle.lk_types.specs.FormulaNodes as nodes
use Rattle.lk_types.specs.FormulaNodes.{formula_of}
use Rattle.lk_types.specs.declared.expr.Node.{Node}
use Rattle.lk_expr_tree.specs.declared.raw.RawNode.{RawNode}
use Rattle.lk_expr_tree.specs.Grammar.{Tree}
use Rattle.lk_expr_tree.specs.RawNodes.{arity, trees_of}
use Rattle.lk_objects.specs.declared.code.Reference.{Reference}
use Rattle.lk_written.specs.References.{references_of}
use Rattle.lk_written.specs.Skeletons.{skeleton}
use Rattle.lk_written.specs.SkeletonNodes.{node_references, skeleton_nodes}
use Rattle.lk_written.proofs.NodeForms.{has_operands}
use Rattle.lk_written.proofs.SkeletonNodeLaws.{node_adds}
use Rattle.lk_written.proofs.Passes.{IsPassed, passes_at, passes_none, passed_names, passed_nodes}

-- the first nodes are passed, and these are their names and what they add
abbrev pub IsAt : List RawNode → ℕ → List Reference → List Node → Type 0
IsAt ns i references out =
    IsPassed nodes.arity nodes.made skeleton skeleton_nodes has_operands node_adds (take i ns) (drop i ns) references out

pub begins : (ns : List RawNode) (references : List Reference) (out : List Node) → depth_after arity 0 ns ≡ Some 1 → references ≡ [] → out ≡ [] → IsAt ns 0 references out
begins ns references out whole no_names no_nodes =
    subst (λ r. IsAt ns 0 r out) (sym no_names)
    (subst (λ o. IsAt ns 0 [] o) (sym no_nodes)
    (passes_none nodes.arity nodes.made skeleton skeleton_nodes has_operands node_adds ns whole))

pub goes_on : (ns : List RawNode) (i : ℕ) (n : RawNode) (references after : List Reference) (out behind : List Node) (count : ℕ) → i < length ns → n ≡ get_or ns i n → has_operands n ≡ true → count ≡ length references
    → after ≡ references ++ node_references n → behind ≡ out ++ skeleton_nodes count n → IsAt ns i references out → IsAt ns (i + 1) after behind
goes_on ns i n references after out behind count lt at has many named added is =
    subst (λ r. IsAt ns (i + 1) r behind) (sym named)
    (subst (λ o. IsAt ns (i + 1) (references ++ node_references n) o) (ap (λ m. out ++ skeleton_nodes m n) (sym many) ∙ sym added)
    (passes_at nodes.arity nodes.made skeleton skeleton_nodes has_operands node_adds ns i n references out lt at has is))

module _ (ns : List RawNode) (t : Tree) (references : List Reference) (out : List Node) (one : trees_of ns ≡ t ∷ []) (is : IsAt ns (length ns) references out) where
  ends : IsPassed nodes.arity nodes.made skeleton skeleton_nodes has_operands node_adds ns (drop (length ns) ns) references out
  ends = subst (λ front. IsPassed nodes.arity nodes.made skeleton skeleton_nodes has_operands node_adds front (drop (length ns) ns) references out) (take_all (length ns) ns (omega arith)) is

  builds : Builds nodes.arity nodes.made out (skeleton 0 t ∷ [])
  builds = passed_nodes nodes.arity nodes.made skeleton skeleton_nodes has_operands node_adds ns (drop (length ns) ns) t references out one ends

  pub names_are : references ≡ references_of t
  names_are = passed_names nodes.arity nodes.made skeleton skeleton_nodes has_operands node_adds ns (drop (length ns) ns) t references out one ends

  pub is_one : is_whole nodes.arity out ≡ true
  is_one = whole-Builds nodes.arity nodes.made builds

  pub expr_is : formula_of out ≡ skeleton 0 t
  expr_is = tree-Builds nodes.arity nodes.made (Literal value.Null) builds
