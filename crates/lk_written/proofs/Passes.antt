-- One pass over the nodes of a tree: the nodes so far build the trees so far, with numbers in place of names.
use Rattle.std.proofs.Common.{◌≡◌, ℕ, ◌+◌, ◌-◌, ◌<◌, ◌≤◌, Bool, true, false, List, [], ◌∷◌, ◌++◌, length, take, drop, get_or, Option, Some, None, refl, sym, ap, ◌∙◌, subst, arith, length-append}
use Rattle.std.specs.Prelude.{nat_le, if◌then◌else◌}
use Rattle.std.proofs.lemmas.List.{take-append-drop, length-take-le, length-drop, take_more, at_drop_more}
use Rattle.std.proofs.lemmas.List.Sums.{fold-append}
use Rattle.lk_postfix.specs.Postfix.{Builds, after_node, depth_after}
use Rattle.lk_expr_tree.specs.declared.raw.RawNode.{RawNode}
use Rattle.lk_expr_tree.specs.Grammar.{Tree}
use Rattle.lk_expr_tree.specs.RawNodes.{arity, made, trees_of}
use Rattle.lk_expr_tree.proofs.GatheredLaws.{gathered-append}
use Rattle.lk_objects.specs.declared.code.Reference.{Reference}
use Rattle.lk_written.specs.References.{references_of}
use Rattle.lk_written.specs.SkeletonNodes.{node_references}
use Rattle.lk_written.proofs.Numbered.{all_references, total, numbered, numbered-append, references_assoc, references_left, references_right}
use Rattle.lk_written.proofs.NameLaws.{node_names}

if_some : (b : Bool) (x : Option ℕ) (e : ℕ) → (if b then x else None) ≡ Some e → (b ≡ true) × (x ≡ Some e)
if_some true x e h = (refl, h)
if_some false x e h = cc

le_of_test : (m n : ℕ) → nat_le m n ≡ true → m ≤ n
le_of_test m n h = grind arith

-- given: the nodes and expressions that a pass makes, the expression of a tree whose first name has a number, what a node
-- adds where so many names stand before it, which nodes it takes, and that what it adds is right
module _ {N E : Type 0} (takes : N → ℕ) (makes : N → List E → E) (skeleton : ℕ → Tree → E) (added : ℕ → RawNode → List N) (may : RawNode → Bool)
    (adds : (n : RawNode) (c : ℕ) (ts : List Tree) (out : List N) (low : List E) → length ts ≡ arity n → may n ≡ true → Builds takes makes out (low ++ numbered skeleton c ts) → Builds takes makes (out ++ added (c + total ts) n) (low ++ skeleton c (made n ts) ∷ [])) where
  -- the names and the nodes of those that have been passed
  pub record IsPassed (ns rest : List RawNode) (references : List Reference) (out : List N) : Type 0 where
    pub left : depth_after arity (length (trees_of ns)) rest ≡ Some 1
    pub names : references ≡ all_references (trees_of ns)
    pub nodes : Builds takes makes out (numbered skeleton 0 (trees_of ns))

  -- one more node
  pub passes : (ns rest : List RawNode) (n : RawNode) (references : List Reference) (out : List N) → may n ≡ true → IsPassed ns (n ∷ rest) references out → IsPassed (ns ++ n ∷ []) rest (references ++ node_references n) (out ++ added (length references) n)
  passes ns rest n references out taken is =
      let stack = trees_of ns in
      let low = take (length stack - arity n) stack in
      let high = drop (length stack - arity n) stack in
      let parts = if_some (nat_le (arity n) (length stack)) (depth_after arity ((length stack - arity n) + 1) rest) 1 is.left in
      let within = le_of_test (arity n) (length stack) parts.0 in
      let split : low ++ high ≡ stack = take-append-drop (length stack - arity n) stack in
      let many : length high ≡ arity n = omega (arith, length-drop (length stack - arity n) stack) in
      let behind : trees_of (ns ++ n ∷ []) ≡ low ++ made n high ∷ [] = fold-append (after_node arity made) [] ns (n ∷ []) in
      let c = 0 + total low in
      let both : all_references stack ≡ all_references low ++ all_references high = ap all_references (sym split) ∙ gathered-append ◌++◌ [] references_assoc references_left references_right references_of low high in
      let number : c + total high ≡ length references = omega (arith, ap length is.names, ap length both, length-append (all_references low) (all_references high)) in
      let below = subst (λ es. Builds takes makes out es) (ap (numbered skeleton 0) (sym split) ∙ numbered-append skeleton 0 low high) is.nodes in
      record {
        left =
            ap (λ ts. depth_after arity (length ts) rest) behind
            ∙ ap (λ m. depth_after arity m rest) (omega (arith, length-append low (made n high ∷ []), length-take-le (length stack - arity n) stack (omega arith)))
            ∙ parts.1;
        names =
            ap (λ m. m ++ node_references n) (is.names ∙ both)
            ∙ references_assoc (all_references low) (all_references high) (node_references n)
            ∙ ap (λ m. all_references low ++ m) (sym (node_names n high many) ∙ sym (references_right (references_of (made n high))))
            ∙ sym (gathered-append ◌++◌ [] references_assoc references_left references_right references_of low (made n high ∷ []))
            ∙ ap all_references (sym behind);
        nodes =
            subst (λ es. Builds takes makes (out ++ added (length references) n) es)
            (sym (numbered-append skeleton 0 low (made n high ∷ [])) ∙ ap (numbered skeleton 0) (sym behind))
            (subst (λ m. Builds takes makes (out ++ added m n) (numbered skeleton 0 low ++ skeleton c (made n high) ∷ [])) number
            (adds n c high out (numbered skeleton 0 low) many taken below));
      }

  -- the same at a place of a list
  pub passes_at : (ns : List RawNode) (i : ℕ) (n : RawNode) (references : List Reference) (out : List N) → i < length ns → n ≡ get_or ns i n → may n ≡ true → IsPassed (take i ns) (drop i ns) references out → IsPassed (take (i + 1) ns) (drop (i + 1) ns) (references ++ node_references n) (out ++ added (length references) n)
  passes_at ns i n references out lt at taken is =
      subst (λ front. IsPassed front (drop (i + 1) ns) (references ++ node_references n) (out ++ added (length references) n))
      (sym (take_more ns i n lt ∙ ap (λ x. take i ns ++ x ∷ []) (sym at)))
      (passes (take i ns) (drop (i + 1) ns) n references out taken
      (subst (λ rest. IsPassed (take i ns) rest references out) (at_drop_more (λ rest. rest) ns i n lt ∙ ap (λ x. x ∷ drop (i + 1) ns) (sym at)) is))

  -- before the first
  pub passes_none : (ns : List RawNode) → depth_after arity 0 ns ≡ Some 1 → IsPassed [] ns [] []
  passes_none ns whole = record { left = whole; names = refl; nodes = record { stack = refl; depth = refl } }

  -- behind the last
  pub passed_names : (ns rest : List RawNode) (t : Tree) (references : List Reference) (out : List N) → trees_of ns ≡ t ∷ [] → IsPassed ns rest references out → references ≡ references_of t
  passed_names ns rest t references out one is = is.names ∙ ap all_references one ∙ references_right (references_of t)

  pub passed_nodes : (ns rest : List RawNode) (t : Tree) (references : List Reference) (out : List N) → trees_of ns ≡ t ∷ [] → IsPassed ns rest references out → Builds takes makes out (skeleton 0 t ∷ [])
  passed_nodes ns rest t references out one is = subst (λ ts. Builds takes makes out (numbered skeleton 0 ts)) one is.nodes
