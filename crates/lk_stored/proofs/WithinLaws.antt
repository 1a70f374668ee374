-- An expression mentions only some views where each of its columns is of one of them.
use Rattle.std.proofs.Common.{◌≡◌, ℕ, Bool, true, false, ◌&&◌, ◌||◌, List, [], ◌∷◌, ◌++◌, refl, sym, ap, ◌∙◌, ⊎_elim}
use Rattle.std.specs.Prelude.{flat_map, nat_eq}
use Rattle.std.specs.List.{list_all, list_any}
use Rattle.std.proofs.lemmas.Bool.{eq-eqb, eqb-true, false≢true}
use Rattle.std.proofs.lemmas.List.Folds.{list_all-append}
use Rattle.lk_postfix.specs.Postfix.{is_whole}
use Rattle.lk_types.specs.Expressions.{has_number, mentions}
use Rattle.lk_types.specs.FormulaNodes.{arity, formula_of, is_of_part}
use Rattle.lk_types.proofs.NodeLaws.{stands-any}
use Rattle.lk_types.specs.declared.explore.Explore.{Explore}
use Rattle.lk_types.specs.declared.expr.Node.{Node}
use Rattle.lk_types.specs.declared.expr.Node.TheVariants as node
use Rattle.lk_types.specs.declared.filter.Filter.{Filter}
use Rattle.lk_semantics.specs.Answers.{filtered}
use Rattle.lk_semantics.specs.Derived.{field_parts}
use Rattle.lk_stored.specs.Storing.{are_filters_within, is_node_within}
use Rattle.lk_stored.proofs.Logic.{all_from, all_has, both, one_of, or_true, same_test, together}

module _ (views : List ℕ) where
  abbrev within : ℕ → Bool
  within p = has_number p views

  -- a node that is a column of a part is within where the part is
  part_within : (p : ℕ) (n : Node) → is_of_part p n ≡ true → is_node_within views n ≡ true → within p ≡ true
  part_within p (node.Column q c) of h = ap within (eqb-true p q of) ∙ h
  part_within p (node.Literal v) of h = absurd (false≢true of)
  part_within p (node.Framed f) of h = absurd (false≢true of)
  part_within p node.Not of h = absurd (false≢true of)
  part_within p node.And of h = absurd (false≢true of)
  part_within p node.Or of h = absurd (false≢true of)
  part_within p (node.Compare c) of h = absurd (false≢true of)
  part_within p node.IsNull of h = absurd (false≢true of)
  part_within p (node.In count) of h = absurd (false≢true of)
  part_within p node.Between of h = absurd (false≢true of)
  part_within p (node.Like pieces) of h = absurd (false≢true of)
  part_within p (node.Number op) of h = absurd (false≢true of)
  part_within p node.Negate of h = absurd (false≢true of)
  part_within p node.Concat of h = absurd (false≢true of)
  part_within p (node.Case count) of h = absurd (false≢true of)
  part_within p (node.Coalesce count) of h = absurd (false≢true of)
  part_within p node.NullIf of h = absurd (false≢true of)
  part_within p node.Lower of h = absurd (false≢true of)
  part_within p node.Upper of h = absurd (false≢true of)

  one_within : (n : Node) → ((p : ℕ) → is_of_part p n ≡ true → within p ≡ true) → is_node_within views n ≡ true
  one_within (node.Column q c) h = h q (eq-eqb q q refl)
  one_within (node.Literal v) h = refl
  one_within (node.Framed f) h = refl
  one_within node.Not h = refl
  one_within node.And h = refl
  one_within node.Or h = refl
  one_within (node.Compare c) h = refl
  one_within node.IsNull h = refl
  one_within (node.In count) h = refl
  one_within node.Between h = refl
  one_within (node.Like pieces) h = refl
  one_within (node.Number op) h = refl
  one_within node.Negate h = refl
  one_within node.Concat h = refl
  one_within (node.Case count) h = refl
  one_within (node.Coalesce count) h = refl
  one_within node.NullIf h = refl
  one_within node.Lower h = refl
  one_within node.Upper h = refl

  from_nodes : (p : ℕ) (ns : List Node) → list_all (is_node_within views) ns ≡ true → list_any (is_of_part p) ns ≡ true → within p ≡ true
  from_nodes p [] h of = absurd (false≢true of)
  from_nodes p (n ∷ ns) h of =
      let parts = both (is_node_within views n) (list_all (is_node_within views) ns) h in
      ⊎_elim (λ e. part_within p n e parts.0) (λ e. from_nodes p ns parts.1 e) (one_of (is_of_part p n) (list_any (is_of_part p) ns) of)

  to_nodes : (ns : List Node) → ((p : ℕ) → list_any (is_of_part p) ns ≡ true → within p ≡ true) → list_all (is_node_within views) ns ≡ true
  to_nodes [] h = refl
  to_nodes (n ∷ ns) h =
      together (is_node_within views n) (list_all (is_node_within views) ns)
      (one_within n (λ p of. h p (ap (λ b. b || list_any (is_of_part p) ns) of)))
      (to_nodes ns (λ p of. h p (ap (λ b. is_of_part p n || b) of ∙ or_true (is_of_part p n))))

  pub nodes_within : (ns : List Node) → is_whole arity ns ≡ true → list_all (is_node_within views) ns ≡ list_all within (mentions (formula_of ns))
  nodes_within ns whole =
      same_test (list_all (is_node_within views) ns) (list_all within (mentions (formula_of ns)))
      (λ h. all_from within (mentions (formula_of ns)) (λ p inside. from_nodes p ns h (stands-any p ns whole ∙ inside)))
      (λ h. to_nodes ns (λ p of. all_has within (mentions (formula_of ns)) h p (sym (stands-any p ns whole) ∙ of)))

  -- the same of the fields of filters
  pub filters_within : (x : Explore) (filters : List (ℕ × Filter)) → are_filters_within x views filters ≡ list_all within (flat_map (field_parts x) (filtered filters))
  filters_within x [] = refl
  filters_within x (f ∷ fs) = ap (λ b. list_all within (field_parts x f.0) && b) (filters_within x fs) ∙ sym (list_all-append within (field_parts x f.0) (flat_map (field_parts x) (filtered fs)))
