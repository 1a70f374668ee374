-- What is made of operands by what is told of them is what is made of them by their kinds.
use Rattle.std.proofs.Common.{◌≡◌, ℕ, List, [], ◌∷◌, map, length, Some, None, refl, sym, ap, ◌∙◌, arith}
use Rattle.std.specs.Prelude.{if◌then◌else◌, is_some, option_map}
use Rattle.lk_types.specs.Formula as formula
use Rattle.lk_types.specs.Formula.{Formula, Formulas, Literal, more, no_more}
use Rattle.lk_types.specs.FormulaNodes.{arity, formulas_of}
use Rattle.lk_types.specs.Unfolded.{Sides, any_equal, compared_each, from_to, listed, null_if, null_where_equal, others, ranged}
use Rattle.lk_types.specs.declared.expr.Comparison.{Comparison}
use Rattle.lk_types.specs.declared.expr.Node.{Node}
use Rattle.lk_types.specs.declared.expr.Node.TheVariants as node
use Rattle.lk_types.specs.declared.kind_set.KindSet.{KindSet}
use Rattle.lk_dated.specs.declared.side.Side.{Side}
use Rattle.lk_dated.specs.Dated.{compare_sides, compared, read_beside, text_of}
use Rattle.lk_dated.specs.DatedNodes.{comparison_made, dated_made, equations_beside, tree_made}
use Rattle.lk_dated.specs.FormulaKinds.{kinds_by}
use Rattle.lk_dated.specs.Sides.{readings_of_text, side_of}
use Rattle.lk_dated.proofs.ReadLaws.{beside_text, is_literal, own, plain}

module _ (leaf : ℕ → ℕ → KindSet) (stands : ℕ → ℕ → Formula) where
  abbrev k : Formula → KindSet
  k e = kinds_by leaf e

  abbrev side : Formula → Side
  side e = side_of leaf e

  abbrev cmp : Formula → Formula → Sides
  cmp a b = compared k a b

  compare_is : (c : Comparison) (a b : Formula) → comparison_made (side a).literal (node.Compare c) (side a ∷ side b ∷ []) (a ∷ b ∷ []) ≡ compare_sides c (cmp a b)
  compare_is c a b =
      elim (text_of a) as (λ o. text_of a ≡ o → comparison_made (option_map readings_of_text (text_of a)) (node.Compare c) (side a ∷ side b ∷ []) (a ∷ b ∷ []) ≡ compare_sides c (cmp a b)) [
        | None ↦ λ h.
            ap (λ o. comparison_made (option_map readings_of_text o) (node.Compare c) (side a ∷ side b ∷ []) (a ∷ b ∷ [])) h
            ∙ ap (λ x. formula.Compare c x (read_beside (k a) b)) (own leaf a ∙ sym (plain (k b) a h))
        | Some t ↦ λ h.
            ap (λ o. comparison_made (option_map readings_of_text o) (node.Compare c) (side a ∷ side b ∷ []) (a ∷ b ∷ [])) h
            ∙ ap (λ x. formula.Compare c (read_beside (k b) a) x) (own leaf b ∙ sym (beside_text leaf a b t h))
      ] refl

  others_read : (a : Formula) (xs : List Formula) → formulas_of (map (read_beside (k a)) xs) ≡ others (compared_each cmp a (formulas_of xs))
  others_read a [] = refl
  others_read a (x ∷ xs) = ap (λ rest. more (read_beside (k a) x) rest) (others_read a xs)

  equations_are : (a : Formula) (t : List ℕ) (xs : List Formula) → text_of a ≡ Some t → equations_beside a (map side xs) xs ≡ compared_each cmp a (formulas_of xs)
  equations_are a t [] h = refl
  equations_are a t (x ∷ xs) h =
      let p = beside_text leaf a x t h in let q = equations_are a t xs h in λ i. (read_beside (k x) a, sym p i) ∷ q i

  in_is : (count : ℕ) (a : Formula) (xs : List Formula)
      → comparison_made (side a).literal (node.In count) (side a ∷ map side xs) (a ∷ xs) ≡ listed cmp a (formulas_of xs)
  in_is count a xs =
      elim (text_of a) as (λ o. text_of a ≡ o → comparison_made (option_map readings_of_text (text_of a)) (node.In count) (side a ∷ map side xs) (a ∷ xs) ≡ listed cmp a (formulas_of xs)) [
        | None ↦ λ h.
            ap (λ o. comparison_made (option_map readings_of_text o) (node.In count) (side a ∷ map side xs) (a ∷ xs)) h
            ∙ (λ i. formula.In (own leaf a i) (others_read a xs i))
            ∙ ap (λ b. if b then any_equal (compared_each cmp a (formulas_of xs)) else formula.In a (others (compared_each cmp a (formulas_of xs)))) (sym (is_literal a ∙ ap is_some h))
        | Some t ↦ λ h.
            ap (λ o. comparison_made (option_map readings_of_text o) (node.In count) (side a ∷ map side xs) (a ∷ xs)) h
            ∙ ap any_equal (equations_are a t xs h)
            ∙ ap (λ b. if b then any_equal (compared_each cmp a (formulas_of xs)) else formula.In a (others (compared_each cmp a (formulas_of xs)))) (sym (is_literal a ∙ ap is_some h))
      ] refl

  between_is : (a low high : Formula)
      → comparison_made (side a).literal node.Between (side a ∷ side low ∷ side high ∷ []) (a ∷ low ∷ high ∷ []) ≡ ranged cmp a low high
  between_is a low high =
      elim (text_of a) as (λ o. text_of a ≡ o → comparison_made (option_map readings_of_text (text_of a)) node.Between (side a ∷ side low ∷ side high ∷ []) (a ∷ low ∷ high ∷ []) ≡ ranged cmp a low high) [
        | None ↦ λ h.
            ap (λ o. comparison_made (option_map readings_of_text o) node.Between (side a ∷ side low ∷ side high ∷ []) (a ∷ low ∷ high ∷ [])) h
            ∙ ap (λ x. formula.Between x (read_beside (k a) low) (read_beside (k a) high)) (own leaf a)
            ∙ ap (λ b. if b then from_to (cmp a low) (cmp a high) else formula.Between a (read_beside (k a) low) (read_beside (k a) high)) (sym (is_literal a ∙ ap is_some h))
        | Some t ↦ λ h.
            ap (λ o. comparison_made (option_map readings_of_text o) node.Between (side a ∷ side low ∷ side high ∷ []) (a ∷ low ∷ high ∷ [])) h
            ∙ (λ i. from_to (read_beside (k low) a, sym (beside_text leaf a low t h) i) (read_beside (k high) a, sym (beside_text leaf a high t h) i))
            ∙ ap (λ b. if b then from_to (cmp a low) (cmp a high) else formula.Between a (read_beside (k a) low) (read_beside (k a) high)) (sym (is_literal a ∙ ap is_some h))
      ] refl

  null_if_is : (a b : Formula) → comparison_made (side a).literal node.NullIf (side a ∷ side b ∷ []) (a ∷ b ∷ []) ≡ null_if cmp a b
  null_if_is a b =
      elim (text_of a) as (λ o. text_of a ≡ o → comparison_made (option_map readings_of_text (text_of a)) node.NullIf (side a ∷ side b ∷ []) (a ∷ b ∷ []) ≡ null_if cmp a b) [
        | None ↦ λ h.
            ap (λ o. comparison_made (option_map readings_of_text o) node.NullIf (side a ∷ side b ∷ []) (a ∷ b ∷ [])) h
            ∙ ap (λ x. formula.NullIf x (read_beside (k a) b)) (own leaf a)
            ∙ ap (λ t. if t then null_where_equal a (cmp a b) else formula.NullIf a (read_beside (k a) b)) (sym (is_literal a ∙ ap is_some h))
        | Some t ↦ λ h.
            ap (λ o. comparison_made (option_map readings_of_text o) node.NullIf (side a ∷ side b ∷ []) (a ∷ b ∷ [])) h
            ∙ ap (λ x. null_where_equal a (read_beside (k b) a, x)) (sym (beside_text leaf a b t h))
            ∙ ap (λ t. if t then null_where_equal a (cmp a b) else formula.NullIf a (read_beside (k a) b)) (sym (is_literal a ∙ ap is_some h))
      ] refl

  pub tree_is : (n : Node) (xs : List Formula) → length xs ≡ arity n → tree_made stands n (map side xs) xs ≡ dated_made k stands n xs
  tree_is (node.Compare c) (a ∷ b ∷ []) h = compare_is c a b
  tree_is (node.Compare c) [] h = absurd (omega arith)
  tree_is (node.Compare c) (a ∷ []) h = absurd (omega arith)
  tree_is (node.Compare c) (a ∷ b ∷ e ∷ xs) h = absurd (omega arith)
  tree_is (node.In count) [] h = refl
  tree_is (node.In count) (a ∷ xs) h = in_is count a xs
  tree_is node.Between (a ∷ low ∷ high ∷ []) h = between_is a low high
  tree_is node.Between [] h = absurd (omega arith)
  tree_is node.Between (a ∷ []) h = absurd (omega arith)
  tree_is node.Between (a ∷ b ∷ []) h = absurd (omega arith)
  tree_is node.Between (a ∷ b ∷ c ∷ e ∷ xs) h = absurd (omega arith)
  tree_is node.NullIf (a ∷ b ∷ []) h = null_if_is a b
  tree_is node.NullIf [] h = absurd (omega arith)
  tree_is node.NullIf (a ∷ []) h = absurd (omega arith)
  tree_is node.NullIf (a ∷ b ∷ e ∷ xs) h = absurd (omega arith)
  tree_is n xs h = refl
