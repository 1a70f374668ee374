-- What is told of a node by its sides is what is told of its expression.
use Rattle.std.proofs.Common.{◌≡◌, ℕ, Bool, true, false, ◌&&◌, List, [], ◌∷◌, map, drop, Some, None, refl, sym, ap, ◌∙◌}
use Rattle.std.specs.Prelude.{if◌then◌else◌, is_some, not, option_map}
use Rattle.std.specs.List.{list_all}
use Rattle.lk_val.specs.declared.value.Value.TheVariants as value
use Rattle.lk_types.specs.Formula.{Formula, Literal, In, Between, NullIf}
use Rattle.lk_types.specs.FormulaNodes as nodes
use Rattle.lk_types.specs.FormulaNodes.{formulas_of, made, operand}
use Rattle.lk_types.specs.Kinds.{every_kind, shared, kinds_if, comparable, do_compare, is_empty, kinds_framed, truth_if, number_if, text_if}
use Rattle.lk_types.specs.Unfolded.{any_equal, compared_each, equation, from_to, listed, null_if, null_where_equal, or_equal, others, ranged}
use Rattle.lk_types.specs.declared.expr.Node.{Node}
use Rattle.lk_types.specs.declared.expr.Node.TheVariants as node
use Rattle.lk_types.specs.declared.kind_set.KindSet.{KindSet}
use Rattle.lk_eval.specs.NodeKinds as kinds
use Rattle.lk_eval.specs.NodeKinds.{all_shared, branches_shared, kinds_made}
use Rattle.lk_dated.specs.declared.side.Side.{Side}
use Rattle.lk_dated.specs.Dated.{compared, read_beside, stands_at, text_of}
use Rattle.lk_dated.specs.DatedNodes.{dated_made}
use Rattle.lk_dated.specs.FormulaKinds.{kinds_by, do_all_compare_by, kinds_of_all_by, kinds_of_cases_by}
use Rattle.lk_dated.specs.Sides.{do_sides_compare, no_leaves, no_literal, null_if_kinds, readings_of_text, side_made, side_of}
use Rattle.lk_dated.proofs.ReadLaws.{at, beside_does, is_literal, kinds_text, listed_text, map_at, map_drop_one, null_if_text, plain_kinds, ranged_text}

truth_of_if : (b : Bool) → (truth_if b).truth ≡ b
truth_of_if true = refl
truth_of_if false = refl

and_assoc : (a b c : Bool) → ((a && b) && c) ≡ (a && (b && c))
and_assoc true b c = refl
and_assoc false b c = refl

and_none : (a : Bool) → (a && true) ≡ a
and_none true = refl
and_none false = refl

module _ (leaf : ℕ → ℕ → KindSet) where
  abbrev k : Formula → KindSet
  k e = kinds_by leaf e

  abbrev side : Formula → Side
  side e = side_of leaf e

  -- two sides as they are compared
  abbrev do_meet : Formula → Formula → Bool
  do_meet a b = do_compare (k (read_beside (k b) a)) (k (read_beside (k a) b))

  pub meet : (a b : Formula) → do_sides_compare (side a) (side b) ≡ do_meet a b
  meet a b = λ i. do_compare (beside_does leaf (k b) a i) (beside_does leaf (k a) b i)

  meet_plain : (a b : Formula) → text_of a ≡ None → do_sides_compare (side a) (side b) ≡ do_compare (k a) (k (read_beside (k a) b))
  meet_plain a b h = λ i. do_compare (plain_kinds leaf (k b) a h i) (beside_does leaf (k a) b i)

  -- ---- IN

  all_plain : (a : Formula) (xs : List Formula) → text_of a ≡ None
      → list_all (do_sides_compare (side a)) (map side xs) ≡ do_all_compare_by leaf (k a) (others (compared_each (compared k) a (formulas_of xs)))
  all_plain a [] h = refl
  all_plain a (x ∷ xs) h = let p = meet_plain a x h in let q = all_plain a xs h in λ i. p i && q i

  or_kinds : (a acc : Formula) (b : Bool) (xs : List Formula) → k acc ≡ truth_if b
      → k (or_equal acc (compared_each (compared k) a (formulas_of xs))) ≡ truth_if (b && list_all (do_sides_compare (side a)) (map side xs))
  or_kinds a acc b [] h = h ∙ ap truth_if (sym (and_none b))
  or_kinds a acc b (x ∷ xs) h =
      let m = do_meet a x in
      let step : truth_if ((k acc).truth && (truth_if m).truth) ≡ truth_if (b && do_sides_compare (side a) (side x)) =
      ap (λ (s : KindSet). truth_if (s.truth && (truth_if m).truth)) h
      ∙ ap (λ t. truth_if (t && (truth_if m).truth)) (truth_of_if b)
      ∙ ap (λ t. truth_if (b && t)) (truth_of_if m ∙ sym (meet a x)) in
      or_kinds a (nodes.made node.Or (acc ∷ equation (compared k a x) ∷ [])) (b && do_sides_compare (side a) (side x)) xs step
      ∙ ap truth_if (and_assoc b (do_sides_compare (side a) (side x)) (list_all (do_sides_compare (side a)) (map side xs)))

  listed_kinds : (a : Formula) (xs : List Formula)
      → truth_if (not (is_empty (k a)) && list_all (do_sides_compare (side a)) (map side xs)) ≡ k (listed (compared k) a (formulas_of xs))
  listed_kinds a xs =
      elim (text_of a) as (λ o. text_of a ≡ o → truth_if (not (is_empty (k a)) && list_all (do_sides_compare (side a)) (map side xs)) ≡ k (listed (compared k) a (formulas_of xs))) [
        | None ↦ λ h.
            ap (λ all. truth_if (not (is_empty (k a)) && all)) (all_plain a xs h)
            ∙ ap (λ b. k (if b then any_equal (compared_each (compared k) a (formulas_of xs)) else In a (others (compared_each (compared k) a (formulas_of xs))))) (sym (is_literal a ∙ ap is_some h))
        | Some t ↦ λ h.
            ap (λ s. truth_if (not (is_empty s) && list_all (do_sides_compare (side a)) (map side xs))) (kinds_text leaf a t h)
            ∙ sym (or_kinds a (Literal (value.Truth false)) true xs refl)
            ∙ ap (λ b. k (if b then any_equal (compared_each (compared k) a (formulas_of xs)) else In a (others (compared_each (compared k) a (formulas_of xs))))) (sym (is_literal a ∙ ap is_some h))
      ] refl

  -- ---- BETWEEN

  ranged_kinds : (a low high : Formula)
      → truth_if (do_sides_compare (side a) (side low) && do_sides_compare (side a) (side high)) ≡ k (ranged (compared k) a low high)
  ranged_kinds a low high =
      elim (text_of a) as (λ o. text_of a ≡ o → truth_if (do_sides_compare (side a) (side low) && do_sides_compare (side a) (side high)) ≡ k (ranged (compared k) a low high)) [
        | None ↦ λ h.
            (λ i. truth_if (meet_plain a low h i && meet_plain a high h i))
            ∙ ap (λ b. k (if b then from_to (compared k a low) (compared k a high) else Between a (read_beside (k a) low) (read_beside (k a) high))) (sym (is_literal a ∙ ap is_some h))
        | Some t ↦ λ h.
            (λ i. truth_if ((meet a low ∙ sym (truth_of_if (do_meet a low))) i && (meet a high ∙ sym (truth_of_if (do_meet a high))) i))
            ∙ ap (λ b. k (if b then from_to (compared k a low) (compared k a high) else Between a (read_beside (k a) low) (read_beside (k a) high))) (sym (is_literal a ∙ ap is_some h))
      ] refl

  -- ---- NULLIF

  null_if_does : (a b : Formula) → null_if_kinds (side a).literal (side a) (side b) ≡ k (null_if (compared k) a b)
  null_if_does a b =
      elim (text_of a) as (λ o. text_of a ≡ o → null_if_kinds (option_map readings_of_text (text_of a)) (side a) (side b) ≡ k (null_if (compared k) a b)) [
        | None ↦ λ h.
            ap (λ o. null_if_kinds (option_map readings_of_text o) (side a) (side b)) h
            ∙ ap (λ s. shared (k a) (comparable s)) (beside_does leaf (k a) b)
            ∙ ap (λ t. k (if t then null_where_equal a (compared k a b) else NullIf a (read_beside (k a) b))) (sym (is_literal a ∙ ap is_some h))
        | Some t ↦ λ h.
            ap (λ o. null_if_kinds (option_map readings_of_text o) (side a) (side b)) h
            ∙ ap text_if (meet a b ∙ sym (truth_of_if (do_meet a b)))
            ∙ ap (λ s. kinds_if (truth_if (do_meet a b)).truth (shared every_kind s)) (sym (kinds_text leaf a t h))
            ∙ ap (λ t. k (if t then null_where_equal a (compared k a b) else NullIf a (read_beside (k a) b))) (sym (is_literal a ∙ ap is_some h))
      ] refl

  -- ---- nodes that compare nothing

  kinds_of : (xs : List Formula) → map (λ (s : Side). s.kinds) (map side xs) ≡ map k xs
  kinds_of [] = refl
  kinds_of (x ∷ xs) = ap (λ ks. k x ∷ ks) (kinds_of xs)

  place : (xs : List Formula) (i : ℕ) → kinds.operand (map k xs) i ≡ k (operand xs i)
  place xs i = map_at k xs i (Literal value.Null)

  all_kinds : (xs : List Formula) → all_shared (map k xs) ≡ kinds_of_all_by leaf (formulas_of xs)
  all_kinds [] = refl
  all_kinds (x ∷ xs) = ap (shared (k x)) (all_kinds xs)

  branch_kinds : (xs : List Formula) → branches_shared (map k xs) ≡ kinds_of_cases_by leaf (nodes.cases_of xs)
  branch_kinds [] = refl
  branch_kinds (a ∷ []) = refl
  branch_kinds (c ∷ a ∷ xs) = ap (λ rest. kinds_if (k c).truth (shared (k a) rest)) (branch_kinds xs)

  other : (n : Node) (xs : List Formula) (s : KindSet) → kinds_made no_leaves n (map k xs) ≡ s → no_literal (kinds_made no_leaves n (map (λ (s : Side). s.kinds) (map side xs))) ≡ no_literal s
  other n xs s is = ap no_literal (ap (kinds_made no_leaves n) (kinds_of xs) ∙ is)

  told : (s : KindSet) (e : Formula) → s ≡ k e → text_of e ≡ None → no_literal s ≡ side e
  told s e is none = λ i. record { kinds = is i; literal = option_map readings_of_text (sym none i) }

  module _ (formulas : List Formula) where
    -- what is told of a node
    pub side_does : (n : Node) (xs : List Formula) → side_made (map side formulas) n (map side xs) ≡ side (dated_made k (stands_at formulas) n xs)
    side_does (node.Column part column) xs = at leaf formulas column
    side_does (node.Literal v) xs = refl
    side_does (node.Framed f) xs = other (node.Framed f) xs _ (ap (kinds_framed f) (place xs 0))
    side_does node.Not xs = other node.Not xs _ (ap (λ (s : KindSet). truth_if s.truth) (place xs 0))
    side_does node.And xs = other node.And xs _ (λ i. truth_if ((place xs 0 i).truth && (place xs 1 i).truth))
    side_does node.Or xs = other node.Or xs _ (λ i. truth_if ((place xs 0 i).truth && (place xs 1 i).truth))
    side_does (node.Compare c) xs =
        ap no_literal ((λ i. truth_if (do_sides_compare (at leaf xs 0 i) (at leaf xs 1 i))) ∙ ap truth_if (meet (operand xs 0) (operand xs 1)))
    side_does node.IsNull xs = other node.IsNull xs _ (ap (λ s. truth_if (not (is_empty s))) (place xs 0))
    side_does (node.In count) xs =
        told _ (listed (compared k) (operand xs 0) (formulas_of (drop 1 xs)))
        ((λ i. truth_if (not (is_empty (at leaf xs 0 i).kinds) && list_all (do_sides_compare (at leaf xs 0 i)) (map_drop_one side xs i)))
        ∙ listed_kinds (operand xs 0) (drop 1 xs))
        (listed_text (compared k) (operand xs 0) (formulas_of (drop 1 xs)))
    side_does node.Between xs =
        told _ (ranged (compared k) (operand xs 0) (operand xs 1) (operand xs 2))
        ((λ i. truth_if (do_sides_compare (at leaf xs 0 i) (at leaf xs 1 i) && do_sides_compare (at leaf xs 0 i) (at leaf xs 2 i)))
        ∙ ranged_kinds (operand xs 0) (operand xs 1) (operand xs 2))
        (ranged_text (compared k) (operand xs 0) (operand xs 1) (operand xs 2))
    side_does (node.Like pieces) xs = other (node.Like pieces) xs _ (ap (λ (s : KindSet). truth_if s.text) (place xs 0))
    side_does (node.Number op) xs = other (node.Number op) xs _ (λ i. number_if ((place xs 0 i).number && (place xs 1 i).number))
    side_does node.Negate xs = other node.Negate xs _ (ap (λ (s : KindSet). number_if s.number) (place xs 0))
    side_does node.Concat xs = other node.Concat xs _ (λ i. text_if ((place xs 0 i).text && (place xs 1 i).text))
    side_does (node.Case count) xs = other (node.Case count) xs _ (branch_kinds xs)
    side_does (node.Coalesce count) xs = other (node.Coalesce count) xs _ (all_kinds xs)
    side_does node.NullIf xs =
        told _ (null_if (compared k) (operand xs 0) (operand xs 1))
        ((λ i. null_if_kinds (at leaf xs 0 i).literal (at leaf xs 0 i) (at leaf xs 1 i)) ∙ null_if_does (operand xs 0) (operand xs 1))
        (null_if_text (compared k) (operand xs 0) (operand xs 1))
    side_does node.Lower xs = other node.Lower xs _ (ap (λ (s : KindSet). text_if s.text) (place xs 0))
    side_does node.Upper xs = other node.Upper xs _ (ap (λ (s : KindSet). text_if s.text) (place xs 0))
