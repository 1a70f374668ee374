-- What is computed node by node is what the definitions say of the whole expression.
use Rattle.std.proofs.Common.{◌≡◌, ℕ, zero, suc, Bool, true, false, ◌&&◌, List, [], ◌∷◌, length, map, refl, sym, ap, ◌∙◌, arith}
use Rattle.std.specs.Prelude.{slice_index_or, drop, not, if◌then◌else◌}
use Rattle.std.specs.List.{list_all}
use Rattle.lk_val.specs.Values.{is_null}
use Rattle.lk_val.specs.declared.value.Value.{Value}
use Rattle.lk_val.specs.declared.value.Value.TheVariants as value
use Rattle.lk_types.specs.declared.expr.Node.{Node}
use Rattle.lk_types.specs.declared.expr.Node.TheVariants as node
use Rattle.lk_types.specs.declared.expr.Comparison.TheVariants as comparison
use Rattle.lk_types.specs.declared.rows.Joined.{Joined}
use Rattle.lk_types.specs.declared.kind_set.KindSet.{KindSet}
use Rattle.lk_types.specs.declared.kind_set.Leaves.{Leaves}
use Rattle.lk_types.specs.Formula.{Formula, Literal}
use Rattle.lk_types.specs.FormulaNodes as nodes
use Rattle.lk_types.specs.Expressions.{value_of, values_of, first_case, truth_of, value_of_truth, and_of, or_of, not_of, compared, is_one_of, like, apply, negated, joined_text, on_text, ascii_lower, ascii_upper, first_known, null_if, is_true}
use Rattle.lk_types.specs.Timeframes.{timeframe_of}
use Rattle.lk_types.specs.Kinds.{shared, kinds_if, comparable, do_compare, is_empty, kinds_framed, truth_if, number_if, text_if, kinds_of, do_all_compare, kinds_of_all, kinds_of_cases}
use Rattle.lk_types.specs.Dates.{are_literals_dated, are_all_dated, are_cases_dated}
use Rattle.lk_types.proofs.NodeLaws.{own}
use Rattle.lk_postfix.specs.Postfix.{after_nodes, is_whole, gathered}
use Rattle.lk_postfix.proofs.PostfixLaws.{after_nodes-map, gathered-Builds}
use Rattle.lk_eval.specs.NodeValues as values
use Rattle.lk_eval.specs.NodeValues.{value_made, first_chosen, is_node_dated}
use Rattle.lk_eval.specs.NodeKinds as kinds
use Rattle.lk_eval.specs.NodeKinds.{kinds_made, all_shared, branches_shared}

-- an item of a mapped list, and what stands for a missing one
map_at : {A B : Type 0} (f : A → B) (xs : List A) (i : ℕ) (d : A) → slice_index_or (map f xs) i (f d) ≡ f (slice_index_or xs i d)
map_at f [] i d = refl
map_at f (x ∷ xs) zero d = refl
map_at f (x ∷ xs) (suc i) d = map_at f xs i d

map_drop_one : {A B : Type 0} (f : A → B) (xs : List A) → drop 1 (map f xs) ≡ map f (drop 1 xs)
map_drop_one f [] = refl
map_drop_one f (x ∷ xs) = refl

-- ---- values

module _ (row : Joined) where
  abbrev v : Formula → Value
  v e = value_of e row

  at : (xs : List Formula) (i : ℕ) → values.operand (map v xs) i ≡ v (nodes.operand xs i)
  at xs i = map_at v xs i (Literal value.Null)

  all_values : (xs : List Formula) → map v xs ≡ values_of (nodes.formulas_of xs) row
  all_values [] = refl
  all_values (x ∷ xs) = ap (λ vs. v x ∷ vs) (all_values xs)

  chosen : (xs : List Formula) → first_chosen (map v xs) ≡ first_case (nodes.cases_of xs) row
  chosen [] = refl
  chosen (a ∷ []) = refl
  chosen (c ∷ a ∷ xs) = ap (λ rest. if is_true (v c) then v a else rest) (chosen xs)

  value_does : (n : Node) (xs : List Formula) → value_made row n (map v xs) ≡ v (nodes.made n xs)
  value_does (node.Column part column) xs = refl
  value_does (node.Literal l) xs = refl
  value_does (node.Framed f) xs = ap (timeframe_of f) (at xs 0)
  value_does node.Not xs = ap (λ a. value_of_truth (not_of (truth_of a))) (at xs 0)
  value_does node.And xs = λ i. value_of_truth (and_of (truth_of (at xs 0 i)) (truth_of (at xs 1 i)))
  value_does node.Or xs = λ i. value_of_truth (or_of (truth_of (at xs 0 i)) (truth_of (at xs 1 i)))
  value_does (node.Compare c) xs = λ i. value_of_truth (compared c (at xs 0 i) (at xs 1 i))
  value_does node.IsNull xs = ap (λ a. value.Truth (is_null a)) (at xs 0)
  value_does (node.In count) xs = λ i. value_of_truth (is_one_of (at xs 0 i) ((map_drop_one v xs ∙ all_values (drop 1 xs)) i))
  value_does node.Between xs = λ i. value_of_truth (and_of (compared comparison.AtLeast (at xs 0 i) (at xs 1 i)) (compared comparison.AtMost (at xs 0 i) (at xs 2 i)))
  value_does (node.Like pieces) xs = ap (λ a. value_of_truth (like a pieces)) (at xs 0)
  value_does (node.Number op) xs = λ i. apply op (at xs 0 i) (at xs 1 i)
  value_does node.Negate xs = ap negated (at xs 0)
  value_does node.Concat xs = λ i. joined_text (at xs 0 i) (at xs 1 i)
  value_does (node.Case count) xs = chosen xs
  value_does (node.Coalesce count) xs = ap first_known (all_values xs)
  value_does node.NullIf xs = λ i. null_if (at xs 0 i) (at xs 1 i)
  value_does node.Lower xs = ap (on_text (map ascii_lower)) (at xs 0)
  value_does node.Upper xs = ap (on_text (map ascii_upper)) (at xs 0)

  -- the first of the values that the nodes leave is that of their expression
  pub value-nodes : (ns : List Node) → values.operand (after_nodes nodes.arity (value_made row) [] ns) 0 ≡ value_of (nodes.formula_of ns) row
  value-nodes ns = ap (λ vs. values.operand vs 0) (after_nodes-map nodes.arity nodes.made (value_made row) v value_does [] ns) ∙ at (after_nodes nodes.arity nodes.made [] ns) 0

-- ---- kinds

module _ (leaves : Leaves) where
  abbrev k : Formula → KindSet
  k e = kinds_of leaves e

  kind_at_place : (xs : List Formula) (i : ℕ) → kinds.operand (map k xs) i ≡ k (nodes.operand xs i)
  kind_at_place xs i = map_at k xs i (Literal value.Null)

  all_kinds : (xs : List Formula) → all_shared (map k xs) ≡ kinds_of_all leaves (nodes.formulas_of xs)
  all_kinds [] = refl
  all_kinds (x ∷ xs) = ap (shared (k x)) (all_kinds xs)

  branch_kinds : (xs : List Formula) → branches_shared (map k xs) ≡ kinds_of_cases leaves (nodes.cases_of xs)
  branch_kinds [] = refl
  branch_kinds (a ∷ []) = refl
  branch_kinds (c ∷ a ∷ xs) = ap (λ rest. kinds_if (k c).truth (shared (k a) rest)) (branch_kinds xs)

  all_compare : (s : KindSet) (xs : List Formula) → list_all (do_compare s) (map k xs) ≡ do_all_compare leaves s (nodes.formulas_of xs)
  all_compare s [] = refl
  all_compare s (x ∷ xs) = ap (λ rest. do_compare s (k x) && rest) (all_compare s xs)

  kinds_do : (n : Node) (xs : List Formula) → kinds_made leaves n (map k xs) ≡ k (nodes.made n xs)
  kinds_do (node.Column part column) xs = refl
  kinds_do (node.Literal l) xs = refl
  kinds_do (node.Framed f) xs = ap (kinds_framed f) (kind_at_place xs 0)
  kinds_do node.Not xs = ap (λ (s : KindSet). truth_if s.truth) (kind_at_place xs 0)
  kinds_do node.And xs = λ i. truth_if ((kind_at_place xs 0 i).truth && (kind_at_place xs 1 i).truth)
  kinds_do node.Or xs = λ i. truth_if ((kind_at_place xs 0 i).truth && (kind_at_place xs 1 i).truth)
  kinds_do (node.Compare c) xs = λ i. truth_if (do_compare (kind_at_place xs 0 i) (kind_at_place xs 1 i))
  kinds_do node.IsNull xs = ap (λ s. truth_if (not (is_empty s))) (kind_at_place xs 0)
  kinds_do (node.In count) xs =
      ap (λ s. truth_if (not (is_empty s) && list_all (do_compare s) (drop 1 (map k xs)))) (kind_at_place xs 0)
      ∙ ap (λ all. truth_if (not (is_empty (k (nodes.operand xs 0))) && all)) (ap (list_all (do_compare (k (nodes.operand xs 0)))) (map_drop_one k xs) ∙ all_compare (k (nodes.operand xs 0)) (drop 1 xs))
  kinds_do node.Between xs = λ i. truth_if (do_compare (kind_at_place xs 0 i) (kind_at_place xs 1 i) && do_compare (kind_at_place xs 0 i) (kind_at_place xs 2 i))
  kinds_do (node.Like pieces) xs = ap (λ (s : KindSet). truth_if s.text) (kind_at_place xs 0)
  kinds_do (node.Number op) xs = λ i. number_if ((kind_at_place xs 0 i).number && (kind_at_place xs 1 i).number)
  kinds_do node.Negate xs = ap (λ (s : KindSet). number_if s.number) (kind_at_place xs 0)
  kinds_do node.Concat xs = λ i. text_if ((kind_at_place xs 0 i).text && (kind_at_place xs 1 i).text)
  kinds_do (node.Case count) xs = branch_kinds xs
  kinds_do (node.Coalesce count) xs = all_kinds xs
  kinds_do node.NullIf xs = λ i. shared (kind_at_place xs 0 i) (comparable (kind_at_place xs 1 i))
  kinds_do node.Lower xs = ap (λ (s : KindSet). text_if s.text) (kind_at_place xs 0)
  kinds_do node.Upper xs = ap (λ (s : KindSet). text_if s.text) (kind_at_place xs 0)

  -- the first of the sets that the nodes leave is that of their expression
  pub kinds-nodes : (ns : List Node) → kinds.operand (after_nodes nodes.arity (kinds_made leaves) [] ns) 0 ≡ kinds_of leaves (nodes.formula_of ns)
  kinds-nodes ns = ap (λ ks. kinds.operand ks 0) (after_nodes-map nodes.arity nodes.made (kinds_made leaves) k kinds_do [] ns) ∙ kind_at_place (after_nodes nodes.arity nodes.made [] ns) 0

-- ---- dates

pub and_assoc : (a b c : Bool) → ((a && b) && c) ≡ (a && (b && c))
and_assoc true b c = refl
and_assoc false b c = refl

and_none : (a : Bool) → (a && true) ≡ a
and_none true = refl
and_none false = refl

abbrev all_of : List Formula → Bool
all_of ts = gathered ◌&&◌ true are_literals_dated ts

one_dated : (ts : List Formula) → length ts ≡ 1 → (all_of ts && true) ≡ are_literals_dated (nodes.operand ts 0)
one_dated [] h = absurd (omega arith)
one_dated (a ∷ []) h = and_none (are_literals_dated a && true) ∙ and_none (are_literals_dated a)
one_dated (a ∷ b ∷ ts) h = absurd (omega arith)

two_dated : (ts : List Formula) → length ts ≡ 2 → (all_of ts && true) ≡ (are_literals_dated (nodes.operand ts 0) && are_literals_dated (nodes.operand ts 1))
two_dated [] h = absurd (omega arith)
two_dated (a ∷ []) h = absurd (omega arith)
two_dated (a ∷ b ∷ []) h = and_none (are_literals_dated a && (are_literals_dated b && true)) ∙ ap (λ x. are_literals_dated a && x) (and_none (are_literals_dated b))
two_dated (a ∷ b ∷ c ∷ ts) h = absurd (omega arith)

three_dated : (ts : List Formula) → length ts ≡ 3 → (all_of ts && true) ≡ (are_literals_dated (nodes.operand ts 0) && (are_literals_dated (nodes.operand ts 1) && are_literals_dated (nodes.operand ts 2)))
three_dated [] h = absurd (omega arith)
three_dated (a ∷ []) h = absurd (omega arith)
three_dated (a ∷ b ∷ []) h = absurd (omega arith)
three_dated (a ∷ b ∷ c ∷ []) h =
    and_none (are_literals_dated a && (are_literals_dated b && (are_literals_dated c && true)))
    ∙ ap (λ x. are_literals_dated a && (are_literals_dated b && x)) (and_none (are_literals_dated c))
three_dated (a ∷ b ∷ c ∷ d ∷ ts) h = absurd (omega arith)

all_dated : (ts : List Formula) → are_all_dated (nodes.formulas_of ts) ≡ all_of ts
all_dated [] = refl
all_dated (a ∷ ts) = ap (λ x. are_literals_dated a && x) (all_dated ts)

cases_dated : (ts : List Formula) → are_cases_dated (nodes.cases_of ts) ≡ all_of ts
cases_dated [] = refl
cases_dated (a ∷ []) = sym (and_none (are_literals_dated a))
cases_dated (c ∷ a ∷ ts) = ap (λ x. are_literals_dated c && (are_literals_dated a && x)) (cases_dated ts)

list_dated : (ts : List Formula) → (are_literals_dated (nodes.operand ts 0) && are_all_dated (nodes.formulas_of (drop 1 ts))) ≡ all_of ts
list_dated [] = refl
list_dated (a ∷ ts) = ap (λ x. are_literals_dated a && x) (all_dated ts)

dates_do : (n : Node) (ts : List Formula) → length ts ≡ nodes.arity n → are_literals_dated (nodes.made n ts) ≡ (all_of ts && is_node_dated n)
dates_do (node.Column p c) [] h = refl
dates_do (node.Column p c) (t ∷ ts) h = absurd (omega arith)
dates_do (node.Literal v) [] h = refl
dates_do (node.Literal v) (t ∷ ts) h = absurd (omega arith)
dates_do (node.Framed f) ts h = sym (one_dated ts h)
dates_do node.Not ts h = sym (one_dated ts h)
dates_do node.And ts h = sym (two_dated ts h)
dates_do node.Or ts h = sym (two_dated ts h)
dates_do (node.Compare c) ts h = sym (two_dated ts h)
dates_do node.IsNull ts h = sym (one_dated ts h)
dates_do (node.In count) ts h = list_dated ts ∙ sym (and_none (all_of ts))
dates_do node.Between ts h = sym (three_dated ts h)
dates_do (node.Like pieces) ts h = sym (one_dated ts h)
dates_do (node.Number op) ts h = sym (two_dated ts h)
dates_do node.Negate ts h = sym (one_dated ts h)
dates_do node.Concat ts h = sym (two_dated ts h)
dates_do (node.Case count) ts h = cases_dated ts ∙ sym (and_none (all_of ts))
dates_do (node.Coalesce count) ts h = all_dated ts ∙ sym (and_none (all_of ts))
dates_do node.NullIf ts h = sym (two_dated ts h)
dates_do node.Lower ts h = sym (one_dated ts h)
dates_do node.Upper ts h = sym (one_dated ts h)

each_dated : (ns : List Node) → gathered ◌&&◌ true is_node_dated ns ≡ list_all is_node_dated ns
each_dated [] = refl
each_dated (n ∷ ns) = ap (λ x. is_node_dated n && x) (each_dated ns)

-- the literals of an expression are dated where each node is
pub dated-nodes : (ns : List Node) → is_whole nodes.arity ns ≡ true → list_all is_node_dated ns ≡ are_literals_dated (nodes.formula_of ns)
dated-nodes ns h =
    sym (each_dated ns)
    ∙ sym (gathered-Builds nodes.arity nodes.made ◌&&◌ true and_assoc (λ a. refl) and_none are_literals_dated is_node_dated dates_do (own ns h))
    ∙ and_none (are_literals_dated (nodes.formula_of ns))
