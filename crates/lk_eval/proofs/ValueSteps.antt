-- How the values on a stack change at one node.
use Rattle.std.proofs.Common.{◌≡◌, ℕ, zero, suc, ◌+◌, ◌-◌, ◌<◌, ◌≤◌, Bool, true, false, ◌&&◌, List, [], ◌∷◌, ◌++◌, length, take, drop, map, get_or, Option, Some, None, refl, sym, ap, ◌∙◌, arith, length-append}
use Rattle.std.specs.Prelude.{nat_le, if◌then◌else◌}
use Rattle.std.specs.List.{list_all}
use Rattle.std.proofs.lemmas.List.{take-map, drop-map, length-map, map-append, take-append-drop, length-take-le, at_drop_more}
use Rattle.std.proofs.lemmas.List.Sums.{fold_more}
use Rattle.std.proofs.lemmas.List.Folds.{list_all-append}
use Rattle.lk_val.specs.Values.{is_null}
use Rattle.lk_val.specs.declared.value.Value.{Value}
use Rattle.lk_val.specs.declared.value.Value.TheVariants as value
use Rattle.lk_postfix.specs.Postfix.{operands, replaced, after_node, after_nodes, depth_after}
use Rattle.lk_types.specs.Dates.{is_dated, is_row_dated}
use Rattle.lk_types.specs.Expressions.{first_known, is_true}
use Rattle.lk_types.specs.FormulaNodes.{arity}
use Rattle.lk_types.specs.declared.rows.Joined.{Joined}
use Rattle.lk_types.specs.declared.expr.Node.{Node}
use Rattle.lk_types.specs.declared.expr.Node.TheVariants as node
use Rattle.lk_eval.specs.NodeValues.{operand, first_chosen, value_made, is_node_dated}
use Rattle.lk_eval.proofs.DateLaws.{timeframe-dated, truth-dated, arithmetic-dated, negated-dated, choice-dated, concat-dated, letters-dated, cell-dated, part-dated, and_left, and_right}

-- ---- what a node makes is dated

chosen-dated : (vs : List Value) → list_all is_dated vs ≡ true → is_dated (first_chosen vs) ≡ true
chosen-dated [] h = refl
chosen-dated (a ∷ []) h = and_left (is_dated a) true h
chosen-dated (c ∷ a ∷ vs) h =
    let rest = and_right (is_dated c) (is_dated a && list_all is_dated vs) h in
    choice-dated (is_true c) a (first_chosen vs) (and_left (is_dated a) (list_all is_dated vs) rest) (chosen-dated vs (and_right (is_dated a) (list_all is_dated vs) rest))

known-dated : (vs : List Value) → list_all is_dated vs ≡ true → is_dated (first_known vs) ≡ true
known-dated [] h = refl
known-dated (v ∷ vs) h =
    choice-dated (is_null v) (first_known vs) v (known-dated vs (and_right (is_dated v) (list_all is_dated vs) h)) (and_left (is_dated v) (list_all is_dated vs) h)

pub made-dated : (row : Joined) (n : Node) (vs : List Value) → is_row_dated row ≡ true → is_node_dated n ≡ true → list_all is_dated vs ≡ true → is_dated (value_made row n vs) ≡ true
made-dated row (node.Column part column) vs r n h = part-dated row.parts part column r
made-dated row (node.Literal v) vs r n h = n
made-dated row (node.Framed f) vs r n h = timeframe-dated f (operand vs 0) (cell-dated vs 0 h)
made-dated row node.Not vs r n h = truth-dated _
made-dated row node.And vs r n h = truth-dated _
made-dated row node.Or vs r n h = truth-dated _
made-dated row (node.Compare c) vs r n h = truth-dated _
made-dated row node.IsNull vs r n h = refl
made-dated row (node.In count) vs r n h = truth-dated _
made-dated row node.Between vs r n h = truth-dated _
made-dated row (node.Like pieces) vs r n h = truth-dated _
made-dated row (node.Number op) vs r n h = arithmetic-dated op (operand vs 0) (operand vs 1)
made-dated row node.Negate vs r n h = negated-dated (operand vs 0)
made-dated row node.Concat vs r n h = concat-dated (operand vs 0) (operand vs 1)
made-dated row (node.Case count) vs r n h = chosen-dated vs h
made-dated row (node.Coalesce count) vs r n h = known-dated vs h
made-dated row node.NullIf vs r n h = choice-dated _ value.Null (operand vs 0) refl (cell-dated vs 0 h)
made-dated row node.Lower vs r n h = letters-dated _ (operand vs 0)
made-dated row node.Upper vs r n h = letters-dated _ (operand vs 0)

-- ---- the stack

test_of_true : (m n : ℕ) → nat_le m n ≡ true → m ≤ n
test_of_true m n h = grind arith

if_some : {A : Type 0} (b : Bool) (x : Option A) (e : A) → (if b then x else None) ≡ Some e → (b ≡ true) × (x ≡ Some e)
if_some true x e h = (refl, h)
if_some false x e h = cc

-- a node has its operands, and the rest goes on from what it leaves
pub depth_here : (d e : ℕ) (n : Node) (ns : List Node) → depth_after arity d (n ∷ ns) ≡ Some e → (arity n ≤ d) × (depth_after arity ((d - arity n) + 1) ns ≡ Some e)
depth_here d e n ns h =
    let parts = if_some (nat_le (arity n) d) (depth_after arity ((d - arity n) + 1) ns) e h in
    (test_of_true (arity n) d parts.0, parts.1)

-- the same at a place of a list
pub depth_at : (d e : ℕ) (ns : List Node) (i : ℕ) (n : Node) → i < length ns → n ≡ get_or ns i n → depth_after arity d (drop i ns) ≡ Some e → (arity n ≤ d) × (depth_after arity ((d - arity n) + 1) (drop (i + 1) ns) ≡ Some e)
depth_at d e ns i n lt is h =
    depth_here d e n (drop (i + 1) ns)
    (ap (λ m. depth_after arity d (m ∷ drop (i + 1) ns)) is ∙ sym (at_drop_more (depth_after arity d) ns i n lt) ∙ h)

module _ {T : Type 0} (f : T → Value) where
  pub tops : (k : ℕ) (stack : List T) → map f (operands k stack) ≡ operands k (map f stack)
  tops k stack = sym (ap (λ m. drop (m - k) (map f stack)) (length-map stack f) ∙ drop-map f (length stack - k) stack)

  pub puts : (k : ℕ) (m : T) (stack : List T) → map f (replaced k m stack) ≡ replaced k (f m) (map f stack)
  puts k m stack =
      map-append f (take (length stack - k) stack) (m ∷ [])
      ∙ ap (λ s. s ++ f m ∷ []) (sym (take-map f (length stack - k) stack))
      ∙ ap (λ n. take (n - k) (map f stack) ++ f m ∷ []) (sym (length-map stack f))

  pub tops-dated : (k : ℕ) (stack : List T) → list_all is_dated (map f stack) ≡ true → list_all is_dated (map f (operands k stack)) ≡ true
  tops-dated k stack h =
      let cut = length (map f stack) - k in
      ap (list_all is_dated) (tops k stack)
      ∙ and_right (list_all is_dated (take cut (map f stack))) (list_all is_dated (drop cut (map f stack)))
      (sym (list_all-append is_dated (take cut (map f stack)) (drop cut (map f stack))) ∙ ap (list_all is_dated) (take-append-drop cut (map f stack)) ∙ h)

  pub puts-dated : (k : ℕ) (m : T) (stack : List T) → list_all is_dated (map f stack) ≡ true → is_dated (f m) ≡ true → list_all is_dated (map f (replaced k m stack)) ≡ true
  puts-dated k m stack h d =
      let cut = length (map f stack) - k in
      let low = and_left (list_all is_dated (take cut (map f stack))) (list_all is_dated (drop cut (map f stack)))
      (sym (list_all-append is_dated (take cut (map f stack)) (drop cut (map f stack))) ∙ ap (list_all is_dated) (take-append-drop cut (map f stack)) ∙ h) in
      ap (list_all is_dated) (puts k m stack)
      ∙ list_all-append is_dated (take cut (map f stack)) (f m ∷ [])
      ∙ (λ i. low i && (d i && true))

pub length-puts : {T : Type 0} (k : ℕ) (m : T) (stack : List T) → length (replaced k m stack) ≡ (length stack - k) + 1
length-puts k m stack = omega (arith, length-append (take (length stack - k) stack) (m ∷ []), length-take-le (length stack - k) stack (omega arith))

-- one more node
pub node_more : (row : Joined) (ns : List Node) (i : ℕ) (n : Node) → i < length ns → n ≡ get_or ns i n → after_nodes arity (value_made row) [] (take (i + 1) ns) ≡ after_node arity (value_made row) (after_nodes arity (value_made row) [] (take i ns)) n
node_more row ns i n lt is =
    fold_more (after_node arity (value_made row)) [] ns i n lt
    ∙ ap (after_node arity (value_made row) (after_nodes arity (value_made row) [] (take i ns))) (sym is)

-- each node is dated where all are
pub node_dated : (ns : List Node) (i : ℕ) (n : Node) → i < length ns → n ≡ get_or ns i n → list_all is_node_dated ns ≡ true → is_node_dated n ≡ true
node_dated ns i n lt is h = ap is_node_dated is ∙ of_all ns i n lt h
  where
    of_all : (ns : List Node) (i : ℕ) (d : Node) → i < length ns → list_all is_node_dated ns ≡ true → is_node_dated (get_or ns i d) ≡ true
    of_all [] i d lt h = absurd (omega arith)
    of_all (m ∷ ns) zero d lt h = and_left (is_node_dated m) (list_all is_node_dated ns) h
    of_all (m ∷ ns) (suc i) d lt h = of_all ns i d (omega arith) (and_right (is_node_dated m) (list_all is_node_dated ns) h)
