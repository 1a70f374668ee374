-- Calculations put into each other: node by node, and that they calculate the same.
use Rattle.std.proofs.Common.{◌≡◌, ℕ, zero, suc, ◌+◌, ◌-◌, ◌<◌, ◌≤◌, Bool, true, false, ◌||◌, List, [], ◌∷◌, ◌++◌, length, take, drop, map, get_or, Option, Some, None, refl, sym, ap, ◌∙◌, subst, arith, length-append}
use Rattle.std.specs.Prelude.{nat_le, if◌then◌else◌, option_and_then, is_some, IfSome}
use Rattle.std.specs.List.{list_any}
use Rattle.std.proofs.lemmas.Bool.{false≢true}
use Rattle.std.proofs.lemmas.List.{length-map, take-map, drop-map, map-append, take-append-drop, length-take-le, length-drop, at_drop_more}
use Rattle.std.proofs.lemmas.List.Sums.{fold_more}
use Rattle.lk_val.specs.Fractions.{Fraction, frac_neg}
use Rattle.lk_val.specs.declared.cell.Cell.{Cell}
use Rattle.lk_postfix.specs.Postfix.{after_nodes, after_node, replaced, operands, depth_after, is_whole, Builds}
use Rattle.lk_postfix.proofs.PostfixLaws.{Builds-append, Builds-node, Builds-whole}
use Rattle.lk_types.specs.Calculation.{Calculation, OfMeasure, Number, Apply, Negate, Coalesce, NullIf, Calculations, no_more, more}
use Rattle.lk_types.specs.CalculationNodes.{arity, made, calculation_of, calculations_of, operand}
use Rattle.lk_types.specs.declared.explore.Explore.{Explore}
use Rattle.lk_types.specs.declared.number.NumNode.{NumNode}
use Rattle.lk_types.specs.declared.number.NumNode.TheVariants as node
use Rattle.lk_semantics.specs.Answers.{applied, are_equal, calculated, cell_of_frac, cell_within, first_calculated, frac_of_cell, measure_at, or_calculated, or_else, with_both}
use Rattle.lk_lines.specs.Nesting.{is_number, number_at, or_itself, put_in, put_in_all, put_in_times}

-- ---- node by node

module _ (x : Explore) where
  in_place : (ts : List Calculation) (i : ℕ) → put_in x (operand ts i) ≡ operand (map (put_in x) ts) i
  in_place [] i = refl
  in_place (t ∷ ts) zero = refl
  in_place (t ∷ ts) (suc i) = in_place ts i

  in_all : (ts : List Calculation) → put_in_all x (calculations_of ts) ≡ calculations_of (map (put_in x) ts)
  in_all [] = refl
  in_all (t ∷ ts) = ap (more (put_in x t)) (in_all ts)

  -- a node that is no `number` stays
  does_other : (n : NumNode) (ts : List Calculation) → number_at x n ≡ None → put_in x (made n ts) ≡ made n (map (put_in x) ts)
  does_other (node.Measure m) ts none = ap (or_itself m) none
  does_other (node.Literal v) ts none = refl
  does_other (node.Number op) ts none = λ i. Apply op (in_place ts 0 i) (in_place ts 1 i)
  does_other node.Negate ts none = ap Negate (in_place ts 0)
  does_other (node.Coalesce count) ts none = ap Coalesce (in_all ts)
  does_other node.NullIf ts none = λ i. NullIf (in_place ts 0 i) (in_place ts 1 i)

  take_all : {A : Type 0} (xs : List A) → take (length xs) xs ≡ xs
  take_all [] = refl
  take_all (y ∷ ys) = ap (λ zs. y ∷ zs) (take_all ys)

  -- in place of a `number` stands its calculation
  does_number : (n : NumNode) (e : Calculation) (stack : List Calculation) → number_at x n ≡ Some e → map (put_in x) (after_node arity made stack n) ≡ map (put_in x) stack ++ e ∷ []
  does_number (node.Measure m) e stack some =
      let whole : length stack - 0 ≡ length stack = omega arith in
      map-append (put_in x) (take (length stack - 0) stack) (OfMeasure m ∷ [])
      ∙ (λ i. map (put_in x) (take (whole i) stack) ++ or_itself m (some i) ∷ [])
      ∙ ap (λ s. map (put_in x) s ++ e ∷ []) (take_all stack)
  does_number n e stack some = cc

  -- the nodes of a `number` behind some
  pub adds_number : (out ms : List NumNode) (n : NumNode) (e : Calculation) (stack : List Calculation) → number_at x n ≡ Some e → calculation_of ms ≡ e → is_whole arity ms ≡ true
      → Builds arity made out (map (put_in x) stack) → Builds arity made (out ++ ms) (map (put_in x) (after_node arity made stack n))
  adds_number out ms n e stack some is whole b =
      subst (λ ts. Builds arity made (out ++ ms) ts)
      (ap (λ t. map (put_in x) stack ++ t ∷ []) is ∙ sym (does_number n e stack some))
      (Builds-append arity made b (Builds-whole arity made ms (Coalesce no_more) whole))

  -- any other node behind some
  pub adds_other : (out : List NumNode) (n : NumNode) (stack : List Calculation) → number_at x n ≡ None → arity n ≤ length stack
      → Builds arity made out (map (put_in x) stack) → Builds arity made (out ++ n ∷ []) (map (put_in x) (after_node arity made stack n))
  adds_other out n stack none within b =
      let k = length stack - arity n in
      let us = drop k stack in
      let parts : map (put_in x) stack ≡ map (put_in x) (take k stack) ++ map (put_in x) us =
      ap (map (put_in x)) (sym (take-append-drop k stack)) ∙ map-append (put_in x) (take k stack) us in
      let many : length (map (put_in x) us) ≡ arity n = length-map us (put_in x) ∙ omega (arith, length-drop k stack) in
      subst (λ ts. Builds arity made (out ++ n ∷ []) ts)
      (ap (λ t. map (put_in x) (take k stack) ++ t ∷ []) (sym (does_other n us none)) ∙ sym (map-append (put_in x) (take k stack) (made n us ∷ [])))
      (Builds-node arity made (map (put_in x) (take k stack)) (map (put_in x) us) n (subst (λ ts. Builds arity made out ts) parts b) many)

  -- the trees of the first nodes
  abbrev pub trees : ℕ → List NumNode → List Calculation
  trees i ns = after_nodes arity made [] (take i ns)

  pub trees_more : (ns : List NumNode) (i : ℕ) (n : NumNode) → i < length ns → n ≡ get_or ns i n → trees (i + 1) ns ≡ after_node arity made (trees i ns) n
  trees_more ns i n lt is = fold_more (after_node arity made) [] ns i n lt ∙ ap (after_node arity made (trees i ns)) (sym is)

  -- all nodes, of which the new ones build the one tree
  pub trees_all : (ns out : List NumNode) (i : ℕ) → length ns ≤ i → is_whole arity ns ≡ true → Builds arity made out (map (put_in x) (trees i ns)) → Builds arity made out (put_in x (calculation_of ns) ∷ [])
  trees_all ns out i past whole b =
      subst (λ ts. Builds arity made out (map (put_in x) ts)) (ap (after_nodes arity made []) (take_past ns i past) ∙ (Builds-whole arity made ns (Coalesce no_more) whole).stack) b
    where
      take_past : (ms : List NumNode) (i : ℕ) → length ms ≤ i → take i ms ≡ ms
      take_past [] zero h = refl
      take_past [] (suc i) h = refl
      take_past (m ∷ ms) zero h = absurd (omega arith)
      take_past (m ∷ ms) (suc i) h = ap (λ s. m ∷ s) (take_past ms i (omega arith))

if_some : {A : Type 0} (b : Bool) (x : Option A) (e : A) → (if b then x else None) ≡ Some e → (b ≡ true) × (x ≡ Some e)
if_some true x e h = (refl, h)
if_some false x e h = cc

test_of_true : (m n : ℕ) → nat_le m n ≡ true → m ≤ n
test_of_true m n h = grind arith

-- a node has its operands, and the rest goes on from what it leaves
pub depth_at : (stack : List Calculation) (e : ℕ) (ns : List NumNode) (i : ℕ) (n : NumNode) → i < length ns → n ≡ get_or ns i n → depth_after arity (length stack) (drop i ns) ≡ Some e
    → (arity n ≤ length stack) × (depth_after arity (length (after_node arity made stack n)) (drop (i + 1) ns) ≡ Some e)
depth_at stack e ns i n lt is h =
    let rest = drop (i + 1) ns in
    let d = length stack in
    let here : depth_after arity d (n ∷ rest) ≡ Some e = ap (λ m. depth_after arity d (m ∷ rest)) is ∙ sym (at_drop_more (depth_after arity d) ns i n lt) ∙ h in
    let parts = if_some (nat_le (arity n) d) (depth_after arity ((d - arity n) + 1) rest) e here in
    let many : length (after_node arity made stack n) ≡ (d - arity n) + 1 = length-puts (arity n) (made n (operands (arity n) stack)) in
    (test_of_true (arity n) d parts.0, ap (λ m. depth_after arity m rest) many ∙ parts.1)
  where
    length-puts : (k : ℕ) (m : Calculation) → length (replaced k m stack) ≡ (length stack - k) + 1
    length-puts k m = omega (arith, length-append (take (length stack - k) stack) (m ∷ []), length-take-le (length stack - k) stack (omega arith))

pub value_some : {A : Type 0} {e : A} (o : Option A) (a : A) → o ≡ Some a → IfSome o (λ b. b ≡ e) → a ≡ e
value_some {e = e} o a is h = subst (λ p. IfSome p (λ b. b ≡ e)) is h

same_at : {A : Type 0} (xs : List A) (i : ℕ) (d e : A) → i < length xs → get_or xs i d ≡ get_or xs i e
same_at [] i d e lt = absurd (omega arith)
same_at (y ∷ ys) zero d e lt = refl
same_at (y ∷ ys) (suc i) d e lt = same_at ys i d e (omega arith)

-- one more node of a list
pub next_node : (x : Explore) (ns out more_out : List NumNode) (i : ℕ) (d : NumNode) → i < length ns
    → ((stack : List Calculation) → arity (get_or ns i d) ≤ length stack → Builds arity made out (map (put_in x) stack) → Builds arity made more_out (map (put_in x) (after_node arity made stack (get_or ns i d))))
    → Builds arity made out (map (put_in x) (trees x i ns)) → depth_after arity (length (trees x i ns)) (drop i ns) ≡ Some 1
    → Builds arity made more_out (map (put_in x) (trees x (i + 1) ns)) × (depth_after arity (length (trees x (i + 1) ns)) (drop (i + 1) ns) ≡ Some 1)
next_node x ns out more_out i d lt adds built left =
    let n = get_or ns i d in
    let is : n ≡ get_or ns i n = same_at ns i d n lt in
    let here = depth_at (trees x i ns) 1 ns i n lt is left in
    let next : after_node arity made (trees x i ns) n ≡ trees x (i + 1) ns = sym (trees_more x ns i n lt is) in (
      subst (λ ts. Builds arity made more_out (map (put_in x) ts)) next (adds (trees x i ns) here.0 built),
      ap (λ ts. depth_after arity (length ts) (drop (i + 1) ns)) (sym next) ∙ here.1,
    )

-- ---- without a `number`

or_left : (a b : Bool) → (a || b) ≡ false → (a ≡ false) × (b ≡ false)
or_left true b h = absurd (false≢true (sym h))
or_left false b h = (refl, h)

none_of : {A : Type 0} (o : Option A) → is_some o ≡ false → o ≡ None
none_of None h = refl
none_of (Some a) h = absurd (false≢true (sym h))

module _ (x : Explore) where
  operands-in : (k : ℕ) (stack : List Calculation) → operands k (map (put_in x) stack) ≡ map (put_in x) (operands k stack)
  operands-in k stack = ap (λ m. drop (m - k) (map (put_in x) stack)) (length-map stack (put_in x)) ∙ drop-map (put_in x) (length stack - k) stack

  replaced-in : (k : ℕ) (t : Calculation) (stack : List Calculation) → replaced k (put_in x t) (map (put_in x) stack) ≡ map (put_in x) (replaced k t stack)
  replaced-in k t stack =
      ap (λ m. take (m - k) (map (put_in x) stack) ++ put_in x t ∷ []) (length-map stack (put_in x))
      ∙ ap (λ s. s ++ put_in x t ∷ []) (take-map (put_in x) (length stack - k) stack)
      ∙ sym (map-append (put_in x) (take (length stack - k) stack) (t ∷ []))

  node_stays : (stack : List Calculation) (n : NumNode) → number_at x n ≡ None → after_node arity made (map (put_in x) stack) n ≡ map (put_in x) (after_node arity made stack n)
  node_stays stack n none =
      ap (λ ts. replaced (arity n) (made n ts) (map (put_in x) stack)) (operands-in (arity n) stack)
      ∙ ap (λ t. replaced (arity n) t (map (put_in x) stack)) (sym (does_other x n (operands (arity n) stack) none))
      ∙ replaced-in (arity n) (made n (operands (arity n) stack)) stack

  nodes_stay : (stack : List Calculation) (ns : List NumNode) → list_any (is_number x) ns ≡ false → after_nodes arity made (map (put_in x) stack) ns ≡ map (put_in x) (after_nodes arity made stack ns)
  nodes_stay stack [] h = refl
  nodes_stay stack (n ∷ ns) h =
      let parts = or_left (is_number x n) (list_any (is_number x) ns) h in
      ap (λ s. after_nodes arity made s ns) (node_stays stack n (none_of (number_at x n) parts.0))
      ∙ nodes_stay (after_node arity made stack n) ns parts.1

  -- nothing changes
  pub put_in-same : (ns : List NumNode) → list_any (is_number x) ns ≡ false → put_in x (calculation_of ns) ≡ calculation_of ns
  put_in-same ns h = in_place x (after_nodes arity made [] ns) 0 ∙ ap (λ ts. operand ts 0) (sym (nodes_stay [] ns h))

-- ---- times

pub times_same : (x : Explore) (n : ℕ) (e : Calculation) → put_in x e ≡ e → put_in_times x n e ≡ e
times_same x zero e same = refl
times_same x (suc n) e same = ap (put_in_times x n) same ∙ times_same x n e same

pub times_step : (x : Explore) (most counter : ℕ) (e : Calculation) → counter < most → put_in_times x (most - (counter + 1)) (put_in x e) ≡ put_in_times x (most - counter) e
times_step x most counter e lt =
    let one : suc (most - (counter + 1)) ≡ most - counter = omega arith in
    ap (λ n. put_in_times x n e) one

-- ---- what is calculated

frac_back : (f : Option Fraction) → frac_of_cell (cell_of_frac f) ≡ f
frac_back None = refl
frac_back (Some f) = refl

module _ (x : Explore) (known : ℕ → Cell) where
  abbrev pub value_within : ℕ → ℕ → Option Fraction
  value_within n m = frac_of_cell (cell_within x n known m)

  pub plain : (n m : ℕ) → (measure_at x m).number ≡ None → cell_within x n known m ≡ known m
  plain zero m none = refl
  plain (suc n) m none = ap (or_calculated (known m) (value_within n)) none

  at_measure : (n m : ℕ) → value_within (suc n) m ≡ calculated (value_within n) (or_itself m (measure_at x m).number)
  at_measure n m =
      elim (measure_at x m).number as (λ o. (measure_at x m).number ≡ o → frac_of_cell (or_calculated (known m) (value_within n) o) ≡ calculated (value_within n) (or_itself m o)) [
        | None ↦ λ none. ap frac_of_cell (sym (plain n m none))
        | Some e ↦ λ some. frac_back (calculated (value_within n) e)
      ] refl

  mutual
    -- one more round calculates what is put in
    within_put : (n : ℕ) (e : Calculation) → calculated (value_within (suc n)) e ≡ calculated (value_within n) (put_in x e)
    within_put n (OfMeasure m) = at_measure n m
    within_put n (Number v) = refl
    within_put n (Apply op a b) = λ i. with_both (applied op) (within_put n a i) (within_put n b i)
    within_put n (Negate a) = ap (option_and_then frac_neg) (within_put n a)
    within_put n (Coalesce xs) = within_all n xs
    within_put n (NullIf a b) = λ i. if are_equal (within_put n a i) (within_put n b i) then None else within_put n a i

    within_all : (n : ℕ) (xs : Calculations) → first_calculated (value_within (suc n)) xs ≡ first_calculated (value_within n) (put_in_all x xs)
    within_all n no_more = refl
    within_all n (more a xs) = λ i. or_else (within_put n a i) (within_all n xs i)

  -- through so many rounds, what is put in so many times, over the components
  pub within_times : (n : ℕ) (e : Calculation) → calculated (value_within n) e ≡ calculated (λ m. frac_of_cell (known m)) (put_in_times x n e)
  within_times zero e = refl
  within_times (suc n) e = within_put n e ∙ within_times n (put_in x e)
