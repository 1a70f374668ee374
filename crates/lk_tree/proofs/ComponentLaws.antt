-- The measures of a calculation are those of its nodes, and each number is kept once.
use Rattle.std.proofs.Common.{◌≡◌, ◌≤◌, ◌<◌, ℕ, zero, suc, ◌+◌, Some, drop, Bool, true, false, cond, not, ◌&&◌, ◌||◌, List, [], ◌∷◌, ◌++◌, length, refl, sym, ap, ◌∙◌, append_assoc, append-nil, arith}
use Rattle.std.specs.Prelude.{filter, flat_map, if◌then◌else◌, nat_eq, slice_index_or}
use Rattle.std.proofs.lemmas.Bool.{eqb-true}
use Rattle.std.proofs.lemmas.List.Folds.{list_any-append}
use Rattle.lk_postfix.specs.Postfix.{is_whole, gathered}
use Rattle.lk_postfix.proofs.PostfixLaws.{Builds-whole, gathered-Builds}
use Rattle.lk_types.specs.Calculation.{Calculation, Coalesce, no_more}
use Rattle.lk_types.specs.CalculationNodes.{arity, made, calculation_of, calculations_of, operand}
use Rattle.lk_types.specs.Expressions.{has_number}
use Rattle.lk_types.specs.declared.number.NumNode.{NumNode}
use Rattle.lk_types.specs.declared.number.NumNode.TheVariants as node
use Rattle.lk_semantics.specs.Answers.{first_each, measure_at, measures_in, measures_in_all, or_parts, parts_of_measure}
use Rattle.lk_types.specs.declared.explore.Explore.{Explore}
use Rattle.lk_tree.specs.Components.{node_measures}

-- ---- the measures of a calculation

abbrev all_in : List Calculation → List ℕ
all_in ts = gathered ◌++◌ [] measures_in ts

none_more : (us : List ℕ) → us ++ [] ≡ us
none_more us = append-nil us

one_in : (ts : List Calculation) → length ts ≡ 1 → measures_in (operand ts 0) ≡ all_in ts ++ []
one_in [] h = absurd (omega arith)
one_in (a ∷ []) h = sym (none_more (measures_in a ++ []) ∙ none_more (measures_in a))
one_in (a ∷ b ∷ ts) h = absurd (omega arith)

two_in : (ts : List Calculation) → length ts ≡ 2 → measures_in (operand ts 0) ++ measures_in (operand ts 1) ≡ all_in ts ++ []
two_in [] h = absurd (omega arith)
two_in (a ∷ []) h = absurd (omega arith)
two_in (a ∷ b ∷ []) h = sym (none_more (measures_in a ++ (measures_in b ++ [])) ∙ ap (λ us. measures_in a ++ us) (none_more (measures_in b)))
two_in (a ∷ b ∷ c ∷ ts) h = absurd (omega arith)

all_of : (ts : List Calculation) → measures_in_all (calculations_of ts) ≡ all_in ts
all_of [] = refl
all_of (a ∷ ts) = ap (λ us. measures_in a ++ us) (all_of ts)

does : (n : NumNode) (ts : List Calculation) → length ts ≡ arity n → measures_in (made n ts) ≡ all_in ts ++ node_measures n
does (node.Measure m) [] h = refl
does (node.Measure m) (t ∷ ts) h = absurd (omega arith)
does (node.Literal v) [] h = refl
does (node.Literal v) (t ∷ ts) h = absurd (omega arith)
does (node.Number op) ts h = two_in ts h
does node.Negate ts h = one_in ts h
does (node.Coalesce count) ts h = all_of ts ∙ sym (none_more (all_in ts))
does node.NullIf ts h = two_in ts h

each_node : (nodes : List NumNode) → gathered ◌++◌ [] node_measures nodes ≡ flat_map node_measures nodes
each_node [] = refl
each_node (n ∷ nodes) = ap (λ us. node_measures n ++ us) (each_node nodes)

pub measures-nodes : (nodes : List NumNode) → is_whole arity nodes ≡ true → flat_map node_measures nodes ≡ measures_in (calculation_of nodes)
measures-nodes nodes h =
    sym (each_node nodes)
    ∙ sym (gathered-Builds arity made ◌++◌ [] append_assoc (λ us. refl) append-nil measures_in node_measures does (Builds-whole arity made nodes (Coalesce no_more) h))
    ∙ append-nil (measures_in (calculation_of nodes))

-- ---- each number once

filter_both : (p q r : ℕ → Bool) → ((m : ℕ) → (p m && q m) ≡ r m) → (ns : List ℕ) → filter p (filter q ns) ≡ filter r ns
filter_both p q r same [] = refl
filter_both p q r same (n ∷ ns) =
    elim (q n) as (λ b. q n ≡ b → filter p (cond b (n ∷ filter q ns) (filter q ns)) ≡ cond (r n) (n ∷ filter r ns) (filter r ns)) [
      | true ↦ λ qn. (λ i. cond (kept qn i) (n ∷ filter_both p q r same ns i) (filter_both p q r same ns i))
      | false ↦ λ qn. filter_both p q r same ns ∙ ap (λ b. cond b (n ∷ filter r ns) (filter r ns)) (sym (dropped qn))
    ] refl
  where
    and_true : (b : Bool) → (b && true) ≡ b
    and_true true = refl
    and_true false = refl

    and_false : (b : Bool) → (b && false) ≡ false
    and_false true = refl
    and_false false = refl

    kept : q n ≡ true → p n ≡ r n
    kept qn = sym (and_true (p n)) ∙ ap (λ b. p n && b) (sym qn) ∙ same n

    dropped : q n ≡ false → r n ≡ false
    dropped qn = sym (same n) ∙ ap (λ b. p n && b) qn ∙ and_false (p n)

-- what is not among some
abbrev pub is_new : List ℕ → ℕ → Bool
is_new first m = not (has_number m first)

-- those found so far, and what is new behind them
abbrev pub found_first : List ℕ → List ℕ → List ℕ
found_first first rest = first ++ filter (is_new first) (first_each rest)

old_too : (first : List ℕ) (n : ℕ) → has_number n first ≡ true → (m : ℕ) → (is_new first m && not (nat_eq m n)) ≡ is_new first m
old_too first n old m = elim (nat_eq m n) as (λ b. nat_eq m n ≡ b → (is_new first m && not b) ≡ is_new first m) [
  | true ↦ λ is. ap (λ b. not b && false) (at is) ∙ ap not (sym (at is))
  | false ↦ λ _. and_true (is_new first m)
] refl
  where
    at : nat_eq m n ≡ true → has_number m first ≡ true
    at is = ap (λ k. has_number k first) (eqb-true m n is) ∙ old

    and_true : (b : Bool) → (b && true) ≡ b
    and_true true = refl
    and_true false = refl

new_too : (first : List ℕ) (n m : ℕ) → (is_new first m && not (nat_eq m n)) ≡ is_new (first ++ n ∷ []) m
new_too first n m = sym (ap not (list_any-append (nat_eq m) first (n ∷ [])) ∙ both (has_number m first) (nat_eq m n))
  where
    both : (a b : Bool) → not (a || (b || false)) ≡ (not a && not b)
    both true true = refl
    both true false = refl
    both false true = refl
    both false false = refl

-- what stands behind a number, without it
abbrev others : ℕ → List ℕ → List ℕ
others n rest = filter (λ m. not (nat_eq m n)) (first_each rest)

-- one number more
pub found_more : (first : List ℕ) (n : ℕ) (rest : List ℕ) → found_first first (n ∷ rest) ≡ found_first (first ++ (if has_number n first then [] else n ∷ [])) rest
found_more first n rest =
    elim (has_number n first) as (λ b. has_number n first ≡ b → first ++ cond (not b) (n ∷ filter (is_new first) (others n rest)) (filter (is_new first) (others n rest)) ≡ found_first (first ++ (if b then [] else n ∷ [])) rest) [
      | true ↦ λ old.
          ap (λ us. first ++ us) (filter_both (is_new first) (λ m. not (nat_eq m n)) (is_new first) (old_too first n old) (first_each rest))
          ∙ ap (λ us. found_first us rest) (sym (append-nil first))
      | false ↦ λ _.
          sym (append_assoc first (n ∷ []) (filter (is_new first) (others n rest)))
          ∙ ap (λ us. (first ++ n ∷ []) ++ us) (filter_both (is_new first) (λ m. not (nat_eq m n)) (is_new (first ++ n ∷ [])) (new_too first n) (first_each rest))
    ] refl

no_number : (m : ℕ) (ns : List ℕ) → filter (is_new []) ns ≡ ns
no_number m [] = refl
no_number m (n ∷ ns) = ap (λ us. n ∷ us) (no_number m ns)

pub found_all : (ns : List ℕ) → found_first [] ns ≡ first_each ns
found_all ns = no_number 0 (first_each ns)

pub drop_past : {A : Type 0} (xs : List A) (n : ℕ) → length xs ≤ n → drop n xs ≡ []
drop_past [] zero past = refl
drop_past [] (suc n) past = refl
drop_past (x ∷ xs) zero past = absurd (omega (arith, past))
drop_past (x ∷ xs) (suc n) past = drop_past xs n (omega (arith, past))

-- what a `number` is put together from, through one more
pub parts_within : (x : Explore) (most n m : ℕ) (number : Calculation) → most ≡ suc n → (measure_at x m).number ≡ Some number → flat_map (parts_of_measure x n) (measures_in number) ≡ parts_of_measure x most m
parts_within x most n m number is has = sym (ap (λ k. parts_of_measure x k m) is ∙ ap (or_parts m (parts_of_measure x n)) has)

-- the items from a place on
pub drop_next : {A : Type 0} (xs : List A) (k : ℕ) (d : A) → k < length xs → drop k xs ≡ slice_index_or xs k d ∷ drop (suc k) xs
drop_next [] k d within = absurd (omega (arith, within))
drop_next (x ∷ xs) zero d within = refl
drop_next (x ∷ xs) (suc k) d within = drop_next xs k d (omega (arith, within))

-- those found so far, and what is new from the next number on
pub found_next : (first numbers : List ℕ) (k : ℕ) → k < length numbers → found_first (first ++ (if has_number (slice_index_or numbers k 0) first then [] else slice_index_or numbers k 0 ∷ [])) (drop (k + 1) numbers) ≡ found_first first (drop k numbers)
found_next first numbers k within =
    let next : k + 1 ≡ suc k = omega arith in
    let n = slice_index_or numbers k 0 in
    ap (λ m. found_first (first ++ (if has_number n first then [] else n ∷ [])) (drop m numbers)) next
    ∙ sym (found_more first n (drop (suc k) numbers))
    ∙ ap (found_first first) (sym (drop_next numbers k 0 within))
