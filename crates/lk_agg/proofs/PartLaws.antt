-- What some of the rows give is a part of what all give, and as regular.
use Rattle.std.proofs.Common.{◌≡◌, ℕ, Bool, true, false, cond, not, List, [], ◌∷◌, map, refl, sym, ap, ◌∙◌}
use Rattle.std.specs.Prelude.{filter, ◌||◌, ◌&&◌, is_some}
use Rattle.std.specs.List.{list_all, list_any}
use Rattle.std.proofs.lemmas.Bool.{false≢true}
use Rattle.lk_val.specs.Distinct.{do_differ}
use Rattle.lk_val.specs.Values.{is_same_tuple}
use Rattle.lk_val.specs.declared.value.Value.{Value}
use Rattle.lk_semantics.specs.Measures.{Entry, entry_at, entries_of}
use Rattle.lk_types.specs.declared.answer.GivenRow.{GivenRow}
use Rattle.lk_agg.specs.Regular.{is_regular, is_same_place, counted}

-- the first list is the second without some of its items
pub data IsPart {A : Type 0} : List A → List A → Type 0 where
  none : IsPart [] []
  keep : {xs ys : List A} → (x : A) → IsPart xs ys → IsPart (x ∷ xs) (x ∷ ys)
  skip : {xs ys : List A} → (y : A) → IsPart xs ys → IsPart xs (y ∷ ys)

pub and_first : (a b : Bool) → (a && b) ≡ true → a ≡ true
and_first true b e = refl
and_first false b e = e

pub and_second : (a b : Bool) → (a && b) ≡ true → b ≡ true
and_second true b e = e
and_second false b e = absurd (false≢true e)

pub or_first_false : (a b : Bool) → (a || b) ≡ false → a ≡ false
or_first_false true b e = e
or_first_false false b e = refl

pub or_second_false : (a b : Bool) → (a || b) ≡ false → b ≡ false
or_second_false true b e = absurd (false≢true (sym e))
or_second_false false b e = e

pub not_true : (b : Bool) → not b ≡ true → b ≡ false
not_true true e = absurd (false≢true e)
not_true false e = refl

module _ {A : Type 0} where
  pub part-all : (q : A → Bool) {xs ys : List A} → IsPart xs ys → list_all q ys ≡ true → list_all q xs ≡ true
  part-all q none e = refl
  part-all q (keep {xs = xs} {ys = ys} x p) e = (λ i. and_first (q x) (list_all q ys) e i && list_all q xs) ∙ part-all q p (and_second (q x) (list_all q ys) e)
  part-all q (skip {ys = ys} y p) e = part-all q p (and_second (q y) (list_all q ys) e)

  pub part-any : (q : A → Bool) {xs ys : List A} → IsPart xs ys → list_any q ys ≡ false → list_any q xs ≡ false
  part-any q none e = refl
  part-any q (keep {xs = xs} {ys = ys} x p) e = (λ i. or_first_false (q x) (list_any q ys) e i || list_any q xs) ∙ part-any q p (or_second_false (q x) (list_any q ys) e)
  part-any q (skip {ys = ys} y p) e = part-any q p (or_second_false (q y) (list_any q ys) e)

  pub part-differ : (same : A → A → Bool) {xs ys : List A} → IsPart xs ys → do_differ same ys ≡ true → do_differ same xs ≡ true
  part-differ same none e = refl
  part-differ same (keep {xs = xs} {ys = ys} x p) e =
      let rest = not_true (list_any (same x) ys) (and_first (not (list_any (same x) ys)) (do_differ same ys) e) in
      (λ i. not (part-any (same x) p rest i) && do_differ same xs) ∙ part-differ same p (and_second (not (list_any (same x) ys)) (do_differ same ys) e)
  part-differ same (skip {ys = ys} y p) e = part-differ same p (and_second (not (list_any (same y) ys)) (do_differ same ys) e)

pub part-regular : (xs ys : List Entry) → IsPart xs ys → is_regular ys ≡ true → is_regular xs ≡ true
part-regular xs ys p e =
    elim (list_all (λ (d : Entry). is_some d.1.key) ys) as (λ b. list_all (λ (d : Entry). is_some d.1.key) ys ≡ b → (b || (list_all (λ (d : Entry). not (is_some d.1.key)) ys && do_differ is_same_place ys)) ≡ true → is_regular xs ≡ true) [
      | true ↦ λ all t. ap (λ b. b || (list_all (λ (d : Entry). not (is_some d.1.key)) xs && do_differ is_same_place xs)) (part-all (λ (d : Entry). is_some d.1.key) p all)
      | false ↦ λ all t.
          let none = part-all (λ (d : Entry). not (is_some d.1.key)) p (and_first (list_all (λ (d : Entry). not (is_some d.1.key)) ys) (do_differ is_same_place ys) t) in
          let apart = part-differ is_same_place p (and_second (list_all (λ (d : Entry). not (is_some d.1.key)) ys) (do_differ is_same_place ys) t) in
          (λ i. list_all (λ (d : Entry). is_some d.1.key) xs || (none i && apart i)) ∙ or_true (list_all (λ (d : Entry). is_some d.1.key) xs)
    ] refl e
  where
    or_true : (b : Bool) → (b || true) ≡ true
    or_true true = refl
    or_true false = refl

-- what a group's rows give is a part of what all give
pub group_part : (i : ℕ) (group : List Value) (rows : List GivenRow) → IsPart (entries_of i rows group) (counted i rows)
group_part i group [] = none
group_part i group (row ∷ rows) =
    elim (is_same_tuple row.group group) as (λ b. IsPart (filter (λ (e : Entry). e.1.counts) (map (entry_at i) (cond b (row ∷ filter (λ (r : GivenRow). is_same_tuple r.group group) rows) (filter (λ (r : GivenRow). is_same_tuple r.group group) rows)))) (cond (entry_at i row).1.counts (entry_at i row ∷ counted i rows) (counted i rows))) [
      | true ↦ elim (entry_at i row).1.counts as (λ b. IsPart (cond b (entry_at i row ∷ entries_of i rows group) (entries_of i rows group)) (cond b (entry_at i row ∷ counted i rows) (counted i rows))) [
        | true ↦ keep (entry_at i row) (group_part i group rows)
        | false ↦ group_part i group rows
      ]
      | false ↦ elim (entry_at i row).1.counts as (λ b. IsPart (entries_of i rows group) (cond b (entry_at i row ∷ counted i rows) (counted i rows))) [
        | true ↦ skip (entry_at i row) (group_part i group rows)
        | false ↦ group_part i group rows
      ]
    ]
