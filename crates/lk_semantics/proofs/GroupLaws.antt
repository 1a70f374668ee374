-- Each row is in exactly one group.
use Rattle.std.proofs.Common.{◌≡◌, ℕ, zero, suc, Bool, true, false, ◌||◌, List, [], ◌∷◌, ◌++◌, map, length, refl, sym, ap, ◌∙◌}
use Rattle.std.specs.Prelude.{if◌then◌else◌, filter}
use Rattle.std.specs.List.Sorted.{IsStrictlySortedBy}
use Rattle.std.specs.Ordering.{eq_by_cmp, is_eq}
use Rattle.std.specs.Cmp.{tied_itself}
use Rattle.std.specs.declared.cmp.Ordering.{Ordering}
use Rattle.std.proofs.lemmas.Bool.{false≢true}
use Rattle.lk_val.specs.Sets.{IsExactOrder, set_of, has}
use Rattle.lk_val.specs.Values.{tuple_cmp, is_same_tuple}
use Rattle.lk_val.specs.ValueOrder.{tuples_ordered}
use Rattle.lk_val.specs.declared.value.Value.{Value}
use Rattle.lk_val.proofs.SetLaws.{ties, has_not, has-set_of, IsStrictlySortedBy-set_of}
use Rattle.lk_semantics.specs.Measures.{groups_of}
use Rattle.lk_types.specs.declared.answer.GivenRow.{GivenRow}

or_true : (b : Bool) → (b || true) ≡ true
or_true true = refl
or_true false = refl

module _ {A : Type 0} {cmp : A → A → Ordering} (o : IsExactOrder cmp) where
  -- what no item ties with is none of them
  find_none : (x : A) (xs : List A) → has cmp x xs ≡ false → filter (eq_by_cmp cmp x) xs ≡ []
  find_none x [] h = refl
  find_none x (y ∷ ys) h =
      elim (eq_by_cmp cmp x y) as (λ b. (b || has cmp x ys) ≡ false → (if b then y ∷ filter (eq_by_cmp cmp x) ys else filter (eq_by_cmp cmp x) ys) ≡ []) [
        | true ↦ λ h. absurd (false≢true (sym h))
        | false ↦ λ h. find_none x ys h
      ] h

  -- an ascending list has an item once
  pub find_one : (x : A) (xs : List A) → IsStrictlySortedBy cmp xs → has cmp x xs ≡ true → filter (eq_by_cmp cmp x) xs ≡ x ∷ []
  unfolding IsStrictlySortedBy
  find_one x [] s h = absurd (false≢true h)
  find_one x (y ∷ ys) s h =
      elim (eq_by_cmp cmp x y) as (λ b. eq_by_cmp cmp x y ≡ b → (b || has cmp x ys) ≡ true → (if b then y ∷ filter (eq_by_cmp cmp x) ys else filter (eq_by_cmp cmp x) ys) ≡ x ∷ []) [
        | true ↦ λ e h.
            let one : x ≡ y = ties o x y e in
            λ i. sym one i ∷ find_none x ys (ap (λ z. has cmp z ys) one ∙ has_not o y ys s.0) i
        | false ↦ λ e h. find_one x ys s.1 h
      ] refl h

  itself : (x : A) (xs : List A) → has cmp x (x ∷ xs) ≡ true
  itself x xs = ap (λ r. is_eq r || has cmp x xs) (tied_itself o.total x)

  -- an item of a list ties with one of its items
  pub has_image : {R : Type 0} (f : R → A) (front rest : List R) (row : R) → has cmp (f row) (map f (front ++ row ∷ rest)) ≡ true
  has_image f [] rest row = itself (f row) (map f rest)
  has_image f (r ∷ front) rest row = ap (λ b. eq_by_cmp cmp (f row) (f r) || b) (has_image f front rest row) ∙ or_true (eq_by_cmp cmp (f row) (f r))

no_dimension : (group : List Value) → length group ≡ 0 → filter (is_same_tuple group) ([] ∷ []) ≡ group ∷ []
no_dimension [] e = refl
no_dimension (v ∷ vs) e = absurd (cc)

-- a row is in one group, and in no other
pub one_group : (dims : ℕ) (front rest : List GivenRow) (row : GivenRow) → length row.group ≡ dims
    → filter (is_same_tuple row.group) (groups_of dims (front ++ row ∷ rest)) ≡ row.group ∷ []
one_group zero front rest row e = no_dimension row.group e
one_group (suc n) front rest row e =
    let groups = map (λ (r : GivenRow). r.group) (front ++ row ∷ rest) in
    find_one tuples_ordered row.group (set_of tuple_cmp groups) (IsStrictlySortedBy-set_of tuples_ordered groups)
    (has-set_of tuples_ordered row.group groups ∙ has_image tuples_ordered (λ (r : GivenRow). r.group) front rest row)
