-- Keys one after the other: which have stood, and which stand twice.
use Rattle.std.proofs.Common.{◌≡◌, ◌≤◌, ◌+◌, ◌++◌, ◌∷◌, [], Bool, true, false, List, refl, sym, ap, ap₂, arith, ◌∙◌, cond, nat_lt}
use Rattle.std.specs.List.{count_by, list_any}
use Rattle.std.specs.Ordering.{is_eq}
use Rattle.std.specs.declared.cmp.Ordering.{Ordering}
use Rattle.std.specs.declared.cmp.Ordering.TheVariants as order
use Rattle.std.specs.Cmp.{eq_by_cmp_equiv}
use Rattle.std.proofs.lemmas.List.Folds.{list_any-append}
use Rattle.std.specs.Prelude.{◌||◌}
use Rattle.std.proofs.lemmas.Bool.{false≢true, le-ltb, lt-ltb}
use Rattle.std.proofs.lemmas.List.Sums.{sum_by-cons, sum_by_push}
use Rattle.lk_val.specs.Sets.{has}
use Rattle.lk_val.specs.Values.{is_same, value_cmp}
use Rattle.lk_val.specs.ValueOrder.{derived, values_ordered}
use Rattle.lk_val.specs.contracts.value.ValueOrd.TheImpl.{cmp-value}
use Rattle.lk_val.specs.declared.value.Value.{Value}
use Rattle.lk_table.specs.KeySets.{HasRepeated}
use Rattle.lk_table.specs.Loads.{is_repeated}

pub has_derived : (k : Value) (keys : List Value) → list_any (λ q. is_eq (cmp-value.it k q)) keys ≡ has value_cmp k keys
has_derived k keys = λ i. list_any (λ q. is_eq (derived k q i)) keys

pub or_by : (b c : Bool) → cond b true c ≡ (b || c)
or_by true c = refl
or_by false c = refl

is_equal : (o : Ordering) → is_eq o ≡ true → o ≡ order.Equal
is_equal order.Less e = cc e
is_equal order.Equal e = refl
is_equal order.Greater e = cc e

same_values : (a b : Value) → is_same a b ≡ true → a ≡ b
same_values a b e = values_ordered.exact a b (is_equal (value_cmp a b) e)

same_self : (a : Value) → is_same a a ≡ true
same_self a = (eq_by_cmp_equiv values_ordered.total).refl a

same_swapped : (a b : Value) → is_same a b ≡ false → is_same b a ≡ false
same_swapped a b e = by (is_same b a) refl
  where
    by : (t : Bool) → is_same b a ≡ t → is_same b a ≡ false
    by true f = absurd (false≢true (sym e ∙ ap (is_same a) (same_values b a f) ∙ same_self a))
    by false f = f

or_false : (a b : Bool) → (a || (b || false)) ≡ (b || a)
or_false true true = refl
or_false true false = refl
or_false false true = refl
or_false false false = refl

has_push : (k key : Value) (keys : List Value) → has value_cmp k (keys ++ key ∷ []) ≡ (is_same k key || has value_cmp k keys)
has_push k key keys = list_any-append (is_same k) keys (key ∷ []) ∙ or_false (has value_cmp k keys) (is_same k key)

count_cons : (k x : Value) (xs : List Value) (t : Bool) → is_same k x ≡ t → count_by (is_same k) (x ∷ xs) ≡ cond t 1 0 + count_by (is_same k) xs
count_cons k x xs t e = sum_by-cons (λ y. cond (is_same k y) 1 0) x xs ∙ rw e refl

none_by : (k x : Value) (xs : List Value) (t : Bool) → is_same k x ≡ t → (t || has value_cmp k xs) ≡ false
    → (has value_cmp k xs ≡ false → count_by (is_same k) xs ≡ 0) → count_by (is_same k) (x ∷ xs) ≡ 0
none_by k x xs true e f behind = cc f
none_by k x xs false e f behind = omega (arith, count_cons k x xs false e, behind f)

some_by : (k x : Value) (xs : List Value) (t : Bool) → is_same k x ≡ t → (t || has value_cmp k xs) ≡ true
    → (has value_cmp k xs ≡ true → 1 ≤ count_by (is_same k) xs) → 1 ≤ count_by (is_same k) (x ∷ xs)
some_by k x xs true e f behind = omega (arith, count_cons k x xs true e)
some_by k x xs false e f behind = omega (arith, count_cons k x xs false e, behind f)

none_count : (k : Value) (keys : List Value) → has value_cmp k keys ≡ false → count_by (is_same k) keys ≡ 0
none_count k [] e = refl
none_count k (x ∷ xs) e = none_by k x xs (is_same k x) refl e (none_count k xs)

some_count : (k : Value) (keys : List Value) → has value_cmp k keys ≡ true → 1 ≤ count_by (is_same k) keys
some_count k [] e = cc e
some_count k (x ∷ xs) e = some_by k x xs (is_same k x) refl e (some_count k xs)

-- how often a key stands after one more
count_push : (k key : Value) (keys : List Value) → count_by (is_same k) (keys ++ key ∷ []) ≡ count_by (is_same k) keys + cond (is_same k key) 1 0
count_push k key keys = sum_by_push (λ y. cond (is_same k y) 1 0) keys key

-- given: the keys so far, and one more
module _ (keys : List Value) (key : Value) where
  other_push : (k : Value) → is_same k key ≡ false → is_repeated (keys ++ key ∷ []) k ≡ is_repeated keys k
  other_push k unlike = ap (nat_lt 1) (count_push k key keys ∙ rw unlike (omega arith))

  -- one that has stood
  pub repeated_grow : (index more : List Value) → has value_cmp key keys ≡ true
      → ((k : Value) → has value_cmp k more ≡ (is_same key k || has value_cmp k index)) → HasRepeated index keys → HasRepeated more (keys ++ key ∷ [])
  repeated_grow index more stood grown repeated k = grown k ∙ by (is_same key k) refl
    where
      by : (t : Bool) → is_same key k ≡ t → (t || has value_cmp k index) ≡ is_repeated (keys ++ key ∷ []) k
      by true e =
          let same = same_values key k e in
          let stands = some_count k keys (ap (λ (v : Value). has value_cmp v keys) (sym same) ∙ stood) in
          let alike : is_same k key ≡ true = ap (is_same k) same ∙ same_self k in
          let count = count_push k key keys ∙ ap (λ b. count_by (is_same k) keys + cond b 1 0) alike in
          sym (lt-ltb 1 (count_by (is_same k) (keys ++ key ∷ [])) (omega (arith, stands, count)))
      by false e = repeated k ∙ sym (other_push k (same_swapped key k e))

  -- one that has not
  pub repeated_stay : (index : List Value) → has value_cmp key keys ≡ false → HasRepeated index keys → HasRepeated index (keys ++ key ∷ [])
  repeated_stay index new repeated k = repeated k ∙ by (is_same k key) refl
    where
      by : (t : Bool) → is_same k key ≡ t → is_repeated keys k ≡ is_repeated (keys ++ key ∷ []) k
      by true e =
          let same = same_values k key e in
          let none = none_count k keys (ap (λ (v : Value). has value_cmp v keys) same ∙ new) in
          let count = count_push k key keys ∙ ap (λ b. count_by (is_same k) keys + cond b 1 0) e in
          le-ltb 1 (count_by (is_same k) keys) (omega (arith, none))
          ∙ sym (le-ltb 1 (count_by (is_same k) (keys ++ key ∷ [])) (omega (arith, none, count)))
      by false e = sym (other_push k e)

-- what a set has after an insertion
pub inserted : (k key : Value) (after before : List Value)
    → list_any (λ q. is_eq (cmp-value.it k q)) after ≡ cond (is_eq (cmp-value.it key k)) true (list_any (λ q. is_eq (cmp-value.it k q)) before)
    → has value_cmp k after ≡ (is_same key k || has value_cmp k before)
inserted k key after before e =
    sym (has_derived k after) ∙ e ∙ or_by (is_eq (cmp-value.it key k)) (list_any (λ q. is_eq (cmp-value.it k q)) before)
    ∙ ap₂ (λ (s t : Bool). s || t) (ap is_eq (derived key k)) (has_derived k before)
