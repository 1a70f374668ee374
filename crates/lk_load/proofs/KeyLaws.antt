-- Keys of which none is null and none is in conflict are keys.
use Rattle.std.proofs.Common.{◌≡◌, ◌<◌, ◌≤◌, ◌+◌, ◌++◌, ◌∷◌, ◌||◌, ◌&&◌, [], ℕ, zero, suc, Bool, true, false, not, cond, List, Option, Some, None, length, refl, ap, arith, ◌∙◌, get_or, nat_lt}
use Rattle.std.specs.List.{count_by, find, position, position_or_len}
use Rattle.std.specs.Cmp.{eq_by_cmp_equiv}
use Rattle.std.proofs.lemmas.Bool.{ltb-false}
use Rattle.std.proofs.lemmas.List.{get_or-map, length-map, map-append}
use Rattle.std.proofs.lemmas.List.Sums.{fails_before_first, sum_by-cons}
use Rattle.lk_val.specs.Sets.{has}
use Rattle.lk_val.specs.Values.{is_null, is_same, value_cmp}
use Rattle.lk_val.specs.ValueOrder.{values_ordered}
use Rattle.lk_val.specs.declared.value.Value.{Value}
use Rattle.lk_val.specs.declared.value.Value.TheVariants as value
use Rattle.lk_val.proofs.FractionSteps.{both, together}
use Rattle.lk_types.specs.Tables.{Rows, are_keys, column_values, has_keys}
use Rattle.lk_table.specs.Contents.{cell_at, keys_of, lacks_key}
use Rattle.lk_table.specs.Loads.{first_conflict, is_conflict}

-- ---- where none is found

all_fail_by : {X : Type 0} (p : X → Bool) (xs : List X) (d : X) (b : Bool) → nat_lt (position_or_len p xs) (length xs) ≡ b
    → cond b (Some (position_or_len p xs)) None ≡ None → (k : ℕ) → k < length xs → p (get_or xs k d) ≡ false
all_fail_by p xs d true is e k below = cc e
all_fail_by p xs d false is e k below =
    fails_before_first p xs k d (omega (arith, below, ltb-false (position_or_len p xs) (length xs) is))

all_fail : {X : Type 0} (p : X → Bool) (xs : List X) (d : X) → position p xs ≡ None → (k : ℕ) → k < length xs → p (get_or xs k d) ≡ false
all_fail p xs d e = all_fail_by p xs d (nat_lt (position_or_len p xs) (length xs)) refl e

found_first : {X : Type 0} (x : X) (rest : Option X) (b : Bool) → cond b (Some x) rest ≡ None → (b ≡ false) × (rest ≡ None)
found_first x rest true e = cc e
found_first x rest false e = (refl, e)

none_found : {X : Type 0} (p : X → Bool) (xs : List X) (d : X) → find p xs ≡ None → (k : ℕ) → k < length xs → p (get_or xs k d) ≡ false
none_found p [] d e k below = absurd (omega (arith, below))
none_found p (x ∷ xs) d e zero below = (found_first x (find p xs) (p x) e).0
none_found p (x ∷ xs) d e (suc k) below = none_found p xs d (found_first x (find p xs) (p x) e).1 k (omega (arith, below))

-- ---- how often a key stands

same_self : (a : Value) → is_same a a ≡ true
same_self a = (eq_by_cmp_equiv values_ordered.total).refl a

count_cons : (k x : Value) (xs : List Value) (t : Bool) → is_same k x ≡ t → count_by (is_same k) (x ∷ xs) ≡ cond t 1 0 + count_by (is_same k) xs
count_cons k x xs t e = sum_by-cons (λ y. cond (is_same k y) 1 0) x xs ∙ rw e refl

none_by : (k x : Value) (xs : List Value) (t : Bool) → is_same k x ≡ t → count_by (is_same k) (x ∷ xs) ≤ 0
    → (count_by (is_same k) xs ≤ 0 → has value_cmp k xs ≡ false) → (t || has value_cmp k xs) ≡ false
none_by k x xs true e few behind = absurd (omega (arith, few, count_cons k x xs true e))
none_by k x xs false e few behind = behind (omega (arith, few, count_cons k x xs false e))

has_none : (k : Value) (xs : List Value) → count_by (is_same k) xs ≤ 0 → has value_cmp k xs ≡ false
has_none k [] few = refl
has_none k (x ∷ xs) few = none_by k x xs (is_same k x) refl few (has_none k xs)

not_false : (b : Bool) → b ≡ false → not b ≡ true
not_false true e = cc e
not_false false e = refl

fewer_behind : (k x : Value) (xs : List Value) (t : Bool) → is_same k x ≡ t → count_by (is_same k) (x ∷ xs) ≤ 1 → count_by (is_same k) xs ≤ 1
fewer_behind k x xs true e few = omega (arith, few, count_cons k x xs true e)
fewer_behind k x xs false e few = omega (arith, few, count_cons k x xs false e)

keys_by_each : (keys : List Value) → ((k : ℕ) → k < length keys → is_null (get_or keys k value.Null) ≡ false)
    → ((k : ℕ) → k < length keys → count_by (is_same (get_or keys k value.Null)) keys ≤ 1) → are_keys keys ≡ true
keys_by_each [] present once = refl
keys_by_each (v ∷ vs) present once =
    let here = has_none v vs (omega (arith, once 0 (omega arith), count_cons v v vs true (same_self v))) in
    together
    (together (not_false (is_null v) (present 0 (omega arith))) (not_false (has value_cmp v vs) here))
    (keys_by_each vs
    (λ k below. present (suc k) (omega (arith, below)))
    (λ k below. let x = get_or vs k value.Null in fewer_behind x v vs (is_same x v) refl (once (suc k) (omega (arith, below)))))

-- ---- both sides of or

first_false : (a b : Bool) → (a || b) ≡ false → a ≡ false
first_false true b e = e
first_false false b e = refl

second_false : (a b : Bool) → (a || b) ≡ false → b ≡ false
second_false true b e = cc e
second_false false b e = e

both_false : (a b : Bool) → a ≡ false → b ≡ false → (a || b) ≡ false
both_false true b e f = e
both_false false b e f = f

not_true : (b : Bool) → not b ≡ true → b ≡ false
not_true true e = cc e
not_true false e = refl

-- ---- keys behind others

same_back : (a b : Value) → is_same a b ≡ false → is_same b a ≡ false
same_back a b e = (eq_by_cmp_equiv values_ordered.total).symm b a ∙ e

-- an item that none of some others has in front of more is not among these
never_among : (x : Value) (xs ys : List Value) → ((k : ℕ) → k < length ys → has value_cmp (get_or ys k value.Null) (x ∷ xs) ≡ false)
    → has value_cmp x ys ≡ false
never_among x xs [] none = refl
never_among x xs (y ∷ ys) none =
    both_false (is_same x y) (has value_cmp x ys)
    (same_back y x (first_false (is_same y x) (has value_cmp y xs) (none 0 (omega arith))))
    (never_among x xs ys (λ k below. none (suc k) (omega (arith, below))))

has_both : (x : Value) (xs ys : List Value) → has value_cmp x xs ≡ false → has value_cmp x ys ≡ false → has value_cmp x (xs ++ ys) ≡ false
has_both x [] ys first second = second
has_both x (y ∷ xs) ys first second =
    both_false (is_same x y) (has value_cmp x (xs ++ ys)) (first_false (is_same x y) (has value_cmp x xs) first)
    (has_both x xs ys (second_false (is_same x y) (has value_cmp x xs) first) second)

pub keys_both : (xs ys : List Value) → are_keys xs ≡ true → are_keys ys ≡ true
    → ((k : ℕ) → k < length ys → has value_cmp (get_or ys k value.Null) xs ≡ false) → are_keys (xs ++ ys) ≡ true
keys_both [] ys first second apart = second
keys_both (x ∷ xs) ys first second apart =
    let here = both (not (is_null x) && not (has value_cmp x xs)) (are_keys xs) first in
    let this = both (not (is_null x)) (not (has value_cmp x xs)) here.0 in
    together
    (together this.0 (not_false (has value_cmp x (xs ++ ys)) (has_both x xs ys (not_true (has value_cmp x xs) this.1) (never_among x xs ys apart))))
    (keys_both xs ys here.1 second
    (λ k below. second_false (is_same (get_or ys k value.Null) x) (has value_cmp (get_or ys k value.Null) xs) (apart k below)))

-- ---- the keys of rows

pub rows_keyed : (key : Option ℕ) (held rows : Rows) → has_keys key held ≡ true → position (lacks_key key) rows ≡ None
    → first_conflict (keys_of key held) (keys_of key rows) ≡ None → has_keys key (held ++ rows) ≡ true
rows_keyed None held rows kept present free = refl
rows_keyed (Some column) held rows kept present free =
    let old = column_values held column in
    let keys = column_values rows column in
    let there = all_fail (lacks_key (Some column)) rows [] present in
    let alone = none_found (is_conflict old keys) keys value.Null free in
    let new = keys_by_each keys
    (λ k below.
    let within : k < length rows = omega (arith, below, length-map rows (λ row. cell_at row column)) in
    ap is_null (get_or-map (λ row. cell_at row column) rows k [] value.Null within) ∙ there k within)
    (λ k below.
    let key = get_or keys k value.Null in
    ltb-false 1 (count_by (is_same key) keys) (first_false (nat_lt 1 (count_by (is_same key) keys)) (has value_cmp key old) (alone k below))) in
    ap are_keys (map-append (λ row. cell_at row column) held rows)
    ∙ keys_both old keys kept new
    (λ k below.
    let key = get_or keys k value.Null in
    second_false (nat_lt 1 (count_by (is_same key) keys)) (has value_cmp key old) (alone k below))
