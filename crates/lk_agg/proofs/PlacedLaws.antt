-- Rows without keys are pairs of their own, where no two stand at one place.
use Rattle.std.proofs.Common.{◌≡◌, ◌+◌, ℕ, Bool, true, false, cond, not, List, [], ◌∷◌, map, length, refl, sym, ap, ◌∙◌, arith}
use Rattle.std.specs.Prelude.{if◌then◌else◌, filter, ◌||◌, ◌&&◌, Option, Some, None, is_some, pos, ℤ, ◌+ℤ◌}
use Rattle.std.specs.List.{list_all, list_any}
use Rattle.std.specs.Ordering.{is_eq, ordering_then}
use Rattle.std.specs.declared.cmp.Ordering.{Ordering}
use Rattle.std.specs.declared.cmp.Ordering.TheVariants.{Less, Equal, Greater}
use Rattle.std.specs.Cmp.{tied_itself, eq_by_cmp_equiv}
use Rattle.std.proofs.lemmas.Int.{ints}
use Rattle.std.proofs.lemmas.List.Sums.{sum_by-cons}
use Rattle.std.proofs.lemmas.Bool.{false≢true}
use Rattle.lk_val.specs.Distinct.{do_differ}
use Rattle.lk_val.specs.Sets.{set_of, has}
use Rattle.lk_val.specs.Values.{value_cmp, is_same, is_null}
use Rattle.lk_val.specs.ValueOrder.{values_ordered}
use Rattle.lk_val.specs.declared.value.Value.{Value}
use Rattle.lk_val.proofs.SetLaws.{IsCommutative, IsTotal, item_new, has-set_of, total-set_of}
use Rattle.lk_semantics.specs.Measures.{Entry, pair_of, has_key, has_other, key_or_place, pairs_of, total, known_count, amount, unless_counted}
use Rattle.lk_types.specs.PairOrder.{pair_cmp, pairs_ordered}
use Rattle.lk_semantics.proofs.PairLaws.{given, int_add, total_is, nat_add, length_is}
use Rattle.lk_types.specs.declared.answer.Pair.{Pair}
use Rattle.lk_types.specs.declared.explore.Op.{Op}
use Rattle.lk_agg.specs.Regular.{is_regular, is_same_place}
use Rattle.lk_agg.specs.Columns.{keyed, placed}
use Rattle.lk_agg.specs.Tallies.{tally_of}
use Rattle.lk_agg.proofs.PartLaws.{and_first, and_second, not_true, or_first_false, or_second_false}

-- no entry has a key
abbrev pub all_placed : List Entry → Bool
all_placed es = list_all (λ e. not (is_some e.1.key)) es

key_at : (k : Option Value) (p : ℕ) → not (is_some k) ≡ true → key_or_place k p ≡ key_or_place None p
key_at None p e = refl
key_at (Some v) p e = absurd (false≢true e)

then_false : (r s : Ordering) → is_eq r ≡ false → is_eq (ordering_then r s) ≡ false
then_false Less s e = refl
then_false Equal s e = absurd (false≢true (sym e))
then_false Greater s e = refl

pub known_is : IsTotal {A = Pair} ◌+◌ 0 (λ p. cond (not (is_null p.value)) 1 0) known_count
known_is = record { none = refl; one_more = λ p ps. sum_by-cons (λ (q : Pair). cond (not (is_null q.value)) 1 0) p ps }

module _ (o : Op) where
  -- a placed entry has a key
  has_place : (e : Entry) → not (is_some e.1.key) ≡ true → has_key (pair_of o e) ≡ true
  has_place e p = ap (λ k. not (is_null k)) (key_at e.1.key e.0 p)

  -- so its pair is one of those given
  pub given_placed : (es : List Entry) → all_placed es ≡ true → given o es ≡ map (pair_of o) es
  given_placed [] p = refl
  given_placed (e ∷ es) p =
      ap (λ b. cond b (pair_of o e ∷ given o es) (given o es)) (has_place e (and_first (not (is_some e.1.key)) (all_placed es) p))
      ∙ ap (λ ps. pair_of o e ∷ ps) (given_placed es (and_second (not (is_some e.1.key)) (all_placed es) p))

  -- the keys of two places differ
  keys_apart : (e d : Entry) → not (is_some e.1.key) ≡ true → not (is_some d.1.key) ≡ true → is_same_place e d ≡ false → is_same (pair_of o e).key (pair_of o d).key ≡ false
  keys_apart e d p q apart = (λ i. is_same (key_at e.1.key e.0 p i) (key_at d.1.key d.0 q i)) ∙ apart

  -- no pair of others has the key of a place
  none_at : (e : Entry) (es : List Entry) → not (is_some e.1.key) ≡ true → all_placed es ≡ true → list_any (is_same_place e) es ≡ false → list_any (λ q. is_same (pair_of o e).key q.key) (map (pair_of o) es) ≡ false
  none_at e [] p q apart = refl
  none_at e (d ∷ es) p q apart =
      (λ i. keys_apart e d p (and_first (not (is_some d.1.key)) (all_placed es) q) (or_first_false (is_same_place e d) (list_any (is_same_place e) es) apart) i || list_any (λ (r : Pair). is_same (pair_of o e).key r.key) (map (pair_of o) es))
      ∙ none_at e es p (and_second (not (is_some d.1.key)) (all_placed es) q) (or_second_false (is_same_place e d) (list_any (is_same_place e) es) apart)

  fresh_of : (p : Pair) (ps : List Pair) → list_any (λ q. is_same p.key q.key) ps ≡ false → has pair_cmp p ps ≡ false
  fresh_of p [] e = refl
  fresh_of p (q ∷ ps) e =
      (λ i. then_false (value_cmp p.key q.key) (value_cmp p.value q.value) (or_first_false (is_same p.key q.key) (list_any (λ (r : Pair). is_same p.key r.key) ps) e) i || has pair_cmp p ps)
      ∙ fresh_of p ps (or_second_false (is_same p.key q.key) (list_any (λ (r : Pair). is_same p.key r.key) ps) e)

  module _ {M : Type 0} {add : M → M → M} {unit : M} (c : IsCommutative add unit) {g : Pair → M} {F : List Pair → M} (t : IsTotal add unit g F) where
    -- a total over the pairs of one more place
    pub placed_more : (e : Entry) (es : List Entry) → all_placed (e ∷ es) ≡ true → do_differ is_same_place (e ∷ es) ≡ true → F (pairs_of o (e ∷ es)) ≡ add (g (pair_of o e)) (F (pairs_of o es))
    placed_more e es p apart =
        let here = and_first (not (is_some e.1.key)) (all_placed es) p in
        let others = and_second (not (is_some e.1.key)) (all_placed es) p in
        let alone = not_true (list_any (is_same_place e) es) (and_first (not (list_any (is_same_place e) es)) (do_differ is_same_place es) apart) in
        let fresh : has pair_cmp (pair_of o e) (pairs_of o es) ≡ false =
        has-set_of pairs_ordered (pair_of o e) (given o es) ∙ ap (has pair_cmp (pair_of o e)) (given_placed es others) ∙ fresh_of (pair_of o e) (map (pair_of o) es) (none_at e es here others alone) in
        ap (λ b. F (set_of pair_cmp (cond b (pair_of o e ∷ given o es) (given o es)))) (has_place e here)
        ∙ item_new pairs_ordered c t (pair_of o e) (pairs_of o es) fresh

  rest_differ : (e : Entry) (es : List Entry) → do_differ is_same_place (e ∷ es) ≡ true → do_differ is_same_place es ≡ true
  rest_differ e es apart = and_second (not (list_any (is_same_place e) es)) (do_differ is_same_place es) apart

  rest_placed : (e : Entry) (es : List Entry) → all_placed (e ∷ es) ≡ true → all_placed es ≡ true
  rest_placed e es p = and_second (not (is_some e.1.key)) (all_placed es) p

  -- the tally counts the pairs
  pub tally_rows : (es : List Entry) → all_placed es ≡ true → do_differ is_same_place es ≡ true → (tally_of es).rows ≡ length (pairs_of o es)
  tally_rows [] p apart = refl
  tally_rows (e ∷ es) p apart =
      let more : length (pairs_of o (e ∷ es)) ≡ 1 + length (pairs_of o es) = placed_more nat_add length_is e es p apart in
      let rest = tally_rows es (rest_placed e es p) (rest_differ e es apart) in
      omega (arith, more, rest)

  module _ (kept : (v : Value) → unless_counted o v ≡ v) where
    -- it sums their values
    pub tally_sum : (es : List Entry) → all_placed es ≡ true → do_differ is_same_place es ≡ true → (tally_of es).sum ≡ total (pairs_of o es)
    tally_sum [] p apart = refl
    tally_sum (e ∷ es) p apart =
        let swap : (tally_of es).sum +ℤ amount e.1.value ≡ amount e.1.value +ℤ (tally_of es).sum = omega (arith, ints) in
        swap ∙ (λ i. amount (sym (kept e.1.value) i) +ℤ tally_sum es (rest_placed e es p) (rest_differ e es apart) i)
        ∙ sym (placed_more int_add total_is e es p apart)

    -- and counts those that are not null
    pub tally_values : (es : List Entry) → all_placed es ≡ true → do_differ is_same_place es ≡ true → (tally_of es).values ≡ known_count (pairs_of o es)
    tally_values [] p apart = refl
    tally_values (e ∷ es) p apart =
        let here : ◌≡◌ {A = ℕ} (if is_null e.1.value then 0 else 1) (cond (not (is_null (unless_counted o e.1.value))) 1 0) =
        elim (is_null e.1.value) as (λ b. ◌≡◌ {A = ℕ} (if b then 0 else 1) (cond (not b) 1 0)) [ true ↦ refl | false ↦ refl ] ∙ ap (λ v. cond (not (is_null v)) 1 0) (sym (kept e.1.value)) in
        let more : known_count (pairs_of o (e ∷ es)) ≡ cond (not (is_null (unless_counted o e.1.value))) 1 0 + known_count (pairs_of o es) = placed_more nat_add known_is e es p apart in
        let rest = tally_values es (rest_placed e es p) (rest_differ e es apart) in
        omega (arith, here, more, rest)

  -- ---- none has another value

  -- the second pair has the key of the first, and another value
  abbrev pub is_other : Pair → Pair → Bool
  is_other p q = is_same p.key q.key && not (is_same p.value q.value)

  no_other : (p q : Pair) → is_same p.key q.key ≡ false → is_other p q ≡ false
  no_other p q e = ap (λ b. b && not (is_same p.value q.value)) e

  not_itself : (p : Pair) → is_other p p ≡ false
  not_itself p = ap (λ r. is_same p.key p.key && not (is_eq r)) (tied_itself values_ordered.total p.value) ∙ elim (is_same p.key p.key) as (λ b. (b && false) ≡ false) [ true ↦ refl | false ↦ refl ]

  turned : (p q : Pair) → is_same p.key q.key ≡ false → is_same q.key p.key ≡ false
  turned p q e = (eq_by_cmp_equiv values_ordered.total).symm q.key p.key ∙ e

  none_other : (p : Pair) (ps : List Pair) → list_any (λ q. is_same p.key q.key) ps ≡ false → list_any (is_other p) ps ≡ false
  none_other p [] e = refl
  none_other p (q ∷ ps) e = (λ i. no_other p q (or_first_false (is_same p.key q.key) (list_any (λ (r : Pair). is_same p.key r.key) ps) e) i || list_any (is_other p) ps) ∙ none_other p ps (or_second_false (is_same p.key q.key) (list_any (λ (r : Pair). is_same p.key r.key) ps) e)

  -- p is no other's other, so it adds none
  none_more : (p : Pair) (ps all : List Pair) → list_any (λ q. is_same p.key q.key) ps ≡ false → list_any (λ q. list_any (is_other q) all) ps ≡ false → list_any (λ q. is_other q p || list_any (is_other q) all) ps ≡ false
  none_more p [] all e h = refl
  none_more p (q ∷ ps) all e h =
      (λ i. (no_other q p (turned p q (or_first_false (is_same p.key q.key) (list_any (λ (r : Pair). is_same p.key r.key) ps) e)) i || or_first_false (list_any (is_other q) all) (list_any (λ (r : Pair). list_any (is_other r) all) ps) h i) || list_any (λ (r : Pair). is_other r p || list_any (is_other r) all) ps)
      ∙ none_more p ps all (or_second_false (is_same p.key q.key) (list_any (λ (r : Pair). is_same p.key r.key) ps) e) (or_second_false (list_any (is_other q) all) (list_any (λ (r : Pair). list_any (is_other r) all) ps) h)

  none_given : (es : List Entry) → all_placed es ≡ true → do_differ is_same_place es ≡ true → list_any (λ q. list_any (is_other q) (map (pair_of o) es)) (map (pair_of o) es) ≡ false
  none_given [] p apart = refl
  none_given (e ∷ es) p apart =
      let here = and_first (not (is_some e.1.key)) (all_placed es) p in
      let others = rest_placed e es p in
      let alone = not_true (list_any (is_same_place e) es) (and_first (not (list_any (is_same_place e) es)) (do_differ is_same_place es) apart) in
      let none = none_at e es here others alone in
      (λ i. (not_itself (pair_of o e) i || none_other (pair_of o e) (map (pair_of o) es) none i) || list_any (λ (q : Pair). is_other q (pair_of o e) || list_any (is_other q) (map (pair_of o) es)) (map (pair_of o) es))
      ∙ none_more (pair_of o e) (map (pair_of o) es) (map (pair_of o) es) none (none_given es others (rest_differ e es apart))

  or_law : IsCommutative ◌||◌ false
  or_law = record { assoc = or_assoc; comm = or_comm; left_unit = λ a. refl }
    where
      or_assoc : (a b c : Bool) → ((a || b) || c) ≡ (a || (b || c))
      or_assoc true b c = refl
      or_assoc false b c = refl

      or_comm : (a b : Bool) → (a || b) ≡ (b || a)
      or_comm true true = refl
      or_comm true false = refl
      or_comm false true = refl
      or_comm false false = refl

  or_twice : (a : Bool) → (a || a) ≡ a
  or_twice true = refl
  or_twice false = refl

  any_is : (q : Pair → Bool) → IsTotal ◌||◌ false q (list_any q)
  any_is q = record { none = refl; one_more = λ p ps. refl }

  -- so no pair of places has another
  pub none_among : (es : List Entry) → all_placed es ≡ true → do_differ is_same_place es ≡ true → list_any (has_other (pairs_of o es)) (pairs_of o es) ≡ false
  none_among es p apart =
      ap (λ f. list_any f (pairs_of o es)) (λ i q. total-set_of pairs_ordered or_law (any_is (is_other q)) or_twice (given o es) i)
      ∙ total-set_of pairs_ordered or_law (any_is (λ q. list_any (is_other q) (given o es))) or_twice (given o es)
      ∙ ap (λ ps. list_any (λ q. list_any (is_other q) ps) ps) (given_placed es p)
      ∙ none_given es p apart

-- ---- regular entries

abbrev pub all_keyed : List Entry → Bool
all_keyed es = list_all (λ e. is_some e.1.key) es

all_kept : (es : List Entry) → all_keyed es ≡ true → (keyed es ≡ es) × (placed es ≡ [])
all_kept [] e = (refl, refl)
all_kept (d ∷ es) e =
    let here = and_first (is_some d.1.key) (all_keyed es) e in
    let rest = all_kept es (and_second (is_some d.1.key) (all_keyed es) e) in
    (ap (λ b. cond b (d ∷ keyed es) (keyed es)) here ∙ ap (λ ds. d ∷ ds) rest.0, ap (λ b. cond (not b) (d ∷ placed es) (placed es)) here ∙ rest.1)

none_kept : (es : List Entry) → all_placed es ≡ true → (keyed es ≡ []) × (placed es ≡ es)
none_kept [] e = (refl, refl)
none_kept (d ∷ es) e =
    let here = not_true (is_some d.1.key) (and_first (not (is_some d.1.key)) (all_placed es) e) in
    let rest = none_kept es (and_second (not (is_some d.1.key)) (all_placed es) e) in
    (ap (λ b. cond b (d ∷ keyed es) (keyed es)) here ∙ rest.0, ap (λ b. cond (not b) (d ∷ placed es) (placed es)) here ∙ ap (λ ds. d ∷ ds) rest.1)

-- by cases: all have keys, or none has and the places differ
pub by_regular : (P : Type 0) (es : List Entry) → is_regular es ≡ true
    → (keyed es ≡ es → placed es ≡ [] → P)
    → (keyed es ≡ [] → placed es ≡ es → all_placed es ≡ true → do_differ is_same_place es ≡ true → P) → P
by_regular P es e with_keys without =
    elim (all_keyed es) as (λ b. all_keyed es ≡ b → (b || (all_placed es && do_differ is_same_place es)) ≡ true → P) [
      | true ↦ λ all t. with_keys (all_kept es all).0 (all_kept es all).1
      | false ↦ λ all t.
          let p = and_first (all_placed es) (do_differ is_same_place es) t in
          without (none_kept es p).0 (none_kept es p).1 p (and_second (all_placed es) (do_differ is_same_place es) t)
    ] refl e

pub count_is : (o : Op) (es : List Entry) → is_regular es ≡ true → length (pairs_of o (keyed es)) + (tally_of (placed es)).rows ≡ length (pairs_of o es)
count_is o es e =
    by_regular (length (pairs_of o (keyed es)) + (tally_of (placed es)).rows ≡ length (pairs_of o es)) es e
    (λ k p. (λ i. length (pairs_of o (k i)) + (tally_of (p i)).rows) ∙ none_more_rows (length (pairs_of o es)))
    (λ k p all apart. (λ i. length (pairs_of o (k i)) + (tally_of (p i)).rows) ∙ none_before (tally_of es).rows ∙ tally_rows o es all apart)
  where
    none_more_rows : (n : ℕ) → n + 0 ≡ n
    none_more_rows n = omega arith

    none_before : (n : ℕ) → 0 + n ≡ n
    none_before n = omega arith

module _ (o : Op) (kept : (v : Value) → unless_counted o v ≡ v) where
  pub sum_is : (es : List Entry) → is_regular es ≡ true → (total (pairs_of o (keyed es)) +ℤ (tally_of (placed es)).sum) ≡ total (pairs_of o es)
  sum_is es e =
      by_regular ((total (pairs_of o (keyed es)) +ℤ (tally_of (placed es)).sum) ≡ total (pairs_of o es)) es e
      (λ k p. (λ i. total (pairs_of o (k i)) +ℤ (tally_of (p i)).sum) ∙ after (total (pairs_of o es)))
      (λ k p all apart. (λ i. total (pairs_of o (k i)) +ℤ (tally_of (p i)).sum) ∙ before (tally_of es).sum ∙ tally_sum o kept es all apart)
    where
      after : (n : ℤ) → (n +ℤ pos 0) ≡ n
      after n = omega (arith, ints)

      before : (n : ℤ) → (pos 0 +ℤ n) ≡ n
      before n = omega (arith, ints)

  pub values_are : (es : List Entry) → is_regular es ≡ true → known_count (pairs_of o (keyed es)) + (tally_of (placed es)).values ≡ known_count (pairs_of o es)
  values_are es e =
      by_regular (known_count (pairs_of o (keyed es)) + (tally_of (placed es)).values ≡ known_count (pairs_of o es)) es e
      (λ k p. (λ i. known_count (pairs_of o (k i)) + (tally_of (p i)).values) ∙ after (known_count (pairs_of o es)))
      (λ k p all apart. (λ i. known_count (pairs_of o (k i)) + (tally_of (p i)).values) ∙ before (tally_of es).values ∙ tally_values o kept es all apart)
    where
      after : (n : ℕ) → n + 0 ≡ n
      after n = omega arith

      before : (n : ℕ) → 0 + n ≡ n
      before n = omega arith

filter_none : (p : Pair → Bool) (ps : List Pair) → list_any p ps ≡ false → filter p ps ≡ []
filter_none p [] e = refl
filter_none p (q ∷ ps) e = ap (λ b. cond b (q ∷ filter p ps) (filter p ps)) (or_first_false (p q) (list_any p ps) e) ∙ filter_none p ps (or_second_false (p q) (list_any p ps) e)

-- the pairs that have another are those of the entries with keys
pub others_are : (o : Op) (es : List Entry) → is_regular es ≡ true → filter (has_other (pairs_of o (keyed es))) (pairs_of o (keyed es)) ≡ filter (has_other (pairs_of o es)) (pairs_of o es)
others_are o es e =
    by_regular (filter (has_other (pairs_of o (keyed es))) (pairs_of o (keyed es)) ≡ filter (has_other (pairs_of o es)) (pairs_of o es)) es e
    (λ k p. ap (λ ds. filter (has_other (pairs_of o ds)) (pairs_of o ds)) k)
    (λ k p all apart. ap (λ ds. filter (has_other (pairs_of o ds)) (pairs_of o ds)) k ∙ sym (filter_none (has_other (pairs_of o es)) (pairs_of o es) (none_among o es all apart)))
