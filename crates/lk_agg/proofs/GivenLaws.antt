-- The rows of a query are regular.
use Rattle.std.proofs.Common.{◌≡◌, ◌+◌, ◌<◌, ℕ, zero, suc, Bool, true, false, cond, not, List, [], ◌∷◌, map, refl, sym, ap, ◌∙◌, arith}
use Rattle.std.specs.Prelude.{filter, ◌||◌, ◌&&◌, Option, Some, None, is_some, option_map, pos, slice_index_or}
use Rattle.std.specs.List.{list_all, list_any, enumerate_from}
use Rattle.std.specs.Ordering.{is_eq, int_cmp}
use Rattle.std.specs.Cmp.{int_cmp_is}
use Rattle.std.specs.declared.cmp.Ordering.TheVariants.{Less}
use Rattle.std.proofs.lemmas.Int.{ints}
use Rattle.lk_val.specs.Distinct.{do_differ}
use Rattle.lk_val.specs.declared.value.Value.{Value}
use Rattle.lk_types.specs.Formula.{Formula}
use Rattle.lk_types.specs.Expressions.{value_of}
use Rattle.lk_semantics.specs.Measures.{Entry, entry_at, no_entry}
use Rattle.lk_semantics.specs.Answers.{given_row, given_rows, key_of, key_value, measure_at}
use Rattle.lk_types.specs.declared.answer.KeyValue.{KeyValue}
use Rattle.lk_types.specs.declared.explore.Explore.{Explore}
use Rattle.lk_types.specs.declared.explore.Op.{Op}
use Rattle.lk_types.specs.declared.rows.Joined.{Joined}
use Rattle.lk_agg.specs.Regular.{AreRegularFrom, counted, is_regular, is_same_place}
use Rattle.lk_agg.proofs.PartLaws.{IsPart, none, keep, skip, part-all, part-differ}

filter_part : {A : Type 0} (p : A → Bool) (xs : List A) → IsPart (filter p xs) xs
filter_part p [] = none
filter_part p (x ∷ xs) = elim (p x) as (λ b. IsPart (cond b (x ∷ filter p xs) (filter p xs)) (x ∷ xs)) [ true ↦ keep x (filter_part p xs) | false ↦ skip x (filter_part p xs) ]

still_there : (f : Formula → Value) (k : Option Formula) → is_some (option_map f k) ≡ is_some k
still_there f None = refl
still_there f (Some e) = refl

module _ (x : Explore) (dims measures : List ℕ) where
  -- the measure at a place of a list has a key
  abbrev pub is_keyed : List ℕ → ℕ → Bool
  is_keyed [] i = false
  is_keyed (m ∷ ms) zero = is_some (key_of x (measure_at x m))
  is_keyed (m ∷ ms) (suc i) = is_keyed ms i

  key_is : (row : Joined) (ms : List ℕ) (i : ℕ) → is_some (slice_index_or (map (λ m. key_value x (measure_at x m) row) ms) i no_entry).key ≡ is_keyed ms i
  key_is row [] i = refl
  key_is row (m ∷ ms) zero = still_there (λ e. value_of e row) (key_of x (measure_at x m))
  key_is row (m ∷ ms) (suc i) = key_is row ms i

  abbrev pub entries_from : ℕ → ℕ → List Joined → List Entry
  entries_from i n rows = map (entry_at i) (map (given_row x dims measures) (enumerate_from n rows))

  all_keys : (i n : ℕ) (rows : List Joined) → is_keyed measures i ≡ true → list_all (λ e. is_some e.1.key) (entries_from i n rows) ≡ true
  all_keys i n [] e = refl
  all_keys i n (row ∷ rows) e = ap (λ b. b && list_all (λ (d : Entry). is_some d.1.key) (entries_from i (n + 1) rows)) (key_is row measures i ∙ e) ∙ all_keys i (n + 1) rows e

  no_keys : (i n : ℕ) (rows : List Joined) → is_keyed measures i ≡ false → list_all (λ e. not (is_some e.1.key)) (entries_from i n rows) ≡ true
  no_keys i n [] e = refl
  no_keys i n (row ∷ rows) e = ap (λ b. not b && list_all (λ (d : Entry). not (is_some d.1.key)) (entries_from i (n + 1) rows)) (key_is row measures i ∙ e) ∙ no_keys i (n + 1) rows e

  places_later : (i m n : ℕ) (given : KeyValue) (rows : List Joined) → m < n → list_any (is_same_place (m, given)) (entries_from i n rows) ≡ false
  places_later i m n given [] less = refl
  places_later i m n given (row ∷ rows) less =
      let first : Less ≡ int_cmp (pos m) (pos n) = int_cmp_is (pos m) (pos n) Less (omega (arith, ints)) in
      ap (λ r. is_eq r || list_any (is_same_place (m, given)) (entries_from i (n + 1) rows)) (sym first) ∙ places_later i m (n + 1) given rows (omega (arith, less))

  places_differ : (i n : ℕ) (rows : List Joined) → do_differ is_same_place (entries_from i n rows) ≡ true
  places_differ i n [] = refl
  places_differ i n (row ∷ rows) =
      ap (λ b. not b && do_differ is_same_place (entries_from i (n + 1) rows)) (places_later i n (n + 1) (slice_index_or (map (λ m. key_value x (measure_at x m) row) measures) i no_entry) rows (omega arith))
      ∙ places_differ i (n + 1) rows

  or_true : (b : Bool) → (b || true) ≡ true
  or_true true = refl
  or_true false = refl

  regular_at : (i : ℕ) (rows : List Joined) → is_regular (counted i (given_rows x dims measures rows)) ≡ true
  regular_at i rows =
      let part = filter_part (λ (e : Entry). e.1.counts) (entries_from i 0 rows) in
      let all = counted i (given_rows x dims measures rows) in
      elim (is_keyed measures i) as (λ b. is_keyed measures i ≡ b → is_regular all ≡ true) [
        | true ↦ λ e. ap (λ b. b || (list_all (λ (d : Entry). not (is_some d.1.key)) all && do_differ is_same_place all)) (part-all (λ (d : Entry). is_some d.1.key) part (all_keys i 0 rows e))
        | false ↦ λ e.
            let placed = part-all (λ (d : Entry). not (is_some d.1.key)) part (no_keys i 0 rows e) in
            let apart = part-differ is_same_place part (places_differ i 0 rows) in
            (λ k. list_all (λ (d : Entry). is_some d.1.key) all || (placed k && apart k)) ∙ or_true (list_all (λ (d : Entry). is_some d.1.key) all)
      ] refl

  pub regular_from : (i : ℕ) (ops : List Op) (rows : List Joined) → AreRegularFrom i ops (given_rows x dims measures rows)
  regular_from i [] rows = tt
  regular_from i (o ∷ ops) rows = (λ keyed. regular_at i rows, regular_from (i + 1) ops rows)
