-- Measures that were made ready one after the other.
use Rattle.std.proofs.Common.{◌≡◌, ◌∙◌, ℕ, ℤ, true, false, not, ◌&&◌, ◌||◌, List, [], ◌∷◌, map, refl, sym, ap, Bor}
use Rattle.std.specs.Prelude.{Option, Some, None, option_map, if◌then◌else◌}
use Rattle.std.specs.List.{list_all}
use Rattle.lk_types.specs.Expressions.{value_of}
use Rattle.lk_types.specs.Formula.{Formula}
use Rattle.lk_types.specs.declared.explore.Explore.{Explore}
use Rattle.lk_types.specs.declared.explore.Measure.{Measure}
use Rattle.lk_types.specs.declared.rows.Joined.{Joined}
use Rattle.lk_semantics.specs.Answers.{has_own_key, has_part, is_placed, key_of, key_value, measure_at, optional_value}
use Rattle.lk_semantics.specs.DatedRows.{is_condition_dated}
use Rattle.lk_semantics.specs.Joins.{no_part, part_at}
use Rattle.lk_semantics.specs.Rows.{passes_all}
use Rattle.lk_gather.specs.Dims.{AreTests, are_fine_tests, is_fine_field, is_met_by}
use Rattle.lk_gather.specs.Measures.{AreTaken, IsTaken, has_wanted, is_fine_explore, is_fine_measure, is_fine_part, is_fine_taken, taken_of}
use Rattle.lk_gather.specs.declared.measures.Taken.{Taken}
use Rattle.lk_semantics.proofs.EveryLaws.{both, first, second, every-at}
use Rattle.lk_filter.specs.PlacedModel.{placed_explore, placed_measure}
use Rattle.lk_gather.proofs.DimLaws.{tests_fine, tests_met}
use Rattle.lk_placed_laws.proofs.PlacedLaws.{key_value_is}

-- ---- what an explore's fields, measures and parts are

pub fields_fine : (x : Explore) → is_fine_explore x ≡ true → list_all is_fine_field x.fields ≡ true
unfolding is_fine_explore
fields_fine x e = first (list_all is_fine_field x.fields) (list_all is_fine_measure x.measures && list_all is_fine_part x.parts) e

later_fine : (x : Explore) → is_fine_explore x ≡ true → (list_all is_fine_measure x.measures && list_all is_fine_part x.parts) ≡ true
unfolding is_fine_explore
later_fine x e = second (list_all is_fine_field x.fields) (list_all is_fine_measure x.measures && list_all is_fine_part x.parts) e

pub measures_fine : (x : Explore) → is_fine_explore x ≡ true → list_all is_fine_measure x.measures ≡ true
measures_fine x e = first (list_all is_fine_measure x.measures) (list_all is_fine_part x.parts) (later_fine x e)

part_fine : (x : Explore) (p : ℕ) → is_fine_explore x ≡ true → is_condition_dated (part_at x p).key ≡ true
part_fine x p e =
    every-at is_fine_part x.parts p no_part (second (list_all is_fine_measure x.measures) (list_all is_fine_part x.parts) (later_fine x e)) refl

taken_key_fine : (x : Explore) (m : Measure) → is_fine_explore x ≡ true → is_condition_dated m.key ≡ true → is_condition_dated (key_of x m) ≡ true
taken_key_fine x m e key =
    elim (has_own_key m.op) as (λ b. is_condition_dated (if b then m.key else (part_at x m.part).key) ≡ true) [
      | true ↦ key
      | false ↦ part_fine x m.part e
    ]

-- ---- measures

key_is : (row : Joined) (key : Option (Bor Formula)) → option_map (λ e. value_of e.now row) key ≡ option_map (λ e. value_of e row) (option_map (λ e. e.now) key)
key_is row None = refl
key_is row (Some e) = refl

-- what is made of the key, the value, the tests and the wanted view of a measure gives what a row gives to it
pub is_taken : (x : Explore) (m : Measure) (t : Taken) → is_fine_explore x ≡ true → is_fine_measure m ≡ true
    → option_map (λ e. e.now) t.key ≡ key_of x m → option_map (λ e. e.now) t.value ≡ m.value → AreTests x m.filters t.tests
    → ((row : Joined) → has_wanted t.wanted row ≡ (not (is_placed m.op (option_map (λ e. e.now) t.key)) || has_part m.part row))
    → IsTaken x m t
is_taken x m t fine dated key value tests wanted = record {
  value = λ row.
      let k : option_map (λ e. value_of e.now row) t.key ≡ option_map (λ e. value_of e row) (key_of x m) =
      key_is row t.key ∙ ap (option_map (λ e. value_of e row)) key in
      let v : optional_value (option_map (λ e. e.now) t.value) row ≡ optional_value m.value row = ap (λ e. optional_value e row) value in
      let w : has_wanted t.wanted row ≡ (not (is_placed m.op (key_of x m)) || has_part m.part row) =
      wanted row ∙ ap (λ e. not (is_placed m.op e) || has_part m.part row) key in
      let c : (list_all (is_met_by row) t.tests && has_wanted t.wanted row)
      ≡ (passes_all x m.filters row && (not (is_placed m.op (key_of x m)) || has_part m.part row)) =
      ap (λ b. b && has_wanted t.wanted row) (tests_met x row m.filters t.tests tests) ∙ ap (λ b. passes_all x m.filters row && b) w in
      (λ i. record { key = k i; value = v i; counts = c i });
  fine =
      both (is_condition_dated (option_map (λ e. e.now) t.key)) (is_condition_dated (option_map (λ e. e.now) t.value) && are_fine_tests t.tests)
      (ap is_condition_dated key ∙ taken_key_fine x m fine (second (is_condition_dated m.value) (is_condition_dated m.key) dated))
      (both (is_condition_dated (option_map (λ e. e.now) t.value)) (are_fine_tests t.tests)
      (ap is_condition_dated value ∙ first (is_condition_dated m.value) (is_condition_dated m.key) dated) (tests_fine x m.filters t.tests tests));
}

-- what gives a placed measure of an explore gives the measure of the placed explore
pub taken_placed : (now : ℤ) (x : Explore) (n : ℕ) (t : Taken) → IsTaken x (placed_measure now (measure_at x n)) t
    → IsTaken (placed_explore now x) (measure_at (placed_explore now x) n) t
taken_placed now x n t h = record { value = λ row. h.value row ∙ sym (key_value_is now x n row); fine = h.fine }

pub all_fine : (x : Explore) (ns : List ℕ) (ts : List Taken) → AreTaken x ns ts → list_all is_fine_taken ts ≡ true
all_fine x [] [] h = refl
all_fine x [] (t ∷ ts) h = absurd h
all_fine x (n ∷ ns) [] h = absurd h
all_fine x (n ∷ ns) (t ∷ ts) h = both (is_fine_taken t) (list_all is_fine_taken ts) h.0.fine (all_fine x ns ts h.1)

pub taken_values : (x : Explore) (row : Joined) (ns : List ℕ) (ts : List Taken) → AreTaken x ns ts
    → map (λ t. taken_of t row) ts ≡ map (λ m. key_value x (measure_at x m) row) ns
taken_values x row [] [] h = refl
taken_values x row [] (t ∷ ts) h = absurd h
taken_values x row (n ∷ ns) [] h = absurd h
taken_values x row (n ∷ ns) (t ∷ ts) h =
    ap (λ v. v ∷ map (λ u. taken_of u row) ts) (h.0.value row) ∙ ap (λ vs. key_value x (measure_at x n) row ∷ vs) (taken_values x row ns ts h.1)
