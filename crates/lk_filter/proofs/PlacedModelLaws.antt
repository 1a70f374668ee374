-- No filter of a placed model has a relative date.
use Rattle.std.proofs.Common.{◌≡◌, ℕ, ℤ, Bool, true, List, [], ◌∷◌, map, refl}
use Rattle.std.specs.List.{list_all}
use Rattle.std.specs.Cmp.Derive.{both_true}
use Rattle.lk_types.specs.declared.filter.Filter.{Filter}
use Rattle.lk_types.specs.declared.explore.Measure.{Measure}
use Rattle.lk_types.specs.declared.explore.Rollup.{Rollup}
use Rattle.lk_types.specs.declared.explore.Explore.{Explore}
use Rattle.lk_types.specs.declared.model.Derived.{Derived}
use Rattle.lk_types.specs.declared.model.Model.{Model}
use Rattle.lk_types.specs.Filters.{is_placed}
use Rattle.lk_filter.specs.PlacedModel.{placed_field_filter, placed_measure, placed_rollup, placed_explore, placed_derived, placed_model, are_placed, is_placed_measure, is_placed_rollup, is_placed_derived, is_placed_explore, is_placed_model}
use Rattle.lk_filter.proofs.PlacingLaws.{placed-placed}

-- what each thing becomes has the property
all_made : {A B : Type 0} (f : A → B) (p : B → Bool) → ((x : A) → p (f x) ≡ true) → (xs : List A) → list_all p (map f xs) ≡ true
all_made f p h [] = refl
all_made f p h (x ∷ xs) = both_true (h x) (all_made f p h xs)

fields_placed : (now : ℤ) (filters : List (ℕ × Filter)) → are_placed (map (placed_field_filter now) filters) ≡ true
fields_placed now filters = all_made (placed_field_filter now) (λ f. is_placed f.1) (λ f. placed-placed now f.1) filters

measure_placed : (now : ℤ) (m : Measure) → is_placed_measure (placed_measure now m) ≡ true
measure_placed now m = fields_placed now m.filters

rollup_placed : (now : ℤ) (r : Rollup) → is_placed_rollup (placed_rollup now r) ≡ true
rollup_placed now r = fields_placed now r.filters

derived_placed : (now : ℤ) (d : Derived) → is_placed_derived (placed_derived now d) ≡ true
derived_placed now d = fields_placed now d.filters

explore_placed : (now : ℤ) (x : Explore) → is_placed_explore (placed_explore now x) ≡ true
explore_placed now x =
    both_true (both_true (fields_placed now x.always) (all_made (placed_measure now) is_placed_measure (measure_placed now) x.measures))
    (all_made (placed_rollup now) is_placed_rollup (rollup_placed now) x.rollups)

pub model-placed : (now : ℤ) (m : Model) → is_placed_model (placed_model now m) ≡ true
model-placed now m =
    both_true (all_made (placed_explore now) is_placed_explore (explore_placed now) m.explores)
    (all_made (placed_derived now) is_placed_derived (derived_placed now) m.derived)
