-- A number among joined lists.
use Rattle.std.proofs.Common.{◌≡◌, ℕ, ◌||◌, List, [], ◌∷◌, ◌++◌, refl, sym, ap, ◌∙◌}
use Rattle.std.specs.Prelude.{flat_map, nat_eq}
use Rattle.std.specs.List.{list_any}
use Rattle.std.proofs.lemmas.List.Folds.{list_any-append}
use Rattle.lk_types.specs.Expressions.{has_number}
use Rattle.lk_types.specs.declared.explore.Explore.{Explore}
use Rattle.lk_types.specs.declared.explore.Measure.{Measure}
use Rattle.lk_types.specs.declared.filter.Filter.{Filter}
use Rattle.lk_semantics.specs.Answers.{filtered, measure_at, value_taken}
use Rattle.lk_semantics.specs.Derived.{asked_parts, field_parts, key_parts, measure_parts}
use Rattle.lk_semantics.specs.Joins.{mentions_of}

module _ {A : Type 0} (p : ℕ) (f : A → List ℕ) where
  -- a number is in lists that are joined where it is in one of them
  pub in_one : (xs : List A) → has_number p (flat_map f xs) ≡ list_any (λ x. has_number p (f x)) xs
  in_one [] = refl
  in_one (x ∷ xs) = list_any-append (nat_eq p) (f x) (flat_map f xs) ∙ ap (λ b. has_number p (f x) || b) (in_one xs)

in_filtered : (p : ℕ) (f : ℕ → List ℕ) (filters : List (ℕ × Filter)) → has_number p (flat_map f (filtered filters)) ≡ list_any (λ filter. has_number p (f filter.0)) filters
in_filtered p f [] = refl
in_filtered p f (x ∷ xs) = list_any-append (nat_eq p) (f x.0) (flat_map f (filtered xs)) ∙ ap (λ b. has_number p (f x.0) || b) (in_filtered p f xs)

-- the parts that some fields and measures mention
pub in_asked : (x : Explore) (p : ℕ) (fields measures : List ℕ)
    → (list_any (λ f. has_number p (field_parts x f)) fields || list_any (λ m. has_number p (measure_parts x (measure_at x m))) measures) ≡ has_number p (asked_parts x fields measures)
in_asked x p fields measures =
    (λ i. sym (in_one p (field_parts x) fields) i || sym (in_one p (λ m. measure_parts x (measure_at x m)) measures) i)
    ∙ sym (list_any-append (nat_eq p) (flat_map (field_parts x) fields) (flat_map (λ m. measure_parts x (measure_at x m)) measures))

-- the parts that a measure mentions
pub in_measure : (x : Explore) (p : ℕ) (m : Measure)
    → (((nat_eq p m.part || has_number p (key_parts x m)) || has_number p (mentions_of (value_taken m))) || list_any (λ filter. has_number p (field_parts x filter.0)) m.filters) ≡ has_number p (measure_parts x m)
in_measure x p m =
    ap (λ b. ((nat_eq p m.part || has_number p (key_parts x m)) || has_number p (mentions_of (value_taken m))) || b) (sym (in_filtered p (field_parts x) m.filters))
    ∙ ap (λ b. b || has_number p (flat_map (field_parts x) (filtered m.filters))) (sym (list_any-append (nat_eq p) (m.part ∷ key_parts x m) (mentions_of (value_taken m))))
    ∙ sym (list_any-append (nat_eq p) ((m.part ∷ key_parts x m) ++ mentions_of (value_taken m)) (flat_map (field_parts x) (filtered m.filters)))
