-- The joins of a derived table's query hang on which fields it filters, and not on their order.
use Rattle.std.proofs.Common.{◌≡◌, ℕ, ◌+◌, Bool, true, false, ◌||◌, List, [], ◌∷◌, ◌++◌, length, map, refl, sym, ap, ◌∙◌}
use Rattle.std.specs.Prelude.{filter, flat_map, if◌then◌else◌, nat_eq, not}
use Rattle.std.specs.List.{list_any}
use Rattle.std.specs.Ordering.{is_le, nat_cmp}
use Rattle.std.specs.Cmp.Lexicographic.{slice_cmp}
use Rattle.std.proofs.lemmas.List.Folds.{list_any-append}
use Rattle.lk_val.specs.Least.{least_set}
use Rattle.lk_types.specs.Expressions.{has_number}
use Rattle.lk_types.specs.declared.explore.Explore.{Explore}
use Rattle.lk_types.specs.declared.filter.Filter.{Filter}
use Rattle.lk_types.specs.declared.model.Derived.{Derived}
use Rattle.lk_types.specs.declared.model.Pick.{Pick}
use Rattle.lk_types.specs.declared.model.Pick.TheVariants.{Dim, Mea}
use Rattle.lk_semantics.specs.Answers.{components_of, dims_of, filtered, measure_at, picked_measures, query_components}
use Rattle.lk_semantics.specs.Derived.{asked_parts, by_name, derived_query, field_parts, joins_for, measure_parts, put_by_name, with_always}
use Rattle.lk_semantics.specs.Joins.{brings_one_of, condition_of, join_at, mentions_of, needed_joins, numbers_below}
use Rattle.lk_semantics.specs.Rows.{field_at}
use Rattle.lk_tree.proofs.AskingLaws.{in_asked}
use Rattle.lk_stored.specs.Reads.{filtered_fields, left_out}
use Rattle.lk_stored.proofs.Logic.{append_none, or_swap}

-- the same parts need the same joins
same_needs : (x : Explore) (ps qs : List ℕ) → ((p : ℕ) → has_number p ps ≡ has_number p qs) → needed_joins x ps ≡ needed_joins x qs
same_needs x ps qs h = λ i. least_set nat_eq (numbers_below (length x.joins))
    (λ joins j. h (j + 1) i || has_number j x.always_join || brings_one_of (mentions_of x.always_where) j
    || list_any (λ k. has_number j (join_at x k).required || brings_one_of (mentions_of (condition_of (join_at x k))) j) joins)

module _ (x : Explore) (test : ℕ → Bool) where
  -- filters in the order of their fields' names are on the same fields
  any_put : (f : ℕ × Filter) (gs : List (ℕ × Filter)) → list_any test (filtered (put_by_name x f gs)) ≡ (test f.0 || list_any test (filtered gs))
  any_put f [] = refl
  any_put f (g ∷ gs) =
      elim (is_le (slice_cmp nat_cmp (field_at x f.0).name (field_at x g.0).name)) as (λ b. list_any test (filtered (if b then f ∷ g ∷ gs else g ∷ put_by_name x f gs)) ≡ (test f.0 || (test g.0 || list_any test (filtered gs)))) [
        | true ↦ refl
        | false ↦ ap (λ b. test g.0 || b) (any_put f gs) ∙ or_swap (test g.0) (test f.0) (list_any test (filtered gs))
      ]

  any_sorted : (fs : List (ℕ × Filter)) → list_any test (filtered (by_name x fs)) ≡ list_any test (filtered fs)
  any_sorted [] = refl
  any_sorted (f ∷ fs) = any_put f (by_name x fs) ∙ ap (λ b. test f.0 || b) (any_sorted fs)

filtered_append : (fs gs : List (ℕ × Filter)) → filtered (fs ++ gs) ≡ filtered fs ++ filtered gs
filtered_append [] gs = refl
filtered_append (f ∷ fs) gs = ap (λ ns. f.0 ∷ ns) (filtered_append fs gs)

left_are : (fields : List ℕ) (fs : List (ℕ × Filter)) → filtered (filter (λ f. not (has_number f.0 fields)) fs) ≡ flat_map (left_out fields) fs
left_are fields [] = refl
left_are fields (f ∷ fs) = elim (not (has_number f.0 fields)) as (λ b. filtered (if b then f ∷ filter (λ g. not (has_number g.0 fields)) fs else filter (λ g. not (has_number g.0 fields)) fs) ≡ (if b then f.0 ∷ [] else []) ++ flat_map (left_out fields) fs) [
  | true ↦ ap (λ ns. f.0 ∷ ns) (left_are fields fs)
  | false ↦ left_are fields fs
]

-- the joins of a derived table's query
pub derived_joins_are : (x : Explore) (d : Derived) →
    joins_for x (dims_of (map (λ c. c.1) d.columns) ++ filtered_fields x d.filters) (picked_measures (map (λ c. c.1) d.columns)) ≡ (derived_query x d).joins
derived_joins_are x d =
    let picks : List Pick = map (λ c. c.1) d.columns in
    let dims = dims_of picks in
    let measures = picked_measures picks in
    let left = filter (λ f. not (has_number f.0 (filtered d.filters))) x.always in
    let components = components_of x measures in
    let fields : ℕ → Bool = λ p. list_any (λ f. has_number p (field_parts x f)) (dims ++ filtered_fields x d.filters) in
    same_needs x (asked_parts x (dims ++ filtered_fields x d.filters) components) (asked_parts x (dims ++ filtered (with_always x d.filters) ++ []) components)
    (λ p.
    let test : ℕ → Bool = λ f. has_number p (field_parts x f) in
    let rest = list_any (λ m. has_number p (measure_parts x (measure_at x m))) components in
    sym (in_asked x p (dims ++ filtered_fields x d.filters) components)
    ∙ ap (λ b. b || rest)
    (list_any-append test dims (filtered_fields x d.filters)
    ∙ ap (λ ns. list_any test dims || list_any test (filtered d.filters ++ ns)) (sym (left_are (filtered d.filters) x.always))
    ∙ ap (λ ns. list_any test dims || list_any test ns) (sym (filtered_append d.filters left))
    ∙ ap (λ b. list_any test dims || b) (sym (any_sorted x test (d.filters ++ left)))
    ∙ sym (list_any-append test dims (filtered (with_always x d.filters)))
    ∙ ap (list_any test) (sym (append_none (dims ++ filtered (with_always x d.filters)))))
    ∙ in_asked x p (dims ++ filtered (with_always x d.filters) ++ []) components)
    ∙ ap (λ ms. joins_for x (dims ++ filtered (with_always x d.filters) ++ []) ms) (sym (append_none measures))

-- and its components
pub derived_components_are : (x : Explore) (d : Derived) → components_of x (picked_measures (map (λ c. c.1) d.columns)) ≡ query_components x (derived_query x d)
derived_components_are x d = ap (components_of x) (sym (append_none (picked_measures (map (λ c. c.1) d.columns))))

-- the dimensions and measures of an aggregate table as picks
pub dims_picked : (ds ms : List ℕ) → dims_of (map Dim ds ++ map Mea ms) ≡ ds
dims_picked [] [] = refl
dims_picked [] (m ∷ ms) = dims_picked [] ms
dims_picked (d ∷ ds) ms = ap (λ ns. d ∷ ns) (dims_picked ds ms)

pub measures_picked : (ds ms : List ℕ) → picked_measures (map Dim ds ++ map Mea ms) ≡ ms
measures_picked [] [] = refl
measures_picked [] (m ∷ ms) = ap (λ ns. m ∷ ns) (measures_picked [] ms)
measures_picked (d ∷ ds) ms = measures_picked ds ms
