-- Filters by the names of their fields: put in one by one from the last, and at their moment.
use Rattle.std.proofs.Common.{◌≡◌, ◌∙◌, ℕ, Bool, suc, ◌+◌, true, false, cond, not, List, [], ◌∷◌, ◌++◌, refl, sym, ap, arith}
use Rattle.std.specs.Prelude.{ℤ, nat_eq, ◌||◌}
use Rattle.std.specs.List.{filter, list_any, insert, position_or_len}
use Rattle.std.proofs.lemmas.List.{map-append}
use Rattle.std.proofs.lemmas.List.Elements.{filter-append}
use Rattle.lk_types.specs.Expressions.{has_number}
use Rattle.lk_types.specs.declared.explore.Explore.{Explore}
use Rattle.lk_types.specs.declared.filter.Filter.{Filter}
use Rattle.lk_semantics.specs.Answers.{filtered}
use Rattle.lk_semantics.specs.Derived.{by_name, put_by_name, with_always}
use Rattle.lk_filter.specs.PlacedModel.{placed_field_filter}
use Rattle.lk_types.specs.declared.model.Pick.TheVariants.{Dim, Mea}
use Rattle.lk_query.specs.Bindings.{each_placed, filters_at, on_dims, on_measures}
use Rattle.lk_query.specs.Readings.{PickFilter}
use Rattle.lk_query.specs.Rows.{is_first_field, left_out, stands_first, with_always_at}

-- a filter on the field is one whose field is it
pub any_filtered : (field : ℕ) (fs : List (ℕ × Filter)) → list_any (λ f. nat_eq field f.0) fs ≡ has_number field (filtered fs)
any_filtered field [] = refl
any_filtered field (f ∷ fs) = ap (λ b. nat_eq field f.0 || b) (any_filtered field fs)

-- a filter put at its place
pub put_at : (x : Explore) (f : ℕ × Filter) (gs : List (ℕ × Filter)) → insert gs (position_or_len (stands_first x f.0) gs) f ≡ put_by_name x f gs
put_at x f [] = refl
put_at x f (g ∷ gs) = elim (is_first_field x f.0 g.0) as (λ b. insert (g ∷ gs) (cond (not b) (1 + position_or_len (stands_first x f.0) gs) 0) f ≡ cond b (f ∷ g ∷ gs) (g ∷ put_by_name x f gs)) [
  | true ↦ refl
  | false ↦ let n = position_or_len (stands_first x f.0) gs in let next : 1 + n ≡ suc n = omega arith in ap (λ i. insert (g ∷ gs) i f) next ∙ ap (λ t. g ∷ t) (put_at x f gs)
]

-- filters put into others, the last one first
abbrev pub put_all : Explore → List (ℕ × Filter) → List (ℕ × Filter) → List (ℕ × Filter)
put_all x [] sorted = sorted
put_all x (f ∷ fs) sorted = put_by_name x f (put_all x fs sorted)

pub all_put : (x : Explore) (fs : List (ℕ × Filter)) → put_all x fs [] ≡ by_name x fs
all_put x [] = refl
all_put x (f ∷ fs) = ap (put_by_name x f) (all_put x fs)

pub last_put : (x : Explore) (fs : List (ℕ × Filter)) (f : ℕ × Filter) (sorted : List (ℕ × Filter)) → put_all x fs (put_by_name x f sorted) ≡ put_all x (fs ++ f ∷ []) sorted
last_put x [] f sorted = refl
last_put x (g ∷ fs) f sorted = ap (put_by_name x g) (last_put x fs f sorted)

module _ (now : ℤ) (x : Explore) where
  put_placed : (f : ℕ × Filter) (gs : List (ℕ × Filter)) → each_placed now (put_by_name x f gs) ≡ put_by_name x (placed_field_filter now f) (each_placed now gs)
  put_placed f [] = refl
  put_placed f (g ∷ gs) = elim (is_first_field x f.0 g.0) as (λ b. each_placed now (cond b (f ∷ g ∷ gs) (g ∷ put_by_name x f gs)) ≡ cond b (placed_field_filter now f ∷ each_placed now (g ∷ gs)) (placed_field_filter now g ∷ put_by_name x (placed_field_filter now f) (each_placed now gs))) [
    | true ↦ refl
    | false ↦ ap (λ t. placed_field_filter now g ∷ t) (put_placed f gs)
  ]

  by_name_placed : (fs : List (ℕ × Filter)) → each_placed now (by_name x fs) ≡ by_name x (each_placed now fs)
  by_name_placed [] = refl
  by_name_placed (f ∷ fs) = put_placed f (by_name x fs) ∙ ap (put_by_name x (placed_field_filter now f)) (by_name_placed fs)

  filtered_placed : (fs : List (ℕ × Filter)) → filtered (each_placed now fs) ≡ filtered fs
  filtered_placed [] = refl
  filtered_placed (f ∷ fs) = ap (λ ns. f.0 ∷ ns) (filtered_placed fs)

  -- the filters with the defaults, at a moment
  pub always_placed : (fs : List (ℕ × Filter)) → with_always_at now x (each_placed now fs) ≡ each_placed now (with_always x fs)
  always_placed fs =
      (λ i. by_name x (each_placed now fs ++ each_placed now (filter (λ (f : ℕ × Filter). not (any_filtered f.0 (each_placed now fs) i)) x.always)))
      ∙ ap (λ ns. by_name x (each_placed now fs ++ each_placed now (filter (λ (f : ℕ × Filter). not (has_number f.0 ns)) x.always))) (filtered_placed fs)
      ∙ ap (by_name x) (sym (map-append (placed_field_filter now) fs (filter (λ (f : ℕ × Filter). not (has_number f.0 (filtered fs))) x.always)))
      ∙ sym (by_name_placed (fs ++ filter (λ (f : ℕ × Filter). not (has_number f.0 (filtered fs))) x.always))

-- the filters of a bound query, each list by itself
pub filters_made : (passed now : ℤ) (x : Explore) (access filters : List PickFilter) (made own rows having : List (ℕ × Filter)) → passed ≡ now
    → made ≡ each_placed passed (on_dims access) → own ≡ each_placed passed (on_dims filters) → rows ≡ with_always_at passed x own → having ≡ each_placed passed (on_measures filters)
    → record { access = made; rows = rows; having = having } ≡ filters_at now x access filters
filters_made passed now x access filters made own rows having same first second third last =
    (λ i. record { access = first i; rows = (third ∙ ap (with_always_at passed x) second ∙ always_placed passed x (on_dims filters)) i; having = last i })
    ∙ ap (λ n. filters_at n x access filters) same

-- defaults that are left out, one by one
pub left_out_by_one : (now : ℤ) (filters : List (ℕ × Filter)) (f : ℕ × Filter) (rest : List (ℕ × Filter))
    → each_placed now (left_out filters (f ∷ rest)) ≡ each_placed now (left_out filters (f ∷ [])) ++ each_placed now (left_out filters rest)
left_out_by_one now filters f rest =
    let kept : (ℕ × Filter) → Bool = λ d. not (list_any (λ g. nat_eq d.0 g.0) filters) in
    ap (each_placed now) (filter-append kept (f ∷ []) rest) ∙ map-append (placed_field_filter now) (filter kept (f ∷ [])) (filter kept rest)

-- filters on dimensions, one by one
pub on_dims_by_one : (now : ℤ) (f : PickFilter) (rest : List PickFilter) → each_placed now (on_dims (f ∷ rest)) ≡ each_placed now (on_dims (f ∷ [])) ++ each_placed now (on_dims rest)
on_dims_by_one now (Dim f, filter) rest = refl
on_dims_by_one now (Mea m, filter) rest = refl

-- filters on measures, one by one
pub on_measures_by_one : (now : ℤ) (f : PickFilter) (rest : List PickFilter) → each_placed now (on_measures (f ∷ rest)) ≡ each_placed now (on_measures (f ∷ [])) ++ each_placed now (on_measures rest)
on_measures_by_one now (Dim f, filter) rest = refl
on_measures_by_one now (Mea m, filter) rest = refl
