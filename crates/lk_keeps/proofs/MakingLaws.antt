-- What is made part by part, unless a part is too large.
use Rattle.std.proofs.Common.{◌≡◌, ◌∙◌, ℕ, true, false, ◌&&◌, List, [], ◌∷◌, ap, length, map, sym, ◌+◌, ◌<◌, ◌++◌, drop, refl}
use Rattle.std.specs.Prelude.{Ok, if◌then◌else◌, slice_index_or, filter}
use Rattle.std.proofs.lemmas.List.{drop_more}
use Rattle.lk_val.specs.Memory.{IsUnlessMemory}
use Rattle.lk_types.specs.Expressions.{has_number}
use Rattle.lk_types.specs.declared.explore.Explore.{Explore}
use Rattle.lk_types.specs.declared.explore.Rollup.{Rollup}
use Rattle.lk_types.specs.declared.model.Derived.{Derived}
use Rattle.lk_types.specs.declared.rows.Sources.{Sources}
use Rattle.lk_semantics.specs.Rollups.{no_rollup, partials_of, rollup_at}
use Rattle.lk_rollup.specs.Builds.{are_many_cells, is_no_memory}
use Rattle.lk_keeps.specs.Keeps.{is_of}
use Rattle.lk_keeps.specs.Steps.{large_persisted, unless_any, large_among}

-- where a part is made, none of it is too large
pub part_made : {T : Type 0} (value part : T) (names : List (List ℕ)) → IsUnlessMemory is_no_memory (Ok value) (unless_any part names)
    → (value ≡ part) × (names ≡ [])
part_made value part [] told = (cc, refl)
part_made value part (name ∷ names) told = cc

pub is_made : {T : Type 0} (value part : T) (names : List (List ℕ)) → value ≡ part → names ≡ [] → IsUnlessMemory is_no_memory (Ok value) (unless_any part names)
is_made value part names made none = (λ i. Ok (made i)) ∙ ap (unless_any part) (sym none)

module _ (groups : List ℕ) (s : Sources) where
  pub no_large_table : (d : ℕ) (t : Derived) → is_of groups t.datagroup ≡ false → large_persisted groups s ((d, t) ∷ []) ≡ []
  no_large_table d t not_of =
      ap (λ b. map (λ (table : ℕ × Derived). table.1.name) (if b && are_many_cells (length (slice_index_or s.derived d [])) (length t.columns) then (d, t) ∷ [] else [])) not_of

  pub table_fits : (d : ℕ) (t : Derived) → is_of groups t.datagroup ≡ true → are_many_cells (length (slice_index_or s.derived d [])) (length t.columns) ≡ false
      → large_persisted groups s ((d, t) ∷ []) ≡ []
  table_fits d t of few = λ i. map (λ (table : ℕ × Derived). table.1.name) (if of i && few i then (d, t) ∷ [] else [])

  -- ---- aggregate tables, one more

  large_rollups_split : (x : Explore) (r : Rollup) (rs : List Rollup) → large_among groups s x (r ∷ []) ++ large_among groups s x rs ≡ large_among groups s x (r ∷ rs)
  large_rollups_split x r rs =
      let names = λ (rollup : Rollup). rollup.name in
      let is_large = λ (rollup : Rollup). has_number rollup.datagroup groups && are_many_cells (length (partials_of x s rollup)) (length rollup.dims + length rollup.measures) in
      elim (is_large r) as (λ b. map names (if b then r ∷ [] else []) ++ map names (filter is_large rs) ≡ map names (if b then r ∷ filter is_large rs else filter is_large rs)) [
        | true ↦ refl
        | false ↦ refl
      ]

  next_rollup : (x : Explore) (i : ℕ) → i < length x.rollups
      → large_among groups s x (rollup_at x i ∷ []) ++ large_among groups s x (drop (i + 1) x.rollups) ≡ large_among groups s x (drop i x.rollups)
  next_rollup x i less = large_rollups_split x (rollup_at x i) (drop (i + 1) x.rollups) ∙ ap (large_among groups s x) (sym (drop_more x.rollups i no_rollup less))

  pub rollups_next : {T : Type 0} (x : Explore) (value part : T) (number place : ℕ) (all : List (List ℕ)) → number < length x.rollups → number ≡ place
      → large_among groups s x (drop place x.rollups) ≡ all
      → IsUnlessMemory is_no_memory (Ok value) (unless_any part (large_among groups s x (rollup_at x number ∷ [])))
      → large_among groups s x (drop (place + 1) x.rollups) ≡ all
  rollups_next x value part number place all less same so_far told =
      let rest = λ (i : ℕ). large_among groups s x (drop i x.rollups) in
      let none = (part_made value part (large_among groups s x (rollup_at x number ∷ [])) told).1 in
      ap (λ i. rest (i + 1)) (sym same) ∙ ap (λ names. names ++ rest (number + 1)) (sym none) ∙ next_rollup x number less ∙ ap rest same ∙ so_far
