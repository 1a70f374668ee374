-- The order in which derived tables are made: each behind those that its query reads.
use Rattle.std.specs.Prelude.{◌≡◌, ◌<◌, ℕ, zero, suc, Bool, true, ◌&&◌, nat_lt, not, if◌then◌else◌, List, [], ◌∷◌, ◌++◌, length, map, slice_index_or}
use Rattle.std.specs.List.{list_all}
use Rattle.lk_types.specs.Expressions.{has_number}
use Rattle.lk_types.specs.declared.model.Model.{Model}
use Rattle.lk_semantics.specs.Derived.{derived_query, explore_at}
use Rattle.lk_semantics.specs.Joins.{numbers_below}
use Rattle.lk_semantics.specs.Reading.{read_by}
use Rattle.lk_fill.specs.Reads.{tables_read}

-- each of some tables, one after the other, stands behind those that its query reads
abbrev pub stand_behind : Model → List ℕ → List ℕ → Bool
stand_behind m before [] = true
stand_behind m before (d ∷ order) = list_all (λ e. has_number e before) (read_by m d) && stand_behind m (before ++ d ∷ []) order

-- no number stands in it twice
abbrev pub are_different : List ℕ → Bool
are_different [] = true
are_different (d ∷ order) = not (has_number d order) && are_different order

-- every derived table stands in it once, behind those that its query reads, and nothing else
pub record IsDeriveOrder (m : Model) (order : List ℕ) : Type 0 where
  pub once : are_different order ≡ true
  pub within : list_all (λ d. nat_lt d (length m.derived)) order ≡ true
  pub each : (d : ℕ) → d < length m.derived → has_number d order ≡ true
  pub behind : stand_behind m [] order ≡ true

-- ---- how the program finds it: in rounds, of which each adds the tables that are not there yet and all of whose reads are

abbrev pub is_ready : List ℕ → ℕ → List ℕ → Bool
is_ready order d reads = not (has_number d order) && list_all (λ e. has_number e order) reads

abbrev pub with_ready : List (List ℕ) → List ℕ → List ℕ → List ℕ
with_ready reads [] order = order
with_ready reads (d ∷ ds) order = with_ready reads ds (if is_ready order d (slice_index_or reads d []) then order ++ d ∷ [] else order)

abbrev pub after_rounds : List (List ℕ) → ℕ → List ℕ
after_rounds reads zero = []
after_rounds reads (suc n) = with_ready reads (numbers_below (length reads)) (after_rounds reads n)

-- what each derived table reads
abbrev pub reads_of_each : Model → List (List ℕ)
reads_of_each m = map (λ d. tables_read (explore_at m d.explore) (derived_query (explore_at m d.explore) d).joins) m.derived
