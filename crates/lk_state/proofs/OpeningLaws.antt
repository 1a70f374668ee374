-- Steps of an opening: one kept batch or seed after the other.
use Rattle.std.proofs.Common.{◌≡◌, ◌<◌, ◌+◌, ◌∷◌, ◌∙◌, [], ℕ, Bool, true, false, List, length, drop, get_or, sym, ap}
use Rattle.std.specs.Prelude.{Result, Ok, Err}
use Rattle.std.proofs.lemmas.List.{drop_more}
use Rattle.lk_val.specs.Memory.{Unless}
use Rattle.lk_table.specs.Batches.{and_then}
use Rattle.lk_table.specs.Contents.{Content}
use Rattle.lk_state.specs.Openings.{is_no_memory}
use Rattle.lk_state.specs.declared.fault.OpenFault.{OpenFault}

-- steps over the items of a list, each on what the one before gave, until one fails
module _ {X : Type 0} (step : List Content → X → Result (List Content) OpenFault) (all : List Content → List X → Result (List Content) OpenFault)
    (none : (tables : List Content) → all tables [] ≡ Ok tables)
    (more : (tables : List Content) (x : X) (xs : List X) → all tables (x ∷ xs) ≡ and_then (step tables x) (λ next. all next xs)) where
  abbrev pub IsSoFar : List Content → List X → ℕ → List Content → Type 0
  IsSoFar first xs i tables = all tables (drop i xs) ≡ all first xs

  module _ (first : List Content) (xs : List X) (i : ℕ) (tables : List Content) (so_far : IsSoFar first xs i tables)
      (x : X) (within : i < length xs) (is : x ≡ get_or xs i x) where
    here : all first xs ≡ and_then (step tables x) (λ next. all next (drop (i + 1) xs))
    here = sym so_far ∙ ap (all tables) (drop_more xs i x within ∙ ap (λ (y : X). y ∷ drop (i + 1) xs) (sym is)) ∙ more tables x (drop (i + 1) xs)

    pub step_more : (next : List Content) → Ok next ≡ step tables x → IsSoFar first xs (i + 1) next
    step_more next e = sym (here ∙ ap (λ (r : Result (List Content) OpenFault). and_then r (λ next. all next (drop (i + 1) xs))) (sym e))

    stops_by : (why : OpenFault) (b : Bool) → Unless b (Err why ≡ step tables x) → Unless b (Err why ≡ all first xs)
    stops_by why true fails = tt
    stops_by why false fails = sym (here ∙ ap (λ (r : Result (List Content) OpenFault). and_then r (λ next. all next (drop (i + 1) xs))) (sym fails))

    pub step_stops : (why : OpenFault) → Unless (is_no_memory why) (Err why ≡ step tables x) → Unless (is_no_memory why) (Err why ≡ all first xs)
    step_stops why fails = stops_by why (is_no_memory why) fails
