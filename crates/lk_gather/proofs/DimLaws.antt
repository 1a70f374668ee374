-- Fields and tests on fields that were made ready one after the other.
use Rattle.std.proofs.Common.{◌≡◌, ◌∙◌, ℕ, true, ◌&&◌, List, [], ◌∷◌, map, refl, ap}
use Rattle.std.specs.List.{list_all}
use Rattle.lk_types.specs.Filters.{passes}
use Rattle.lk_types.specs.declared.explore.Explore.{Explore}
use Rattle.lk_types.specs.declared.filter.Filter.{Filter}
use Rattle.lk_types.specs.declared.rows.Joined.{Joined}
use Rattle.lk_semantics.proofs.EveryLaws.{both}
use Rattle.lk_semantics.specs.Rows.{dim_value, passes_all, tuple_of}
use Rattle.lk_gather.specs.Dims.{AreDims, AreTests, IsTest, are_fine_tests, dim_of, is_fine_dim, is_met_by}
use Rattle.lk_gather.specs.declared.dims.Dim.{Dim}
use Rattle.lk_gather.specs.declared.dims.FieldTest.{FieldTest}

-- ---- fields

pub dims_fine : (x : Explore) (fs : List ℕ) (ds : List Dim) → AreDims x fs ds → list_all is_fine_dim ds ≡ true
dims_fine x [] [] h = refl
dims_fine x [] (d ∷ ds) h = absurd h
dims_fine x (f ∷ fs) [] h = absurd h
dims_fine x (f ∷ fs) (d ∷ ds) h = both (is_fine_dim d) (list_all is_fine_dim ds) h.0.fine (dims_fine x fs ds h.1)

pub dims_values : (x : Explore) (row : Joined) (fs : List ℕ) (ds : List Dim) → AreDims x fs ds → map (λ d. dim_of d row) ds ≡ tuple_of x fs row
dims_values x row [] [] h = refl
dims_values x row [] (d ∷ ds) h = absurd h
dims_values x row (f ∷ fs) [] h = absurd h
dims_values x row (f ∷ fs) (d ∷ ds) h =
    ap (λ v. v ∷ map (λ e. dim_of e row) ds) (h.0.value row) ∙ ap (λ vs. dim_value x row f ∷ vs) (dims_values x row fs ds h.1)

-- ---- tests

pub tests_fine : (x : Explore) (fs : List (ℕ × Filter)) (ts : List FieldTest) → AreTests x fs ts → are_fine_tests ts ≡ true
tests_fine x [] [] h = refl
tests_fine x [] (t ∷ ts) h = absurd h
tests_fine x (f ∷ fs) [] h = absurd h
tests_fine x (f ∷ fs) (t ∷ ts) h = both (is_fine_dim t.dim) (are_fine_tests ts) h.0.dim.fine (tests_fine x fs ts h.1)

one_met : (x : Explore) (row : Joined) (f : ℕ × Filter) (t : FieldTest) → IsTest x f t → is_met_by row t ≡ passes f.1 (dim_value x row f.0)
one_met x row f t h = h.filter (dim_of t.dim row) ∙ ap (passes f.1) (h.dim.value row)

pub tests_met : (x : Explore) (row : Joined) (fs : List (ℕ × Filter)) (ts : List FieldTest) → AreTests x fs ts
    → list_all (is_met_by row) ts ≡ passes_all x fs row
tests_met x row [] [] h = refl
tests_met x row [] (t ∷ ts) h = absurd h
tests_met x row (f ∷ fs) [] h = absurd h
tests_met x row (f ∷ fs) (t ∷ ts) h =
    ap (λ b. b && list_all (is_met_by row) ts) (one_met x row f t h.0)
    ∙ ap (λ b. passes f.1 (dim_value x row f.0) && b) (tests_met x row fs ts h.1)
