-- Measures that are only filtered on, as picks behind those of a query.
use Rattle.std.proofs.Common.{◌≡◌, ◌∙◌, ℕ, List, [], ◌∷◌, ◌++◌, map, append_assoc, refl, sym, ap}
use Rattle.lk_types.specs.declared.model.Pick.{Pick}
use Rattle.lk_types.specs.declared.model.Pick.TheVariants.{Dim, Mea}
use Rattle.lk_types.specs.declared.explore.Explore.{Explore}
use Rattle.lk_types.specs.declared.filter.Filter.{Filter}
use Rattle.lk_semantics.specs.Answers.{dims_of, filtered, picked_measures}
use Rattle.lk_semantics.specs.Derived.{joins_for, query_joins}

-- they add no dimension
pub dims_with : (picks : List Pick) (measures : List ℕ) → dims_of (picks ++ map Mea measures) ≡ dims_of picks
dims_with [] [] = refl
dims_with [] (m ∷ measures) = dims_with [] measures
dims_with (Dim f ∷ picks) measures = ap (λ fs. f ∷ fs) (dims_with picks measures)
dims_with (Mea m ∷ picks) measures = dims_with picks measures

-- and stand behind the picked measures
pub measures_with : (picks : List Pick) (measures : List ℕ) → picked_measures (picks ++ map Mea measures) ≡ picked_measures picks ++ measures
measures_with [] [] = refl
measures_with [] (m ∷ measures) = ap (λ ms. m ∷ ms) (measures_with [] measures)
measures_with (Dim f ∷ picks) measures = measures_with picks measures
measures_with (Mea m ∷ picks) measures = ap (λ ms. m ∷ ms) (measures_with picks measures)

-- the joins of all that is picked and filtered on are those of the query
pub joins_of : (x : Explore) (picks : List Pick) (rows access having : List (ℕ × Filter)) (all : List Pick) (fields : List ℕ) → all ≡ picks ++ map Mea (filtered having) → fields ≡ filtered rows ++ filtered access
    → joins_for x (dims_of all ++ fields) (picked_measures all) ≡ query_joins x picks rows access having
joins_of x picks rows access having all fields p f =
    (λ i. joins_for x (dims_of (p i) ++ f i) (picked_measures (p i)))
    ∙ (λ i. joins_for x (dims_with picks (filtered having) i ++ (filtered rows ++ filtered access)) (measures_with picks (filtered having) i))
    ∙ ap (λ fields. joins_for x fields (picked_measures picks ++ filtered having)) (sym (append_assoc (dims_of picks) (filtered rows) (filtered access)))
