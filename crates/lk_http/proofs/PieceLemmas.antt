-- The first piece of a path before a slash, and what stands behind that slash.
use Rattle.std.proofs.Common.{◌≡◌, ◌∙◌, ℕ, suc, ◌<◌, Bool, true, false, List, [], ◌∷◌, ◌++◌, length, refl, sym, ap, cond, Option, Some, None}
use Rattle.std.specs.Prelude.{◌==◌}
use Rattle.std.specs.List.{onto_first, slice_split}
use Rattle.std.specs.Option.{is_some}
use Rattle.matchit.specs.Seek.{has_slash, segment}

abbrev pub first_piece : List ℕ → List ℕ
first_piece [] = []
first_piece (b ∷ path) = cond (b == 47) [] (b ∷ first_piece path)

abbrev pub behind : List ℕ → Option (List ℕ)
behind [] = None
behind (b ∷ path) = cond (b == 47) (Some path) (behind path)

abbrev pub pieces : List ℕ → List (List ℕ)
pieces path = slice_split (λ b. b == 47) path

abbrev pub more_pieces : Option (List ℕ) → List (List ℕ)
more_pieces None = []
more_pieces (Some path) = pieces path

onto : (b : ℕ) (slash : Bool) (path : List ℕ) → pieces path ≡ first_piece path ∷ more_pieces (behind path)
    → cond slash ([] ∷ pieces path) (onto_first b (pieces path)) ≡ cond slash [] (b ∷ first_piece path) ∷ more_pieces (cond slash (Some path) (behind path))
onto b true path is = refl
onto b false path is = ap (onto_first b) is

pub pieces_are : (path : List ℕ) → pieces path ≡ first_piece path ∷ more_pieces (behind path)
pieces_are [] = refl
pieces_are (b ∷ path) = onto b (b == 47) path (pieces_are path)

-- a path is its first piece, and where that ends at a slash the slash and what is behind it
abbrev pub ending : Option (List ℕ) → List ℕ
ending None = []
ending (Some path) = 47 ∷ path
