-- Where the cells of a line end, and the pieces of the snapshot line.
use Rattle.std.proofs.Common.{◌≡◌, ◌++◌, ◌∙◌, ◌<◌, ℕ, List, [], ◌∷◌, length, refl, sym, ap, arith}
use Rattle.std.proofs.lemmas.List.{append_assoc, append-nil}
use Rattle.lk_val.specs.declared.cell.Cell.{Cell}
use Rattle.lk_types.specs.declared.explore.Explore.{Explore}
use Rattle.lk_types.specs.declared.model.Pick.{Pick}
use Rattle.lk_reply.specs.Answers.{fields_of}

no_cells : (x : Explore) (picks : List Pick) → fields_of x picks [] ≡ []
no_cells x [] = refl
no_cells x (p ∷ picks) = refl

-- behind the last cell no field comes
pub ended : (x : Explore) (picks : List Pick) (cells : List Cell) (fields all : List (List ℕ)) → length cells < 1
    → fields ++ fields_of x picks cells ≡ all → fields ≡ all
ended x picks [] fields all none h = sym (append-nil fields) ∙ ap (λ rest. fields ++ rest) (sym (no_cells x picks)) ∙ h
ended x picks (c ∷ cells) fields all none h = absurd (omega (arith, none))

-- five pieces, one behind the other
pub regrouped : (a b c d e : List ℕ) → a ++ (b ++ (c ++ (d ++ e))) ≡ a ++ b ++ c ++ d ++ e
regrouped a b c d e = search (append_assoc)
