-- Where the cells of a line in JSON end, and that no answer has a float.
use Rattle.std.proofs.Common.{◌≡◌, ◌++◌, ◌∙◌, ◌<◌, ◌||◌, ℕ, false, List, [], ◌∷◌, Option, Some, None, length, map, refl, sym, ap, arith}
use Rattle.std.proofs.lemmas.List.{append-nil}
use Rattle.serde_json.specs.Data.{Data, string}
use Rattle.serde_json.specs.View.{items_of}
use Rattle.serde_json.specs.Written.{has_float, items_have_float}
use Rattle.lk_val.specs.declared.cell.Cell.{Cell}
use Rattle.lk_types.specs.declared.explore.Explore.{Explore}
use Rattle.lk_types.specs.declared.model.Pick.{Pick}
use Rattle.lk_types.specs.Printing.{cell_json}
use Rattle.lk_ask.specs.declared.told.Told.{Told}
use Rattle.lk_reply.specs.Answers.{name_of, shape_of}
use Rattle.lk_reply.specs.JsonAnswers.{answer_data, cells_of, row_of, text_or_null}

no_cells : (x : Explore) (picks : List Pick) → cells_of x picks [] ≡ []
no_cells x [] = refl
no_cells x (p ∷ picks) = refl

-- behind the last cell none comes
pub ended : (x : Explore) (picks : List Pick) (cells : List Cell) (values all : List Data) → length cells < 1
    → values ++ cells_of x picks cells ≡ all → values ≡ all
ended x picks [] values all none h = sym (append-nil values) ∙ ap (λ rest. values ++ rest) (sym (no_cells x picks)) ∙ h
ended x picks (c ∷ cells) values all none h = absurd (omega (arith, none))

-- ---- no floats

text_plain : (text : Option (List ℕ)) → has_float (text_or_null text) ≡ false
text_plain None = refl
text_plain (Some text) = refl

cells_plain : (x : Explore) (picks : List Pick) (cells : List Cell) → items_have_float (items_of (cells_of x picks cells)) ≡ false
cells_plain x [] cells = refl
cells_plain x (p ∷ picks) [] = refl
cells_plain x (p ∷ picks) (c ∷ cells) =
    (λ i. text_plain (cell_json (shape_of x p) c) i || cells_plain x picks cells i)

rows_plain : (x : Explore) (picks : List Pick) (rows : List (List Cell)) → items_have_float (items_of (map (row_of x picks) rows)) ≡ false
rows_plain x picks [] = refl
rows_plain x picks (row ∷ rows) = (λ i. cells_plain x picks row i || rows_plain x picks rows i)

names_plain : (x : Explore) (picks : List Pick) → items_have_float (items_of (map (λ p. string (name_of x p)) picks)) ≡ false
names_plain x [] = refl
names_plain x (p ∷ picks) = names_plain x picks

pub answer_plain : (x : Explore) (told : Told) (snapshot : ℕ) → has_float (answer_data x told snapshot) ≡ false
answer_plain x told snapshot =
    (λ i. names_plain x told.bound.picks i || (rows_plain x told.bound.picks told.rows i || false))
