-- The text in JSON of a query's answer, with the keys in the order of their bytes. (lookd)
use Rattle.std.specs.Prelude.{ℕ, Bool, List, [], ◌∷◌, map, codes, Option, Some, None}
use Rattle.serde_json.specs.Data.{Data, array, boolean, member, no_members, null, number, object, string, unsigned}
use Rattle.serde_json.specs.View.{items_of}
use Rattle.serde_json.specs.Written.{compact_text}
use Rattle.lk_val.specs.declared.cell.Cell.{Cell}
use Rattle.lk_types.specs.Printing.{cell_json}
use Rattle.lk_types.specs.declared.explore.Explore.{Explore}
use Rattle.lk_types.specs.declared.model.Pick.{Pick}
use Rattle.lk_ask.specs.declared.told.Told.{Told}
use Rattle.lk_reply.specs.Answers.{name_of, shape_of}

-- a text, or null
abbrev pub text_or_null : Option (List ℕ) → Data
text_or_null None = null
text_or_null (Some text) = string text

-- the cells of a line, each by its column
abbrev pub cells_of : Explore → List Pick → List Cell → List Data
cells_of x (p ∷ picks) (c ∷ cells) = text_or_null (cell_json (shape_of x p) c) ∷ cells_of x picks cells
cells_of x picks cells = []

abbrev pub row_of : Explore → List Pick → List Cell → Data
row_of x picks cells = array (items_of (cells_of x picks cells))

-- the names of the columns
abbrev pub names_of : Explore → List Pick → Data
names_of x picks = array (items_of (map (λ p. string (name_of x p)) picks))

-- the lines
abbrev pub rows_of : Explore → List Pick → List (List Cell) → Data
rows_of x picks rows = array (items_of (map (row_of x picks) rows))

-- whether no line was cut, the names that were asked for, the lines, and the snapshot that the answer is of
abbrev pub answer_over : Bool → Data → Data → ℕ → Data
answer_over complete names rows snapshot =
    object (member (codes "complete") (boolean complete)
    (member (codes "fields") names
    (member (codes "rows") rows
    (member (codes "snapshot") (number (unsigned snapshot)) no_members))))

abbrev pub answer_data : Explore → Told → ℕ → Data
answer_data x told snapshot =
    answer_over told.complete (names_of x told.bound.picks) (rows_of x told.bound.picks told.rows) snapshot

-- without a space between
unfoldable pub answer_json : Explore → Told → ℕ → List ℕ
answer_json x told snapshot = compact_text (answer_data x told snapshot)
