-- The text in CSV of a query's answer: the names that were asked for, a record for each line, and the snapshot that it is of. (RFC 4180; lookd)
use Rattle.std.specs.Prelude.{ℕ, Bool, true, false, List, [], ◌∷◌, ◌++◌, map, codes, decimal}
use Rattle.lk_val.specs.declared.cell.Cell.{Cell}
use Rattle.lk_csv.specs.Records.{records_text}
use Rattle.lk_types.specs.Printing.{cell_text}
use Rattle.lk_types.specs.declared.explore.Explore.{Explore}
use Rattle.lk_types.specs.declared.explore.Shape.{Shape}
use Rattle.lk_types.specs.declared.explore.Shape.TheVariants as shape
use Rattle.lk_types.specs.declared.model.Pick.{Pick}
use Rattle.lk_types.specs.declared.model.Pick.TheVariants as pick
use Rattle.lk_semantics.specs.Rows.{field_at}
use Rattle.lk_semantics.specs.Answers.{measure_at}
use Rattle.lk_ask.specs.declared.told.Told.{Told}

-- the name of a column of the answer
abbrev pub name_of : Explore → Pick → List ℕ
name_of x (pick.Dim f) = (field_at x f).name
name_of x (pick.Mea m) = (measure_at x m).name

-- how its cells print: a dimension by its tiers or its timeframe, a measure plainly
abbrev pub shape_of : Explore → Pick → Shape
shape_of x (pick.Dim f) = (field_at x f).shape
shape_of x (pick.Mea m) = shape.Plain

-- the cells of a line, each by its column
abbrev pub fields_of : Explore → List Pick → List Cell → List (List ℕ)
fields_of x (p ∷ picks) (c ∷ cells) = cell_text (shape_of x p) c ∷ fields_of x picks cells
fields_of x picks cells = []

-- whether the lines are all that the answer has
abbrev pub completeness : Bool → List ℕ
completeness true = codes "complete"
completeness false = codes "cut"

abbrev pub snapshot_line : ℕ → Bool → List ℕ
snapshot_line snapshot complete = codes "# snapshot " ++ decimal snapshot ++ codes ", " ++ completeness complete ++ codes "\n"

unfoldable pub answer_text : Explore → Told → ℕ → List ℕ
answer_text x told snapshot =
    records_text (map (name_of x) told.bound.picks ∷ map (fields_of x told.bound.picks) told.rows)
    ++ snapshot_line snapshot told.complete
