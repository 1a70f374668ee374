-- The records of a table's text as its rows, and the first row that has a mark which an earlier row has. (lookd)
use Rattle.std.specs.Prelude.{ℕ, Bool, false, ◌+◌, if◌then◌else◌, List, [], ◌∷◌, ◌++◌, length, Option, Some, None, Result, Ok, Err}
use Rattle.std.specs.List.{list_any}
use Rattle.lk_val.specs.declared.fault.FaultLine.{FaultLine}
use Rattle.lk_val.specs.declared.fault.ModelFault.{ModelFault}
use Rattle.lk_val.specs.declared.fault.ModelFault.TheVariants.{Fault}

-- a record, as its fields
abbrev pub Fields : Type 0
Fields = List (List ℕ)

-- a fault of a row and of two names in it; rows count from 1, and the header is row 0
abbrev pub row_line : List ℕ → List ℕ → ℕ → List ℕ → List ℕ → FaultLine
row_line code path row name other =
    record { code = code; path = path; place = row; name = name; other = other }

-- rows in front of those that follow, if these are rows
abbrev pub rows_before : {A : Type 0} → List A → Result (List A) ModelFault → Result (List A) ModelFault
rows_before front (Err fault) = Err fault
rows_before front (Ok rows) = Ok (front ++ rows)

-- given: the fault's code, the file, whether a record is its header, and the row that a record is
module _ {A : Type 0} (code path : List ℕ) (is_header : Fields → Bool) (row_of : Fields → Option A) where
  -- a record that is no row of the table; no name is told
  abbrev pub other_shape : ℕ → ModelFault
  other_shape row = Fault (row_line code path row [] [])

  -- a row and those that follow, or the fault of the record of this number
  abbrev pub row_then : ℕ → Option A → Result (List A) ModelFault → Result (List A) ModelFault
  row_then number None rest = Err (other_shape number)
  row_then number (Some row) rest = rows_before (row ∷ []) rest

  -- the rows that the records are, of which the first has this number; or the fault of the first that is no row
  abbrev pub rows_from : ℕ → List Fields → Result (List A) ModelFault
  rows_from number [] = Ok []
  rows_from number (fields ∷ records) = row_then number (row_of fields) (rows_from (number + 1) records)

  -- the rows behind the header; a text without the header has its fault there
  abbrev pub rows_of : List Fields → Result (List A) ModelFault
  rows_of [] = Err (other_shape 0)
  rows_of (header ∷ records) = if is_header header then rows_from 1 records else Err (other_shape 0)

-- both have a mark, and it is the same
abbrev pub have_one_mark : {M : Type 0} → (M → M → Bool) → Option M → Option M → Bool
have_one_mark is_same (Some a) (Some b) = is_same a b
have_one_mark is_same a b = false

-- the mark, if there is one, passes the test
abbrev pub is_marked : {M : Type 0} → (M → Bool) → Option M → Bool
is_marked test None = false
is_marked test (Some mark) = test mark

-- given: which marks are the same, the mark of a row, if it has one, and the fault of the row of a number
module _ {A M : Type 0} (is_same : M → M → Bool) (mark_of : A → Option M) (line_of : ℕ → A → FaultLine) where
  -- a row before has the mark of this one
  abbrev pub stands_again : List A → A → Bool
  stands_again before row = list_any (λ other. have_one_mark is_same (mark_of other) (mark_of row)) before

  -- the fault of the first of the rows whose mark stands before it, given the rows before them
  abbrev pub first_again : List A → List A → Option FaultLine
  first_again before [] = None
  first_again before (row ∷ rows) =
      if stands_again before row then Some (line_of (length before + 1) row) else first_again (before ++ row ∷ []) rows
