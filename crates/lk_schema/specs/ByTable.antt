-- How the program finds the rows of a table: a map from each table's name to them. It is no part of what a table is.
use Rattle.std.specs.Prelude.{◌≡◌, ℕ, List, [], map, Option, Some, None}
use Rattle.std.specs.Ordering.{nat_cmp}
use Rattle.std.specs.Cmp.Lexicographic.{slice_cmp}
use Rattle.std.specs.Borrow.{Bor}
use Rattle.std.specs.BTreeMap.{BTreeMap, get}
use Rattle.lk_schema.specs.declared.schema.Declared.{Declared}
use Rattle.lk_schema.specs.Schemas.{rows_in}

abbrev pub those : Option (List (Bor Declared)) → List Declared
those None = []
those (Some rows) = map (λ row. row.now) rows

-- what a map has at a name
abbrev pub rows_at : BTreeMap (List ℕ) (List (Bor Declared)) → List ℕ → List Declared
rows_at by_table table = those (get (slice_cmp nat_cmp) by_table table)

-- at each name a map has the rows of the table
abbrev pub HasRows : List Declared → BTreeMap (List ℕ) (List (Bor Declared)) → Type 0
HasRows rows by_table = (table : List ℕ) → rows_at by_table table ≡ rows_in table rows
