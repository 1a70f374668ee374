-- What is known of keys: which stand twice, and the numbers of rows in the order of their keys.
use Rattle.std.specs.Prelude.{◌≡◌, ⊤, ℕ, List, Option, None, Some, length, IsPermutation, IsSortedBy}
use Rattle.std.specs.List.{range_with_len}
use Rattle.std.specs.Ordering.{is_lt}
use Rattle.lk_val.specs.Sets.{has}
use Rattle.lk_val.specs.Values.{value_cmp}
use Rattle.lk_val.specs.declared.value.Value.{Value}
use Rattle.lk_types.specs.Tables.{Rows}
use Rattle.lk_table.specs.Contents.{cell_at, row_at}
use Rattle.lk_table.specs.Loads.{is_repeated}

-- each that stands twice among the keys is found, and no other
abbrev pub HasRepeated : List Value → List Value → Type 0
HasRepeated index keys = (k : Value) → has value_cmp k index ≡ is_repeated keys k

-- the key of a row; null where there is no such row
abbrev pub row_key : ℕ → Rows → ℕ → Value
row_key column rows row = cell_at (row_at rows row) column

-- all the rows by their numbers, no key before a smaller one
pub record IsKeyOrder (column : ℕ) (rows : Rows) (order : List ℕ) : Type 0 where
  pub whole : IsPermutation (range_with_len 0 (length rows)) order
  pub ascends : IsSortedBy (λ one other. is_lt (value_cmp (row_key column rows one) (row_key column rows other))) order

-- the same where there is a key column
abbrev pub IsOrdered : Option ℕ → Rows → List ℕ → Type 0
IsOrdered None rows order = ⊤
IsOrdered (Some column) rows order = IsKeyOrder column rows order
