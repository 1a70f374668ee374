-- How much a state may hold. (lookd)
use Rattle.std.specs.Prelude.{ℕ, nat_lt, Bool, ◌||◌, List, length}
use Rattle.std.specs.List.{sum_by}
use Rattle.lk_table.specs.Contents.{Content, size_of}
use Rattle.lk_state.specs.States.{State}

abbrev pub cells_of : Content → ℕ
cells_of content = (size_of content).cells

abbrev pub text_of : Content → ℕ
text_of content = (size_of content).text

-- the tables have together more than 4,000,000 cells, or more than 134,217,728 bytes in their text cells
abbrev pub are_large : List Content → Bool
are_large tables = nat_lt 4000000 (sum_by cells_of tables) || nat_lt 134217728 (sum_by text_of tables)

-- the state holds too much, keeps more than 100,000 loads, or has a number that 63 bits do not hold (L6)
abbrev pub is_over : State → Bool
is_over s = are_large s.tables || nat_lt 100000 (length s.ids) || nat_lt 9223372036854775807 s.number
