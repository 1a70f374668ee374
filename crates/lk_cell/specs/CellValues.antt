-- The value that a cell reads as, by its kind. A cell that is empty is null (lookd).
use Rattle.std.specs.Prelude.{ℕ, nat_le, Bool, true, false, ◌&&◌, ◌||◌, if◌then◌else◌, List, [], ◌∷◌, length, codes, Option, Some, None, option_map, Result, Ok, Err}
use Rattle.std.specs.Char.{eq_ignore_ascii_case}
use Rattle.std.specs.Cmp.Lexicographic.{pointwise}
use Rattle.std.specs.Str.{is_utf8}
use Rattle.lk_val.specs.Numbers.{num_of}
use Rattle.lk_val.specs.declared.num.Num.{Num}
use Rattle.lk_val.specs.declared.num.NumFault.{NumFault}
use Rattle.lk_val.specs.declared.value.Value.{Value}
use Rattle.lk_val.specs.declared.value.Value.TheVariants as value
use Rattle.lk_types.specs.declared.schema.Kind.{Kind}
use Rattle.lk_types.specs.declared.schema.Kind.TheVariants as kind
use Rattle.lk_cell.specs.Days.{day_cell}
use Rattle.lk_cell.specs.Moments.{moment_cell}

-- a text in UTF-8 of at most 4,096 bytes
abbrev pub text_cell : List ℕ → Option (List ℕ)
text_cell text = if is_utf8 text && nat_le (length text) 4096 then Some text else None

-- the number, if there is no fault
abbrev pub number_or_none : Result Num NumFault → Option Num
number_or_none (Ok number) = Some number
number_or_none (Err fault) = None

-- a number of at most four places that 64 bits hold
abbrev pub number_cell : List ℕ → Option Num
number_cell text = number_or_none (num_of text)

-- the text is the word, its letters in any case
abbrev pub is_word : List ℕ → List ℕ → Bool
is_word = pointwise eq_ignore_ascii_case

-- `yes` or `true`, and `no` or `false`
abbrev pub truth_cell : List ℕ → Option Bool
truth_cell text =
    if is_word text (codes "yes") || is_word text (codes "true") then Some true else
    (if is_word text (codes "no") || is_word text (codes "false") then Some false else None)

-- the value of a kind that a text which is not empty reads as
abbrev pub value_of_text : Kind → List ℕ → Option Value
value_of_text kind.Text text = option_map value.Text (text_cell text)
value_of_text kind.Number text = option_map value.Num (number_cell text)
value_of_text kind.Truth text = option_map value.Truth (truth_cell text)
value_of_text kind.Day text = option_map value.Day (day_cell text)
value_of_text kind.Moment text = option_map value.Moment (moment_cell text)

-- the value that a cell of a kind reads as, if it reads
abbrev pub cell_value : Kind → List ℕ → Option Value
cell_value kind [] = Some value.Null
cell_value kind (c ∷ cs) = value_of_text kind (c ∷ cs)
