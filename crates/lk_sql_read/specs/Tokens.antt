-- The token in front of a text of printed SQL, and what is behind it.
use Rattle.std.specs.Prelude.{ℕ, suc, ◌==◌, ◌||◌, if◌then◌else◌, List, [], ◌∷◌, codes, take, drop, Option, Some, None, option_map, Bool}
use Rattle.std.specs.Char.{is_ascii_digit}
use Rattle.lk_val.specs.declared.value.Value.{Value}
use Rattle.lk_val.specs.declared.value.Value.TheVariants as value
use Rattle.lk_cell.specs.CellValues.{number_cell}
use Rattle.lk_cell.specs.Days.{day_cell}
use Rattle.lk_cell.specs.Moments.{moment_cell}
use Rattle.lk_sql_read.specs.declared.word.Word.{Word}
use Rattle.lk_sql_read.specs.declared.word.Word.TheVariants as word
use Rattle.lk_sql_read.specs.declared.token.Token.{Token}
use Rattle.lk_sql_read.specs.declared.token.Token.TheVariants as token
use Rattle.lk_sql_read.specs.Words.{behind, first_of, words}
use Rattle.lk_sql_read.specs.Quoting.{first_quoted, first_text, pieces_from}
use Rattle.std.specs.Prelude.{false}

-- a token, and what is behind it
abbrev pub Found : Type 0
Found = Option (Token × List ℕ)

-- a value as a token
abbrev pub literal_token : List ℕ → Option Value → Found
literal_token rest None = None
literal_token rest (Some v) = Some (token.Literal v, rest)

-- a text in single quotes (SQL)
abbrev pub text_token : Option (List ℕ × List ℕ) → Found
text_token None = None
text_token (Some text) = Some (token.Literal (value.Text text.0), text.1)

-- a column: two names in double quotes, and a dot between them (SQL)
abbrev pub named_column : List ℕ → Option (List ℕ × List ℕ) → Found
named_column part None = None
named_column part (Some name) = Some (token.Column part name.0, name.1)

abbrev pub dotted_column : List ℕ → List ℕ → Found
dotted_column part [] = None
dotted_column part (b ∷ rest) = if b == 46 then named_column part (first_text 34 rest) else None

abbrev pub column_token : Option (List ℕ × List ℕ) → Found
column_token None = None
column_token (Some part) = dotted_column part.0 part.1

-- a byte that a number may have
abbrev pub is_of_number : ℕ → Bool
is_of_number b = is_ascii_digit b || b == 46 || b == 45

-- how many of them come first
abbrev pub number_length : List ℕ → ℕ
number_length [] = 0
number_length (b ∷ text) = if is_of_number b then suc (number_length text) else 0

abbrev pub first_number : List ℕ → Found
first_number text = literal_token (drop (number_length text) text) (option_map value.Num (number_cell (take (number_length text) text)))

-- a day or a moment that a quote closes
abbrev pub closed : Value → List ℕ → Found
closed v [] = None
closed v (b ∷ rest) = if b == 39 then Some (token.Literal v, rest) else None

abbrev pub closed_if : List ℕ → Option Value → Found
closed_if rest None = None
closed_if rest (Some v) = closed v rest

-- behind `DATE '` and behind `TIMESTAMP '` (SQL)
abbrev pub first_day : Option (List ℕ) → Found
first_day None = None
first_day (Some text) = closed_if (drop 10 text) (option_map value.Day (day_cell (take 10 text)))

abbrev pub first_moment : Option (List ℕ) → Found
first_moment None = None
first_moment (Some text) = closed_if (drop 19 text) (option_map value.Moment (moment_cell (take 19 text)))

-- what begins with no word
abbrev pub first_payload : List ℕ → Found
first_payload [] = None
first_payload (b ∷ text) =
    if b == 34 then column_token (first_text 34 (b ∷ text))
    else if b == 39 then text_token (first_text 39 (b ∷ text))
    else if b == 68 then first_day (behind (codes "DATE '") (b ∷ text))
    else if b == 84 then first_moment (behind (codes "TIMESTAMP '") (b ∷ text))
    else first_number (b ∷ text)

-- a pattern in single quotes, and the bracket that closes what it is of
abbrev pub closed_pattern : List ℕ → List ℕ → Found
closed_pattern pattern [] = None
closed_pattern pattern (b ∷ rest) = if b == 41 then Some (token.Like (pieces_from false pattern), rest) else None

abbrev pub pattern_token : Option (List ℕ × List ℕ) → Found
pattern_token None = None
pattern_token (Some found) = closed_pattern found.0 found.1

-- a word as a token; LIKE takes its pattern with it
abbrev pub word_token : Word → List ℕ → Found
word_token word.Like rest = pattern_token (first_quoted 39 rest)
word_token w rest = Some (token.Word w, rest)

abbrev pub by_word : List ℕ → Option (Word × List ℕ) → Found
by_word text None = first_payload text
by_word text (Some found) = word_token found.0 found.1

-- the token in front of a text
abbrev pub first_token : List ℕ → Found
first_token text = by_word text (first_of words text)
