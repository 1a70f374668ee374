-- The token in front of a text, and what is behind it.
use Rattle.std.specs.Prelude.{ℕ, zero, suc, ◌-◌, length, ◌==◌, ◌&&◌, ◌||◌, nat_eq, if◌then◌else◌, List, [], ◌∷◌, ◌++◌, codes, take, drop, Option, Some, None, option_map}
use Rattle.std.specs.Char.{is_ascii_digit}
use Rattle.std.specs.Cmp.Lexicographic.{pointwise}
use Rattle.std.specs.Str.{is_utf8}
use Rattle.lk_types.specs.declared.expr.Comparison.TheVariants as comparison
use Rattle.lk_grammar.specs.Numbers.{unsigned_length, is_of_number}
use Rattle.lk_grammar.specs.Literals.{is_ended}
use Rattle.lk_expr_token.specs.declared.token.Keyword.{Keyword}
use Rattle.lk_expr_token.specs.declared.token.Sign.TheVariants as sign
use Rattle.lk_expr_token.specs.declared.token.Token.{Token}
use Rattle.lk_expr_token.specs.declared.token.Token.TheVariants as token
use Rattle.lk_expr_token.specs.Tokens.{is_name_byte, is_letter, keyword_of, is_number}

-- a token, or a name, and what is behind it
abbrev pub Found : Type 0
Found = Option (Token × List ℕ)

-- how many bytes of a name come first
abbrev pub name_length : List ℕ → ℕ
name_length [] = zero
name_length (b ∷ text) = if is_name_byte b then suc (name_length text) else zero

-- the name that comes first, if one does
abbrev pub first_name : List ℕ → Option (List ℕ × List ℕ)
first_name text = if nat_eq (name_length text) 0 then None else Some (take (name_length text) text, drop (name_length text) text)

-- a name as a token: a keyword, or the name of a column or function
abbrev pub word_or_name : List ℕ → ℕ → Option Keyword → Token
word_or_name name place None = token.Name name place
word_or_name name place (Some k) = token.Word k

-- of a text of so many bytes
abbrev pub first_word : ℕ → List ℕ → Found
first_word whole text = option_map (λ name. (word_or_name name.0 (whole - length text) (keyword_of name.0), name.1)) (first_name text)

abbrev pub number_token : List ℕ → List ℕ → Found
number_token number rest = if is_number number && is_ended is_of_number rest then Some (token.Number number, rest) else None

abbrev pub first_number : List ℕ → Found
first_number text = number_token (take (unsigned_length text) text) (drop (unsigned_length text) text)

-- more characters before the others
abbrev pub with_bytes : List ℕ → Option (List ℕ × List ℕ) → Option (List ℕ × List ℕ)
with_bytes front None = None
with_bytes front (Some (text, rest)) = Some (front ++ text, rest)

-- the characters up to the quote that no quote follows, and what is behind it
abbrev pub first_characters : List ℕ → Option (List ℕ × List ℕ)
first_characters [] = None
first_characters (b ∷ []) = if b == 39 then Some ([], []) else None
first_characters (b ∷ c ∷ text) =
    if b == 39 then (if c == 39 then with_bytes (39 ∷ []) (first_characters text) else Some ([], c ∷ text)) else with_bytes (b ∷ []) (first_characters (c ∷ text))

abbrev pub text_token : Option (List ℕ × List ℕ) → Found
text_token None = None
text_token (Some text) = if is_utf8 text.0 then Some (token.Text text.0, text.1) else None

-- a column between quotes
abbrev pub closed_column : ℕ → Option (List ℕ × List ℕ) → Found
closed_column quote None = None
closed_column quote (Some (name, [])) = None
closed_column quote (Some (name, b ∷ rest)) = if b == quote then Some (token.Column name, rest) else None

abbrev pub bare_column : Option (List ℕ × List ℕ) → Found
bare_column None = None
bare_column (Some (name, rest)) = Some (token.Column name, rest)

abbrev pub column_token : List ℕ → Found
column_token [] = None
column_token (b ∷ text) =
    if (b == 34) || (b == 96) then closed_column b (first_name text) else bare_column (first_name (b ∷ text))

-- what a reference to one name is, by what is behind its brace
abbrev pub field_token : List ℕ → List ℕ → Found
field_token name [] = Some (token.Field name, [])
field_token name (b ∷ rest) =
    if b == 46 then (if pointwise nat_eq name (codes "TABLE") then column_token rest else None) else Some (token.Field name, b ∷ rest)

abbrev pub closed_field : List ℕ → Option (List ℕ × List ℕ) → Found
closed_field view None = None
closed_field view (Some (name, [])) = None
closed_field view (Some (name, b ∷ rest)) = if b == 125 then Some (token.FieldOf view name, rest) else None

abbrev pub reference_token : Option (List ℕ × List ℕ) → Found
reference_token None = None
reference_token (Some (name, [])) = None
reference_token (Some (name, b ∷ rest)) =
    if b == 125 then field_token name rest else if b == 46 then closed_field name (first_name rest) else None

abbrev pub first_reference : List ℕ → Found
first_reference [] = None
first_reference (b ∷ text) = if b == 123 then reference_token (first_name text) else None

-- a sign of one byte, and one of two
abbrev pub one_byte : ℕ → Option Token
one_byte b =
    if b == 61 then Some (token.Compare comparison.Equal) else if b == 60 then Some (token.Compare comparison.Less)
    else if b == 62 then Some (token.Compare comparison.Greater) else if b == 43 then Some (token.Sign sign.Plus)
    else if b == 45 then Some (token.Sign sign.Minus) else if b == 42 then Some (token.Sign sign.Times)
    else if b == 47 then Some (token.Sign sign.Over) else if b == 40 then Some (token.Sign sign.Open)
    else if b == 41 then Some (token.Sign sign.Close) else if b == 44 then Some (token.Sign sign.Comma) else None

abbrev pub two_bytes : ℕ → ℕ → Option Token
two_bytes b c =
    if (b == 60) && (c == 61) then Some (token.Compare comparison.AtMost) else if (b == 60) && (c == 62) then Some (token.Compare comparison.NotEqual)
    else if (b == 33) && (c == 61) then Some (token.Compare comparison.NotEqual) else if (b == 62) && (c == 61) then Some (token.Compare comparison.AtLeast)
    else if (b == 124) && (c == 124) then Some (token.Sign sign.Concat) else None

abbrev pub or_one_byte : Option Token → ℕ → ℕ → List ℕ → Found
or_one_byte (Some t) b c text = Some (t, text)
or_one_byte None b c text = option_map (λ t. (t, c ∷ text)) (one_byte b)

abbrev pub first_sign : List ℕ → Found
first_sign [] = None
first_sign (b ∷ []) = option_map (λ t. (t, [])) (one_byte b)
first_sign (b ∷ c ∷ text) = or_one_byte (two_bytes b c) b c text

abbrev pub first_by : ℕ → ℕ → List ℕ → Found
first_by whole b text =
    if is_ascii_digit b then first_number (b ∷ text) else if is_letter b then first_word whole (b ∷ text)
    else if b == 39 then text_token (first_characters text) else if b == 36 then first_reference text else first_sign (b ∷ text)

unfoldable pub first_token : ℕ → List ℕ → Found
first_token whole [] = None
first_token whole (b ∷ text) = first_by whole b text
