-- The tokens of expressions, and how a text spells them.
use Rattle.std.specs.Prelude.{◌≡◌, ◌⊎◌, ℕ, ◌-◌, ◌==◌, Bool, true, false, ◌&&◌, ◌||◌, nat_eq, if◌then◌else◌, List, [], ◌∷◌, ◌++◌, length, map, codes, Option, Some, None, is_ok}
use Rattle.std.specs.Char.{is_ascii_digit, is_ascii_lowercase, is_ascii_uppercase}
use Rattle.std.specs.Cmp.Lexicographic.{pointwise}
use Rattle.std.specs.List.{list_all, list_any}
use Rattle.std.specs.Str.{is_utf8}
use Rattle.lk_val.specs.Numbers.{num_of}
use Rattle.lk_types.specs.Expressions.{ascii_lower}
use Rattle.lk_types.specs.declared.expr.Comparison.{Comparison}
use Rattle.lk_types.specs.declared.expr.Comparison.TheVariants as comparison
use Rattle.lk_grammar.specs.Forms.{IsText}
use Rattle.lk_grammar.specs.Numbers.{unsigned_number, is_of_number}
use Rattle.lk_grammar.specs.Literals.{is_ended}
use Rattle.lk_expr_token.specs.declared.token.Keyword.{Keyword}
use Rattle.lk_expr_token.specs.declared.token.Keyword.TheVariants as keyword
use Rattle.lk_expr_token.specs.declared.token.Sign.{Sign}
use Rattle.lk_expr_token.specs.declared.token.Sign.TheVariants as sign
use Rattle.lk_expr_token.specs.declared.token.Token.{Token}
use Rattle.lk_expr_token.specs.declared.token.Token.TheVariants as token

-- ---- bytes and names

-- the spaces: space, tab and line ends
abbrev pub white : List ℕ
white = 32 ∷ 9 ∷ 10 ∷ 13 ∷ []

abbrev pub is_space : ℕ → Bool
is_space b = list_any (nat_eq b) white

abbrev pub is_letter : ℕ → Bool
is_letter b = is_ascii_lowercase b || is_ascii_uppercase b || (b == 95)

abbrev pub is_name_byte : ℕ → Bool
is_name_byte b = is_letter b || is_ascii_digit b

-- a name is one or more letters, digits and underscores
abbrev pub is_name : List ℕ → Bool
is_name [] = false
is_name (b ∷ text) = is_name_byte b && list_all is_name_byte text

-- a bare name doesn't begin with a digit
abbrev pub is_bare : List ℕ → Bool
is_bare [] = false
is_bare (b ∷ text) = is_letter b && list_all is_name_byte text

-- ---- keywords and signs

abbrev pub letters_of : Keyword → List ℕ
letters_of keyword.And = codes "and"
letters_of keyword.Or = codes "or"
letters_of keyword.Not = codes "not"
letters_of keyword.Is = codes "is"
letters_of keyword.Null = codes "null"
letters_of keyword.In = codes "in"
letters_of keyword.Between = codes "between"
letters_of keyword.Like = codes "like"
letters_of keyword.True = codes "true"
letters_of keyword.False = codes "false"
letters_of keyword.Case = codes "case"
letters_of keyword.When = codes "when"
letters_of keyword.Then = codes "then"
letters_of keyword.Else = codes "else"
letters_of keyword.End = codes "end"

abbrev pub keywords : List Keyword
keywords = keyword.And ∷ keyword.Or ∷ keyword.Not ∷ keyword.Is ∷ keyword.Null ∷ keyword.In ∷ keyword.Between ∷ keyword.Like ∷ keyword.True ∷ keyword.False ∷ keyword.Case ∷ keyword.When ∷ keyword.Then ∷ keyword.Else ∷ keyword.End ∷ []

-- the first keyword of a list with these letters
abbrev pub keyword_among : List Keyword → List ℕ → Option Keyword
keyword_among [] letters = None
keyword_among (k ∷ ks) letters = if pointwise nat_eq letters (letters_of k) then Some k else keyword_among ks letters

-- the keyword that a name is, in any case
unfoldable pub keyword_of : List ℕ → Option Keyword
keyword_of name = keyword_among keywords (map ascii_lower name)

abbrev pub sign_text : Sign → List ℕ
sign_text sign.Plus = codes "+"
sign_text sign.Minus = codes "-"
sign_text sign.Concat = codes "||"
sign_text sign.Times = codes "*"
sign_text sign.Over = codes "/"
sign_text sign.Open = codes "("
sign_text sign.Close = codes ")"
sign_text sign.Comma = codes ","

-- the text is a comparison's; one has two texts
abbrev pub IsComparisonText : Comparison → List ℕ → Type 0
IsComparisonText comparison.Equal text = text ≡ codes "="
IsComparisonText comparison.NotEqual text = (text ≡ codes "<>") ⊎ (text ≡ codes "!=")
IsComparisonText comparison.Less text = text ≡ codes "<"
IsComparisonText comparison.AtMost text = text ≡ codes "<="
IsComparisonText comparison.Greater text = text ≡ codes ">"
IsComparisonText comparison.AtLeast text = text ≡ codes ">="

-- a byte that makes a longer comparison of one
abbrev pub goes_on : Comparison → ℕ → Bool
goes_on comparison.Less b = (b == 61) || (b == 62)
goes_on comparison.Greater b = b == 61
goes_on c b = false

-- ---- literals and references

-- the characters of a text, each quote twice
abbrev pub doubled : List ℕ → List ℕ
doubled [] = []
doubled (b ∷ text) = if b == 39 then 39 ∷ 39 ∷ doubled text else b ∷ doubled text

-- a number that a table may hold
abbrev pub is_number : List ℕ → Bool
is_number text = is_ok (num_of text)

-- a column of the view's own table, bare or between quotes of two sorts
abbrev pub IsColumnText : List ℕ → List ℕ → List ℕ → Type 0
IsColumnText name text rest =
    ((text ≡ codes "${TABLE}." ++ name) × (is_ended is_name_byte rest ≡ true))
    ⊎ ((text ≡ codes "${TABLE}.\"" ++ (name ++ codes "\"")) ⊎ (text ≡ codes "${TABLE}.`" ++ (name ++ codes "`")))

-- ---- tokens

-- the text spells the token, which ends before the rest; of a text of so many bytes a name tells where it begins
abbrev pub IsTokenAt : ℕ → Token → List ℕ → List ℕ → Type 0
IsTokenAt whole (token.Word k) text rest = (is_bare text ≡ true) × (keyword_of text ≡ Some k) × (is_ended is_name_byte rest ≡ true)
IsTokenAt whole (token.Name name place) text rest = (text ≡ name) × (is_bare name ≡ true) × (keyword_of name ≡ None) × (is_ended is_name_byte rest ≡ true) × (place ≡ whole - length (text ++ rest))
IsTokenAt whole (token.Compare c) text rest = IsComparisonText c text × (is_ended (goes_on c) rest ≡ true)
IsTokenAt whole (token.Sign s) text rest = text ≡ sign_text s
IsTokenAt whole (token.Number number) text rest = (text ≡ number) × IsText unsigned_number number × (is_number number ≡ true) × (is_ended is_of_number rest ≡ true)
IsTokenAt whole (token.Text characters) text rest = (text ≡ 39 ∷ (doubled characters ++ 39 ∷ [])) × (is_utf8 characters ≡ true) × (is_ended (nat_eq 39) rest ≡ true)
IsTokenAt whole (token.Column name) text rest = (is_name name ≡ true) × IsColumnText name text rest
IsTokenAt whole (token.Field name) text rest = (text ≡ codes "${" ++ (name ++ codes "}")) × (is_name name ≡ true) × (is_ended (nat_eq 46) rest ≡ true)
IsTokenAt whole (token.FieldOf view name) text rest = (text ≡ codes "${" ++ (view ++ (codes "." ++ (name ++ codes "}")))) × (is_name view ≡ true) × (is_name name ≡ true)

-- the text begins with spaces and the token, and what is behind is as given
pub record IsLed (whole : ℕ) (Behind : List ℕ → Type 0) (first : Token) (text : List ℕ) : Type 0 where
  pub gap : List ℕ
  pub front : List ℕ
  pub rest : List ℕ
  pub joined : text ≡ gap ++ (front ++ rest)
  pub spaces : list_all is_space gap ≡ true
  pub spelled : IsTokenAt whole first front rest
  pub behind : Behind rest

-- the text is the tokens, with free spaces before each and behind the last; it ends a text of so many bytes
abbrev pub IsSpelled : ℕ → List Token → List ℕ → Type 0
IsSpelled whole [] text = list_all is_space text ≡ true
IsSpelled whole (t ∷ ts) text = IsLed whole (IsSpelled whole ts) t text
