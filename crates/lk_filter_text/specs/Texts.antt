-- Filters of texts: patterns with commas between; a `-` before a pattern makes an exclude of it.
use Rattle.std.specs.Prelude.{◌≡◌, ℕ, Bool, true, false, not, ◌&&◌, nat_eq, List, [], ◌∷◌, ◌++◌, map, replicate, Option, Some, None, codes, if◌then◌else◌}
use Rattle.std.specs.List.{AllByRecursion, list_all}
use Rattle.lk_grammar.specs.Forms.{IsText}
use Rattle.lk_grammar.specs.Words.{is_char}
use Rattle.lk_grammar.specs.Tokens.{tokens_form}
use Rattle.lk_grammar.specs.Literals.{token_form, IsLiteralOf}
use Rattle.lk_grammar.specs.declared.literals.Token.{Token}
use Rattle.lk_grammar.specs.declared.literals.Token.TheVariants.{Word, Literal}
use Rattle.lk_types.specs.declared.expr.Piece.{Piece}
use Rattle.lk_types.specs.declared.expr.Piece.TheVariants as piece
use Rattle.lk_types.specs.declared.filter.Filter.{Filter}
use Rattle.lk_types.specs.declared.filter.Test.{Test}
use Rattle.lk_types.specs.declared.filter.Test.TheVariants as test
use Rattle.lk_grammar.specs.Listed.{further_tokens}
use Rattle.lk_filter_text.specs.Characters.{plain_form}
use Rattle.lk_filter_text.specs.declared.words.TextWord.{TextWord}
use Rattle.lk_filter_text.specs.declared.words.TextWord.TheVariants.{Comma, Any, QuotedComma, QuotedSpace, QuotedAny, QuotedOne, QuotedQuote, QuotedMinus, QuotedCaret}

abbrev pub letters_of : TextWord → List ℕ
letters_of Comma = codes ","
letters_of Any = codes "%"
letters_of QuotedComma = codes "^,"
letters_of QuotedSpace = codes "^ "
letters_of QuotedAny = codes "^%"
letters_of QuotedOne = codes "^_"
letters_of QuotedQuote = 94 ∷ 34 ∷ []
letters_of QuotedMinus = codes "^-"
letters_of QuotedCaret = codes "^^"

abbrev pub TextToken : Type 0
TextToken = Token TextWord

abbrev pub space : TextToken
space = Literal (32 ∷ [])

abbrev pub minus : TextToken
minus = Literal (45 ∷ [])

-- the token is the character
abbrev pub is_character : ℕ → TextToken → Bool
is_character c (Word w) = false
is_character c (Literal []) = false
is_character c (Literal (b ∷ [])) = nat_eq b c
is_character c (Literal (b ∷ d ∷ text)) = false

abbrev pub is_space : TextToken → Bool
is_space = is_character 32

abbrev pub is_minus : TextToken → Bool
is_minus = is_character 45

abbrev pub is_comma : TextToken → Bool
is_comma (Word Comma) = true
is_comma (Word w) = false
is_comma (Literal text) = false

-- ---- how items are written

-- spaces, a `-` with spaces behind it or none, the pattern, and spaces
pub record TextItem : Type 0 where
  pub before : ℕ
  pub excluded : Option ℕ
  pub content : List TextToken
  pub behind : ℕ

abbrev pub spaces : ℕ → List TextToken
spaces n = replicate n space

abbrev pub minus_tokens : Option ℕ → List TextToken
minus_tokens None = []
minus_tokens (Some n) = minus ∷ spaces n

abbrev pub item_tokens : TextItem → List TextToken
item_tokens x = spaces x.before ++ (minus_tokens x.excluded ++ (x.content ++ spaces x.behind))

-- a pattern begins with no space, and an include with no `-` either
abbrev pub begins_solid : Option ℕ → List TextToken → Bool
begins_solid excluded [] = false
begins_solid None (t ∷ tokens) = not (is_space t) && not (is_minus t)
begins_solid (Some n) (t ∷ tokens) = not (is_space t)

-- a pattern ends with no space
abbrev pub ends_solid : List TextToken → Bool
ends_solid [] = false
ends_solid (t ∷ []) = not (is_space t)
ends_solid (t ∷ u ∷ tokens) = ends_solid (u ∷ tokens)

abbrev pub has_no_comma : List TextToken → Bool
has_no_comma tokens = list_all (λ t. not (is_comma t)) tokens

pub record IsTextItem (x : TextItem) : Type 0 where
  pub begins : begins_solid x.excluded x.content ≡ true
  pub ends : ends_solid x.content ≡ true
  pub no_comma : has_no_comma x.content ≡ true

-- nothing but spaces, or items
pub data TextItems : Type 0 where
  blank : ℕ → TextItems
  items : TextItem → List TextItem → TextItems

abbrev pub more_tokens : TextItem → List TextToken
more_tokens x = Word Comma ∷ item_tokens x

abbrev pub text_tokens : TextItems → List TextToken
text_tokens (blank n) = spaces n
text_tokens (items x more) = item_tokens x ++ further_tokens more_tokens more

abbrev pub AreTextItems : TextItems → Type 0
AreTextItems (blank n) = Unit {0}
AreTextItems (items x more) = IsTextItem x × AllByRecursion IsTextItem more

-- the text spells the items
pub record IsTextText (all : TextItems) (text : List ℕ) : Type 0 where
  pub spelled : IsText (tokens_form [] (token_form letters_of) (text_tokens all)) text
  pub characters : AllByRecursion (IsLiteralOf plain_form) (text_tokens all)
  pub are_items : AreTextItems all

-- ---- what they test

abbrev pub word_piece : TextWord → Piece
word_piece Comma = piece.Byte 44
word_piece Any = piece.Any
word_piece QuotedComma = piece.Byte 44
word_piece QuotedSpace = piece.Byte 32
word_piece QuotedAny = piece.Byte 37
word_piece QuotedOne = piece.Byte 95
word_piece QuotedQuote = piece.Byte 34
word_piece QuotedMinus = piece.Byte 45
word_piece QuotedCaret = piece.Byte 94

abbrev pub token_pieces : TextToken → List Piece
token_pieces (Word w) = word_piece w ∷ []
token_pieces (Literal text) = map piece.Byte text

abbrev pub pieces_of : List TextToken → List Piece
pieces_of [] = []
pieces_of (t ∷ tokens) = token_pieces t ++ pieces_of tokens

-- the token is the letter, in any case
abbrev pub is_letter : ℕ → TextToken → Bool
is_letter letter (Word w) = false
is_letter letter (Literal []) = false
is_letter letter (Literal (b ∷ [])) = is_char letter b
is_letter letter (Literal (b ∷ d ∷ text)) = false

-- the pattern is the word, in any case
abbrev pub is_keyword : List ℕ → List TextToken → Bool
is_keyword [] [] = true
is_keyword [] (t ∷ tokens) = false
is_keyword (letter ∷ small) [] = false
is_keyword (letter ∷ small) (t ∷ tokens) = is_letter letter t && is_keyword small tokens

abbrev pub text_test : List TextToken → Test
text_test content =
    if is_keyword (codes "null") content then test.Null
    else (if is_keyword (codes "empty") content then test.Empty
    else test.Like (pieces_of content))

-- a pattern, and whether it is an exclude
abbrev pub Part : Type 0
Part = Bool × List TextToken

abbrev pub is_some_number : Option ℕ → Bool
is_some_number None = false
is_some_number (Some n) = true

abbrev pub part_of : TextItem → Part
part_of x = (is_some_number x.excluded, x.content)

abbrev pub parts_of : TextItems → List Part
parts_of (blank n) = []
parts_of (items x more) = part_of x ∷ map part_of more

abbrev pub includes : List Part → List Test
includes [] = []
includes ((excluded, content) ∷ parts) = if excluded then includes parts else text_test content ∷ includes parts

abbrev pub excludes : List Part → List Test
excludes [] = []
excludes ((excluded, content) ∷ parts) = if excluded then text_test content ∷ excludes parts else excludes parts

abbrev pub text_filter : List Part → Filter
text_filter parts = record { include = includes parts; exclude = excludes parts; relative = false }

-- the text spells the filter
abbrev pub IsTextFilter : Filter → List ℕ → Type 0
IsTextFilter f text = (all : TextItems) × IsTextText all text × (text_filter (parts_of all) ≡ f)

-- the text is a filter of texts
abbrev pub IsTexts : List ℕ → Type 0
IsTexts text = (f : Filter) × IsTextFilter f text
