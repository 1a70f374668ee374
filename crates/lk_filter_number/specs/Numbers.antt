-- Filters of numbers: items with commas or `OR` between, each a range, a number that is left out, or `NULL`.
use Rattle.std.specs.Prelude.{◌≡◌, ◌⊎◌, ℕ, zero, suc, ◌<◌, ◌≤◌, not, nat_eq, take, drop, slice_index_or, Bool, true, false, ◌&&◌, ◌||◌, List, [], ◌∷◌, ◌++◌, Option, Some, None, option_map, codes, if◌then◌else◌, Result, Ok, Err}
use Rattle.std.specs.Option.{option_and_then, is_none}
use Rattle.std.specs.List.{AllByRecursion}
use Rattle.lk_val.specs.Numbers.{num_of}
use Rattle.lk_val.specs.declared.num.Num.{Num}
use Rattle.lk_grammar.specs.Forms.{IsText}
use Rattle.lk_grammar.specs.Places.{IsPlace}
use Rattle.lk_grammar.specs.Tokens.{tokens_form}
use Rattle.lk_grammar.specs.Literals.{token_form, IsLiteralOf}
use Rattle.lk_grammar.specs.Numbers.{number, number_length, is_of_number}
use Rattle.lk_grammar.specs.declared.literals.Token.{Token}
use Rattle.lk_grammar.specs.declared.literals.Token.TheVariants.{Word, Literal}
use Rattle.lk_types.specs.Filters.{is_same_truth}
use Rattle.lk_types.specs.declared.expr.Comparison.{Comparison}
use Rattle.lk_types.specs.declared.expr.Comparison.TheVariants as comparison
use Rattle.lk_types.specs.declared.filter.Filter.{Filter}
use Rattle.lk_types.specs.declared.filter.Edge.{Edge}
use Rattle.lk_types.specs.declared.filter.Edge.TheVariants as edge
use Rattle.lk_types.specs.declared.filter.Test.{Test}
use Rattle.lk_types.specs.declared.filter.Test.TheVariants as test
use Rattle.lk_grammar.specs.Listed.{with_own, further_tokens}
use Rattle.lk_filter_number.specs.declared.number.words.NumberWord.{NumberWord}
use Rattle.lk_filter_number.specs.declared.number.words.NumberWord.TheVariants as word
use Rattle.lk_filter_number.specs.declared.number.items.WrittenEnd.{WrittenEnd}
use Rattle.lk_filter_number.specs.declared.number.items.WrittenEnd.TheVariants as end
use Rattle.lk_filter_number.specs.declared.number.items.Compared.{Compared}
use Rattle.lk_filter_number.specs.declared.number.items.Order.{Order}
use Rattle.lk_filter_number.specs.declared.number.items.Order.TheVariants as order
use Rattle.lk_filter_number.specs.declared.number.items.Bracket.{Bracket}
use Rattle.lk_filter_number.specs.declared.number.items.Bracket.TheVariants.{Square, Round}
use Rattle.lk_filter_number.specs.declared.number.items.UnlikeSign.{UnlikeSign}
use Rattle.lk_filter_number.specs.declared.number.items.UnlikeSign.TheVariants.{Angles, Exclamation}
use Rattle.lk_filter_number.specs.declared.number.items.Separator.{Separator}
use Rattle.lk_filter_number.specs.declared.number.items.Separator.TheVariants as separator
use Rattle.lk_filter_number.specs.declared.number.items.NumberRange.{NumberRange}
use Rattle.lk_filter_number.specs.declared.number.items.NumberRange.TheVariants.{Is, From, UpTo, Between, Compare, Interval}
use Rattle.lk_filter_number.specs.declared.number.items.NumberItem.{NumberItem}
use Rattle.lk_filter_number.specs.declared.number.items.NumberItem.TheVariants.{Range, Null, Unlike}
use Rattle.lk_filter_number.specs.declared.number.items.FurtherItem.{FurtherItem}
use Rattle.lk_filter_number.specs.declared.number.items.NumberItems.{NumberItems}

abbrev pub letters_of : NumberWord → List ℕ
letters_of word.AtMost = codes "<="
letters_of word.AtLeast = codes ">="
letters_of word.Unlike = codes "<>"
letters_of word.Unequal = codes "!="
letters_of word.Less = codes "<"
letters_of word.Greater = codes ">"
letters_of word.Comma = codes ","
letters_of word.Or = codes "or"
letters_of word.And = codes "and"
letters_of word.Not = codes "not"
letters_of word.Null = codes "null"
letters_of word.To = codes "to"
letters_of word.OpenSquare = codes "["
letters_of word.OpenRound = codes "("
letters_of word.CloseSquare = codes "]"
letters_of word.CloseRound = codes ")"
letters_of word.Inf = codes "inf"
letters_of word.MinusInf = codes "-inf"

abbrev pub NumberToken : Type 0
NumberToken = Token NumberWord

-- ---- how items are written

abbrev pub order_word : Order → NumberWord
order_word order.Less = word.Less
order_word order.AtMost = word.AtMost
order_word order.Greater = word.Greater
order_word order.AtLeast = word.AtLeast

abbrev pub open_word : Bracket → NumberWord
open_word Square = word.OpenSquare
open_word Round = word.OpenRound

abbrev pub close_word : Bracket → NumberWord
close_word Square = word.CloseSquare
close_word Round = word.CloseRound

abbrev pub unlike_word : UnlikeSign → NumberWord
unlike_word Angles = word.Unlike
unlike_word Exclamation = word.Unequal

abbrev pub end_token : WrittenEnd → NumberToken
end_token (end.Number n) = Literal n
end_token end.Inf = Word word.Inf
end_token end.MinusInf = Word word.MinusInf

-- further comparisons, with `AND` before each
abbrev pub and_tokens : List Compared → List NumberToken
and_tokens [] = []
and_tokens (c ∷ more) = Word word.And ∷ Word (order_word c.comparison) ∷ Literal c.number ∷ and_tokens more

abbrev pub range_tokens : NumberRange → List NumberToken
range_tokens (Is n) = Literal n ∷ []
range_tokens (From n) = Literal n ∷ Word word.To ∷ []
range_tokens (UpTo n) = Word word.To ∷ Literal n ∷ []
range_tokens (Between m n) = Literal m ∷ Word word.To ∷ Literal n ∷ []
range_tokens (Compare c more) = Word (order_word c.comparison) ∷ Literal c.number ∷ and_tokens more
range_tokens (Interval bracket low high close) = Word (open_word bracket) ∷ end_token low ∷ Word word.Comma ∷ end_token high ∷ Word (close_word close) ∷ []

abbrev pub item_tokens : NumberItem → List NumberToken
item_tokens (Range true r) = Word word.Not ∷ range_tokens r
item_tokens (Range false r) = range_tokens r
item_tokens (Null true) = Word word.Not ∷ Word word.Null ∷ []
item_tokens (Null false) = Word word.Null ∷ []
item_tokens (Unlike sign n) = Word (unlike_word sign) ∷ Literal n ∷ []

abbrev pub between_word : Separator → NumberWord
between_word separator.Comma = word.Comma
between_word separator.Or = word.Or

abbrev pub more_tokens : FurtherItem → List NumberToken
more_tokens further = Word (between_word further.separator) ∷ item_tokens further.item

-- nothing, or the items with a comma or `OR` between each two
abbrev pub number_tokens : Option NumberItems → List NumberToken
number_tokens None = []
number_tokens (Some items) = item_tokens items.first ++ further_tokens more_tokens items.more

-- the text spells the items
pub record IsNumberText (items : Option NumberItems) (text : List ℕ) : Type 0 where
  pub spelled : IsText (tokens_form (32 ∷ []) (token_form letters_of) (number_tokens items)) text
  pub numbers : AllByRecursion (IsLiteralOf number) (number_tokens items)

-- ---- what they test

-- the number that a text reads as
abbrev pub num_at : List ℕ → Option Num
num_at text = num_from (num_of text)
  where
    num_from : {E : Type 0} → Result Num E → Option Num
    num_from (Ok n) = Some n
    num_from (Err e) = None

abbrev pub comparison_of : Order → Comparison
comparison_of order.Less = comparison.Less
comparison_of order.AtMost = comparison.AtMost
comparison_of order.Greater = comparison.Greater
comparison_of order.AtLeast = comparison.AtLeast

abbrev pub edge_of : WrittenEnd → Option Edge
edge_of (end.Number n) = option_map edge.At (num_at n)
edge_of end.Inf = Some edge.Highest
edge_of end.MinusInf = Some edge.Lowest

-- the comparisons, where each number reads
abbrev pub compares_of : List Compared → Option (List (Comparison × Num))
compares_of [] = Some []
compares_of (c ∷ more) = option_and_then (λ n. option_map (λ rest. (comparison_of c.comparison, n) ∷ rest) (compares_of more)) (num_at c.number)

-- the number at a square bracket belongs to the interval
abbrev pub is_square : Bracket → Bool
is_square Square = true
is_square Round = false

-- the test of a range, where each of its numbers reads
abbrev pub range_test : NumberRange → Option Test
range_test (Is n) = option_map test.Is (num_at n)
range_test (From n) = option_map (λ low. test.To (Some low) None) (num_at n)
range_test (UpTo n) = option_map (λ high. test.To None (Some high)) (num_at n)
range_test (Between m n) = option_and_then (λ low. option_map (λ high. test.To (Some low) (Some high)) (num_at n)) (num_at m)
range_test (Compare c more) = option_map test.Compare (compares_of (c ∷ more))
range_test (Interval bracket low high close) =
    option_and_then (λ from. option_map (λ upto. test.Range (record { edge = from; closed = is_square bracket }) (record { edge = upto; closed = is_square close })) (edge_of high)) (edge_of low)

abbrev pub item_test : NumberItem → Option Test
item_test (Range negated r) = range_test r
item_test (Null negated) = Some test.Null
item_test (Unlike sign n) = option_map test.Is (num_at n)

-- `NOT`, `<>` or `!=` stands before it
abbrev pub is_negated : NumberItem → Bool
is_negated (Range negated r) = negated
is_negated (Null negated) = negated
is_negated (Unlike sign n) = true

-- the item is a number
abbrev pub is_plain : NumberItem → Bool
is_plain (Range negated (Is n)) = true
is_plain (Range negated r) = false
is_plain other = false

-- the filter begins with `NOT` and a number
abbrev pub begins_with_not : NumberItem → Bool
begins_with_not (Range negated r) = negated && is_plain (Range negated r)
begins_with_not other = false

-- an item is an exclude; behind `NOT` and a number at the front, each plain number is one too
abbrev pub is_exclude : Bool → NumberItem → Bool
is_exclude plain x = is_negated x || (plain && is_plain x)

-- the test of an item, and none where the item is not on the side, of the excludes or of the includes
abbrev pub own_test : Bool → Bool → NumberItem → Option (Option Test)
own_test plain side x = if is_same_truth side (is_exclude plain x) then option_map (λ t. Some t) (item_test x) else Some None

abbrev pub further_tests : Bool → Bool → List FurtherItem → Option (List Test)
further_tests plain side [] = Some []
further_tests plain side (x ∷ more) = with_own (own_test plain side x.item) (further_tests plain side more)

-- the tests of the items on a side, where each of their numbers reads
abbrev pub side_tests : Bool → NumberItems → Option (List Test)
side_tests side items = with_own (own_test (begins_with_not items.first) side items.first) (further_tests (begins_with_not items.first) side items.more)

-- the filter of the items, where each number reads
abbrev pub number_filter : Option NumberItems → Option Filter
number_filter None = Some (record { include = []; exclude = []; relative = false })
number_filter (Some items) =
    option_and_then (λ include. option_map (λ exclude. record { include = include; exclude = exclude; relative = false }) (side_tests true items)) (side_tests false items)

-- the text spells the filter
abbrev pub IsNumberFilter : Filter → List ℕ → Type 0
IsNumberFilter f text = (items : Option NumberItems) × IsNumberText items text × (number_filter items ≡ Some f)

-- the text is of the grammar of filters of numbers
abbrev pub IsNumbers : List ℕ → Type 0
IsNumbers text = (items : Option NumberItems) × IsNumberText items text

-- ---- a number that is not read

-- a byte that numbers have
abbrev pub is_number_byte : ℕ → Bool
is_number_byte b = is_of_number b || nat_eq b 45

-- a number comes first, and it is out of range or has a digit other than 0 past the fourth place
abbrev pub is_unread : List ℕ → Bool
is_unread text = not (nat_eq (number_length text) 0) && is_none (num_at (take (number_length text) text))

-- the byte before the place is one of a number
abbrev pub is_behind_number : List ℕ → ℕ → Bool
is_behind_number text zero = false
is_behind_number text (suc n) = is_number_byte (slice_index_or text n 0)

-- a number that is not read begins at the place; a byte behind another of a number begins none
pub record IsUnreadAt (text : List ℕ) (n : ℕ) : Type 0 where
  pub unread : is_unread (drop n text) ≡ true
  pub begins : is_behind_number text n ≡ false

-- the place of a text that is no filter of numbers: where it stops being one, or the first byte of the first number before it that is not read
pub record IsNumbersPlace (text : List ℕ) (n : ℕ) : Type 0 where
  pub place : ℕ
  pub at_place : IsPlace IsNumbers text place
  pub within : n ≤ place
  pub none : (m : ℕ) → m < n → IsUnreadAt text m → ⊥
  pub reached : (n ≡ place) ⊎ IsUnreadAt text n
