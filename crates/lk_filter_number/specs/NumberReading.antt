-- How filters of numbers are read: the items that tokens are, the grammar as a form, and the first number that is not read.
use Rattle.std.specs.Prelude.{ℕ, suc, ◌<◌, not, min, Bool, true, false, ◌&&◌, List, [], ◌∷◌, Option, Some, None, option_map, codes, if◌then◌else◌}
use Rattle.std.specs.Option.{option_and_then, option_or}
use Rattle.lk_grammar.specs.Forms.{Form, seq, either, many, optional}
use Rattle.lk_grammar.specs.Words.{free, letters}
use Rattle.lk_grammar.specs.Numbers.{number}
use Rattle.lk_grammar.specs.declared.literals.Token.TheVariants.{Word, Literal}
use Rattle.lk_grammar.specs.Listed.{listed}
use Rattle.lk_filter_number.specs.declared.number.words.NumberWord.{NumberWord}
use Rattle.lk_filter_number.specs.declared.number.words.NumberWord.TheVariants as word
use Rattle.lk_filter_number.specs.declared.number.items.WrittenEnd.{WrittenEnd}
use Rattle.lk_filter_number.specs.declared.number.items.WrittenEnd.TheVariants as end
use Rattle.lk_filter_number.specs.declared.number.items.Compared.{Compared}
use Rattle.lk_filter_number.specs.declared.number.items.Order.{Order}
use Rattle.lk_filter_number.specs.declared.number.items.Order.TheVariants as order
use Rattle.lk_filter_number.specs.declared.number.items.Bracket.{Bracket}
use Rattle.lk_filter_number.specs.declared.number.items.Bracket.TheVariants.{Square, Round}
use Rattle.lk_filter_number.specs.declared.number.items.UnlikeSign.TheVariants.{Angles, Exclamation}
use Rattle.lk_filter_number.specs.declared.number.items.Separator.TheVariants as separator
use Rattle.lk_filter_number.specs.declared.number.items.NumberRange.{NumberRange}
use Rattle.lk_filter_number.specs.declared.number.items.NumberRange.TheVariants.{Is, From, UpTo, Between, Compare, Interval}
use Rattle.lk_filter_number.specs.declared.number.items.NumberItem.{NumberItem}
use Rattle.lk_filter_number.specs.declared.number.items.NumberItem.TheVariants.{Range, Null, Unlike}
use Rattle.lk_filter_number.specs.declared.number.items.FurtherItem.{FurtherItem}
use Rattle.lk_filter_number.specs.declared.number.items.NumberItems.{NumberItems}
use Rattle.lk_filter_number.specs.Numbers.{NumberToken, is_number_byte, is_unread}

-- ---- how items are read from the tokens

abbrev pub is_same_word : NumberWord → NumberWord → Bool
is_same_word word.AtMost word.AtMost = true
is_same_word word.AtLeast word.AtLeast = true
is_same_word word.Unlike word.Unlike = true
is_same_word word.Unequal word.Unequal = true
is_same_word word.Less word.Less = true
is_same_word word.Greater word.Greater = true
is_same_word word.Comma word.Comma = true
is_same_word word.Or word.Or = true
is_same_word word.And word.And = true
is_same_word word.Not word.Not = true
is_same_word word.Null word.Null = true
is_same_word word.To word.To = true
is_same_word word.OpenSquare word.OpenSquare = true
is_same_word word.OpenRound word.OpenRound = true
is_same_word word.CloseSquare word.CloseSquare = true
is_same_word word.CloseRound word.CloseRound = true
is_same_word word.Inf word.Inf = true
is_same_word word.MinusInf word.MinusInf = true
is_same_word w v = false

-- what is behind the word, where the tokens begin with it
abbrev pub behind_word : NumberWord → List NumberToken → Option (List NumberToken)
behind_word w [] = None
behind_word w (Literal n ∷ tokens) = None
behind_word w (Word v ∷ tokens) = if is_same_word w v then Some tokens else None

-- the number that the tokens begin with, and what is behind it
abbrev pub first_number : List NumberToken → Option (List ℕ × List NumberToken)
first_number [] = None
first_number (Word w ∷ tokens) = None
first_number (Literal n ∷ tokens) = Some (n, tokens)

abbrev pub order_of : NumberWord → Option Order
order_of word.Less = Some order.Less
order_of word.AtMost = Some order.AtMost
order_of word.Greater = Some order.Greater
order_of word.AtLeast = Some order.AtLeast
order_of w = None

abbrev pub first_order : List NumberToken → Option (Order × List NumberToken)
first_order [] = None
first_order (Literal n ∷ tokens) = None
first_order (Word w ∷ tokens) = option_map (λ c. (c, tokens)) (order_of w)

-- the comparison that the tokens begin with
abbrev pub first_compared : List NumberToken → Option (Compared × List NumberToken)
first_compared tokens = option_and_then (λ c. option_map (λ n. (record { comparison = c.0; number = n.0 }, n.1)) (first_number c.1)) (first_order tokens)

-- a comparison with `AND` before it, from three tokens
abbrev pub and_compared : NumberToken → NumberToken → NumberToken → Option Compared
and_compared (Word w) (Word v) (Literal n) = if is_same_word word.And w then option_map (λ c. record { comparison = c; number = n }) (order_of v) else None
and_compared (Word w) (Word v) (Word u) = None
and_compared (Word w) (Literal m) u = None
and_compared (Literal m) v u = None

-- one comparison more, or none
abbrev pub with_compared : Option Compared → List Compared × List NumberToken → List NumberToken → List Compared × List NumberToken
with_compared None more tokens = ([], tokens)
with_compared (Some c) more tokens = (c ∷ more.0, more.1)

-- the comparisons with `AND` before each that the tokens begin with, and what is behind them
abbrev pub further_compared : List NumberToken → List Compared × List NumberToken
further_compared [] = ([], [])
further_compared (t ∷ []) = ([], t ∷ [])
further_compared (t ∷ u ∷ []) = ([], t ∷ u ∷ [])
further_compared (t ∷ u ∷ v ∷ tokens) = with_compared (and_compared t u v) (further_compared tokens) (t ∷ u ∷ v ∷ tokens)

-- a number, and a second one or none behind `to`
abbrev pub after_to : List ℕ → List NumberToken → Option (List ℕ × List NumberToken) → NumberRange × List NumberToken
after_to n tokens None = (From n, tokens)
after_to n tokens (Some m) = (Between n m.0, m.1)

abbrev pub after_number : List ℕ → List NumberToken → Option (List NumberToken) → NumberRange × List NumberToken
after_number n tokens None = (Is n, tokens)
after_number n tokens (Some rest) = after_to n rest (first_number rest)

abbrev pub range_from_number : List NumberToken → Option (NumberRange × List NumberToken)
range_from_number tokens = option_map (λ n. after_number n.0 n.1 (behind_word word.To n.1)) (first_number tokens)

abbrev pub range_up_to : List NumberToken → Option (NumberRange × List NumberToken)
range_up_to tokens = option_and_then (λ rest. option_map (λ n. (UpTo n.0, n.1)) (first_number rest)) (behind_word word.To tokens)

abbrev pub range_compared : List NumberToken → Option (NumberRange × List NumberToken)
range_compared tokens = option_map (λ c. (Compare c.0 (further_compared c.1).0, (further_compared c.1).1)) (first_compared tokens)

-- what one of two words stands for, and what is behind it
abbrev pub one_word : {A : Type 0} → NumberWord → A → NumberWord → A → List NumberToken → Option (A × List NumberToken)
one_word w a v b tokens = option_or (option_map (λ rest. (a, rest)) (behind_word w tokens)) (option_map (λ rest. (b, rest)) (behind_word v tokens))

abbrev pub first_end : List NumberToken → Option (WrittenEnd × List NumberToken)
first_end tokens =
    option_or (option_map (λ n. (end.Number n.0, n.1)) (first_number tokens))
    (option_or (option_map (λ rest. (end.Inf, rest)) (behind_word word.Inf tokens)) (option_map (λ rest. (end.MinusInf, rest)) (behind_word word.MinusInf tokens)))

-- an end with a comma before it, and the bracket behind it
abbrev pub interval_end : Bracket → WrittenEnd → List NumberToken → Option (NumberRange × List NumberToken)
interval_end bracket low tokens =
    option_and_then (λ rest. option_and_then (λ high. option_map (λ close. (Interval bracket low high.0 close.0, close.1)) (one_word word.CloseSquare Square word.CloseRound Round high.1)) (first_end rest)) (behind_word word.Comma tokens)

abbrev pub range_interval : List NumberToken → Option (NumberRange × List NumberToken)
range_interval tokens = option_and_then (λ left. option_and_then (λ low. interval_end left.0 low.0 low.1) (first_end left.1)) (one_word word.OpenSquare Square word.OpenRound Round tokens)

abbrev pub range_of : List NumberToken → Option (NumberRange × List NumberToken)
range_of tokens = option_or (range_from_number tokens) (option_or (range_up_to tokens) (option_or (range_compared tokens) (range_interval tokens)))

-- `NULL` or a range
abbrev pub tested : Bool → List NumberToken → Option (NumberItem × List NumberToken)
tested negated tokens = option_or (option_map (λ rest. (Null negated, rest)) (behind_word word.Null tokens)) (option_map (λ r. (Range negated r.0, r.1)) (range_of tokens))

-- a number behind `<>` or `!=`
abbrev pub differing : List NumberToken → Option (NumberItem × List NumberToken)
differing tokens = option_and_then (λ sign. option_map (λ n. (Unlike sign.0 n.0, n.1)) (first_number sign.1)) (one_word word.Unequal Exclamation word.Unlike Angles tokens)

-- the item that the tokens begin with
abbrev pub item_of : List NumberToken → Option (NumberItem × List NumberToken)
item_of tokens = option_or (option_and_then (tested true) (behind_word word.Not tokens)) (option_or (tested false tokens) (differing tokens))

-- an item with a comma or `OR` before it
abbrev pub further_item : List NumberToken → Option (FurtherItem × List NumberToken)
further_item tokens = option_and_then (λ before. option_map (λ x. (record { separator = before.0; item = x.0 }, x.1)) (item_of before.1)) (one_word word.Or separator.Or word.Comma separator.Comma tokens)

-- the further item, and those behind it
abbrev pub then_further : Option (FurtherItem × List NumberToken) → (List NumberToken → Option (List FurtherItem)) → Option (List FurtherItem)
then_further None more = None
then_further (Some x) more = option_map (λ items. x.0 ∷ items) (more x.1)

-- the further items that the tokens are, with fuel for each
abbrev pub further_from : List NumberToken → List NumberToken → Option (List FurtherItem)
further_from [] [] = Some []
further_from [] (t ∷ tokens) = None
further_from (f ∷ fuel) [] = Some []
further_from (f ∷ fuel) (t ∷ tokens) = then_further (further_item (t ∷ tokens)) (further_from fuel)

-- the items that the tokens are
abbrev pub items_of : List NumberToken → Option (Option NumberItems)
items_of [] = Some None
items_of (t ∷ tokens) = option_and_then (λ x. option_map (λ more. Some (record { first = x.0; more = more })) (further_from (t ∷ tokens) x.1)) (item_of (t ∷ tokens))

-- ---- the grammar as a form, whatever numbers are read

-- a word in any case with free spaces before it
abbrev pub any_word : List ℕ → Form
any_word small = free (32 ∷ []) (letters small)

abbrev pub written_number : Form
written_number = free (32 ∷ []) number

abbrev pub order_form : Form
order_form = either (any_word (codes "<=")) (either (any_word (codes ">=")) (either (any_word (codes "<")) (any_word (codes ">"))))

abbrev pub compared_form : Form
compared_form = seq order_form written_number

abbrev pub comparisons_form : Form
comparisons_form = seq compared_form (many (seq (any_word (codes "and")) compared_form))

-- a number, which `to` and a second number may follow
abbrev pub from_form : Form
from_form = seq written_number (optional (seq (any_word (codes "to")) (optional written_number)))

abbrev pub up_to_form : Form
up_to_form = seq (any_word (codes "to")) written_number

abbrev pub end_form : Form
end_form = either written_number (either (any_word (codes "inf")) (any_word (codes "-inf")))

abbrev pub interval_form : Form
interval_form = seq (either (any_word (codes "[")) (any_word (codes "("))) (seq end_form (seq (any_word (codes ",")) (seq end_form (either (any_word (codes "]")) (any_word (codes ")"))))))

abbrev pub range_form : Form
range_form = either from_form (either up_to_form (either comparisons_form interval_form))

abbrev pub item_form : Form
item_form =
    either (seq (optional (any_word (codes "not"))) (either range_form (any_word (codes "null"))))
    (seq (either (any_word (codes "<>")) (any_word (codes "!="))) written_number)

abbrev pub further_form : Form
further_form = seq (either (any_word (codes ",")) (any_word (codes "or"))) item_form

unfoldable pub number_form : Form
number_form = listed (32 ∷ []) item_form further_form

-- ---- how the number is found

-- the first byte of the first number that is not read, inside a number or not
abbrev pub unread_from : Bool → List ℕ → Option ℕ
unread_from inside [] = None
unread_from inside (b ∷ text) =
    if not inside && is_unread (b ∷ text) then Some 0 else option_map suc (unread_from (is_number_byte b) text)

-- the place, or that of a number before it
abbrev pub before_place : ℕ → Option ℕ → ℕ
before_place place None = place
before_place place (Some unread) = min place unread
