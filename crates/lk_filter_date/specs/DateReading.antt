-- How filters of dates are read: the items that tokens are, and the grammar as a form.
use Rattle.std.specs.Prelude.{ℕ, true, false, List, [], ◌∷◌, Option, Some, None, option_map, codes}
use Rattle.lk_grammar.specs.Forms.{Form, seq, either, optional}
use Rattle.lk_grammar.specs.Words.{word, free}
use Rattle.lk_grammar.specs.declared.literals.Token.TheVariants.{Word, Literal}
use Rattle.lk_types.specs.declared.filter.Period.{Period}
use Rattle.lk_types.specs.declared.filter.Period.TheVariants.{Day, Week, Month, Quarter, Year}
use Rattle.lk_grammar.specs.Listed.{listed}
use Rattle.lk_filter_date.specs.DateTexts.{date_form, count_form}
use Rattle.lk_filter_date.specs.declared.words.DateWord.{DateWord}
use Rattle.lk_filter_date.specs.declared.words.Plurality.TheVariants.{Plural, Singular}
use Rattle.lk_filter_date.specs.declared.words.DateWord.TheVariants as word
use Rattle.lk_filter_date.specs.declared.items.DateItem.{DateItem}
use Rattle.lk_filter_date.specs.declared.items.DateItem.TheVariants as item
use Rattle.lk_filter_date.specs.Dates.{DateToken, unit_letters}

-- ---- how items are read from the tokens

-- the item that a date or a count begins, and what is behind it
abbrev pub item_of_literal : List ℕ → List DateToken → DateItem × List DateToken
item_of_literal date (Word word.To ∷ Literal upto ∷ tokens) = (item.FromTo date upto, tokens)
item_of_literal count (Word (word.Unit period plurality) ∷ Word word.Ago ∷ tokens) = (item.Ago count period plurality, tokens)
item_of_literal count (Word (word.Unit period plurality) ∷ tokens) = (item.Recent count period plurality, tokens)
item_of_literal date tokens = (item.In date, tokens)

-- the item that a word begins
abbrev pub item_of_word : DateWord → List DateToken → Option (DateItem × List DateToken)
item_of_word word.Today tokens = Some (item.Today, tokens)
item_of_word word.Yesterday tokens = Some (item.Yesterday, tokens)
item_of_word word.Null tokens = Some (item.Null false, tokens)
item_of_word word.Before (Literal date ∷ tokens) = Some (item.Before date, tokens)
item_of_word word.After (Literal date ∷ tokens) = Some (item.After date, tokens)
item_of_word word.This (Word (word.Unit period Singular) ∷ tokens) = Some (item.This period, tokens)
item_of_word word.Last (Word (word.Unit period Singular) ∷ tokens) = Some (item.Last period, tokens)
item_of_word word.Not (Word word.Null ∷ tokens) = Some (item.Null true, tokens)
item_of_word w tokens = None

-- the item that the tokens begin with
abbrev pub item_of : List DateToken → Option (DateItem × List DateToken)
item_of [] = None
item_of (Literal text ∷ tokens) = Some (item_of_literal text tokens)
item_of (Word w ∷ tokens) = item_of_word w tokens

-- an item with a comma before it
abbrev pub further_item : List DateToken → Option (DateItem × List DateToken)
further_item (Word word.Comma ∷ tokens) = item_of tokens
further_item tokens = None

-- the further item, and those behind it
abbrev pub then_further : Option (DateItem × List DateToken) → (List DateToken → Option (List DateItem)) → Option (List DateItem)
then_further None more = None
then_further (Some x) more = option_map (λ items. x.0 ∷ items) (more x.1)

-- the further items that the tokens are, with fuel for each
abbrev pub further_from : List DateToken → List DateToken → Option (List DateItem)
further_from [] [] = Some []
further_from [] (t ∷ tokens) = None
further_from (f ∷ fuel) [] = Some []
further_from (f ∷ fuel) (t ∷ tokens) = then_further (further_item (t ∷ tokens)) (further_from fuel)

-- the items that the tokens are
abbrev pub items_of : List DateToken → Option (List DateItem)
items_of [] = Some []
items_of (t ∷ tokens) = then_further (item_of (t ∷ tokens)) (further_from (t ∷ tokens))

-- ---- the grammar as a form

-- a word in any case with free spaces before it
abbrev pub any_word : List ℕ → Form
any_word small = word (32 ∷ []) small

abbrev pub written_date : Form
written_date = free (32 ∷ []) date_form

abbrev pub written_count : Form
written_count = free (32 ∷ []) count_form

-- a unit in the plural or not
abbrev pub unit_form : Period → Form
unit_form period = either (any_word (unit_letters period Plural)) (any_word (unit_letters period Singular))

abbrev pub units_form : Form
units_form = either (unit_form Day) (either (unit_form Week) (either (unit_form Month) (either (unit_form Quarter) (unit_form Year))))

-- a unit of which there is a current one
abbrev pub period_form : Form
period_form =
    either (any_word (unit_letters Week Singular))
    (either (any_word (unit_letters Month Singular)) (either (any_word (unit_letters Quarter Singular)) (any_word (unit_letters Year Singular))))

-- a date, which `to` and a second one may follow
abbrev pub dated_form : Form
dated_form = seq written_date (optional (seq (any_word (codes "to")) written_date))

-- a count and its unit, which `ago` may follow
abbrev pub counted_form : Form
counted_form = seq written_count (seq units_form (optional (any_word (codes "ago"))))

abbrev pub beside_form : Form
beside_form = seq (either (any_word (codes "before")) (any_word (codes "after"))) written_date

abbrev pub current_form : Form
current_form = seq (either (any_word (codes "this")) (any_word (codes "last"))) period_form

abbrev pub null_form : Form
null_form = seq (optional (any_word (codes "not"))) (any_word (codes "null"))

abbrev pub item_form : Form
item_form =
    either dated_form
    (either counted_form (either beside_form (either current_form (either (any_word (codes "today")) (either (any_word (codes "yesterday")) null_form)))))

abbrev pub further_form : Form
further_form = seq (any_word (codes ",")) item_form

unfoldable pub dates_form : Form
dates_form = listed (32 ∷ []) item_form further_form
