-- Filters of dates: items with commas between, each a date, days before, after or between dates, days before today, or `NULL`.
use Rattle.std.specs.Prelude.{◌≡◌, ℕ, Bool, true, false, List, [], ◌∷◌, ◌++◌, Option, Some, None, option_map, codes, if◌then◌else◌}
use Rattle.std.specs.Option.{option_and_then}
use Rattle.std.specs.List.{list_any, AllByRecursion}
use Rattle.lk_grammar.specs.Forms.{IsText}
use Rattle.lk_grammar.specs.Tokens.{tokens_form}
use Rattle.lk_grammar.specs.Literals.{token_form, IsLiteralOf}
use Rattle.lk_grammar.specs.declared.literals.Token.{Token}
use Rattle.lk_grammar.specs.declared.literals.Token.TheVariants.{Word, Literal}
use Rattle.lk_types.specs.declared.filter.Filter.{Filter}
use Rattle.lk_types.specs.declared.filter.Period.{Period}
use Rattle.lk_types.specs.declared.filter.Period.TheVariants.{Day, Week, Month, Quarter, Year}
use Rattle.lk_types.specs.declared.filter.Test.{Test}
use Rattle.lk_types.specs.declared.filter.Test.TheVariants as test
use Rattle.lk_grammar.specs.Listed.{further_tokens, with_own}
use Rattle.lk_filter_date.specs.DateTexts.{days_of, count_of, date_literal}
use Rattle.lk_filter_date.specs.declared.words.DateWord.{DateWord}
use Rattle.lk_filter_date.specs.declared.words.Plurality.{Plurality}
use Rattle.lk_filter_date.specs.declared.words.Plurality.TheVariants.{Plural, Singular}
use Rattle.lk_filter_date.specs.declared.words.DateWord.TheVariants as word
use Rattle.lk_filter_date.specs.declared.items.DateItem.{DateItem}
use Rattle.lk_filter_date.specs.declared.items.DateItem.TheVariants as item

-- a unit, in the plural or not
abbrev pub unit_letters : Period → Plurality → List ℕ
unit_letters Day Plural = codes "days"
unit_letters Day Singular = codes "day"
unit_letters Week Plural = codes "weeks"
unit_letters Week Singular = codes "week"
unit_letters Month Plural = codes "months"
unit_letters Month Singular = codes "month"
unit_letters Quarter Plural = codes "quarters"
unit_letters Quarter Singular = codes "quarter"
unit_letters Year Plural = codes "years"
unit_letters Year Singular = codes "year"

abbrev pub letters_of : DateWord → List ℕ
letters_of word.Before = codes "before"
letters_of word.After = codes "after"
letters_of word.Today = codes "today"
letters_of word.To = codes "to"
letters_of word.Yesterday = codes "yesterday"
letters_of word.This = codes "this"
letters_of word.Last = codes "last"
letters_of word.Ago = codes "ago"
letters_of word.Null = codes "null"
letters_of word.Not = codes "not"
letters_of word.Comma = codes ","
letters_of (word.Unit period plurality) = unit_letters period plurality

abbrev pub DateToken : Type 0
DateToken = Token DateWord

-- ---- how items are written

abbrev pub item_tokens : DateItem → List DateToken
item_tokens (item.In date) = Literal date ∷ []
item_tokens (item.Before date) = Word word.Before ∷ Literal date ∷ []
item_tokens (item.After date) = Word word.After ∷ Literal date ∷ []
item_tokens (item.FromTo from upto) = Literal from ∷ Word word.To ∷ Literal upto ∷ []
item_tokens item.Today = Word word.Today ∷ []
item_tokens item.Yesterday = Word word.Yesterday ∷ []
item_tokens (item.This period) = Word word.This ∷ Word (word.Unit period Singular) ∷ []
item_tokens (item.Last period) = Word word.Last ∷ Word (word.Unit period Singular) ∷ []
item_tokens (item.Recent count period plurality) = Literal count ∷ Word (word.Unit period plurality) ∷ []
item_tokens (item.Ago count period plurality) = Literal count ∷ Word (word.Unit period plurality) ∷ Word word.Ago ∷ []
item_tokens (item.Null false) = Word word.Null ∷ []
item_tokens (item.Null true) = Word word.Not ∷ Word word.Null ∷ []

-- a further item, with a comma before it
abbrev pub more_tokens : DateItem → List DateToken
more_tokens x = Word word.Comma ∷ item_tokens x

-- nothing, or the items with a comma between each two
abbrev pub date_tokens : List DateItem → List DateToken
date_tokens [] = []
date_tokens (x ∷ more) = item_tokens x ++ further_tokens more_tokens more

-- the text spells the items, whether or not their dates and counts read
pub record IsDateText (items : List DateItem) (text : List ℕ) : Type 0 where
  pub spelled : IsText (tokens_form (32 ∷ []) (token_form letters_of) (date_tokens items)) text
  pub literals : AllByRecursion (IsLiteralOf date_literal) (date_tokens items)

-- ---- what they test

-- the unit that `this` and `last` don't take
abbrev pub is_day : Period → Bool
is_day Day = true
is_day period = false

-- the test of an item, where its dates and its count read (Looker, filter expressions: date)
abbrev pub item_test : DateItem → Option Test
item_test (item.In date) = option_map test.In (days_of date)
item_test (item.Before date) = option_map test.Before (days_of date)
item_test (item.After date) = option_map test.After (days_of date)
item_test (item.FromTo from upto) = option_and_then (λ low. option_map (λ high. test.FromTo low high) (days_of upto)) (days_of from)
item_test item.Today = Some test.Today
item_test item.Yesterday = Some test.Yesterday
item_test (item.This period) = if is_day period then None else Some (test.This period)
item_test (item.Last period) = if is_day period then None else Some (test.Last period)
item_test (item.Recent count period plurality) = option_map (λ n. test.Recent n period) (count_of count)
item_test (item.Ago count period plurality) = option_map (λ n. test.Ago n period) (count_of count)
item_test (item.Null negated) = Some test.Null

-- `NOT` stands before it
abbrev pub is_exclude : DateItem → Bool
is_exclude (item.Null negated) = negated
is_exclude x = false

-- the item says days before or after today
abbrev pub is_relative : DateItem → Bool
is_relative (item.In date) = false
is_relative (item.Before date) = false
is_relative (item.After date) = false
is_relative (item.FromTo from upto) = false
is_relative (item.Null negated) = false
is_relative x = true

-- the test of an item, and none where it is an exclude
unfoldable pub own_test : DateItem → Option (Option Test)
own_test x = if is_exclude x then Some None else option_map (λ t. Some t) (item_test x)

-- the tests of the items without `NOT`, where each date and each count reads
abbrev pub included : List DateItem → Option (List Test)
included [] = Some []
included (x ∷ more) = with_own (own_test x) (included more)

-- the tests of the items with `NOT`
abbrev pub excluded : List DateItem → List Test
excluded [] = []
excluded (x ∷ more) = if is_exclude x then test.Null ∷ excluded more else excluded more

-- the filter of the items, where each date and each count reads
abbrev pub date_filter : List DateItem → Option Filter
date_filter items = option_map (λ include. record { include = include; exclude = excluded items; relative = list_any is_relative items }) (included items)

-- the text spells the filter
abbrev pub IsDateFilter : Filter → List ℕ → Type 0
IsDateFilter f text = (items : List DateItem) × IsDateText items text × (date_filter items ≡ Some f)

-- the text is a filter of dates
abbrev pub IsDates : List ℕ → Type 0
IsDates text = (f : Filter) × IsDateFilter f text
