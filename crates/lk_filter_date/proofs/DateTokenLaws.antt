-- Filters of dates: each token of items stands clear of those behind it, and so each filter is read as itself.
use Rattle.std.proofs.Common.{◌≡◌, inl, inr, ℕ, ◌≤◌, Bool, true, false, ◌&&◌, nat_eq, nat_le, List, [], ◌∷◌, ◌++◌, Option, Some, None, IfSome, refl, sym, ap, subst, ◌∙◌, arith}
use Rattle.std.specs.List.{AllByRecursion}
use Rattle.std.specs.Option.{option_and_then}
use Rattle.std.proofs.lemmas.Bool.{false≢true, leb-true}
use Rattle.lk_grammar.specs.Forms.{IsText}
use Rattle.lk_grammar.specs.Words.{is_word, is_small, is_char, IsFirst, letter_starts, each_alone}
use Rattle.lk_grammar.specs.Tokens.{tokens_form, tokens_of, AreClear}
use Rattle.lk_grammar.specs.Literals.{token_form, first_of, is_ended, next_starts, is_next_token, IsClearToken, IsLiteralOf}
use Rattle.lk_grammar.specs.Numbers.{begins_no_digit}
use Rattle.lk_grammar.specs.declared.literals.Token.TheVariants.{Word, Literal}
use Rattle.lk_grammar.proofs.FormLaws.{both, no_cons}
use Rattle.lk_grammar.proofs.WordLaws.{no_small}
use Rattle.lk_grammar.proofs.LiteralLaws.{tokens_lex}
use Rattle.lk_grammar.proofs.TokenLaws.{tokens_spelled}
use Rattle.lk_types.specs.declared.filter.Filter.{Filter}
use Rattle.lk_types.specs.declared.filter.Period.{Period}
use Rattle.lk_types.specs.declared.filter.Period.TheVariants.{Day, Week, Month, Quarter, Year}
use Rattle.lk_grammar.specs.Listed.{further_tokens}
use Rattle.lk_filter_date.specs.DateTexts.{date_literal, date_length, is_of_date}
use Rattle.lk_filter_date.specs.Dates.{letters_of, DateToken, item_tokens, more_tokens, date_tokens, date_filter, IsDateFilter}
use Rattle.lk_filter_date.specs.DateReading.{items_of}
use Rattle.lk_filter_date.specs.declared.words.DateWord.{DateWord}
use Rattle.lk_filter_date.specs.declared.words.Plurality.TheVariants.{Plural, Singular}
use Rattle.lk_filter_date.specs.declared.words.DateWord.TheVariants as word
use Rattle.lk_filter_date.specs.declared.items.DateItem.{DateItem}
use Rattle.lk_filter_date.specs.declared.items.DateItem.TheVariants as item
use Rattle.lk_filter_date.proofs.DateLiteralLaws.{date_reader, same, is_false, digit_low, digit_high, literal_head}
use Rattle.lk_filter_date.proofs.DateReadingLaws.{Ends, further_ends, items_again, items_before}
use Rattle.lk_grammar.proofs.ReadingLaws.{of_each, none_some, some_is, read_is_spelled}

abbrev pub table : List DateWord
table = word.Before ∷ word.After ∷ word.Today ∷ word.To ∷ word.Yesterday ∷ word.This ∷ word.Last ∷ word.Ago ∷ word.Null ∷ word.Not ∷ word.Comma ∷ (word.Unit Day Plural) ∷ (word.Unit Day Singular) ∷ (word.Unit Week Plural) ∷ (word.Unit Week Singular) ∷ (word.Unit Month Plural) ∷ (word.Unit Month Singular) ∷ (word.Unit Quarter Plural) ∷ (word.Unit Quarter Singular) ∷ (word.Unit Year Plural) ∷ (word.Unit Year Singular) ∷ []

-- ---- which tokens stand beside one another

-- nothing, a comma or `ago` is behind a unit
abbrev is_unit_end : List DateToken → Bool
is_unit_end [] = true
is_unit_end (Word word.Comma ∷ tokens) = true
is_unit_end (Word word.Ago ∷ tokens) = true
is_unit_end tokens = false

-- no literal is behind a literal, and nothing else is behind `to`
abbrev is_apart_from : DateToken → List DateToken → Bool
is_apart_from (Literal m) (Literal n ∷ tokens) = false
is_apart_from (Literal m) tokens = true
is_apart_from (Word word.To) (Literal n ∷ tokens) = true
is_apart_from (Word word.To) tokens = false
is_apart_from (Word (word.Unit period plurality)) tokens = is_unit_end tokens
is_apart_from (Word w) tokens = true

abbrev are_apart : List DateToken → Bool
are_apart [] = true
are_apart (t ∷ tokens) = is_apart_from t tokens && are_apart tokens

behind_literal : (n : List ℕ) (rest : List DateToken) → Ends rest → is_apart_from (Literal n) rest ≡ true
behind_literal n [] h = refl
behind_literal n (Word w ∷ rest) h = refl
behind_literal n (Literal m ∷ rest) h = absurd h

behind_unit : (rest : List DateToken) → Ends rest → is_unit_end rest ≡ true
behind_unit [] h = refl
behind_unit (Word word.Comma ∷ rest) h = refl
behind_unit (t ∷ rest) h = absurd h

apart_item : (x : DateItem) (rest : List DateToken) → Ends rest → are_apart rest ≡ true → are_apart (item_tokens x ++ rest) ≡ true
apart_item (item.In date) rest h ok = rw (behind_literal date rest h, ok) refl
apart_item (item.Before date) rest h ok = rw (behind_literal date rest h, ok) refl
apart_item (item.After date) rest h ok = rw (behind_literal date rest h, ok) refl
apart_item (item.FromTo from upto) rest h ok = rw (behind_literal upto rest h, ok) refl
apart_item item.Today rest h ok = ok
apart_item item.Yesterday rest h ok = ok
apart_item (item.This period) rest h ok = rw (behind_unit rest h, ok) refl
apart_item (item.Last period) rest h ok = rw (behind_unit rest h, ok) refl
apart_item (item.Recent count period plurality) rest h ok = rw (behind_unit rest h, ok) refl
apart_item (item.Ago count period plurality) rest h ok = ok
apart_item (item.Null true) rest h ok = ok
apart_item (item.Null false) rest h ok = ok

apart_further : (more : List DateItem) → are_apart (further_tokens more_tokens more) ≡ true
apart_further [] = refl
apart_further (x ∷ more) = apart_item x (further_tokens more_tokens more) (further_ends more) (apart_further more)

apart_items : (items : List DateItem) → are_apart (date_tokens items) ≡ true
apart_items [] = refl
apart_items (x ∷ more) = apart_item x (further_tokens more_tokens more) (further_ends more) (apart_further more)

-- ---- a token is read as itself

digit_is_word : (b : ℕ) → 48 ≤ b → b ≤ 57 → is_word (32 ∷ []) (b ∷ []) ≡ true
digit_is_word b low high = rw (is_false (nat_eq b 32) (λ e. let is : b ≡ 32 = same b 32 e in omega arith), no_small b high) refl

word_is_word : (w : DateWord) → is_word (32 ∷ []) (letters_of w) ≡ true
word_is_word word.Before = refl
word_is_word word.After = refl
word_is_word word.Today = refl
word_is_word word.To = refl
word_is_word word.Yesterday = refl
word_is_word word.This = refl
word_is_word word.Last = refl
word_is_word word.Ago = refl
word_is_word word.Null = refl
word_is_word word.Not = refl
word_is_word word.Comma = refl
word_is_word (word.Unit Day Plural) = refl
word_is_word (word.Unit Day Singular) = refl
word_is_word (word.Unit Week Plural) = refl
word_is_word (word.Unit Week Singular) = refl
word_is_word (word.Unit Month Plural) = refl
word_is_word (word.Unit Month Singular) = refl
word_is_word (word.Unit Quarter Plural) = refl
word_is_word (word.Unit Quarter Singular) = refl
word_is_word (word.Unit Year Plural) = refl
word_is_word (word.Unit Year Singular) = refl

no_digit_begins : (w : DateWord) → begins_no_digit (letters_of w) ≡ true
no_digit_begins word.Before = refl
no_digit_begins word.After = refl
no_digit_begins word.Today = refl
no_digit_begins word.To = refl
no_digit_begins word.Yesterday = refl
no_digit_begins word.This = refl
no_digit_begins word.Last = refl
no_digit_begins word.Ago = refl
no_digit_begins word.Null = refl
no_digit_begins word.Not = refl
no_digit_begins word.Comma = refl
no_digit_begins (word.Unit Day Plural) = refl
no_digit_begins (word.Unit Day Singular) = refl
no_digit_begins (word.Unit Week Plural) = refl
no_digit_begins (word.Unit Week Singular) = refl
no_digit_begins (word.Unit Month Plural) = refl
no_digit_begins (word.Unit Month Singular) = refl
no_digit_begins (word.Unit Quarter Plural) = refl
no_digit_begins (word.Unit Quarter Singular) = refl
no_digit_begins (word.Unit Year Plural) = refl
no_digit_begins (word.Unit Year Singular) = refl

next_is : (tokens : List DateToken) → AllByRecursion (IsLiteralOf date_literal) tokens → is_next_token (32 ∷ []) letters_of tokens ≡ true
next_is [] all = refl
next_is (Word w ∷ tokens) all = word_is_word w
next_is (Literal [] ∷ tokens) all = let h = literal_head [] all.0 in absurd (no_cons h.is)
next_is (Literal (b ∷ text) ∷ tokens) all =
    let h = literal_head (b ∷ text) all.0 in
    let alike : b ≡ h.head = cc in
    subst (λ z. is_word (32 ∷ []) (z ∷ []) ≡ true) (sym alike) (digit_is_word h.head (digit_low h.head h.first) (digit_high h.head h.first))

-- the words that are first whatever comes behind them
abbrev IsPlainWord : DateWord → Type 0
IsPlainWord word.To = ⊥
IsPlainWord (word.Unit period Singular) = ⊥
IsPlainWord w = Unit {0}

first : (w : DateWord) → IsPlainWord w → (rest : List ℕ) → IsFirst letters_of table w rest
first word.Before h rest = inl refl
first word.After h rest = inr (refl, inl refl)
first word.Today h rest = inr (refl, inr (refl, inl refl))
first word.To h rest = absurd h
first word.Yesterday h rest = inr (refl, inr (refl, inr (refl, inr (refl, inl refl))))
first word.This h rest = inr (refl, inr (refl, inr (refl, inr (refl, inr (refl, inl refl)))))
first word.Last h rest = inr (refl, inr (refl, inr (refl, inr (refl, inr (refl, inr (refl, inl refl))))))
first word.Ago h rest = inr (refl, inr (refl, inr (refl, inr (refl, inr (refl, inr (refl, inr (refl, inl refl)))))))
first word.Null h rest = inr (refl, inr (refl, inr (refl, inr (refl, inr (refl, inr (refl, inr (refl, inr (refl, inl refl))))))))
first word.Not h rest = inr (refl, inr (refl, inr (refl, inr (refl, inr (refl, inr (refl, inr (refl, inr (refl, inr (refl, inl refl)))))))))
first word.Comma h rest = inr (refl, inr (refl, inr (refl, inr (refl, inr (refl, inr (refl, inr (refl, inr (refl, inr (refl, inr (refl, inl refl))))))))))
first (word.Unit Day Plural) h rest = inr (refl, inr (refl, inr (refl, inr (refl, inr (refl, inr (refl, inr (refl, inr (refl, inr (refl, inr (refl, inr (refl, inl refl)))))))))))
first (word.Unit Day Singular) h rest = absurd h
first (word.Unit Week Plural) h rest = inr (refl, inr (refl, inr (refl, inr (refl, inr (refl, inr (refl, inr (refl, inr (refl, inr (refl, inr (refl, inr (refl, inr (refl, inr (refl, inl refl)))))))))))))
first (word.Unit Week Singular) h rest = absurd h
first (word.Unit Month Plural) h rest = inr (refl, inr (refl, inr (refl, inr (refl, inr (refl, inr (refl, inr (refl, inr (refl, inr (refl, inr (refl, inr (refl, inr (refl, inr (refl, inr (refl, inr (refl, inl refl)))))))))))))))
first (word.Unit Month Singular) h rest = absurd h
first (word.Unit Quarter Plural) h rest = inr (refl, inr (refl, inr (refl, inr (refl, inr (refl, inr (refl, inr (refl, inr (refl, inr (refl, inr (refl, inr (refl, inr (refl, inr (refl, inr (refl, inr (refl, inr (refl, inr (refl, inl refl)))))))))))))))))
first (word.Unit Quarter Singular) h rest = absurd h
first (word.Unit Year Plural) h rest = inr (refl, inr (refl, inr (refl, inr (refl, inr (refl, inr (refl, inr (refl, inr (refl, inr (refl, inr (refl, inr (refl, inr (refl, inr (refl, inr (refl, inr (refl, inr (refl, inr (refl, inr (refl, inr (refl, inl refl)))))))))))))))))))
first (word.Unit Year Singular) h rest = absurd h

-- `to` before a byte that is no letter d
first_to : (b : ℕ) → is_char 100 b ≡ false → IsFirst letters_of table word.To (b ∷ [])
first_to b h = inr (refl, inr (refl, inr (rw h refl, inl refl)))

-- a unit that is not in the plural, before a byte that is no letter s
first_unit : (period : Period) (b : ℕ) → is_char 115 b ≡ false → IsFirst letters_of table (word.Unit period Singular) (b ∷ [])
first_unit Day b h = inr (refl, inr (refl, inr (refl, inr (refl, inr (refl, inr (refl, inr (refl, inr (refl, inr (refl, inr (refl, inr (refl, inr (rw h refl, inl refl))))))))))))
first_unit Week b h = inr (refl, inr (refl, inr (refl, inr (refl, inr (refl, inr (refl, inr (refl, inr (refl, inr (refl, inr (refl, inr (refl, inr (refl, inr (refl, inr (rw h refl, inl refl))))))))))))))
first_unit Month b h = inr (refl, inr (refl, inr (refl, inr (refl, inr (refl, inr (refl, inr (refl, inr (refl, inr (refl, inr (refl, inr (refl, inr (refl, inr (refl, inr (refl, inr (refl, inr (rw h refl, inl refl))))))))))))))))
first_unit Quarter b h = inr (refl, inr (refl, inr (refl, inr (refl, inr (refl, inr (refl, inr (refl, inr (refl, inr (refl, inr (refl, inr (refl, inr (refl, inr (refl, inr (refl, inr (refl, inr (refl, inr (refl, inr (rw h refl, inl refl))))))))))))))))))
first_unit Year b h = inr (refl, inr (refl, inr (refl, inr (refl, inr (refl, inr (refl, inr (refl, inr (refl, inr (refl, inr (refl, inr (refl, inr (refl, inr (refl, inr (refl, inr (refl, inr (refl, inr (refl, inr (refl, inr (refl, inr (rw h refl, inl refl))))))))))))))))))))

unit_alone : (period : Period) → IsFirst letters_of table (word.Unit period Singular) []
unit_alone Day = inr (refl, inr (refl, inr (refl, inr (refl, inr (refl, inr (refl, inr (refl, inr (refl, inr (refl, inr (refl, inr (refl, inr (refl, inl refl))))))))))))
unit_alone Week = inr (refl, inr (refl, inr (refl, inr (refl, inr (refl, inr (refl, inr (refl, inr (refl, inr (refl, inr (refl, inr (refl, inr (refl, inr (refl, inr (refl, inl refl))))))))))))))
unit_alone Month = inr (refl, inr (refl, inr (refl, inr (refl, inr (refl, inr (refl, inr (refl, inr (refl, inr (refl, inr (refl, inr (refl, inr (refl, inr (refl, inr (refl, inr (refl, inr (refl, inl refl))))))))))))))))
unit_alone Quarter = inr (refl, inr (refl, inr (refl, inr (refl, inr (refl, inr (refl, inr (refl, inr (refl, inr (refl, inr (refl, inr (refl, inr (refl, inr (refl, inr (refl, inr (refl, inr (refl, inr (refl, inr (refl, inl refl))))))))))))))))))
unit_alone Year = inr (refl, inr (refl, inr (refl, inr (refl, inr (refl, inr (refl, inr (refl, inr (refl, inr (refl, inr (refl, inr (refl, inr (refl, inr (refl, inr (refl, inr (refl, inr (refl, inr (refl, inr (refl, inr (refl, inr (refl, inl refl))))))))))))))))))))

word_clear : (w : DateWord) → IsPlainWord w → (tokens : List DateToken) → AllByRecursion (IsLiteralOf date_literal) tokens → IsClearToken (32 ∷ []) letters_of date_literal is_of_date begins_no_digit table (Word w) tokens
word_clear w h tokens all = record { is_one = word_is_word w; is_next = next_is tokens all; no_literal = no_digit_begins w; first = of_each (next_starts (32 ∷ []) letters_of tokens) (first w h) }

no_char : (b : ℕ) → 48 ≤ b → b ≤ 57 → is_char 100 b ≡ false
no_char b low high = rw (is_false (nat_eq b 100) (λ e. let is : b ≡ 100 = same b 100 e in omega arith)) (is_false (nat_eq b 68) (λ e. let is : b ≡ 68 = same b 68 e in omega arith))

to_clear : (n : List ℕ) (tokens : List DateToken) → AllByRecursion (IsLiteralOf date_literal) (Literal n ∷ tokens) → IsClearToken (32 ∷ []) letters_of date_literal is_of_date begins_no_digit table (Word word.To) (Literal n ∷ tokens)
to_clear [] tokens all = let h = literal_head [] all.0 in absurd (no_cons h.is)
to_clear (b ∷ text) tokens all =
    let h = literal_head (b ∷ text) all.0 in
    let alike : b ≡ h.head = cc in
    record {
      is_one = refl;
      is_next = next_is (Literal (b ∷ text) ∷ tokens) all;
      no_literal = refl;
      first = (first_to b (subst (λ z. is_char 100 z ≡ false) (sym alike) (no_char h.head (digit_low h.head h.first) (digit_high h.head h.first))), (first_to 32 refl, tt));
    }

unit_clear : (period : Period) (tokens : List DateToken) → is_unit_end tokens ≡ true → AllByRecursion (IsLiteralOf date_literal) tokens → IsClearToken (32 ∷ []) letters_of date_literal is_of_date begins_no_digit table (Word (word.Unit period Singular)) tokens
unit_clear period tokens ends all = record { is_one = word_is_word (word.Unit period Singular); is_next = next_is tokens all; no_literal = no_digit_begins (word.Unit period Singular); first = firsts tokens ends }
  where
    firsts : (tokens : List DateToken) → is_unit_end tokens ≡ true → AllByRecursion (IsFirst letters_of table (word.Unit period Singular)) (next_starts (32 ∷ []) letters_of tokens)
    firsts [] ends = (unit_alone period, (first_unit period 32 refl, tt))
    firsts (Word word.Comma ∷ tokens) ends = (first_unit period 44 refl, (first_unit period 32 refl, tt))
    firsts (Word word.Ago ∷ tokens) ends = (first_unit period 97 refl, (first_unit period 65 refl, (first_unit period 32 refl, tt)))
    firsts tokens ends = absurd (false≢true ends)

word_ends : (w : DateWord) → AllByRecursion (λ start. is_ended is_of_date start ≡ true) (letter_starts (letters_of w) ++ each_alone (32 ∷ []))
word_ends word.Before = (refl, (refl, (refl, tt)))
word_ends word.After = (refl, (refl, (refl, tt)))
word_ends word.Today = (refl, (refl, (refl, tt)))
word_ends word.To = (refl, (refl, (refl, tt)))
word_ends word.Yesterday = (refl, (refl, (refl, tt)))
word_ends word.This = (refl, (refl, (refl, tt)))
word_ends word.Last = (refl, (refl, (refl, tt)))
word_ends word.Ago = (refl, (refl, (refl, tt)))
word_ends word.Null = (refl, (refl, (refl, tt)))
word_ends word.Not = (refl, (refl, (refl, tt)))
word_ends word.Comma = (refl, (refl, tt))
word_ends (word.Unit Day Plural) = (refl, (refl, (refl, tt)))
word_ends (word.Unit Day Singular) = (refl, (refl, (refl, tt)))
word_ends (word.Unit Week Plural) = (refl, (refl, (refl, tt)))
word_ends (word.Unit Week Singular) = (refl, (refl, (refl, tt)))
word_ends (word.Unit Month Plural) = (refl, (refl, (refl, tt)))
word_ends (word.Unit Month Singular) = (refl, (refl, (refl, tt)))
word_ends (word.Unit Quarter Plural) = (refl, (refl, (refl, tt)))
word_ends (word.Unit Quarter Singular) = (refl, (refl, (refl, tt)))
word_ends (word.Unit Year Plural) = (refl, (refl, (refl, tt)))
word_ends (word.Unit Year Singular) = (refl, (refl, (refl, tt)))

clear : (t : DateToken) (tokens : List DateToken) → is_apart_from t tokens ≡ true → IsLiteralOf date_literal t → AllByRecursion (IsLiteralOf date_literal) tokens → IsClearToken (32 ∷ []) letters_of date_literal is_of_date begins_no_digit table t tokens
clear (Literal n) [] ok one all = record { is_one = one; is_next = refl; ended = (refl, (refl, tt)) }
clear (Literal n) (Word w ∷ tokens) ok one all = record { is_one = one; is_next = word_is_word w; ended = word_ends w }
clear (Literal n) (Literal m ∷ tokens) ok one all = absurd (false≢true ok)
clear (Word word.To) [] ok one all = absurd (false≢true ok)
clear (Word word.To) (Word w ∷ tokens) ok one all = absurd (false≢true ok)
clear (Word word.To) (Literal n ∷ tokens) ok one all = to_clear n tokens all
clear (Word (word.Unit period Singular)) tokens ok one all = unit_clear period tokens ok all
clear (Word (word.Unit period Plural)) tokens ok one all = word_clear (word.Unit period Plural) tt tokens all
clear (Word word.Before) tokens ok one all = word_clear word.Before tt tokens all
clear (Word word.After) tokens ok one all = word_clear word.After tt tokens all
clear (Word word.Today) tokens ok one all = word_clear word.Today tt tokens all
clear (Word word.Yesterday) tokens ok one all = word_clear word.Yesterday tt tokens all
clear (Word word.This) tokens ok one all = word_clear word.This tt tokens all
clear (Word word.Last) tokens ok one all = word_clear word.Last tt tokens all
clear (Word word.Ago) tokens ok one all = word_clear word.Ago tt tokens all
clear (Word word.Null) tokens ok one all = word_clear word.Null tt tokens all
clear (Word word.Not) tokens ok one all = word_clear word.Not tt tokens all
clear (Word word.Comma) tokens ok one all = word_clear word.Comma tt tokens all

all_clear : (tokens : List DateToken) → are_apart tokens ≡ true → AllByRecursion (IsLiteralOf date_literal) tokens → AreClear (IsClearToken (32 ∷ []) letters_of date_literal is_of_date begins_no_digit table) tokens
all_clear [] ok all = tt
all_clear (t ∷ tokens) ok all =
    let p = both (is_apart_from t tokens) (are_apart tokens) ok in
    (clear t tokens p.0 all.0 all.1, all_clear tokens p.1 all.1)

items_clear : (items : List DateItem) → AllByRecursion (IsLiteralOf date_literal) (date_tokens items) → AreClear (IsClearToken (32 ∷ []) letters_of date_literal is_of_date begins_no_digit table) (date_tokens items)
items_clear items all = all_clear (date_tokens items) (apart_items items) all

-- ---- reading a text

abbrev IsSpelled : List ℕ → List DateToken → Type 0
IsSpelled text tokens = IsText (tokens_form (32 ∷ []) (token_form letters_of) tokens) text × AllByRecursion (IsLiteralOf date_literal) tokens

given : (text : List ℕ) (f : Filter) → ((items : List DateItem) × IsSpelled text (date_tokens items) × (date_filter items ≡ Some f)) → IsDateFilter f text
given text f h = (h.0, record { spelled = h.1.0; literals = h.1.1 }, h.2)

pub dates_are_spelled : (tokens : List DateToken) (text : List ℕ) → IsText (tokens_form (32 ∷ []) (token_form letters_of) tokens) text → AllByRecursion (IsLiteralOf date_literal) tokens → (found : Option Filter) → found ≡ option_and_then date_filter (items_of tokens) → IfSome found (λ f. IsDateFilter f text)
dates_are_spelled tokens text spelled literals None e = tt
dates_are_spelled tokens text spelled literals (Some f) e =
    given text f (read_is_spelled date_tokens items_of items_again items_before date_filter (IsSpelled text) tokens (spelled, literals) (Some f) e)

pub dates_are_read : (tokens : List DateToken) (text : List ℕ) → ((others : List DateToken) → AreClear (IsClearToken (32 ∷ []) letters_of date_literal is_of_date begins_no_digit table) others → IsText (tokens_form (32 ∷ []) (token_form letters_of) others) text → Some tokens ≡ Some others) → (found : Option Filter) → found ≡ option_and_then date_filter (items_of tokens) → (f : Filter) → IsDateFilter f text → found ≡ Some f
dates_are_read tokens text every found e f h =
    let alike : tokens ≡ date_tokens h.0 = some_is tokens (date_tokens h.0) (every (date_tokens h.0) (items_clear h.0 h.1.literals) h.1.spelled) in
    e ∙ ap (λ z. option_and_then date_filter (items_of z)) alike ∙ ap (option_and_then date_filter) (items_again h.0) ∙ h.2

pub no_dates : (text : List ℕ) → ((others : List DateToken) → AreClear (IsClearToken (32 ∷ []) letters_of date_literal is_of_date begins_no_digit table) others → IsText (tokens_form (32 ∷ []) (token_form letters_of) others) text → None ≡ Some others) → (f : Filter) → IsDateFilter f text → None ≡ Some f
no_dates text every f h = absurd (none_some (every (date_tokens h.0) (items_clear h.0 h.1.literals) h.1.spelled))

-- ---- a text spells one filter

taken_off : (text : List ℕ) (tokens : List DateToken) → AreClear (IsClearToken (32 ∷ []) letters_of date_literal is_of_date begins_no_digit table) tokens → IsText (tokens_form (32 ∷ []) (token_form letters_of) tokens) text → tokens_of (32 ∷ []) (first_of letters_of date_length table) text ≡ Some tokens
taken_off text tokens clear spelled = tokens_spelled (tokens_lex (32 ∷ []) letters_of date_reader table) tokens text text clear spelled (omega arith)

pub one_date_filter : (text : List ℕ) (f g : Filter) → IsDateFilter f text → IsDateFilter g text → f ≡ g
one_date_filter text f g h k =
    let off = taken_off text (date_tokens h.0) (items_clear h.0 h.1.literals) h.1.spelled in
    some_is f g (dates_are_read (date_tokens h.0) text (λ others clear spelled. sym off ∙ taken_off text others clear spelled) (Some f) (sym (ap (option_and_then date_filter) (items_again h.0) ∙ h.2)) g k)
