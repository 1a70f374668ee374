-- Filters of numbers: each token of items stands clear of those behind it.
use Rattle.std.proofs.Common.{◌≡◌, inl, inr, ℕ, ◌≤◌, Bool, true, false, ◌&&◌, nat_eq, nat_le, List, [], ◌∷◌, ◌++◌, Option, Some, None, IfSome, refl, sym, ap, subst, ◌∙◌, arith}
use Rattle.std.specs.List.{AllByRecursion}
use Rattle.std.specs.Option.{option_and_then}
use Rattle.std.proofs.lemmas.Bool.{false≢true, leb-true}
use Rattle.std.proofs.lemmas.Bool.Decides.{Decides-eqb}
use Rattle.lk_grammar.specs.Forms.{IsText}
use Rattle.lk_grammar.specs.Words.{is_word, is_small, IsFirst, letter_starts, each_alone}
use Rattle.lk_grammar.specs.Tokens.{tokens_form, tokens_of, AreClear}
use Rattle.lk_grammar.specs.Literals.{token_form, first_of, is_ended, next_starts, is_next_token, IsClearToken, IsLiteralOf}
use Rattle.lk_grammar.specs.Numbers.{number, number_length, is_of_number, begins_no_number}
use Rattle.lk_grammar.specs.declared.literals.Token.TheVariants.{Word, Literal}
use Rattle.lk_grammar.proofs.WordLaws.{text_one, no_small}
use Rattle.lk_grammar.proofs.FormLaws.{both, no_cons}
use Rattle.lk_grammar.proofs.LiteralLaws.{tokens_lex}
use Rattle.lk_grammar.proofs.TokenLaws.{tokens_spelled}
use Rattle.lk_grammar.proofs.NumberLaws.{number_reader}
use Rattle.lk_types.specs.declared.filter.Filter.{Filter}
use Rattle.lk_grammar.specs.Listed.{further_tokens}
use Rattle.lk_filter_number.specs.Numbers.{letters_of, NumberToken, order_word, open_word, close_word, end_token, and_tokens, range_tokens, item_tokens, between_word, more_tokens, number_tokens, number_filter, IsNumberFilter}
use Rattle.lk_filter_number.specs.NumberReading.{items_of}
use Rattle.lk_filter_number.specs.declared.number.words.NumberWord.{NumberWord}
use Rattle.lk_filter_number.specs.declared.number.words.NumberWord.TheVariants as word
use Rattle.lk_filter_number.specs.declared.number.items.WrittenEnd.{WrittenEnd}
use Rattle.lk_filter_number.specs.declared.number.items.WrittenEnd.TheVariants as end
use Rattle.lk_filter_number.specs.declared.number.items.Compared.{Compared}
use Rattle.lk_filter_number.specs.declared.number.items.Order.{Order}
use Rattle.lk_filter_number.specs.declared.number.items.Order.TheVariants as order
use Rattle.lk_filter_number.specs.declared.number.items.Bracket.{Bracket}
use Rattle.lk_filter_number.specs.declared.number.items.Bracket.TheVariants.{Square, Round}
use Rattle.lk_filter_number.specs.declared.number.items.UnlikeSign.TheVariants.{Angles, Exclamation}
use Rattle.lk_filter_number.specs.declared.number.items.Separator.{Separator}
use Rattle.lk_filter_number.specs.declared.number.items.Separator.TheVariants as separator
use Rattle.lk_filter_number.specs.declared.number.items.NumberRange.{NumberRange}
use Rattle.lk_filter_number.specs.declared.number.items.NumberRange.TheVariants.{Is, From, UpTo, Between, Compare, Interval}
use Rattle.lk_filter_number.specs.declared.number.items.NumberItem.{NumberItem}
use Rattle.lk_filter_number.specs.declared.number.items.NumberItem.TheVariants.{Range, Null, Unlike}
use Rattle.lk_filter_number.specs.declared.number.items.FurtherItem.{FurtherItem}
use Rattle.lk_filter_number.specs.declared.number.items.NumberItems.{NumberItems}
use Rattle.lk_filter_number.proofs.NumberReadingLaws.{Ends, further_ends, items_again, items_before}
use Rattle.lk_grammar.proofs.ReadingLaws.{of_each, none_some, some_is, read_is_spelled}

abbrev pub table : List NumberWord
table = word.AtMost ∷ word.AtLeast ∷ word.Unlike ∷ word.Unequal ∷ word.Less ∷ word.Greater ∷ word.Comma ∷ word.Or ∷ word.And ∷ word.Not ∷ word.Null ∷ word.To ∷ word.OpenSquare ∷ word.OpenRound ∷ word.CloseSquare ∷ word.CloseRound ∷ word.Inf ∷ word.MinusInf ∷ []

-- ---- which tokens stand beside one another

-- no number is behind a number, and nothing else is behind `<` and `>`
abbrev is_apart_from : NumberToken → List NumberToken → Bool
is_apart_from (Literal m) (Literal n ∷ tokens) = false
is_apart_from (Literal m) [] = true
is_apart_from (Literal m) (Word w ∷ tokens) = true
is_apart_from (Word word.Less) (Literal n ∷ tokens) = true
is_apart_from (Word word.Less) tokens = false
is_apart_from (Word word.Greater) (Literal n ∷ tokens) = true
is_apart_from (Word word.Greater) tokens = false
is_apart_from (Word w) tokens = true

abbrev are_apart : List NumberToken → Bool
are_apart [] = true
are_apart (t ∷ tokens) = is_apart_from t tokens && are_apart tokens

behind_number : (n : List ℕ) (rest : List NumberToken) → Ends rest → is_apart_from (Literal n) rest ≡ true
behind_number n [] h = refl
behind_number n (Word w ∷ rest) h = refl
behind_number n (Literal m ∷ rest) h = absurd h

behind_ands : (n : List ℕ) (more : List Compared) (rest : List NumberToken) → Ends rest → is_apart_from (Literal n) (and_tokens more ++ rest) ≡ true
behind_ands n [] rest h = behind_number n rest h
behind_ands n (c ∷ more) rest h = refl

ordered : (o : Order) (n : List ℕ) (tokens : List NumberToken) → is_apart_from (Literal n) tokens ≡ true → are_apart tokens ≡ true → are_apart (Word (order_word o) ∷ Literal n ∷ tokens) ≡ true
ordered order.Less n tokens p q = rw (p, q) refl
ordered order.AtMost n tokens p q = rw (p, q) refl
ordered order.Greater n tokens p q = rw (p, q) refl
ordered order.AtLeast n tokens p q = rw (p, q) refl

apart_ands : (more : List Compared) (rest : List NumberToken) → Ends rest → are_apart rest ≡ true → are_apart (and_tokens more ++ rest) ≡ true
apart_ands [] rest h ok = ok
apart_ands (c ∷ more) rest h ok = ordered c.comparison c.number (and_tokens more ++ rest) (behind_ands c.number more rest h) (apart_ands more rest h ok)

apart_end : (e : WrittenEnd) (w : NumberWord) (tokens : List NumberToken) → are_apart (Word w ∷ tokens) ≡ true → are_apart (end_token e ∷ Word w ∷ tokens) ≡ true
apart_end (end.Number n) w tokens ok = rw ok refl
apart_end end.Inf w tokens ok = rw ok refl
apart_end end.MinusInf w tokens ok = rw ok refl

apart_range : (r : NumberRange) (rest : List NumberToken) → Ends rest → are_apart rest ≡ true → are_apart (range_tokens r ++ rest) ≡ true
apart_range (Is n) rest h ok = rw (behind_number n rest h, ok) refl
apart_range (From n) rest h ok = rw ok refl
apart_range (UpTo n) rest h ok = rw (behind_number n rest h, ok) refl
apart_range (Between m n) rest h ok = rw (behind_number n rest h, ok) refl
apart_range (Compare c more) rest h ok = ordered c.comparison c.number (and_tokens more ++ rest) (behind_ands c.number more rest h) (apart_ands more rest h ok)
apart_range (Interval bracket low high close) rest h ok = opened bracket _ (apart_end low word.Comma (end_token high ∷ Word (close_word close) ∷ rest) (apart_end high (close_word close) rest (closed close)))
  where
    closed : (b : Bracket) → are_apart (Word (close_word b) ∷ rest) ≡ true
    closed Square = ok
    closed Round = ok

    opened : (b : Bracket) (tokens : List NumberToken) → are_apart tokens ≡ true → are_apart (Word (open_word b) ∷ tokens) ≡ true
    opened Square tokens p = p
    opened Round tokens p = p

apart_item : (x : NumberItem) (rest : List NumberToken) → Ends rest → are_apart rest ≡ true → are_apart (item_tokens x ++ rest) ≡ true
apart_item (Range true r) rest h ok = apart_range r rest h ok
apart_item (Range false r) rest h ok = apart_range r rest h ok
apart_item (Null true) rest h ok = ok
apart_item (Null false) rest h ok = ok
apart_item (Unlike Exclamation n) rest h ok = rw (behind_number n rest h, ok) refl
apart_item (Unlike Angles n) rest h ok = rw (behind_number n rest h, ok) refl

apart_further : (more : List FurtherItem) → are_apart (further_tokens more_tokens more) ≡ true
apart_further [] = refl
apart_further (x ∷ more) = between x.separator _ (apart_item x.item (further_tokens more_tokens more) (further_ends more) (apart_further more))
  where
    between : (b : Separator) (tokens : List NumberToken) → are_apart tokens ≡ true → are_apart (Word (between_word b) ∷ tokens) ≡ true
    between separator.Or tokens p = p
    between separator.Comma tokens p = p

apart_items : (items : Option NumberItems) → are_apart (number_tokens items) ≡ true
apart_items None = refl
apart_items (Some items) = apart_item items.first (further_tokens more_tokens items.more) (further_ends items.more) (apart_further items.more)

-- ---- a token is read as itself

-- a number begins with a digit or a `-`
record IsNumberHead (text : List ℕ) : Type 0 where
  head : ℕ
  tail : List ℕ
  is : text ≡ head ∷ tail
  low : 45 ≤ head
  high : head ≤ 57

number_head : (text : List ℕ) → IsText number text → IsNumberHead text
number_head text h =
    elim h.first [
      | inl sign ↦ record { head = 45; tail = h.back; is = h.joined ∙ ap (λ z. z ++ h.back) (text_one 45 h.front sign); low = omega arith; high = omega arith }
      | inr none ↦
          let d = h.second.first in
          let b = d.first in
          let from : 48 ≤ b.value = b.from in
          let is : text ≡ b.value ∷ (d.back ++ h.second.back) =
          h.joined ∙ ap (λ z. z ++ h.back) none ∙ h.second.joined ∙ ap (λ z. z ++ h.second.back) (d.joined ∙ ap (λ z. z ++ d.back) b.alone) in
          record { head = b.value; tail = d.back ++ h.second.back; is = is; low = omega arith; high = b.upto }
    ]

is_not : (a b : ℕ) → (a ≡ b → ⊥) → nat_eq a b ≡ false
is_not a b f =
    elim (nat_eq a b) as (λ e. nat_eq a b ≡ e → e ≡ false) [
      | true ↦ λ e. absurd (f ((Decides-eqb a b).0 e))
      | false ↦ λ _. refl
    ] refl

head_is_word : (b : ℕ) → 45 ≤ b → b ≤ 57 → is_word (32 ∷ []) (b ∷ []) ≡ true
head_is_word b low high = rw (is_not b 32 (λ e. let is : b ≡ 32 = e in omega arith), no_small b high) refl

word_is_word : (w : NumberWord) → is_word (32 ∷ []) (letters_of w) ≡ true
word_is_word word.AtMost = refl
word_is_word word.AtLeast = refl
word_is_word word.Unlike = refl
word_is_word word.Unequal = refl
word_is_word word.Less = refl
word_is_word word.Greater = refl
word_is_word word.Comma = refl
word_is_word word.Or = refl
word_is_word word.And = refl
word_is_word word.Not = refl
word_is_word word.Null = refl
word_is_word word.To = refl
word_is_word word.OpenSquare = refl
word_is_word word.OpenRound = refl
word_is_word word.CloseSquare = refl
word_is_word word.CloseRound = refl
word_is_word word.Inf = refl
word_is_word word.MinusInf = refl

no_number_begins : (w : NumberWord) → begins_no_number (letters_of w) ≡ true
no_number_begins word.AtMost = refl
no_number_begins word.AtLeast = refl
no_number_begins word.Unlike = refl
no_number_begins word.Unequal = refl
no_number_begins word.Less = refl
no_number_begins word.Greater = refl
no_number_begins word.Comma = refl
no_number_begins word.Or = refl
no_number_begins word.And = refl
no_number_begins word.Not = refl
no_number_begins word.Null = refl
no_number_begins word.To = refl
no_number_begins word.OpenSquare = refl
no_number_begins word.OpenRound = refl
no_number_begins word.CloseSquare = refl
no_number_begins word.CloseRound = refl
no_number_begins word.Inf = refl
no_number_begins word.MinusInf = refl

next_is : (tokens : List NumberToken) → AllByRecursion (IsLiteralOf number) tokens → is_next_token (32 ∷ []) letters_of tokens ≡ true
next_is [] all = refl
next_is (Word w ∷ tokens) all = word_is_word w
next_is (Literal [] ∷ tokens) all = let h = number_head [] all.0 in absurd (no_cons h.is)
next_is (Literal (b ∷ text) ∷ tokens) all =
    let h = number_head (b ∷ text) all.0 in
    let same : b ≡ h.head = cc in
    subst (λ z. is_word (32 ∷ []) (z ∷ []) ≡ true) (sym same) (head_is_word h.head h.low h.high)

-- the words that are first whatever comes behind them
abbrev IsPlainWord : NumberWord → Type 0
IsPlainWord word.Less = ⊥
IsPlainWord word.Greater = ⊥
IsPlainWord w = Unit {0}

first : (w : NumberWord) → IsPlainWord w → (rest : List ℕ) → IsFirst letters_of table w rest
first word.AtMost h rest = inl refl
first word.AtLeast h rest = inr (refl, inl refl)
first word.Unlike h rest = inr (refl, inr (refl, inl refl))
first word.Unequal h rest = inr (refl, inr (refl, inr (refl, inl refl)))
first word.Less h rest = absurd h
first word.Greater h rest = absurd h
first word.Comma h rest = inr (refl, inr (refl, inr (refl, inr (refl, inr (refl, inr (refl, inl refl))))))
first word.Or h rest = inr (refl, inr (refl, inr (refl, inr (refl, inr (refl, inr (refl, inr (refl, inl refl)))))))
first word.And h rest = inr (refl, inr (refl, inr (refl, inr (refl, inr (refl, inr (refl, inr (refl, inr (refl, inl refl))))))))
first word.Not h rest = inr (refl, inr (refl, inr (refl, inr (refl, inr (refl, inr (refl, inr (refl, inr (refl, inr (refl, inl refl)))))))))
first word.Null h rest = inr (refl, inr (refl, inr (refl, inr (refl, inr (refl, inr (refl, inr (refl, inr (refl, inr (refl, inr (refl, inl refl))))))))))
first word.To h rest = inr (refl, inr (refl, inr (refl, inr (refl, inr (refl, inr (refl, inr (refl, inr (refl, inr (refl, inr (refl, inr (refl, inl refl)))))))))))
first word.OpenSquare h rest = inr (refl, inr (refl, inr (refl, inr (refl, inr (refl, inr (refl, inr (refl, inr (refl, inr (refl, inr (refl, inr (refl, inr (refl, inl refl))))))))))))
first word.OpenRound h rest = inr (refl, inr (refl, inr (refl, inr (refl, inr (refl, inr (refl, inr (refl, inr (refl, inr (refl, inr (refl, inr (refl, inr (refl, inr (refl, inl refl)))))))))))))
first word.CloseSquare h rest = inr (refl, inr (refl, inr (refl, inr (refl, inr (refl, inr (refl, inr (refl, inr (refl, inr (refl, inr (refl, inr (refl, inr (refl, inr (refl, inr (refl, inl refl))))))))))))))
first word.CloseRound h rest = inr (refl, inr (refl, inr (refl, inr (refl, inr (refl, inr (refl, inr (refl, inr (refl, inr (refl, inr (refl, inr (refl, inr (refl, inr (refl, inr (refl, inr (refl, inl refl)))))))))))))))
first word.Inf h rest = inr (refl, inr (refl, inr (refl, inr (refl, inr (refl, inr (refl, inr (refl, inr (refl, inr (refl, inr (refl, inr (refl, inr (refl, inr (refl, inr (refl, inr (refl, inr (refl, inl refl))))))))))))))))
first word.MinusInf h rest = inr (refl, inr (refl, inr (refl, inr (refl, inr (refl, inr (refl, inr (refl, inr (refl, inr (refl, inr (refl, inr (refl, inr (refl, inr (refl, inr (refl, inr (refl, inr (refl, inr (refl, inl refl)))))))))))))))))

-- `<` before a byte that is no `=` and no `>`, and `>` before one that is no `=`
first_less : (b : ℕ) → nat_eq b 61 ≡ false → nat_eq b 62 ≡ false → IsFirst letters_of table word.Less (b ∷ [])
first_less b p q = inr (rw p refl, inr (refl, inr (rw q refl, inr (refl, inl refl))))

first_greater : (b : ℕ) → nat_eq b 61 ≡ false → IsFirst letters_of table word.Greater (b ∷ [])
first_greater b p = inr (refl, inr (rw p refl, inr (refl, inr (refl, inr (refl, inl refl)))))

word_clear : (w : NumberWord) → IsPlainWord w → (tokens : List NumberToken) → AllByRecursion (IsLiteralOf number) tokens → IsClearToken (32 ∷ []) letters_of number is_of_number begins_no_number table (Word w) tokens
word_clear w h tokens all = record { is_one = word_is_word w; is_next = next_is tokens all; no_literal = no_number_begins w; first = of_each (next_starts (32 ∷ []) letters_of tokens) (first w h) }

less_clear : (n : List ℕ) (tokens : List NumberToken) → AllByRecursion (IsLiteralOf number) (Literal n ∷ tokens) → IsClearToken (32 ∷ []) letters_of number is_of_number begins_no_number table (Word word.Less) (Literal n ∷ tokens)
less_clear [] tokens all = let h = number_head [] all.0 in absurd (no_cons h.is)
less_clear (b ∷ text) tokens all =
    let h = number_head (b ∷ text) all.0 in
    let same : b ≡ h.head = cc in
    let low : 45 ≤ h.head = h.low in
    let high : h.head ≤ 57 = h.high in
    record {
      is_one = refl;
      is_next = next_is (Literal (b ∷ text) ∷ tokens) all;
      no_literal = refl;
      first = (first_less b (is_not b 61 (λ e. let is : b ≡ 61 = e in omega arith)) (is_not b 62 (λ e. let is : b ≡ 62 = e in omega arith)), (first_less 32 refl refl, tt));
    }

greater_clear : (n : List ℕ) (tokens : List NumberToken) → AllByRecursion (IsLiteralOf number) (Literal n ∷ tokens) → IsClearToken (32 ∷ []) letters_of number is_of_number begins_no_number table (Word word.Greater) (Literal n ∷ tokens)
greater_clear [] tokens all = let h = number_head [] all.0 in absurd (no_cons h.is)
greater_clear (b ∷ text) tokens all =
    let h = number_head (b ∷ text) all.0 in
    let same : b ≡ h.head = cc in
    let low : 45 ≤ h.head = h.low in
    let high : h.head ≤ 57 = h.high in
    record {
      is_one = refl;
      is_next = next_is (Literal (b ∷ text) ∷ tokens) all;
      no_literal = refl;
      first = (first_greater b (is_not b 61 (λ e. let is : b ≡ 61 = e in omega arith)), (first_greater 32 refl, tt));
    }

word_ends : (w : NumberWord) → AllByRecursion (λ start. is_ended is_of_number start ≡ true) (letter_starts (letters_of w) ++ each_alone (32 ∷ []))
word_ends word.AtMost = (refl, (refl, tt))
word_ends word.AtLeast = (refl, (refl, tt))
word_ends word.Unlike = (refl, (refl, tt))
word_ends word.Unequal = (refl, (refl, tt))
word_ends word.Less = (refl, (refl, tt))
word_ends word.Greater = (refl, (refl, tt))
word_ends word.Comma = (refl, (refl, tt))
word_ends word.Or = (refl, (refl, (refl, tt)))
word_ends word.And = (refl, (refl, (refl, tt)))
word_ends word.Not = (refl, (refl, (refl, tt)))
word_ends word.Null = (refl, (refl, (refl, tt)))
word_ends word.To = (refl, (refl, (refl, tt)))
word_ends word.OpenSquare = (refl, (refl, tt))
word_ends word.OpenRound = (refl, (refl, tt))
word_ends word.CloseSquare = (refl, (refl, tt))
word_ends word.CloseRound = (refl, (refl, tt))
word_ends word.Inf = (refl, (refl, (refl, tt)))
word_ends word.MinusInf = (refl, (refl, tt))

clear : (t : NumberToken) (tokens : List NumberToken) → is_apart_from t tokens ≡ true → IsLiteralOf number t → AllByRecursion (IsLiteralOf number) tokens → IsClearToken (32 ∷ []) letters_of number is_of_number begins_no_number table t tokens
clear (Literal n) [] ok one all = record { is_one = one; is_next = refl; ended = (refl, (refl, tt)) }
clear (Literal n) (Word w ∷ tokens) ok one all = record { is_one = one; is_next = word_is_word w; ended = word_ends w }
clear (Literal n) (Literal m ∷ tokens) ok one all = absurd (false≢true ok)
clear (Word word.Less) [] ok one all = absurd (false≢true ok)
clear (Word word.Less) (Word w ∷ tokens) ok one all = absurd (false≢true ok)
clear (Word word.Less) (Literal n ∷ tokens) ok one all = less_clear n tokens all
clear (Word word.Greater) [] ok one all = absurd (false≢true ok)
clear (Word word.Greater) (Word w ∷ tokens) ok one all = absurd (false≢true ok)
clear (Word word.Greater) (Literal n ∷ tokens) ok one all = greater_clear n tokens all
clear (Word word.AtMost) tokens ok one all = word_clear word.AtMost tt tokens all
clear (Word word.AtLeast) tokens ok one all = word_clear word.AtLeast tt tokens all
clear (Word word.Unlike) tokens ok one all = word_clear word.Unlike tt tokens all
clear (Word word.Unequal) tokens ok one all = word_clear word.Unequal tt tokens all
clear (Word word.Comma) tokens ok one all = word_clear word.Comma tt tokens all
clear (Word word.Or) tokens ok one all = word_clear word.Or tt tokens all
clear (Word word.And) tokens ok one all = word_clear word.And tt tokens all
clear (Word word.Not) tokens ok one all = word_clear word.Not tt tokens all
clear (Word word.Null) tokens ok one all = word_clear word.Null tt tokens all
clear (Word word.To) tokens ok one all = word_clear word.To tt tokens all
clear (Word word.OpenSquare) tokens ok one all = word_clear word.OpenSquare tt tokens all
clear (Word word.OpenRound) tokens ok one all = word_clear word.OpenRound tt tokens all
clear (Word word.CloseSquare) tokens ok one all = word_clear word.CloseSquare tt tokens all
clear (Word word.CloseRound) tokens ok one all = word_clear word.CloseRound tt tokens all
clear (Word word.Inf) tokens ok one all = word_clear word.Inf tt tokens all
clear (Word word.MinusInf) tokens ok one all = word_clear word.MinusInf tt tokens all

all_clear : (tokens : List NumberToken) → are_apart tokens ≡ true → AllByRecursion (IsLiteralOf number) tokens → AreClear (IsClearToken (32 ∷ []) letters_of number is_of_number begins_no_number table) tokens
all_clear [] ok all = tt
all_clear (t ∷ tokens) ok all =
    let p = both (is_apart_from t tokens) (are_apart tokens) ok in
    (clear t tokens p.0 all.0 all.1, all_clear tokens p.1 all.1)

pub items_clear : (items : Option NumberItems) → AllByRecursion (IsLiteralOf number) (number_tokens items) → AreClear (IsClearToken (32 ∷ []) letters_of number is_of_number begins_no_number table) (number_tokens items)
items_clear items all = all_clear (number_tokens items) (apart_items items) all

-- ---- reading a text

abbrev IsSpelled : List ℕ → List NumberToken → Type 0
IsSpelled text tokens = IsText (tokens_form (32 ∷ []) (token_form letters_of) tokens) text × AllByRecursion (IsLiteralOf number) tokens

gives : (text : List ℕ) (f : Filter) → IsNumberFilter f text → (items : Option NumberItems) × IsSpelled text (number_tokens items) × (number_filter items ≡ Some f)
gives text f h = (h.0, (h.1.spelled, h.1.numbers), h.2)

given : (text : List ℕ) (f : Filter) → ((items : Option NumberItems) × IsSpelled text (number_tokens items) × (number_filter items ≡ Some f)) → IsNumberFilter f text
given text f h = (h.0, record { spelled = h.1.0; numbers = h.1.1 }, h.2)

pub numbers_are_spelled : (tokens : List NumberToken) (text : List ℕ) → IsText (tokens_form (32 ∷ []) (token_form letters_of) tokens) text → AllByRecursion (IsLiteralOf number) tokens → (found : Option Filter) → found ≡ option_and_then number_filter (items_of tokens) → IfSome found (λ f. IsNumberFilter f text)
numbers_are_spelled tokens text spelled literals None e = tt
numbers_are_spelled tokens text spelled literals (Some f) e =
    given text f (read_is_spelled number_tokens items_of items_again items_before number_filter (IsSpelled text) tokens (spelled, literals) (Some f) e)

pub numbers_are_read : (tokens : List NumberToken) (text : List ℕ) → ((others : List NumberToken) → AreClear (IsClearToken (32 ∷ []) letters_of number is_of_number begins_no_number table) others → IsText (tokens_form (32 ∷ []) (token_form letters_of) others) text → Some tokens ≡ Some others) → (found : Option Filter) → found ≡ option_and_then number_filter (items_of tokens) → (f : Filter) → IsNumberFilter f text → found ≡ Some f
numbers_are_read tokens text every found e f h =
    let same : tokens ≡ number_tokens h.0 = some_is tokens (number_tokens h.0) (every (number_tokens h.0) (items_clear h.0 h.1.numbers) h.1.spelled) in
    e ∙ ap (λ z. option_and_then number_filter (items_of z)) same ∙ ap (option_and_then number_filter) (items_again h.0) ∙ h.2

pub no_numbers : (text : List ℕ) → ((others : List NumberToken) → AreClear (IsClearToken (32 ∷ []) letters_of number is_of_number begins_no_number table) others → IsText (tokens_form (32 ∷ []) (token_form letters_of) others) text → None ≡ Some others) → (f : Filter) → IsNumberFilter f text → None ≡ Some f
no_numbers text every f h = absurd (none_some (every (number_tokens h.0) (items_clear h.0 h.1.numbers) h.1.spelled))

-- ---- a text spells one filter

taken_off : (text : List ℕ) (tokens : List NumberToken) → AreClear (IsClearToken (32 ∷ []) letters_of number is_of_number begins_no_number table) tokens → IsText (tokens_form (32 ∷ []) (token_form letters_of) tokens) text → tokens_of (32 ∷ []) (first_of letters_of number_length table) text ≡ Some tokens
taken_off text tokens clear spelled = tokens_spelled (tokens_lex (32 ∷ []) letters_of (number_reader (32 ∷ []) refl) table) tokens text text clear spelled (omega arith)

pub one_number_filter : (text : List ℕ) (f g : Filter) → IsNumberFilter f text → IsNumberFilter g text → f ≡ g
one_number_filter text f g h k =
    let off = taken_off text (number_tokens h.0) (items_clear h.0 h.1.numbers) h.1.spelled in
    some_is f g (numbers_are_read (number_tokens h.0) text (λ others clear spelled. sym off ∙ taken_off text others clear spelled) (Some f) (sym (ap (option_and_then number_filter) (items_again h.0) ∙ h.2)) g k)
