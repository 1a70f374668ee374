-- Filters of texts: each mark and each character stands clear of what is behind it.
use Rattle.std.proofs.Common.{◌≡◌, inl, inr, ℕ, true, false, not, ◌&&◌, List, [], ◌∷◌, Option, Some, None, IfSome, option_map, refl, sym, ap, subst, ◌∙◌, arith}
use Rattle.std.specs.List.{AllByRecursion}
use Rattle.lk_grammar.proofs.FormLaws.{no_cons}
use Rattle.lk_grammar.specs.Forms.{IsText}
use Rattle.lk_grammar.specs.Words.{is_word, is_small, IsFirst}
use Rattle.lk_grammar.specs.Tokens.{tokens_form, tokens_of, AreClear}
use Rattle.lk_grammar.specs.Literals.{token_form, first_of, is_ended, next_starts, is_next_token, IsClearToken, IsLiteralOf}
use Rattle.lk_grammar.specs.declared.literals.Token.TheVariants.{Word, Literal}
use Rattle.lk_grammar.proofs.LiteralLaws.{tokens_lex}
use Rattle.lk_grammar.proofs.TokenLaws.{tokens_spelled}
use Rattle.lk_types.specs.declared.filter.Filter.{Filter}
use Rattle.lk_filter_text.specs.Characters.{plain_form, character_length, goes_on, begins_mark}
use Rattle.lk_filter_text.specs.declared.words.TextWord.{TextWord}
use Rattle.lk_filter_text.specs.declared.words.TextWord.TheVariants as word
use Rattle.lk_filter_text.specs.Texts.{letters_of, TextToken, text_tokens, text_filter, IsTextFilter}
use Rattle.lk_filter_text.specs.TextReading.{read_all}
use Rattle.lk_filter_text.proofs.CharacterLaws.{character_reader}
use Rattle.lk_filter_text.proofs.TextReadingLaws.{all_read, all_found}
use Rattle.lk_grammar.proofs.ReadingLaws.{of_each, none_some, some_is, map_before}

abbrev pub table : List TextWord
table = word.Comma ∷ word.Any ∷ word.QuotedComma ∷ word.QuotedSpace ∷ word.QuotedAny ∷ word.QuotedOne ∷ word.QuotedQuote ∷ word.QuotedMinus ∷ word.QuotedCaret ∷ []

word_is_word : (w : TextWord) → is_word [] (letters_of w) ≡ true
word_is_word word.Comma = refl
word_is_word word.Any = refl
word_is_word word.QuotedComma = refl
word_is_word word.QuotedSpace = refl
word_is_word word.QuotedAny = refl
word_is_word word.QuotedOne = refl
word_is_word word.QuotedQuote = refl
word_is_word word.QuotedMinus = refl
word_is_word word.QuotedCaret = refl

no_character_begins : (w : TextWord) → begins_mark (letters_of w) ≡ true
no_character_begins word.Comma = refl
no_character_begins word.Any = refl
no_character_begins word.QuotedComma = refl
no_character_begins word.QuotedSpace = refl
no_character_begins word.QuotedAny = refl
no_character_begins word.QuotedOne = refl
no_character_begins word.QuotedQuote = refl
no_character_begins word.QuotedMinus = refl
no_character_begins word.QuotedCaret = refl

first : (w : TextWord) (rest : List ℕ) → IsFirst letters_of table w rest
first word.Comma rest = inl refl
first word.Any rest = inr (refl, inl refl)
first word.QuotedComma rest = inr (refl, inr (refl, inl refl))
first word.QuotedSpace rest = inr (refl, inr (refl, inr (refl, inl refl)))
first word.QuotedAny rest = inr (refl, inr (refl, inr (refl, inr (refl, inl refl))))
first word.QuotedOne rest = inr (refl, inr (refl, inr (refl, inr (refl, inr (refl, inl refl)))))
first word.QuotedQuote rest = inr (refl, inr (refl, inr (refl, inr (refl, inr (refl, inr (refl, inl refl))))))
first word.QuotedMinus rest = inr (refl, inr (refl, inr (refl, inr (refl, inr (refl, inr (refl, inr (refl, inl refl)))))))
first word.QuotedCaret rest = inr (refl, inr (refl, inr (refl, inr (refl, inr (refl, inr (refl, inr (refl, inr (refl, inl refl))))))))

has_byte : (b : ℕ) → is_word [] (b ∷ []) ≡ true
has_byte b = elim (is_small b) as (λ s. (true && not (s && false)) ≡ true) [ true ↦ refl | false ↦ refl ]

ended_at : (start : List ℕ) → is_ended goes_on start ≡ true
ended_at [] = refl
ended_at (b ∷ text) = refl

-- a character has bytes
next_is : (tokens : List TextToken) → AllByRecursion (IsLiteralOf plain_form) tokens → is_next_token [] letters_of tokens ≡ true
next_is [] all = refl
next_is (Word w ∷ tokens) all = word_is_word w
next_is (Literal [] ∷ tokens) all = let b = character_reader.begun [] all.0 in absurd (no_cons b.is)
next_is (Literal (b ∷ text) ∷ tokens) all = has_byte b

clear : (t : TextToken) (tokens : List TextToken) → IsLiteralOf plain_form t → AllByRecursion (IsLiteralOf plain_form) tokens → IsClearToken [] letters_of plain_form goes_on begins_mark table t tokens
clear (Word w) tokens one all = record { is_one = word_is_word w; is_next = next_is tokens all; no_literal = no_character_begins w; first = of_each (next_starts [] letters_of tokens) (first w) }
clear (Literal text) tokens one all = record { is_one = one; is_next = next_is tokens all; ended = of_each (next_starts [] letters_of tokens) ended_at }

all_clear : (tokens : List TextToken) → AllByRecursion (IsLiteralOf plain_form) tokens → AreClear (IsClearToken [] letters_of plain_form goes_on begins_mark table) tokens
all_clear [] all = tt
all_clear (t ∷ tokens) all = (clear t tokens all.0 all.1, all_clear tokens all.1)

-- ---- reading a text

pub texts_are_spelled : (tokens : List TextToken) (text : List ℕ) → IsText (tokens_form [] (token_form letters_of) tokens) text → AllByRecursion (IsLiteralOf plain_form) tokens → (found : Option Filter) → found ≡ option_map text_filter (read_all tokens) → IfSome found (λ f. IsTextFilter f text)
texts_are_spelled tokens text spelled characters None e = tt
texts_are_spelled tokens text spelled characters (Some f) e =
    map_before text_filter (read_all tokens) f (sym e) (λ parts read same.
    let h = all_found tokens parts read in
    (h.all, record { spelled = subst (λ z. IsText (tokens_form [] (token_form letters_of) z) text) h.spelled spelled; characters = subst (AllByRecursion (IsLiteralOf plain_form)) h.spelled characters; are_items = h.are }, ap text_filter h.same ∙ same))

pub texts_are_read : (tokens : List TextToken) (text : List ℕ) → ((others : List TextToken) → AreClear (IsClearToken [] letters_of plain_form goes_on begins_mark table) others → IsText (tokens_form [] (token_form letters_of) others) text → Some tokens ≡ Some others) → (found : Option Filter) → found ≡ option_map text_filter (read_all tokens) → (f : Filter) → IsTextFilter f text → found ≡ Some f
texts_are_read tokens text every found e f h =
    let same : tokens ≡ text_tokens h.0 = some_is tokens (text_tokens h.0) (every (text_tokens h.0) (all_clear (text_tokens h.0) h.1.characters) h.1.spelled) in
    e ∙ ap (λ z. option_map text_filter (read_all z)) same ∙ ap (option_map text_filter) (all_read h.0 h.1.are_items) ∙ ap Some h.2

pub no_texts : (text : List ℕ) → ((others : List TextToken) → AreClear (IsClearToken [] letters_of plain_form goes_on begins_mark table) others → IsText (tokens_form [] (token_form letters_of) others) text → None ≡ Some others) → (f : Filter) → IsTextFilter f text → None ≡ Some f
no_texts text every f h = absurd (none_some (every (text_tokens h.0) (all_clear (text_tokens h.0) h.1.characters) h.1.spelled))

-- ---- a text spells one filter

taken_off : (text : List ℕ) (tokens : List TextToken) → AreClear (IsClearToken [] letters_of plain_form goes_on begins_mark table) tokens → IsText (tokens_form [] (token_form letters_of) tokens) text → tokens_of [] (first_of letters_of character_length table) text ≡ Some tokens
taken_off text tokens clear spelled = tokens_spelled (tokens_lex [] letters_of character_reader table) tokens text text clear spelled (omega arith)

pub one_text_filter : (text : List ℕ) (f g : Filter) → IsTextFilter f text → IsTextFilter g text → f ≡ g
one_text_filter text f g h k =
    let off = taken_off text (text_tokens h.0) (all_clear (text_tokens h.0) h.1.characters) h.1.spelled in
    some_is f g (texts_are_read (text_tokens h.0) text (λ others clear spelled. sym off ∙ taken_off text others clear spelled) (Some f) (sym (ap (option_map text_filter) (all_read h.0 h.1.are_items) ∙ ap Some h.2)) g k)
