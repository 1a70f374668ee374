-- Filters of truth values: what is read is spelled, and what is spelled is read.
use Rattle.std.proofs.Common.{◌≡◌, inl, inr, ℕ, Bool, true, false, List, [], ◌∷◌, Option, Some, None, IfSome, option_map, refl, sym, subst, ap, ◌∙◌, arith}
use Rattle.std.specs.List.{AllByRecursion}
use Rattle.std.specs.Option.{option_and_then}
use Rattle.lk_grammar.specs.Forms.{IsText}
use Rattle.lk_grammar.specs.Places.{Judges}
use Rattle.lk_grammar.proofs.PlaceLaws.{same_judgement}
use Rattle.lk_grammar.specs.Words.{word_form, first_word, is_word, is_next_word, starts, IsFirst, IsClearWord}
use Rattle.lk_grammar.specs.Tokens.{tokens_form, tokens_of, AreClear}
use Rattle.lk_grammar.proofs.TokenLaws.{tokens_spelled}
use Rattle.lk_grammar.proofs.WordLaws.{table_lexes}
use Rattle.lk_types.specs.declared.filter.Filter.{Filter}
use Rattle.lk_filter_number.specs.Truths.{letters_of, word_of, more_words, truth_words, truth_filter, IsTruthFilter, IsTruth}
use Rattle.lk_filter_number.specs.TruthReading.{with_truth, truths_behind, truths_of, value_form, further_form, truth_form}
use Rattle.lk_grammar.specs.Listed.{run_form, further_tokens, listed}
use Rattle.lk_grammar.proofs.ListedLaws.{alone, only, listed_there, listed_back}
use Rattle.lk_grammar.proofs.ReadingLaws.{of_each, none_some, some_is, read_is_spelled, spelled_is_read}
use Rattle.lk_filter_number.specs.declared.truth.TruthWord.{TruthWord}
use Rattle.lk_filter_number.specs.declared.truth.TruthWord.TheVariants.{Yes, No, Comma}

-- ---- words and values

pub read_behind : (values : List Bool) → truths_behind (more_words values) ≡ Some values
read_behind [] = refl
read_behind (true ∷ values) = rw (read_behind values) refl
read_behind (false ∷ values) = rw (read_behind values) refl

pub read_again : (values : List Bool) → truths_of (truth_words values) ≡ Some values
read_again [] = refl
read_again (true ∷ values) = rw (read_behind values) refl
read_again (false ∷ values) = rw (read_behind values) refl

with_value : (b : Bool) (words : List TruthWord) (values : List Bool) → with_truth (Some b) (truths_behind words) ≡ Some values → ((more : List Bool) → truths_behind words ≡ Some more → words ≡ more_words more) → Comma ∷ word_of b ∷ words ≡ more_words values
with_value b words values e rest =
    elim (truths_behind words) as (λ o. truths_behind words ≡ o → option_map (λ more. b ∷ more) o ≡ Some values → Comma ∷ word_of b ∷ words ≡ more_words values) [
      | None ↦ λ _ e. absurd (none_some e)
      | Some more ↦ λ is e.
          let v : b ∷ more ≡ values = some_is (b ∷ more) values e in
          ap (λ z. Comma ∷ word_of b ∷ z) (rest more is) ∙ ap more_words v
    ] refl e

-- the words are those of the values that are read
behind : (words : List TruthWord) (values : List Bool) → truths_behind words ≡ Some values → words ≡ more_words values
behind [] [] e = refl
behind [] (b ∷ values) e = cc
behind (Yes ∷ words) values e = cc
behind (No ∷ words) values e = cc
behind (Comma ∷ []) values e = cc
behind (Comma ∷ Comma ∷ words) values e = cc
behind (Comma ∷ Yes ∷ words) values e = with_value true words values e (λ more. behind words more)
behind (Comma ∷ No ∷ words) values e = with_value false words values e (λ more. behind words more)

pub words_before : (words : List TruthWord) (values : List Bool) → truths_of words ≡ Some values → words ≡ truth_words values
words_before [] [] e = refl
words_before [] (b ∷ values) e = cc
words_before (word ∷ words) values e = without_comma values (behind (Comma ∷ word ∷ words) values e)
  where
    without_comma : (values : List Bool) → Comma ∷ word ∷ words ≡ more_words values → word ∷ words ≡ truth_words values
    without_comma [] e = cc
    without_comma (b ∷ values) e = cc

-- ---- every word is read as itself

next_words : (words : List TruthWord) → is_next_word (32 ∷ []) letters_of words ≡ true
next_words [] = refl
next_words (Yes ∷ words) = refl
next_words (No ∷ words) = refl
next_words (Comma ∷ words) = refl

abbrev table : List TruthWord
table = Yes ∷ No ∷ Comma ∷ []

first : (word : TruthWord) (rest : List ℕ) → IsFirst letters_of table word rest
first Yes rest = inl refl
first No rest = inr (refl, inl refl)
first Comma rest = inr (refl, inr (refl, inl refl))

is_one : (word : TruthWord) → is_word (32 ∷ []) (letters_of word) ≡ true
is_one Yes = refl
is_one No = refl
is_one Comma = refl

clear : (word : TruthWord) (words : List TruthWord) → IsClearWord (32 ∷ []) letters_of table word words
clear word words = record { is_one = is_one word; is_next = next_words words; first = of_each (starts (32 ∷ []) letters_of words) (first word) }

pub are_clear : (words : List TruthWord) → AreClear (IsClearWord (32 ∷ []) letters_of table) words
are_clear [] = tt
are_clear (word ∷ words) = (clear word words, are_clear words)

filters_of : (found : Option (List Bool)) → option_map truth_filter found ≡ option_and_then (λ values. Some (truth_filter values)) found
filters_of None = refl
filters_of (Some values) = refl

abbrev IsSpelled : List ℕ → List TruthWord → Type 0
IsSpelled text words = IsText (tokens_form (32 ∷ []) (word_form letters_of) words) text

pub truths_are_spelled : (words : List TruthWord) (text : List ℕ) → IsSpelled text words → (found : Option Filter) → found ≡ option_map truth_filter (truths_of words) → IfSome found (λ f. IsTruthFilter f text)
truths_are_spelled words text spelled found e =
    read_is_spelled truth_words truths_of read_again words_before (λ values. Some (truth_filter values)) (IsSpelled text) words spelled found (e ∙ filters_of (truths_of words))

pub truths_are_read : (words : List TruthWord) (text : List ℕ) → ((others : List TruthWord) → AreClear (IsClearWord (32 ∷ []) letters_of table) others → IsSpelled text others → Some words ≡ Some others) → (found : Option Filter) → found ≡ option_map truth_filter (truths_of words) → (f : Filter) → IsTruthFilter f text → found ≡ Some f
truths_are_read words text every found e f h =
    spelled_is_read truth_words truths_of read_again words_before (λ values. Some (truth_filter values)) (IsSpelled text) words (λ others spelled. some_is words others (every others (are_clear others) spelled)) found (e ∙ filters_of (truths_of words)) f h

pub no_truths : (text : List ℕ) → ((others : List TruthWord) → AreClear (IsClearWord (32 ∷ []) letters_of table) others → IsSpelled text others → None ≡ Some others) → (f : Filter) → IsTruthFilter f text → None ≡ Some f
no_truths text every f h = absurd (none_some (every (truth_words h.0) (are_clear (truth_words h.0)) h.1))

-- ---- a text spells one filter

taken_off : (text : List ℕ) (words : List TruthWord) → IsSpelled text words → tokens_of (32 ∷ []) (first_word letters_of table) text ≡ Some words
taken_off text words spelled = tokens_spelled (table_lexes letters_of (32 ∷ []) table) words text text (are_clear words) spelled (omega arith)

pub one_truth_filter : (text : List ℕ) (f g : Filter) → IsTruthFilter f text → IsTruthFilter g text → f ≡ g
one_truth_filter text f g h k =
    some_is f g (truths_are_read (truth_words h.0) text (λ others clear spelled. sym (taken_off text (truth_words h.0) h.1) ∙ taken_off text others spelled) (Some f) (sym (ap (option_map truth_filter) (read_again h.0) ∙ h.2)) g k)

-- ---- the grammar as a form

abbrev further : Bool → List TruthWord
further b = Comma ∷ word_of b ∷ []

value_there : (b : Bool) (text : List ℕ) → Unit {0} → IsText (run_form (32 ∷ []) (word_form letters_of) (word_of b ∷ [])) text → IsText value_form text
value_there true text fine h = inl (only (32 ∷ []) (word_form letters_of) Yes text h)
value_there false text fine h = inr (only (32 ∷ []) (word_form letters_of) No text h)

value_back : (text : List ℕ) → IsText value_form text → (b : Bool) × Unit {0} × IsText (run_form (32 ∷ []) (word_form letters_of) (word_of b ∷ [])) text
value_back text (inl h) = (true, tt, alone (32 ∷ []) (word_form letters_of) Yes text h)
value_back text (inr h) = (false, tt, alone (32 ∷ []) (word_form letters_of) No text h)

further_there : (b : Bool) (text : List ℕ) → Unit {0} → IsText (run_form (32 ∷ []) (word_form letters_of) (further b)) text → IsText further_form text
further_there b text fine h = record { front = h.front; back = h.back; joined = h.joined; first = h.first; second = value_there b h.back tt h.second }

further_back : (text : List ℕ) → IsText further_form text → (b : Bool) × Unit {0} × IsText (run_form (32 ∷ []) (word_form letters_of) (further b)) text
further_back text h =
    let b = value_back h.back h.second in
    (b.0, tt, record { front = h.front; back = h.back; joined = h.joined; first = h.first; second = b.2 })

all_fine : (values : List Bool) → AllByRecursion (λ b. Unit {0}) values
all_fine values = of_each values (λ b. tt)

more_is : (values : List Bool) → more_words values ≡ further_tokens further values
more_is [] = refl
more_is (b ∷ values) = ap (λ z. Comma ∷ word_of b ∷ z) (more_is values)

of_form : (values : List Bool) (text : List ℕ) → IsSpelled text (truth_words values) → IsText (listed (32 ∷ []) value_form further_form) text
of_form [] text h = inl h
of_form (b ∷ values) text h =
    listed_there (32 ∷ []) (word_form letters_of) (λ b. word_of b ∷ []) further (λ b. Unit {0}) (λ b. Unit {0}) value_form further_form value_there value_back further_there further_back b values text tt (all_fine values) (subst (λ z. IsSpelled text (word_of b ∷ z)) (more_is values) h)

from_form : (text : List ℕ) → IsText (listed (32 ∷ []) value_form further_form) text → IsTruth text
from_form text (inl h) = (truth_filter [], ([], h, refl))
from_form text (inr h) =
    let t = listed_back (32 ∷ []) (word_form letters_of) (λ b. word_of b ∷ []) further (λ b. Unit {0}) (λ b. Unit {0}) value_form further_form value_there value_back further_there further_back text h in
    let values = t.0 ∷ t.1.0 in
    (truth_filter values, (values, subst (λ z. IsSpelled text (word_of t.0 ∷ z)) (sym (more_is t.1.0)) t.1.3, refl))

-- the texts of the form are the filters
pub truths_judged : (text : List ℕ) (o : Option ℕ) → Judges (IsText truth_form) text o → Judges IsTruth text o
unfolding truth_form
truths_judged text o = same_judgement from_form (λ text h. of_form h.1.0 text h.1.1) text o
