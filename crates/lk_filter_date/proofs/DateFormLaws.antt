-- Filters of dates: the texts of the form are those that spell items whose dates and counts read.
use Rattle.std.proofs.Common.{◌≡◌, ◌⊎◌, inl, inr, ℕ, zero, suc, ◌-◌, ◌+◌, true, false, List, [], ◌∷◌, ◌++◌, Option, Some, None, option_map, if◌then◌else◌, refl, sym, ap, subst, ◌∙◌, append-nil, arith}
use Rattle.std.specs.List.{list_any, AllByRecursion}
use Rattle.std.proofs.lemmas.Bool.{false≢true}
use Rattle.lk_grammar.specs.Forms.{Form, nothing, IsText, IsJoined, seq, either, optional, is_live}
use Rattle.lk_grammar.specs.Places.{Judges}
use Rattle.lk_grammar.specs.Words.{free}
use Rattle.lk_grammar.specs.Literals.{token_form, IsLiteralOf}
use Rattle.lk_grammar.specs.declared.literals.Token.TheVariants.{Word, Literal}
use Rattle.lk_grammar.proofs.FormLaws.{parts_changed, nothing_behind}
use Rattle.lk_grammar.proofs.LiteralLaws.{exact_text, text_exact}
use Rattle.lk_grammar.proofs.PlaceLaws.{same_judgement}
use Rattle.lk_types.specs.declared.filter.Days.{Days}
use Rattle.lk_types.specs.declared.filter.Filter.{Filter}
use Rattle.lk_types.specs.declared.filter.Period.{Period}
use Rattle.lk_types.specs.declared.filter.Period.TheVariants.{Day, Week, Month, Quarter, Year}
use Rattle.lk_types.specs.declared.filter.Test.{Test}
use Rattle.lk_types.specs.declared.filter.Test.TheVariants as test
use Rattle.lk_grammar.specs.Listed.{run_form, further_tokens, listed, before_others}
use Rattle.lk_filter_date.specs.DateTexts.{days_of, count_of, each_from, date_form, count_form, date_literal}
use Rattle.lk_filter_date.specs.Dates.{letters_of, DateToken, item_tokens, more_tokens, IsDateText, is_day, item_test, is_exclude, is_relative, own_test, included, excluded, date_filter, IsDates}
use Rattle.lk_filter_date.specs.DateReading.{written_date, unit_form, units_form, period_form, item_form, further_form, dates_form}
use Rattle.lk_filter_date.specs.declared.words.DateWord.{DateWord}
use Rattle.lk_filter_date.specs.declared.words.Plurality.{Plurality}
use Rattle.lk_filter_date.specs.declared.words.Plurality.TheVariants.{Plural, Singular}
use Rattle.lk_filter_date.specs.declared.words.DateWord.TheVariants as word
use Rattle.lk_filter_date.specs.declared.items.DateItem.{DateItem}
use Rattle.lk_filter_date.specs.declared.items.DateItem.TheVariants as item
use Rattle.lk_grammar.proofs.ListedLaws.{alone, only, listed_there, listed_back}
use Rattle.lk_grammar.proofs.ReadingLaws.{none_some, map_before, then_before}
use Rattle.lk_filter_date.proofs.DateTextLaws.{date_read, date_spelled}
use Rattle.lk_filter_date.proofs.DateCountLaws.{count_read, count_spelled}
use Rattle.lk_filter_date.proofs.DateLiteralTextLaws.{date_is_literal, count_is_literal}

-- ---- forms that are built one by one

pub each_none : (form_of : ℕ → Form) (first count : ℕ) → count ≡ 0 → each_from form_of first count ≡ nothing
each_none form_of first count e = rw e refl

pub each_some : (form_of : ℕ → Form) (first count : ℕ) → (count ≡ 0 → ⊥) → each_from form_of first count ≡ either (form_of first) (each_from form_of (first + 1) (count - 1))
each_some form_of first zero h = absurd (h refl)
each_some form_of first (suc count) h =
    let e : suc count - 1 ≡ count = omega arith in
    let f : first + 1 ≡ suc first = omega arith in
    rw (e, f) refl

pub date_form_lives : is_live 0 0 date_form ≡ true
unfolding date_form
date_form_lives = refl

-- ---- items whose dates and counts read

-- the item has a test
abbrev IsValid : DateItem → Type 0
IsValid x = (t : Test) × (item_test x ≡ Some t)

own_valid : (x : DateItem) (own : Option Test) → own_test x ≡ Some own → IsValid x
unfolding own_test
own_valid (item.Null negated) own e = (test.Null, refl)
own_valid (item.In date) own e = map_before (λ t. Some t) (item_test (item.In date)) own e (λ t is _. (t, is))
own_valid (item.Before date) own e = map_before (λ t. Some t) (item_test (item.Before date)) own e (λ t is _. (t, is))
own_valid (item.After date) own e = map_before (λ t. Some t) (item_test (item.After date)) own e (λ t is _. (t, is))
own_valid (item.FromTo from upto) own e = map_before (λ t. Some t) (item_test (item.FromTo from upto)) own e (λ t is _. (t, is))
own_valid item.Today own e = (test.Today, refl)
own_valid item.Yesterday own e = (test.Yesterday, refl)
own_valid (item.This period) own e = map_before (λ t. Some t) (item_test (item.This period)) own e (λ t is _. (t, is))
own_valid (item.Last period) own e = map_before (λ t. Some t) (item_test (item.Last period)) own e (λ t is _. (t, is))
own_valid (item.Recent count period plurality) own e = map_before (λ t. Some t) (item_test (item.Recent count period plurality)) own e (λ t is _. (t, is))
own_valid (item.Ago count period plurality) own e = map_before (λ t. Some t) (item_test (item.Ago count period plurality)) own e (λ t is _. (t, is))

included_valid : (items : List DateItem) (tests : List Test) → included items ≡ Some tests → AllByRecursion IsValid items
included_valid [] tests e = tt
included_valid (x ∷ more) tests e =
    then_before (λ own. option_map (before_others own) (included more)) (own_test x) tests e (λ own is e.
    map_before (before_others own) (included more) tests e (λ others found _. (own_valid x own is, included_valid more others found)))

abbrev IsOwn : DateItem → Type 0
IsOwn x = (own : Option Test) × (own_test x ≡ Some own)

valid_own : (x : DateItem) → IsValid x → IsOwn x
unfolding own_test
valid_own x h =
    elim (is_exclude x) as (λ b. (own : Option Test) × ((if b then Some None else option_map (λ t. Some t) (item_test x)) ≡ Some own)) [
      | true ↦ (None, refl)
      | false ↦ (Some h.0, ap (option_map (λ t. Some t)) h.1)
    ]

abbrev IsIncluded : List DateItem → Type 0
IsIncluded items = (tests : List Test) × (included items ≡ Some tests)

valid_included : (items : List DateItem) → AllByRecursion IsValid items → IsIncluded items
valid_included [] h = ([], refl)
valid_included (x ∷ more) h =
    let own = valid_own x h.0 in
    let rest = valid_included more h.1 in
    (before_others own.0 rest.0, rw (own.1, rest.1) refl)

filter_valid : (items : List DateItem) (f : Filter) → date_filter items ≡ Some f → AllByRecursion IsValid items
filter_valid items f e = map_before _ (included items) f e (λ tests is _. included_valid items tests is)

abbrev IsFiltered : List DateItem → Type 0
IsFiltered items = (f : Filter) × (date_filter items ≡ Some f)

valid_filter : (items : List DateItem) → AllByRecursion IsValid items → IsFiltered items
valid_filter items h = let t = valid_included items h in (record { include = t.0; exclude = excluded items; relative = list_any is_relative items }, rw t.1 refl)

-- ---- dates, counts and words

abbrev Run : List DateToken → List ℕ → Type 0
Run tokens text = IsText (run_form (32 ∷ []) (token_form letters_of) tokens) text

abbrev Free : DateToken → List ℕ → Type 0
Free t text = IsText (free (32 ∷ []) (token_form letters_of t)) text

literal_there : (form : Form) (n : List ℕ) → IsText form n → (text : List ℕ) → Free (Literal n) text → IsText (free (32 ∷ []) form) text
literal_there form n fine text h = record { front = h.front; back = h.back; joined = h.joined; first = h.first; second = subst (IsText form) (sym (text_exact n h.back h.second)) fine }

last_there : (form : Form) (n : List ℕ) → IsText form n → (text : List ℕ) → Run (Literal n ∷ []) text → IsText (free (32 ∷ []) form) text
last_there form n fine text h = literal_there form n fine text (only (32 ∷ []) (token_form letters_of) (Literal n) text h)

last_word : (w : DateWord) (text : List ℕ) → Run (Word w ∷ []) text → Free (Word w) text
last_word w text h = only (32 ∷ []) (token_form letters_of) (Word w) text h

-- a spelled literal of a form
record IsWritten (form : Form) (text : List ℕ) : Type 0 where
  n : List ℕ
  fine : IsText form n
  spelled : Free (Literal n) text

literal_back : (form : Form) (text : List ℕ) → IsText (free (32 ∷ []) form) text → IsWritten form text
literal_back form text h = record { n = h.back; fine = h.second; spelled = record { front = h.front; back = h.back; joined = h.joined; first = h.first; second = exact_text h.back } }

written_last : (n text : List ℕ) → Free (Literal n) text → Run (Literal n ∷ []) text
written_last n text h = alone (32 ∷ []) (token_form letters_of) (Literal n) text h

word_last : (w : DateWord) (text : List ℕ) → Free (Word w) text → Run (Word w ∷ []) text
word_last w text h = alone (32 ∷ []) (token_form letters_of) (Word w) text h

-- ---- units

unit_there : (period : Period) (plurality : Plurality) (text : List ℕ) → Free (Word (word.Unit period plurality)) text → IsText (unit_form period) text
unit_there period Plural text h = inl h
unit_there period Singular text h = inr h

units_there : (period : Period) (plurality : Plurality) (text : List ℕ) → Free (Word (word.Unit period plurality)) text → IsText units_form text
units_there Day plurality text h = inl (unit_there Day plurality text h)
units_there Week plurality text h = inr (inl (unit_there Week plurality text h))
units_there Month plurality text h = inr (inr (inl (unit_there Month plurality text h)))
units_there Quarter plurality text h = inr (inr (inr (inl (unit_there Quarter plurality text h))))
units_there Year plurality text h = inr (inr (inr (inr (unit_there Year plurality text h))))

-- a spelled unit
record IsUnit (text : List ℕ) : Type 0 where
  period : Period
  plurality : Plurality
  spelled : Free (Word (word.Unit period plurality)) text

unit_back : (period : Period) (text : List ℕ) → IsText (unit_form period) text → IsUnit text
unit_back period text (inl h) = record { period = period; plurality = Plural; spelled = h }
unit_back period text (inr h) = record { period = period; plurality = Singular; spelled = h }

units_back : (text : List ℕ) → IsText units_form text → IsUnit text
units_back text (inl h) = unit_back Day text h
units_back text (inr (inl h)) = unit_back Week text h
units_back text (inr (inr (inl h))) = unit_back Month text h
units_back text (inr (inr (inr (inl h)))) = unit_back Quarter text h
units_back text (inr (inr (inr (inr h)))) = unit_back Year text h

period_there : (period : Period) → is_day period ≡ false → (text : List ℕ) → Free (Word (word.Unit period Singular)) text → IsText period_form text
period_there Day e text h = absurd (false≢true (sym e))
period_there Week e text h = inl h
period_there Month e text h = inr (inl h)
period_there Quarter e text h = inr (inr (inl h))
period_there Year e text h = inr (inr (inr h))

-- a spelled unit of which there is a current one
record IsPeriod (text : List ℕ) : Type 0 where
  period : Period
  other : is_day period ≡ false
  spelled : Free (Word (word.Unit period Singular)) text

period_back : (text : List ℕ) → IsText period_form text → IsPeriod text
period_back text (inl h) = record { period = Week; other = refl; spelled = h }
period_back text (inr (inl h)) = record { period = Month; other = refl; spelled = h }
period_back text (inr (inr (inl h))) = record { period = Quarter; other = refl; spelled = h }
period_back text (inr (inr (inr h))) = record { period = Year; other = refl; spelled = h }

-- ---- what the items of a test are

one_date : (of : Days → Test) (date : List ℕ) (t : Test) → option_map of (days_of date) ≡ Some t → IsText date_form date
one_date of date t e = map_before of (days_of date) t e (λ days is _. date_spelled date days is)

one_count : (of : ℕ → Test) (count : List ℕ) (t : Test) → option_map of (count_of count) ≡ Some t → IsText count_form count
one_count of count t e = map_before of (count_of count) t e (λ n is _. count_spelled count n is)

two_dates : (from upto : List ℕ) (t : Test) → item_test (item.FromTo from upto) ≡ Some t → (IsText date_form from) × (IsText date_form upto)
two_dates from upto t e =
    then_before (λ low. option_map (λ high. test.FromTo low high) (days_of upto)) (days_of from) t e (λ low is e.
    (date_spelled from low is, one_date (λ high. test.FromTo low high) upto t e))

no_day : (period : Period) (this t : Test) → (if is_day period then None else Some this) ≡ Some t → is_day period ≡ false
no_day Day this t e = absurd (none_some e)
no_day Week this t e = refl
no_day Month this t e = refl
no_day Quarter this t e = refl
no_day Year this t e = refl

current : (period : Period) (this : Test) → is_day period ≡ false → (if is_day period then None else Some this) ≡ Some this
current period this e = rw e refl

-- the literals of an item that has a test are dates or counts
valid_literals : (x : DateItem) → IsValid x → AllByRecursion (IsLiteralOf date_literal) (item_tokens x)
valid_literals (item.In date) h = (date_is_literal date (one_date test.In date h.0 h.1), tt)
valid_literals (item.Before date) h = (tt, (date_is_literal date (one_date test.Before date h.0 h.1), tt))
valid_literals (item.After date) h = (tt, (date_is_literal date (one_date test.After date h.0 h.1), tt))
valid_literals (item.FromTo from upto) h =
    let d = two_dates from upto h.0 h.1 in
    (date_is_literal from d.0, (tt, (date_is_literal upto d.1, tt)))
valid_literals item.Today h = (tt, tt)
valid_literals item.Yesterday h = (tt, tt)
valid_literals (item.This period) h = (tt, (tt, tt))
valid_literals (item.Last period) h = (tt, (tt, tt))
valid_literals (item.Recent count period plurality) h = (count_is_literal count (one_count (λ n. test.Recent n period) count h.0 h.1), (tt, tt))
valid_literals (item.Ago count period plurality) h = (count_is_literal count (one_count (λ n. test.Ago n period) count h.0 h.1), (tt, (tt, tt)))
valid_literals (item.Null true) h = (tt, (tt, tt))
valid_literals (item.Null false) h = (tt, tt)

-- ---- items

item_there : (x : DateItem) (text : List ℕ) → IsValid x → Run (item_tokens x) text → IsText item_form text
item_there (item.In date) text v h = inl (nothing_behind text (last_there date_form date (one_date test.In date v.0 v.1) text h) (inr refl))
item_there (item.FromTo from upto) text v h =
    let d = two_dates from upto v.0 v.1 in
    inl (parts_changed (literal_there date_form from d.0) (λ t r. inl (parts_changed (λ t k. k) (last_there date_form upto d.1) r)) h)
item_there (item.Recent count period plurality) text v h =
    inr (inl (parts_changed (literal_there count_form count (one_count (λ n. test.Recent n period) count v.0 v.1)) (λ t r. nothing_behind t (units_there period plurality t (last_word (word.Unit period plurality) t r)) (inr refl)) h))
item_there (item.Ago count period plurality) text v h =
    inr (inl (parts_changed (literal_there count_form count (one_count (λ n. test.Ago n period) count v.0 v.1)) (λ t r. parts_changed (units_there period plurality) (λ t k. inl (last_word word.Ago t k)) r) h))
item_there (item.Before date) text v h = inr (inr (inl (parts_changed (λ t w. inl w) (last_there date_form date (one_date test.Before date v.0 v.1)) h)))
item_there (item.After date) text v h = inr (inr (inl (parts_changed (λ t w. inr w) (last_there date_form date (one_date test.After date v.0 v.1)) h)))
item_there (item.This period) text v h =
    inr (inr (inr (inl (parts_changed (λ t w. inl w) (λ t r. period_there period (no_day period (test.This period) v.0 v.1) t (last_word (word.Unit period Singular) t r)) h))))
item_there (item.Last period) text v h =
    inr (inr (inr (inl (parts_changed (λ t w. inr w) (λ t r. period_there period (no_day period (test.Last period) v.0 v.1) t (last_word (word.Unit period Singular) t r)) h))))
item_there item.Today text v h = inr (inr (inr (inr (inl (last_word word.Today text h)))))
item_there item.Yesterday text v h = inr (inr (inr (inr (inr (inl (last_word word.Yesterday text h))))))
item_there (item.Null true) text v h = inr (inr (inr (inr (inr (inr (parts_changed (λ t w. inl w) (last_word word.Null) h))))))
item_there (item.Null false) text v h =
    inr (inr (inr (inr (inr (inr (record { front = []; back = text; joined = refl; first = inr refl; second = last_word word.Null text h }))))))

abbrev IsItem : List ℕ → Type 0
IsItem text = (x : DateItem) × IsValid x × Run (item_tokens x) text

item_back : (text : List ℕ) → IsText item_form text → IsItem text
item_back text (inl h) = to_back h.second
  where
    w : IsWritten date_form h.front
    w = literal_back date_form h.front h.first

    low : (days : Days) × (days_of w.n ≡ Some days)
    low = date_read w.n w.fine

    to_back : IsText (optional (seq (free (32 ∷ []) (token_form letters_of (Word word.To))) written_date)) h.back → IsItem text
    to_back (inr none) = (item.In w.n, (test.In low.0, rw low.1 refl), record { front = h.front; back = h.back; joined = h.joined; first = w.spelled; second = none })
    to_back (inl to) =
        let v = literal_back date_form to.back to.second in
        let high = date_read v.n v.fine in
        (item.FromTo w.n v.n, (test.FromTo low.0 high.0, rw (low.1, high.1) refl), record { front = h.front; back = h.back; joined = h.joined; first = w.spelled; second = record { front = to.front; back = to.back; joined = to.joined; first = to.first; second = written_last v.n to.back v.spelled } })
item_back text (inr (inl h)) = ago_back h.second.second
  where
    w : IsWritten count_form h.front
    w = literal_back count_form h.front h.first

    n : (n : ℕ) × (count_of w.n ≡ Some n)
    n = count_read w.n w.fine

    u : IsUnit h.second.front
    u = units_back h.second.front h.second.first

    ago_back : IsText (optional (free (32 ∷ []) (token_form letters_of (Word word.Ago)))) h.second.back → IsItem text
    ago_back (inr none) =
        (item.Recent w.n u.period u.plurality, (test.Recent n.0 u.period, rw n.1 refl), record { front = h.front; back = h.back; joined = h.joined; first = w.spelled; second = record { front = h.second.front; back = h.second.back; joined = h.second.joined; first = u.spelled; second = none } })
    ago_back (inl ago) =
        (item.Ago w.n u.period u.plurality, (test.Ago n.0 u.period, rw n.1 refl), record { front = h.front; back = h.back; joined = h.joined; first = w.spelled; second = record { front = h.second.front; back = h.second.back; joined = h.second.joined; first = u.spelled; second = word_last word.Ago h.second.back ago } })
item_back text (inr (inr (inl h))) = side h.first
  where
    w : IsWritten date_form h.back
    w = literal_back date_form h.back h.second

    day : (days : Days) × (days_of w.n ≡ Some days)
    day = date_read w.n w.fine

    side : (Free (Word word.Before) h.front ⊎ Free (Word word.After) h.front) → IsItem text
    side (inl before) = (item.Before w.n, (test.Before day.0, rw day.1 refl), record { front = h.front; back = h.back; joined = h.joined; first = before; second = written_last w.n h.back w.spelled })
    side (inr after) = (item.After w.n, (test.After day.0, rw day.1 refl), record { front = h.front; back = h.back; joined = h.joined; first = after; second = written_last w.n h.back w.spelled })
item_back text (inr (inr (inr (inl h)))) = which h.first
  where
    p : IsPeriod h.back
    p = period_back h.back h.second

    which : (Free (Word word.This) h.front ⊎ Free (Word word.Last) h.front) → IsItem text
    which (inl this) =
        (item.This p.period, (test.This p.period, current p.period (test.This p.period) p.other), record { front = h.front; back = h.back; joined = h.joined; first = this; second = word_last (word.Unit p.period Singular) h.back p.spelled })
    which (inr last) =
        (item.Last p.period, (test.Last p.period, current p.period (test.Last p.period) p.other), record { front = h.front; back = h.back; joined = h.joined; first = last; second = word_last (word.Unit p.period Singular) h.back p.spelled })
item_back text (inr (inr (inr (inr (inl h))))) = (item.Today, (test.Today, refl), word_last word.Today text h)
item_back text (inr (inr (inr (inr (inr (inl h)))))) = (item.Yesterday, (test.Yesterday, refl), word_last word.Yesterday text h)
item_back text (inr (inr (inr (inr (inr (inr h)))))) = negated h.first
  where
    negated : IsText (optional (free (32 ∷ []) (token_form letters_of (Word word.Not)))) h.front → IsItem text
    negated (inl not) = (item.Null true, (test.Null, refl), record { front = h.front; back = h.back; joined = h.joined; first = not; second = word_last word.Null h.back h.second })
    negated (inr none) = (item.Null false, (test.Null, refl), subst (Run (Word word.Null ∷ [])) (sym (h.joined ∙ ap (λ z. z ++ h.back) none)) (word_last word.Null h.back h.second))

more_there : (x : DateItem) (text : List ℕ) → IsValid x → Run (more_tokens x) text → IsText further_form text
more_there x text v h = parts_changed (λ t w. w) (λ t r. item_there x t v r) h

more_back : (text : List ℕ) → IsText further_form text → (x : DateItem) × IsValid x × Run (more_tokens x) text
more_back text h =
    let x = item_back h.back h.second in
    (x.0, x.1, record { front = h.front; back = h.back; joined = h.joined; first = h.first; second = x.2 })

-- ---- whole texts

fine_joined : (xs ys : List DateToken) → AllByRecursion (IsLiteralOf date_literal) xs → AllByRecursion (IsLiteralOf date_literal) ys → AllByRecursion (IsLiteralOf date_literal) (xs ++ ys)
fine_joined [] ys f g = g
fine_joined (x ∷ xs) ys f g = (f.0, fine_joined xs ys f.1 g)

further_literals : (more : List DateItem) → AllByRecursion IsValid more → AllByRecursion (IsLiteralOf date_literal) (further_tokens more_tokens more)
further_literals [] v = tt
further_literals (x ∷ more) v = fine_joined (more_tokens x) (further_tokens more_tokens more) (tt, valid_literals x v.0) (further_literals more v.1)

of_form : (items : List DateItem) (text : List ℕ) → IsDateText items text → AllByRecursion IsValid items → IsText (listed (32 ∷ []) item_form further_form) text
of_form [] text h v = inl h.spelled
of_form (x ∷ more) text h v =
    listed_there (32 ∷ []) (token_form letters_of) item_tokens more_tokens IsValid IsValid item_form further_form item_there item_back more_there more_back x more text v.0 v.1 h.spelled

from_form : (text : List ℕ) → IsText (listed (32 ∷ []) item_form further_form) text → IsDates text
from_form text (inl h) = let f = valid_filter [] tt in (f.0, ([], record { spelled = h; literals = tt }, f.1))
from_form text (inr h) =
    let t = listed_back (32 ∷ []) (token_form letters_of) item_tokens more_tokens IsValid IsValid item_form further_form item_there item_back more_there more_back text h in
    let f = valid_filter (t.0 ∷ t.1.0) (t.1.1, t.1.2) in
    (f.0, (t.0 ∷ t.1.0, record { spelled = t.1.3; literals = fine_joined (item_tokens t.0) (further_tokens more_tokens t.1.0) (valid_literals t.0 t.1.1) (further_literals t.1.0 t.1.2) }, f.1))

-- the texts of the form are the filters
pub dates_judged : (text : List ℕ) (o : Option ℕ) → Judges (IsText dates_form) text o → Judges IsDates text o
unfolding dates_form
dates_judged text o = same_judgement from_form (λ text h. of_form h.1.0 text h.1.1 (filter_valid h.1.0 h.0 h.1.2)) text o
