-- Filters of numbers: the texts of the form are those that spell items.
use Rattle.std.proofs.Common.{◌⊎◌, inl, inr, ℕ, true, false, List, [], ◌∷◌, ◌++◌, Option, Some, None, refl, sym, ap, subst, ◌∙◌, append-nil}
use Rattle.std.specs.List.{concat, AllByRecursion}
use Rattle.lk_grammar.specs.Forms.{Form, IsText, IsJoined, seq, either, many, optional}
use Rattle.lk_grammar.specs.Places.{Judges}
use Rattle.lk_grammar.specs.Words.{free}
use Rattle.lk_grammar.specs.Literals.{token_form, IsLiteralOf}
use Rattle.lk_grammar.specs.Numbers.{number}
use Rattle.lk_grammar.specs.declared.literals.Token.TheVariants.{Word, Literal}
use Rattle.lk_grammar.proofs.FormLaws.{parts_changed, nothing_behind}
use Rattle.lk_grammar.proofs.LiteralLaws.{exact_text, text_exact}
use Rattle.lk_grammar.proofs.PlaceLaws.{same_judgement}
use Rattle.lk_grammar.specs.Listed.{run_form, further_tokens, listed}
use Rattle.lk_filter_number.specs.Numbers.{letters_of, NumberToken, order_word, open_word, close_word, end_token, and_tokens, range_tokens, item_tokens, between_word, more_tokens, IsNumberText, IsNumbers}
use Rattle.lk_filter_number.specs.NumberReading.{any_word, written_number, order_form, compared_form, end_form, interval_form, range_form, item_form, further_form, number_form}
use Rattle.lk_filter_number.specs.declared.number.words.NumberWord.{NumberWord}
use Rattle.lk_filter_number.specs.declared.number.words.NumberWord.TheVariants as word
use Rattle.lk_filter_number.specs.declared.number.items.WrittenEnd.{WrittenEnd}
use Rattle.lk_filter_number.specs.declared.number.items.WrittenEnd.TheVariants as end
use Rattle.lk_filter_number.specs.declared.number.items.Compared.{Compared}
use Rattle.lk_filter_number.specs.declared.number.items.Order.{Order}
use Rattle.lk_filter_number.specs.declared.number.items.Order.TheVariants as order
use Rattle.lk_filter_number.specs.declared.number.items.Bracket.{Bracket}
use Rattle.lk_filter_number.specs.declared.number.items.Bracket.TheVariants.{Square, Round}
use Rattle.lk_filter_number.specs.declared.number.items.UnlikeSign.TheVariants.{Angles, Exclamation}
use Rattle.lk_filter_number.specs.declared.number.items.Separator.{Separator}
use Rattle.lk_filter_number.specs.declared.number.items.Separator.TheVariants as separator
use Rattle.lk_filter_number.specs.declared.number.items.NumberRange.{NumberRange}
use Rattle.lk_filter_number.specs.declared.number.items.NumberRange.TheVariants.{Is, From, UpTo, Between, Compare, Interval}
use Rattle.lk_filter_number.specs.declared.number.items.NumberItem.{NumberItem}
use Rattle.lk_filter_number.specs.declared.number.items.NumberItem.TheVariants.{Range, Null, Unlike}
use Rattle.lk_filter_number.specs.declared.number.items.FurtherItem.{FurtherItem}
use Rattle.lk_filter_number.specs.declared.number.items.NumberItems.{NumberItems}
use Rattle.lk_grammar.proofs.ListedLaws.{run_joined, run_parted, alone, only, listed_there, listed_back}

-- the tokens are spelled one behind the other, and each literal is a number
abbrev Run : List NumberToken → List ℕ → Type 0
Run tokens text = IsText (run_form (32 ∷ []) (token_form letters_of) tokens) text

abbrev Fine : List NumberToken → Type 0
Fine tokens = AllByRecursion (IsLiteralOf number) tokens

fine_front : (xs ys : List NumberToken) → Fine (xs ++ ys) → Fine xs
fine_front [] ys h = tt
fine_front (x ∷ xs) ys h = (h.0, fine_front xs ys h.1)

fine_back : (xs ys : List NumberToken) → Fine (xs ++ ys) → Fine ys
fine_back [] ys h = h
fine_back (x ∷ xs) ys h = fine_back xs ys h.1

fine_joined : (xs ys : List NumberToken) → Fine xs → Fine ys → Fine (xs ++ ys)
fine_joined [] ys f g = g
fine_joined (x ∷ xs) ys f g = (f.0, fine_joined xs ys f.1 g)

-- ---- numbers and words

abbrev Free : NumberToken → List ℕ → Type 0
Free t text = IsText (free (32 ∷ []) (token_form letters_of t)) text

number_there : (n : List ℕ) → IsText number n → (text : List ℕ) → Free (Literal n) text → IsText written_number text
number_there n fine text h = record { front = h.front; back = h.back; joined = h.joined; first = h.first; second = subst (IsText number) (sym (text_exact n h.back h.second)) fine }

-- a spelled number
record IsWritten (text : List ℕ) : Type 0 where
  n : List ℕ
  fine : IsText number n
  spelled : Free (Literal n) text

number_back : (text : List ℕ) → IsText written_number text → IsWritten text
number_back text h = record { n = h.back; fine = h.second; spelled = record { front = h.front; back = h.back; joined = h.joined; first = h.first; second = exact_text h.back } }

-- ---- comparisons

order_there : (o : Order) (text : List ℕ) → Free (Word (order_word o)) text → IsText order_form text
order_there order.AtMost text h = inl h
order_there order.AtLeast text h = inr (inl h)
order_there order.Less text h = inr (inr (inl h))
order_there order.Greater text h = inr (inr (inr h))

order_back : (text : List ℕ) → IsText order_form text → (o : Order) × Free (Word (order_word o)) text
order_back text (inl h) = (order.AtMost, h)
order_back text (inr (inl h)) = (order.AtLeast, h)
order_back text (inr (inr (inl h))) = (order.Less, h)
order_back text (inr (inr (inr h))) = (order.Greater, h)

compared_there : (c : Compared) → IsText number c.number → (text : List ℕ) → Run (Word (order_word c.comparison) ∷ Literal c.number ∷ []) text → IsText compared_form text
compared_there c fine text h = parts_changed (order_there c.comparison) (λ t r. number_there c.number fine t (only (32 ∷ []) (token_form letters_of) (Literal c.number) t r)) h

record IsCompared (text : List ℕ) : Type 0 where
  c : Compared
  fine : IsText number c.number
  spelled : Run (Word (order_word c.comparison) ∷ Literal c.number ∷ []) text

compared_back : (text : List ℕ) → IsText compared_form text → IsCompared text
compared_back text h =
    let o = order_back h.front h.first in
    let w = number_back h.back h.second in
    record {
      c = record { comparison = o.0; number = w.n };
      fine = w.fine;
      spelled = record { front = h.front; back = h.back; joined = h.joined; first = o.1; second = alone (32 ∷ []) (token_form letters_of) (Literal w.n) h.back w.spelled };
    }

abbrev Ands : Form
Ands = seq (any_word (97 ∷ 110 ∷ 100 ∷ [])) compared_form

ands_there : (more : List Compared) → Fine (and_tokens more) → (text : List ℕ) → Run (and_tokens more) text → IsText (many Ands) text
ands_there [] fine text h = record { parts = []; joined = h; each = tt }
ands_there (c ∷ more) fine text h =
    let p = run_parted (32 ∷ []) (token_form letters_of) (Word word.And ∷ Word (order_word c.comparison) ∷ Literal c.number ∷ []) (and_tokens more) text h in
    let rest = ands_there more fine.1.1.1 p.back p.second in
    record {
      parts = p.front ∷ rest.parts;
      joined = p.joined ∙ ap (λ z. p.front ++ z) rest.joined;
      each = (parts_changed (λ t k. k) (compared_there c fine.1.1.0) p.first, rest.each);
    }

record AreAnds (text : List ℕ) : Type 0 where
  more : List Compared
  fine : Fine (and_tokens more)
  spelled : Run (and_tokens more) text

parts_back : (parts : List (List ℕ)) → AllByRecursion (IsText Ands) parts → AreAnds (concat parts)
parts_back [] each = record { more = []; fine = tt; spelled = refl }
parts_back (p ∷ parts) each =
    let first = each.0 in
    let c = compared_back first.back first.second in
    let rest = parts_back parts each.1 in
    record {
      more = c.c ∷ rest.more;
      fine = (tt, (tt, (c.fine, rest.fine)));
      spelled = run_joined (32 ∷ []) (token_form letters_of) (Word word.And ∷ Word (order_word c.c.comparison) ∷ Literal c.c.number ∷ []) (and_tokens rest.more) p (concat parts) (record { front = first.front; back = first.back; joined = first.joined; first = first.first; second = c.spelled }) rest.spelled;
    }

-- ---- intervals

end_there : (e : WrittenEnd) → IsLiteralOf number (end_token e) → (text : List ℕ) → Free (end_token e) text → IsText end_form text
end_there (end.Number n) fine text h = inl (number_there n fine text h)
end_there end.Inf fine text h = inr (inl h)
end_there end.MinusInf fine text h = inr (inr h)

record IsEnd (text : List ℕ) : Type 0 where
  e : WrittenEnd
  fine : IsLiteralOf number (end_token e)
  spelled : Free (end_token e) text

end_back : (text : List ℕ) → IsText end_form text → IsEnd text
end_back text (inl h) = let w = number_back text h in record { e = end.Number w.n; fine = w.fine; spelled = w.spelled }
end_back text (inr (inl h)) = record { e = end.Inf; fine = tt; spelled = h }
end_back text (inr (inr h)) = record { e = end.MinusInf; fine = tt; spelled = h }

-- the words of brackets
open_there : (b : Bracket) (text : List ℕ) → Free (Word (open_word b)) text → (Free (Word word.OpenSquare) text) ⊎ (Free (Word word.OpenRound) text)
open_there Square text h = inl h
open_there Round text h = inr h

close_there : (b : Bracket) (text : List ℕ) → Free (Word (close_word b)) text → (Free (Word word.CloseSquare) text) ⊎ (Free (Word word.CloseRound) text)
close_there Square text h = inl h
close_there Round text h = inr h

-- one of two words
two_back : {A : Type 0} (word_of : A → NumberWord) (a b : A) (text : List ℕ) → (Free (Word (word_of a)) text) ⊎ (Free (Word (word_of b)) text) → (x : A) × Free (Word (word_of x)) text
two_back word_of a b text (inl h) = (a, h)
two_back word_of a b text (inr h) = (b, h)

interval_there : (bracket : Bracket) (low high : WrittenEnd) (close : Bracket) → Fine (range_tokens (Interval bracket low high close)) → (text : List ℕ) → Run (range_tokens (Interval bracket low high close)) text → IsText interval_form text
interval_there bracket low high close fine text h =
    parts_changed (open_there bracket)
    (λ t. parts_changed (end_there low fine.1.0) (λ t. parts_changed (λ t k. k) (λ t. parts_changed (end_there high fine.1.1.1.0) (λ t r. close_there close t (only (32 ∷ []) (token_form letters_of) (Word (close_word close)) t r))))) h

-- a range that is spelled
record IsRange (text : List ℕ) : Type 0 where
  r : NumberRange
  fine : Fine (range_tokens r)
  spelled : Run (range_tokens r) text

interval_back : (text : List ℕ) → IsText interval_form text → IsRange text
interval_back text h =
    let a = h.second in
    let b = a.second in
    let c = b.second in
    let bracket = two_back open_word Square Round h.front h.first in
    let low = end_back a.front a.first in
    let high = end_back c.front c.first in
    let close = two_back close_word Square Round c.back c.second in
    record {
      r = Interval bracket.0 low.e high.e close.0;
      fine = (tt, (low.fine, (tt, (high.fine, (tt, tt)))));
      spelled = record {
        front = h.front;
        back = h.back;
        joined = h.joined;
        first = bracket.1;
        second =
            record {
              front = a.front;
              back = a.back;
              joined = a.joined;
              first = low.spelled;
              second =
                  record {
                    front = b.front;
                    back = b.back;
                    joined = b.joined;
                    first = b.first;
                    second =
                        record { front = c.front; back = c.back; joined = c.joined; first = high.spelled; second = alone (32 ∷ []) (token_form letters_of) (Word (close_word close.0)) c.back close.1 };
                  };
            };
      };
    }

-- ---- ranges

range_there : (r : NumberRange) → Fine (range_tokens r) → (text : List ℕ) → Run (range_tokens r) text → IsText range_form text
range_there (Is n) fine text h = inl (nothing_behind text (number_there n fine.0 text (only (32 ∷ []) (token_form letters_of) (Literal n) text h)) (inr refl))
range_there (From n) fine text h = inl (parts_changed (number_there n fine.0) (λ t r. inl (nothing_behind t (only (32 ∷ []) (token_form letters_of) (Word word.To) t r) (inr refl))) h)
range_there (UpTo n) fine text h = inr (inl (parts_changed (λ t k. k) (λ t r. number_there n fine.1.0 t (only (32 ∷ []) (token_form letters_of) (Literal n) t r)) h))
range_there (Between m n) fine text h =
    inl (parts_changed (number_there m fine.0) (λ t r. inl (parts_changed (λ t k. k) (λ t r. inl (number_there n fine.1.1.0 t (only (32 ∷ []) (token_form letters_of) (Literal n) t r))) r)) h)
range_there (Compare c more) fine text h =
    let p = run_parted (32 ∷ []) (token_form letters_of) (Word (order_word c.comparison) ∷ Literal c.number ∷ []) (and_tokens more) text h in
    inr (inr (inl (record { front = p.front; back = p.back; joined = p.joined; first = compared_there c fine.1.0 p.front p.first; second = ands_there more fine.1.1 p.back p.second })))
range_there (Interval bracket low high close) fine text h = inr (inr (inr (interval_there bracket low high close fine text h)))

range_back : (text : List ℕ) → IsText range_form text → IsRange text
range_back text (inl h) = from_back h.second
  where
    w : IsWritten h.front
    w = number_back h.front h.first

    from_back : IsText (optional (seq (any_word (116 ∷ 111 ∷ [])) (optional written_number))) h.back → IsRange text
    from_back (inr none) = record { r = Is w.n; fine = (w.fine, tt); spelled = record { front = h.front; back = h.back; joined = h.joined; first = w.spelled; second = none } }
    from_back (inl to) = to_back to.second
      where
        to_back : IsText (optional written_number) to.back → IsRange text
        to_back (inr none) =
            record { r = From w.n; fine = (w.fine, (tt, tt)); spelled = record { front = h.front; back = h.back; joined = h.joined; first = w.spelled; second = record { front = to.front; back = to.back; joined = to.joined; first = to.first; second = none } } }
        to_back (inl high) =
            let v = number_back to.back high in
            record { r = Between w.n v.n; fine = (w.fine, (tt, (v.fine, tt))); spelled = record { front = h.front; back = h.back; joined = h.joined; first = w.spelled; second = record { front = to.front; back = to.back; joined = to.joined; first = to.first; second = alone (32 ∷ []) (token_form letters_of) (Literal v.n) to.back v.spelled } } }
range_back text (inr (inl h)) =
    let w = number_back h.back h.second in
    record { r = UpTo w.n; fine = (tt, (w.fine, tt)); spelled = record { front = h.front; back = h.back; joined = h.joined; first = h.first; second = alone (32 ∷ []) (token_form letters_of) (Literal w.n) h.back w.spelled } }
range_back text (inr (inr (inl h))) =
    let c = compared_back h.front h.first in
    let more = parts_back h.second.parts h.second.each in
    record {
      r = Compare c.c more.more;
      fine = (tt, (c.fine, more.fine));
      spelled = subst (Run (range_tokens (Compare c.c more.more))) (sym (h.joined ∙ ap (λ z. h.front ++ z) h.second.joined)) (run_joined (32 ∷ []) (token_form letters_of) (Word (order_word c.c.comparison) ∷ Literal c.c.number ∷ []) (and_tokens more.more) h.front (concat h.second.parts) c.spelled more.spelled);
    }
range_back text (inr (inr (inr h))) = interval_back text h

-- ---- items

plain : (text : List ℕ) → (IsText range_form text ⊎ IsText (any_word (110 ∷ 117 ∷ 108 ∷ 108 ∷ [])) text) → IsText (seq (optional (any_word (110 ∷ 111 ∷ 116 ∷ []))) (either range_form (any_word (110 ∷ 117 ∷ 108 ∷ 108 ∷ [])))) text
plain text h = record { front = []; back = text; joined = refl; first = inr refl; second = h }

item_there : (x : NumberItem) (text : List ℕ) → Fine (item_tokens x) → Run (item_tokens x) text → IsText item_form text
item_there (Range true r) text fine h = inl (parts_changed (λ t n. inl n) (λ t p. inl (range_there r fine.1 t p)) h)
item_there (Range false r) text fine h = inl (plain text (inl (range_there r fine text h)))
item_there (Null true) text fine h = inl (parts_changed (λ t n. inl n) (λ t p. inr (only (32 ∷ []) (token_form letters_of) (Word word.Null) t p)) h)
item_there (Null false) text fine h = inl (plain text (inr (only (32 ∷ []) (token_form letters_of) (Word word.Null) text h)))
item_there (Unlike Exclamation n) text fine h = inr (parts_changed (λ t w. inr w) (λ t p. number_there n fine.1.0 t (only (32 ∷ []) (token_form letters_of) (Literal n) t p)) h)
item_there (Unlike Angles n) text fine h = inr (parts_changed (λ t w. inl w) (λ t p. number_there n fine.1.0 t (only (32 ∷ []) (token_form letters_of) (Literal n) t p)) h)

abbrev IsItem : List ℕ → Type 0
IsItem text = (x : NumberItem) × Fine (item_tokens x) × Run (item_tokens x) text

item_back : (text : List ℕ) → IsText item_form text → IsItem text
item_back text (inl h) = tested h.first h.second
  where
    tested : IsText (optional (any_word (110 ∷ 111 ∷ 116 ∷ []))) h.front → (IsText range_form h.back ⊎ IsText (any_word (110 ∷ 117 ∷ 108 ∷ 108 ∷ [])) h.back) → IsItem text
    tested (inl not) (inl range) =
        let r = range_back h.back range in
        (Range true r.r, (tt, r.fine), record { front = h.front; back = h.back; joined = h.joined; first = not; second = r.spelled })
    tested (inl not) (inr null) =
        (Null true, (tt, (tt, tt)), record { front = h.front; back = h.back; joined = h.joined; first = not; second = alone (32 ∷ []) (token_form letters_of) (Word word.Null) h.back null })
    tested (inr none) (inl range) =
        let r = range_back h.back range in
        (Range false r.r, r.fine, subst (Run (range_tokens r.r)) (sym (h.joined ∙ ap (λ z. z ++ h.back) none)) r.spelled)
    tested (inr none) (inr null) =
        (Null false, (tt, tt), subst (Run (Word word.Null ∷ [])) (sym (h.joined ∙ ap (λ z. z ++ h.back) none)) (alone (32 ∷ []) (token_form letters_of) (Word word.Null) h.back null))
item_back text (inr h) = differs h.first
  where
    w : IsWritten h.back
    w = number_back h.back h.second

    differs : (IsText (any_word (60 ∷ 62 ∷ [])) h.front ⊎ IsText (any_word (33 ∷ 61 ∷ [])) h.front) → IsItem text
    differs (inl unlike) = (Unlike Angles w.n, (tt, (w.fine, tt)), record { front = h.front; back = h.back; joined = h.joined; first = unlike; second = alone (32 ∷ []) (token_form letters_of) (Literal w.n) h.back w.spelled })
    differs (inr unequal) = (Unlike Exclamation w.n, (tt, (w.fine, tt)), record { front = h.front; back = h.back; joined = h.joined; first = unequal; second = alone (32 ∷ []) (token_form letters_of) (Literal w.n) h.back w.spelled })

between_there : (s : Separator) (text : List ℕ) → Free (Word (between_word s)) text → (Free (Word word.Comma) text) ⊎ (Free (Word word.Or) text)
between_there separator.Comma text h = inl h
between_there separator.Or text h = inr h

more_there : (x : FurtherItem) (text : List ℕ) → Fine (more_tokens x) → Run (more_tokens x) text → IsText further_form text
more_there x text fine h = parts_changed (between_there x.separator) (λ t p. item_there x.item t fine.1 p) h

more_back : (text : List ℕ) → IsText further_form text → (x : FurtherItem) × Fine (more_tokens x) × Run (more_tokens x) text
more_back text h =
    let b = two_back between_word separator.Comma separator.Or h.front h.first in
    let x = item_back h.back h.second in
    (record { separator = b.0; item = x.0 }, (tt, x.1), record { front = h.front; back = h.back; joined = h.joined; first = b.1; second = x.2 })

-- ---- whole texts

fine_each : (more : List FurtherItem) → Fine (further_tokens more_tokens more) → AllByRecursion (λ x. Fine (more_tokens x)) more
fine_each [] h = tt
fine_each (x ∷ more) h = (fine_front (more_tokens x) (further_tokens more_tokens more) h, fine_each more (fine_back (more_tokens x) (further_tokens more_tokens more) h))

fine_all : (more : List FurtherItem) → AllByRecursion (λ x. Fine (more_tokens x)) more → Fine (further_tokens more_tokens more)
fine_all [] h = tt
fine_all (x ∷ more) h = fine_joined (more_tokens x) (further_tokens more_tokens more) h.0 (fine_all more h.1)

of_form : (items : Option NumberItems) (text : List ℕ) → IsNumberText items text → IsText (listed (32 ∷ []) item_form further_form) text
of_form None text h = inl h.spelled
of_form (Some items) text h =
    let rest = further_tokens more_tokens items.more in
    listed_there (32 ∷ []) (token_form letters_of) item_tokens more_tokens (λ x. Fine (item_tokens x)) (λ x. Fine (more_tokens x)) item_form further_form item_there item_back more_there more_back items.first items.more text
    (fine_front (item_tokens items.first) rest h.numbers) (fine_each items.more (fine_back (item_tokens items.first) rest h.numbers)) h.spelled

from_form : (text : List ℕ) → IsText (listed (32 ∷ []) item_form further_form) text → IsNumbers text
from_form text (inl h) = (None, record { spelled = h; numbers = tt })
from_form text (inr h) =
    let t = listed_back (32 ∷ []) (token_form letters_of) item_tokens more_tokens (λ x. Fine (item_tokens x)) (λ x. Fine (more_tokens x)) item_form further_form item_there item_back more_there more_back text h in
    (Some (record { first = t.0; more = t.1.0 }), record { spelled = t.1.3; numbers = fine_joined (item_tokens t.0) (further_tokens more_tokens t.1.0) t.1.1 (fine_all t.1.0 t.1.2) })

pub numbers_judged : (text : List ℕ) (o : Option ℕ) → Judges (IsText number_form) text o → Judges IsNumbers text o
unfolding number_form
numbers_judged text o = same_judgement from_form (λ text h. of_form h.0 text h.1) text o
