-- A reader goes forward: each record leaves less of the text, so the records are those of one pass.
use Rattle.std.specs.Prelude.{◌||◌, ◌-◌}
use Rattle.std.proofs.Common.{◌≡◌, ◌==◌, ◌+◌, ◌<◌, ◌≤◌, ◌∷◌, ◌∙◌, [], ℕ, List, Bool, Option, Some, None, IsSome, Bor, true, false, zero, suc, inl, inr, length, refl, sym, subst, ap, arith, add-one}
use Rattle.std.proofs.lemmas.Bool.{cases_Bool, false≢true}
use Rattle.csv.specs.Machine.{Read, ends_at_end, in_field, is_end, next_record, start_field, start_record, step}
use Rattle.csv.specs.Reading.{NextIs, ReadRecord, ReadsNext, default_config, pending_of, reader_state, records_from, records_next}
use Rattle.csv.specs.declared.reader.Reader.{Reader}
use Rattle.csv.specs.declared.parser.Action.{Action}
use Rattle.csv.specs.declared.parser.State.{State}
use Rattle.csv.specs.declared.parser.State.TheVariants as st
use Rattle.lk_csv.specs.Reading.{IsReading, before, known_length, known_records, records_after, text_left}

-- a byte that ends a record leaves the machine between two records
abbrev EndsBetween : State × Action → Type 0
EndsBetween p = is_end p.1 ≡ true → ends_at_end p.0 ≡ false

in_field-between : (c : ℕ) → EndsBetween (in_field default_config c)
in_field-between c = elim (cases_Bool (c == 44)) [
  | inl comma ↦ λ e. cc (rw comma at e)
  | inr other ↦ elim (cases_Bool (c == 13)) [
    | inl return ↦ λ e. rw (other, return) refl
    | inr unlike ↦ elim (cases_Bool (c == 10)) [
      | inl feed ↦ λ e. rw (other, unlike, feed) refl
      | inr plain ↦ λ e. cc (rw (other, unlike, plain) at e)
    ]
  ]
]

start_field-between : (c : ℕ) → EndsBetween (start_field default_config c)
start_field-between c = elim (cases_Bool (c == 34)) [
  | inl quote ↦ λ e. cc (rw quote at e)
  | inr other ↦
      let same : start_field default_config c ≡ in_field default_config c = rw other refl in
      subst EndsBetween (sym same) (in_field-between c)
]

start_record-between : (c : ℕ) → EndsBetween (start_record default_config c)
start_record-between c = elim (cases_Bool ((c == 13) || (c == 10))) [
  | inl line ↦ λ e. cc (rw line at e)
  | inr other ↦
      let same : start_record default_config c ≡ start_field default_config c = rw other refl in
      subst EndsBetween (sym same) (start_field-between c)
]

step-between : (s : State) (c : ℕ) → EndsBetween (step default_config s c)
step-between st.StartRecord c = start_record-between c
step-between st.StartField c = start_field-between c
step-between st.InField c = in_field-between c
step-between st.InQuoted c = elim (cases_Bool (c == 34)) [
  | inl quote ↦ λ e. cc (rw quote at e)
  | inr other ↦ λ e. cc (rw other at e)
]
step-between st.InEscape c = λ e. cc e
step-between st.AfterQuote c = elim (cases_Bool (c == 34)) [
  | inl quote ↦ λ e. cc (rw quote at e)
  | inr other ↦
      let same : step default_config st.AfterQuote c ≡ in_field default_config c = rw other refl in
      subst EndsBetween (sym same) (in_field-between c)
]
step-between st.InComment c = elim (cases_Bool (c == 10)) [
  | inl feed ↦ λ e. cc (rw feed at e)
  | inr other ↦ λ e. cc (rw other at e)
]
step-between st.AfterCr c = elim (cases_Bool (c == 10)) [
  | inl feed ↦ λ e. cc (rw feed at e)
  | inr other ↦
      let same : step default_config st.AfterCr c ≡ start_record default_config c = rw other refl in
      subst EndsBetween (sym same) (start_record-between c)
]

-- what is left after a record: a text that is shorter, unless there was none, between two records
abbrev IsLeft : List ℕ → Read → Type 0
IsLeft text p = (ends_at_end p.1 ≡ false) × (length p.2 ≤ length text - 1)

is-left : (text : List ℕ) (q p : Read) → Some q ≡ Some p → IsLeft text q → IsLeft text p
is-left text q p e left = let same : q ≡ p = cc in rw same at left

record-left : (text : List ℕ) (s : State) (fields : List (List ℕ)) (field : List ℕ) (p : Read)
    → next_record default_config s fields field text ≡ Some p → IsLeft text p
unfolding next_record
record-left [] s fields field p e = elim (cases_Bool (ends_at_end s)) [
  | inl ends ↦ is-left [] _ p (rw ends at e) (refl, omega arith)
  | inr goes ↦ cc (rw goes at e)
]
record-left (c ∷ rest) s fields field p e = elim (cases_Bool (is_end (step default_config s c).1)) [
  | inl ends ↦ is-left (c ∷ rest) _ p (rw ends at e) (step-between s c ends, omega arith)
  | inr goes ↦
      let left = record-left rest _ _ _ p (rw goes at e) in
      (left.0, omega (arith, left.1))
]

pub record-shorter : (s : State) (text : List ℕ) (p : Read) → ends_at_end s ≡ false
    → next_record default_config s [] [] text ≡ Some p → (ends_at_end p.1 ≡ false) × (length p.2 < length text)
unfolding next_record
record-shorter s [] p between e = cc (rw between at e)
record-shorter s (c ∷ rest) p between e =
    let left = record-left (c ∷ rest) s [] [] p e in
    (left.0, omega (arith, left.1))

next-same : (more less : State → List ℕ → List (List (List ℕ))) (next : Option Read)
    → ((p : Read) → next ≡ Some p → more p.1 p.2 ≡ less p.1 p.2) → records_next more next ≡ records_next less next
next-same more less None same = refl
next-same more less (Some p) same = ap (λ (rows : List (List (List ℕ))). p.0 ∷ rows) (same p refl)

-- to look for more records than the text has bytes finds no others
any-number : (n m : ℕ) (s : State) (text : List ℕ) → ends_at_end s ≡ false → length text < n → length text < m
    → records_from default_config n s text ≡ records_from default_config m s text
unfolding records_from
any-number zero m s text between low high = absurd (omega (arith, low))
any-number (suc n) zero s text between low high = absurd (omega (arith, high))
any-number (suc n) (suc m) s text between low high =
    next-same _ _ _ (λ p e. let left = record-shorter s text p between e in
    any-number n m p.1 p.2 left.0 (omega (arith, left.1)) (omega (arith, left.1)))

one-step : (s : State) (text : List ℕ) (next : Option Read) → next_record default_config s [] [] text ≡ next
    → records_after s text ≡ records_next (records_from default_config (length text)) next
unfolding records_after records_from
one-step s text next e = rw (add-one, e) refl

-- the records of a text are its next one, and those after it
pub records-more : (s : State) (text : List ℕ) (p : Read) → ends_at_end s ≡ false
    → next_record default_config s [] [] text ≡ Some p → records_after s text ≡ p.0 ∷ records_after p.1 p.2
unfolding records_after
records-more s text p between e =
    let left = record-shorter s text p between e in
    one-step s text (Some p) e ∙ ap (λ (rows : List (List (List ℕ))). p.0 ∷ rows) (any-number (length text) (length p.2 + 1) p.1 p.2 left.0 left.1 (omega arith))

pub records-end : (s : State) (text : List ℕ) → next_record default_config s [] [] text ≡ None → records_after s text ≡ []
records-end s text e = one-step s text None e

-- what a read of a record does to the records and the bytes that are left
pub record Takes (s : State) (text : List ℕ) (found : Bool) (fields : List (List ℕ)) (s2 : State) (left : Option (List ℕ)) : Type 0 where
  pub known : IsSome left
  pub between : found ≡ true → ends_at_end s2 ≡ false
  pub rows : records_after s text ≡ before found fields (known_records s2 left)
  pub shorter : found ≡ true → known_length left < length text

takes-next : (s : State) (text : List ℕ) (next : Option Read) (found : Bool) (fields : List (List ℕ)) (s2 : State) (left : List ℕ)
    → ends_at_end s ≡ false → next_record default_config s [] [] text ≡ next → NextIs next found fields s2 left
    → Takes s text found fields s2 (Some left)
takes-next s text None found fields s2 left between e is = record {
  known = refl;
  between = λ yes. cc (yes, is);
  rows = rw is (records-end s text e);
  shorter = λ yes. absurd (false≢true (sym is ∙ yes));
}
takes-next s text (Some p) found fields s2 left between e is =
    let after = record-shorter s text p between e in
    record {
      known = refl;
      between = λ yes. rw is.2 after.0;
      rows = rw (is.0, is.1, is.2, is.3) (records-more s text p between e);
      shorter = λ yes. rw is.3 after.1;
    }

pub takes : (s : State) (text : List ℕ) (found : Bool) (fields : List (List ℕ)) (s2 : State) (left : Option (List ℕ))
    → ends_at_end s ≡ false → ReadsNext default_config s (Some text) left found fields s2 → Takes s text found fields s2 left
takes s text found fields s2 None between reads = absurd reads
takes s text found fields s2 (Some left) between reads = takes-next s text _ found fields s2 left between refl reads

pub reader-takes : (a b : Reader (Bor (List ℕ))) (text : List ℕ) (found : Bool) (fields : List (List ℕ)) → IsReading a → text_left a ≡ Some text
    → ReadRecord (λ slice. Some slice.now) a b found fields → Takes (reader_state a) text found fields (reader_state b) (text_left b)
reader-takes a b text found fields reading known read =
    let left : text_left b ≡ pending_of (Some b.rdr.now) b = rw read.1 refl in
    subst (λ (o : Option (List ℕ)). Takes a.state text found fields b.state o) (sym left)
    (takes a.state text found fields b.state _ reading.between (rw (reading.config, known) at read.0))

pub known-text : (known : Option (List ℕ)) → IsSome known → (text : List ℕ) × (known ≡ Some text)
known-text None is = cc is
known-text (Some text) is = (text, refl)
