use Rattle.std.proofs.Common.{◌≡◌, ◌==◌, ◌∷◌, ◌∙◌, [], ℕ, List, All, inl, inr, refl, ap, true, append_assoc, arith}
use Rattle.std.proofs.lemmas.List.{append-nil}
use Rattle.std.specs.Prelude.{◌&&◌, ◌<◌, ◌≢◌, Bool, false, ◌++◌, if◌then◌else◌}
use Rattle.std.proofs.lemmas.Bool.{cases_Bool, eqb-true}
use Rattle.std.proofs.lemmas.List.Elements.{All-cons, All-head, All-nil, All-tail}
use Rattle.csv.specs.Machine.{next_record}
use Rattle.csv.specs.Reading.{strip_bom}
use Rattle.csv.specs.Writing.{default_writer, fields_text, is_blank, needs_quotes, read_back}
use Rattle.csv.specs.declared.parser.State.TheVariants as st
use Rattle.csv.proofs.RoundTrip.{read-write}
use Rattle.lk_csv.specs.Records.{HasAField, HasNoMark, record_text, records_of, records_text}
use Rattle.lk_csv.specs.Reading.{records_after}
use Rattle.lk_csv.proofs.ReadingLaws.{records-end, records-more}
use Rattle.lk_csv.proofs.laws.written_records_read_back.Goals as goal

same-fields : (fields : List (List ℕ)) → HasAField fields → read_back fields ≡ fields
same-fields [] has = absurd (has refl)
same-fields (field ∷ rest) has = refl

rows-back : (rows : List (List (List ℕ))) → All HasAField rows → records_after st.StartRecord (records_text rows) ≡ rows
unfolding records_text record_text next_record
rows-back [] has = records-end st.StartRecord [] refl
rows-back (fields ∷ rest) has =
    records-more st.StartRecord _ _ refl (read-write fields (records_text rest))
    ∙ ap (λ (first : List (List ℕ)). first ∷ records_after st.StartRecord (records_text rest)) (same-fields fields (All-head HasAField fields rest has))
    ∙ ap (λ (others : List (List (List ℕ))). fields ∷ others) (rows-back rest (All-tail HasAField fields rest has))

three-bytes : (a b c : ℕ) → ((a == 0xEF) && (b == 0xBB) && (c == 0xBF)) ≡ true → a ∷ b ∷ c ∷ [] ≡ 0xEF ∷ 0xBB ∷ 0xBF ∷ []
three-bytes a b c e = elim (cases_Bool (a == 0xEF)) [
  | inr other ↦ cc (rw other at e)
  | inl first ↦ elim (cases_Bool (b == 0xBB)) [
    | inr other ↦ cc (rw (first, other) at e)
    | inl second ↦
        let third : (c == 0xBF) ≡ true = rw (first, second) at e in
        rw (eqb-true a 0xEF first, eqb-true b 0xBB second, eqb-true c 0xBF third) refl
  ]
]

no-mark : (text : List ℕ) → HasNoMark text → strip_bom text ≡ text
unfolding strip_bom
no-mark [] plain = refl
no-mark (a ∷ []) plain = refl
no-mark (a ∷ b ∷ []) plain = refl
no-mark (a ∷ b ∷ c ∷ rest) plain = elim (cases_Bool ((a == 0xEF) && (b == 0xBB) && (c == 0xBF))) [
  | inl marked ↦ absurd (plain (three-bytes a b c marked))
  | inr unlike ↦ rw unlike refl
]

-- a byte that is none of the mark's
abbrev IsOther : ℕ → Type 0
IsOther h = (h ≢ 0xEF) × (h ≢ 0xBB) × (h ≢ 0xBF)

other-below : (h : ℕ) → h < 0xBB → IsOther h
other-below h low = (λ same. absurd (omega (arith, same)), λ same. absurd (omega (arith, same)), λ same. absurd (omega (arith, same)))

unmarked-front : (field : List ℕ) (h : ℕ) (tail : List ℕ) → IsOther h → HasNoMark field → HasNoMark (field ++ (h ∷ tail))
unmarked-front [] h tail other plain = λ same. other.0 (cc same)
unmarked-front (a ∷ []) h tail other plain = λ same. other.1 (cc same)
unmarked-front (a ∷ b ∷ []) h tail other plain = λ same. other.2 (cc same)
unmarked-front (a ∷ b ∷ c ∷ rest) h tail other plain = plain

-- what follows the first field begins with such a byte
record Follows (text : List ℕ) : Type 0 where
  first : ℕ
  rest : List ℕ
  text-is : text ≡ first ∷ rest
  low : first < 0xBB

follows-field : (others : List (List ℕ)) (blank : Bool) → Follows (fields_text default_writer others ++ ((if blank then 34 ∷ 34 ∷ [] else []) ++ (10 ∷ [])))
unfolding fields_text
follows-field [] true = record { first = 34; rest = 34 ∷ 10 ∷ []; text-is = refl; low = omega arith }
follows-field [] false = record { first = 10; rest = []; text-is = refl; low = omega arith }
follows-field (next ∷ others) blank = record { first = 44; rest = _; text-is = refl; low = omega arith }

unmarked-plain : (field tail : List ℕ) → Follows tail → HasNoMark field → HasNoMark (field ++ tail)
unmarked-plain field tail follows plain =
    rw follows.text-is (unmarked-front field follows.first follows.rest (other-below follows.first follows.low) plain)

-- the text of a record begins as its first field does, or with such a byte
unmarked-text : (field : List ℕ) (others : List (List ℕ)) → HasNoMark field → HasNoMark (record_text (field ∷ others))
unfolding record_text
unmarked-text field others plain = elim (cases_Bool (needs_quotes default_writer field)) [
  | inl needs ↦ λ same. cc (rw needs at same)
  | inr bare ↦ rw (bare, append_assoc) (unmarked-plain field _ (follows-field others (is_blank default_writer (field ∷ others))) plain)
]

pub returns-clause-one : goal.returns-clause-one
unfolding records_of records_after records_text
returns-clause-one c = λ field rest plain.
    let has : HasAField (field ∷ rest) = λ e. cc e in
    let back = rw append-nil at (rows-back ((field ∷ rest) ∷ []) (All-cons HasAField (field ∷ rest) [] has (All-nil HasAField))) in
    rw (no-mark (record_text (field ∷ rest)) (unmarked-text field rest plain)) back

pub returns-clause-many : goal.returns-clause-many
unfolding records_of records_after
returns-clause-many c = λ rows has plain. rw (no-mark (records_text rows) plain) (rows-back rows has)
