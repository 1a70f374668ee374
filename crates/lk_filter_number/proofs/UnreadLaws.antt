-- The place of a text that is no filter of numbers, from its judgement and the first number that is not read.
use Rattle.std.proofs.Common.{◌≡◌, inl, inr, ℕ, zero, suc, ◌<◌, Bool, true, false, not, ◌&&◌, if◌then◌else◌, List, [], ◌∷◌, length, drop, Option, Some, None, option_map, refl, sym, subst, ◌∙◌, arith}
use Rattle.std.specs.Prelude.{slice_index_or}
use Rattle.std.specs.Option.{unwrap_or}
use Rattle.std.proofs.lemmas.Bool.{cases_lt, false≢true}
use Rattle.lk_grammar.specs.Places.{Judges, IsPlace}
use Rattle.lk_grammar.proofs.ReadingLaws.{place_of_judged}
use Rattle.lk_filter_number.specs.Numbers.{IsNumbers, IsNumbersPlace, IsUnreadAt, is_number_byte, is_unread}
use Rattle.lk_filter_number.specs.NumberReading.{before_place, unread_from}

-- a number that is not read begins at the place, where the byte a is before the text
abbrev Unread : ℕ → List ℕ → ℕ → Type 0
Unread a text n = (is_unread (drop n text) ≡ true) × (is_number_byte (slice_index_or (a ∷ text) n 0) ≡ false)

-- the first such place, or none
abbrev IsFirst : ℕ → List ℕ → Option ℕ → Type 0
IsFirst a text None = (n : ℕ) → Unread a text n → ⊥
IsFirst a text (Some k) = Unread a text k × ((m : ℕ) → m < k → Unread a text m → ⊥)

clash : (inside unread : Bool) → (not inside && unread) ≡ false → unread ≡ true → inside ≡ false → ⊥
clash true unread e u i = false≢true (sym i)
clash false unread e u i = false≢true (sym e ∙ u)

parts : (inside unread : Bool) → (not inside && unread) ≡ true → (unread ≡ true) × (inside ≡ false)
parts true unread e = absurd (false≢true e)
parts false unread e = (e, refl)

step : (a b : ℕ) (text : List ℕ) (test : Bool) (o : Option ℕ) → (not (is_number_byte a) && is_unread (b ∷ text)) ≡ test → IsFirst b text o → IsFirst a (b ∷ text) (if test then Some 0 else option_map suc o)
step a b text true o e h = (parts (is_number_byte a) (is_unread (b ∷ text)) e, λ m less. absurd (omega arith))
step a b text false None e h = elim [
  | zero ↦ λ u. clash (is_number_byte a) (is_unread (b ∷ text)) e u.0 u.1
  | suc m ↦ λ u. h m u
]
step a b text false (Some k) e h = (
  h.0,
  elim [
    | zero ↦ λ less u. clash (is_number_byte a) (is_unread (b ∷ text)) e u.0 u.1
    | suc m ↦ λ less u. h.1 m (omega arith) u
  ],
)

first : (a : ℕ) (text : List ℕ) → IsFirst a text (unread_from (is_number_byte a) text)
first a [] = elim [ zero ↦ λ u. false≢true u.0 | suc m ↦ λ u. false≢true u.0 ]
first a (b ∷ text) = step a b text (not (is_number_byte a) && is_unread (b ∷ text)) (unread_from (is_number_byte b) text) refl (first b text)

from_start : (text : List ℕ) (n : ℕ) → Unread 0 text n → IsUnreadAt text n
from_start text zero u = record { unread = u.0; begins = refl }
from_start text (suc n) u = record { unread = u.0; begins = u.1 }

at_start : (text : List ℕ) (n : ℕ) → IsUnreadAt text n → Unread 0 text n
at_start text zero u = (u.unread, refl)
at_start text (suc n) u = (u.unread, u.begins)

before : (text : List ℕ) (place n : ℕ) (o : Option ℕ) → IsPlace IsNumbers text place → IsFirst 0 text o → n ≡ before_place place o → IsNumbersPlace text n
before text place n None at h e = record {
  place = place;
  at_place = at;
  within = omega (arith, e);
  none = λ m less u. h m (at_start text m u);
  reached = inl e;
}
before text place n (Some k) at h e = record {
  place = place;
  at_place = at;
  within = omega (arith, e);
  none = λ m less u. h.1 m (omega (arith, e)) (at_start text m u);
  reached = elim (cases_lt place k) [
    | inl less ↦ inl (omega (arith, e))
    | inr more ↦ inr (from_start text n (subst (Unread 0 text) (let is : k ≡ n = omega (arith, e) in is) h.0))
  ];
}

pub numbers_place : (text : List ℕ) (o : Option ℕ) (n : ℕ) → Judges IsNumbers text o → n ≡ before_place (unwrap_or o (length text)) (unread_from false text) → IsNumbersPlace text n
numbers_place text o n judged = before text (unwrap_or o (length text)) n (unread_from false text) (place_of_judged IsNumbers text o judged) (first 0 text)
