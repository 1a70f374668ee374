-- The texts of the forms of dates and counts are literals.
use Rattle.std.proofs.Common.{◌≡◌, inl, inr, ℕ, ◌≤◌, Bool, true, false, ◌&&◌, ◌||◌, nat_eq, nat_le, List, [], ◌∷◌, ◌++◌, refl, sym, ap, subst, ◌∙◌, append-nil, append_assoc, arith}
use Rattle.std.specs.List.{concat, AllByRecursion}
use Rattle.std.proofs.lemmas.Bool.{false≢true, leb-true}
use Rattle.lk_grammar.specs.Forms.{Form, nothing, empty, IsText, seq, either, byte, many, nested}
use Rattle.lk_grammar.specs.Words.{one}
use Rattle.lk_grammar.proofs.FormLaws.{both, one_of}
use Rattle.lk_grammar.proofs.WordLaws.{text_one}
use Rattle.lk_filter_date.specs.DateTexts.{date_form, count_form, date_literal}
use Rattle.lk_filter_date.proofs.DateLiteralLaws.{same, digit_text, is_digit_from, IsDigitHead}
use Rattle.lk_filter_date.proofs.DateNumeralLaws.{one_at}

-- each byte of the form's texts goes on with a literal
abbrev has_literal_bytes : Form → Bool
has_literal_bytes nothing = true
has_literal_bytes empty = true
has_literal_bytes (byte low high) = (nat_eq low 45 && nat_eq high 45) || (nat_le 47 low && nat_le high 57)
has_literal_bytes (seq first second) = has_literal_bytes first && has_literal_bytes second
has_literal_bytes (either first other) = has_literal_bytes first && has_literal_bytes other
has_literal_bytes (many form) = false
has_literal_bytes (nested rule) = false

-- the form's texts begin with a digit
abbrev has_first_digit : Form → Bool
has_first_digit nothing = true
has_first_digit empty = false
has_first_digit (byte low high) = nat_le 48 low && nat_le high 57
has_first_digit (seq first second) = has_first_digit first
has_first_digit (either first other) = has_first_digit first && has_first_digit other
has_first_digit (many form) = false
has_first_digit (nested rule) = false

abbrev literal_byte : Form
literal_byte = either (one 45) (byte 47 57)

more_bytes : (front back : List ℕ) → IsText (many literal_byte) front → IsText (many literal_byte) back → IsText (many literal_byte) (front ++ back)
more_bytes front back f b = record { parts = f.parts ++ b.parts; joined = ap (λ z. z ++ back) f.joined ∙ ap (λ z. concat f.parts ++ z) b.joined ∙ sym (concat-append f.parts b.parts); each = all_append f.parts b.parts f.each b.each }
  where
    concat-append : (xs ys : List (List ℕ)) → concat (xs ++ ys) ≡ concat xs ++ concat ys
    concat-append [] ys = refl
    concat-append (x ∷ xs) ys = ap (λ z. x ++ z) (concat-append xs ys) ∙ sym (append_assoc x (concat xs) (concat ys))

    all_append : (xs ys : List (List ℕ)) → AllByRecursion (IsText literal_byte) xs → AllByRecursion (IsText literal_byte) ys → AllByRecursion (IsText literal_byte) (xs ++ ys)
    all_append [] ys p q = q
    all_append (x ∷ xs) ys p q = (p.0, all_append xs ys p.1 q)

bytes_text : (form : Form) → has_literal_bytes form ≡ true → (text : List ℕ) → IsText form text → IsText (many literal_byte) text
bytes_text nothing ok text h = absurd h
bytes_text empty ok text h = record { parts = []; joined = h; each = tt }
bytes_text (byte low high) ok text h =
    let from : low ≤ h.value = h.from in
    let upto : h.value ≤ high = h.upto in
    elim (one_of (nat_eq low 45 && nat_eq high 45) (nat_le 47 low && nat_le high 57) ok) [
      | inl p ↦
          let q = both (nat_eq low 45) (nat_eq high 45) p in
          let a : low ≡ 45 = same low 45 q.0 in
          let b : high ≡ 45 = same high 45 q.1 in
          record { parts = text ∷ []; joined = sym (append-nil text); each = (inl (subst (IsText (one 45)) (sym h.alone) (one_at 45 h.value (omega (arith, from, upto, a, b)))), tt) }
      | inr p ↦
          let q = both (nat_le 47 low) (nat_le high 57) p in
          let a : 47 ≤ low = leb-true 47 low q.0 in
          let b : high ≤ 57 = leb-true high 57 q.1 in
          record { parts = text ∷ []; joined = sym (append-nil text); each = (inr (record { value = h.value; from = omega (arith, from, a); upto = omega (arith, upto, b); alone = h.alone }), tt) }
    ]
bytes_text (seq first second) ok text h =
    let p = both (has_literal_bytes first) (has_literal_bytes second) ok in
    subst (IsText (many literal_byte)) (sym h.joined) (more_bytes h.front h.back (bytes_text first p.0 h.front h.first) (bytes_text second p.1 h.back h.second))
bytes_text (either first other) ok text (inl h) = bytes_text first (both (has_literal_bytes first) (has_literal_bytes other) ok).0 text h
bytes_text (either first other) ok text (inr h) = bytes_text other (both (has_literal_bytes first) (has_literal_bytes other) ok).1 text h
bytes_text (many form) ok text h = absurd (false≢true ok)
bytes_text (nested rule) ok text h = absurd (false≢true ok)

first_text : (form : Form) → has_first_digit form ≡ true → (text : List ℕ) → IsText form text → IsDigitHead text
first_text nothing ok text h = absurd h
first_text empty ok text h = absurd (false≢true ok)
first_text (byte low high) ok text h =
    let p = both (nat_le 48 low) (nat_le high 57) ok in
    let from : low ≤ h.value = h.from in
    let upto : h.value ≤ high = h.upto in
    let a : 48 ≤ low = leb-true 48 low p.0 in
    let b : high ≤ 57 = leb-true high 57 p.1 in
    record { head = h.value; tail = []; is = h.alone; first = is_digit_from h.value (omega (arith, from, a)) (omega (arith, upto, b)) }
first_text (seq first second) ok text h =
    let f = first_text first ok h.front h.first in
    record { head = f.head; tail = f.tail ++ h.back; is = h.joined ∙ ap (λ z. z ++ h.back) f.is; first = f.first }
first_text (either first other) ok text (inl h) = first_text first (both (has_first_digit first) (has_first_digit other) ok).0 text h
first_text (either first other) ok text (inr h) = first_text other (both (has_first_digit first) (has_first_digit other) ok).1 text h
first_text (many form) ok text h = absurd (false≢true ok)
first_text (nested rule) ok text h = absurd (false≢true ok)

-- the first byte of a text of such bytes is one of them, and so are the others
behind_first : (b : ℕ) (text : List ℕ) (parts : List (List ℕ)) → b ∷ text ≡ concat parts → AllByRecursion (IsText literal_byte) parts → IsText (many literal_byte) text
behind_first b text [] e each = cc
behind_first b text (p ∷ parts) e each =
    let s = one_byte p each.0 in
    let whole : b ∷ text ≡ s.0 ∷ concat parts = e ∙ ap (λ z. z ++ concat parts) s.1 in
    record { parts = parts; joined = cc; each = each.1 }
  where
    one_byte : (p : List ℕ) → IsText literal_byte p → (v : ℕ) × (p ≡ v ∷ [])
    one_byte p (inl h) = (45, text_one 45 p h)
    one_byte p (inr h) = (h.value, h.alone)

literal_text : (form : Form) → has_literal_bytes form ≡ true → has_first_digit form ≡ true → (text : List ℕ) → IsText form text → IsText date_literal text
literal_text form bytes first text h =
    let f = first_text form first text h in
    let m = bytes_text form bytes text h in
    record { front = f.head ∷ []; back = f.tail; joined = f.is; first = digit_text f.head f.first; second = behind_first f.head f.tail m.parts (sym f.is ∙ m.joined) m.each }

pub date_is_literal : (text : List ℕ) → IsText date_form text → IsText date_literal text
unfolding date_form
date_is_literal text h = literal_text date_form refl refl text h

pub count_is_literal : (text : List ℕ) → IsText count_form text → IsText date_literal text
count_is_literal text h = literal_text count_form refl refl text h
