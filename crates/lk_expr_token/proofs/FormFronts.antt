-- The texts of the forms of terminals, and the places that grammars of the same fronts share.
use Rattle.std.proofs.Common.{◌≡◌, inl, inr, ℕ, Bool, true, ◌&&◌, ◌||◌, nat_le, List, [], ◌∷◌, ◌++◌, length, take, refl, sym, ap, subst, ◌∙◌, append_assoc, arith}
use Rattle.std.specs.Prelude.{◌==◌, map}
use Rattle.std.specs.List.{concat, list_all, AllByRecursion}
use Rattle.std.proofs.lemmas.Bool.{false≢true, leb-true, le-leb}
use Rattle.std.proofs.lemmas.Bool.Decides.{nat_tests}
use Rattle.std.proofs.lemmas.List.{append-nil}
use Rattle.std.proofs.Math.Seq.{take-length}
use Rattle.lk_types.specs.Expressions.{ascii_lower}
use Rattle.lk_grammar.specs.Forms.{Form, byte, seq, either, many, IsText}
use Rattle.lk_grammar.specs.Words.{one, letters, is_small, is_char}
use Rattle.lk_grammar.specs.Places.{IsViable, IsPlace}
use Rattle.lk_grammar.proofs.FormLaws.{both, and_both, one_of, or_one, or_other}
use Rattle.lk_grammar.proofs.WordLaws.{one_text, text_one, char_text, text_char}
use Rattle.lk_expr_token.specs.Tokens.{is_letter, is_name_byte, is_name, is_bare}
use Rattle.lk_expr_token.specs.TerminalForms.{letter, name_byte, name, bare_name, quoted}

-- ---- places

-- a text of the grammar begins one
pub whole_viable : (Grammar : List ℕ → Type 0) (text : List ℕ) → Grammar text → IsViable Grammar text
whole_viable Grammar text h = ([], subst Grammar (sym (append-nil text)) h)

-- a text that is judged has its place
pub judged_place : (Grammar : List ℕ → Type 0) (text : List ℕ) (n : ℕ) → n ≡ length text → Grammar text → IsPlace Grammar text n
judged_place Grammar text n e h = record {
  within = omega (arith, e);
  begins = ([], subst Grammar (sym (append-nil (take n text) ∙ whole text n e)) h);
  longest = λ m fits more. omega (arith, e, fits);
}
  where
    whole : (text : List ℕ) (n : ℕ) → n ≡ length text → take n text ≡ text
    whole text n e = rw e (take-length text)

module _ {G H : List ℕ → Type 0} (onward : (text : List ℕ) → G text → IsViable H text) (back : (text : List ℕ) → H text → IsViable G text) where
  viable_on : (front : List ℕ) → IsViable G front → IsViable H front
  viable_on front v = let w = onward (front ++ v.0) v.1 in (v.0 ++ w.0, subst H (append_assoc front v.0 w.0) w.1)

  viable_back : (front : List ℕ) → IsViable H front → IsViable G front
  viable_back front v = let w = back (front ++ v.0) v.1 in (v.0 ++ w.0, subst G (append_assoc front v.0 w.0) w.1)

  -- where each text of one grammar begins a text of the other, they have the same places
  pub place_carried : (text : List ℕ) (n : ℕ) → IsPlace G text n → IsPlace H text n
  place_carried text n place = record {
    within = place.within;
    begins = viable_on (take n text) place.begins;
    longest = λ m fits v. place.longest m fits (viable_back (take m text) v);
  }

-- ---- bytes of a class

-- the texts of the form are the bytes that pass the test
pub record IsClass (form : Form) (test : ℕ → Bool) : Type 0 where
  pub into : (b : ℕ) → test b ≡ true → IsText form (b ∷ [])
  pub from : (text : List ℕ) → IsText form text → (b : ℕ) × (text ≡ b ∷ []) × (test b ≡ true)

pub range_class : (low high : ℕ) → IsClass (byte low high) (λ b. nat_le low b && nat_le b high)
range_class low high = record {
  into = λ b h. let p = both (nat_le low b) (nat_le b high) h in record { value = b; from = leb-true low b p.0; upto = leb-true b high p.1; alone = refl };
  from = λ text h. (h.value, h.alone, and_both (nat_le low h.value) (nat_le h.value high) (le-leb low h.value h.from) (le-leb h.value high h.upto));
}

pub one_class : (c : ℕ) → IsClass (one c) (λ b. b == c)
one_class c = record {
  into = λ b h. subst (λ z. IsText (one c) (z ∷ [])) (grind arith) (one_text c);
  from = λ text h. (c, text_one c text h, grind arith);
}

pub either_class : (one_form other_form : Form) (one_test other_test : ℕ → Bool) → IsClass one_form one_test → IsClass other_form other_test → IsClass (either one_form other_form) (λ b. one_test b || other_test b)
either_class f g p q c d = record {
  into = λ b h. elim (one_of (p b) (q b) h) [ inl i ↦ inl (c.into b i) | inr i ↦ inr (d.into b i) ];
  from = λ text h. elim h [
    | inl i ↦ let r = c.from text i in (r.0, r.1, or_one (p r.0) (q r.0) r.2)
    | inr i ↦ let r = d.from text i in (r.0, r.1, or_other (p r.0) (q r.0) r.2)
  ];
}

many_into : (form : Form) (test : ℕ → Bool) → IsClass form test → (text : List ℕ) → list_all test text ≡ true → IsText (many form) text
many_into form test c [] h = record { parts = []; joined = refl; each = tt }
many_into form test c (b ∷ text) h =
    let p = both (test b) (list_all test text) h in
    let m = many_into form test c text p.1 in
    record { parts = (b ∷ []) ∷ m.parts; joined = ap (λ z. b ∷ z) m.joined; each = (c.into b p.0, m.each) }

parts_from : (form : Form) (test : ℕ → Bool) → IsClass form test → (parts : List (List ℕ)) → AllByRecursion (IsText form) parts → list_all test (concat parts) ≡ true
parts_from form test c [] each = refl
parts_from form test c (p ∷ parts) each =
    let r = c.from p each.0 in
    subst (λ z. list_all test (z ++ concat parts) ≡ true) (sym r.1) (and_both (test r.0) _ r.2 (parts_from form test c parts each.1))

-- a byte of one class, and behind it any number of bytes of the other
pub class_into : (form more : Form) (test rest : ℕ → Bool) → IsClass form test → IsClass more rest → (b : ℕ) (text : List ℕ) → test b ≡ true → list_all rest text ≡ true → IsText (seq form (many more)) (b ∷ text)
class_into form more test rest c d b text h all = record { front = b ∷ []; back = text; joined = refl; first = c.into b h; second = many_into more rest d text all }

pub class_from : (form more : Form) (test rest : ℕ → Bool) → IsClass form test → IsClass more rest → (text : List ℕ) → IsText (seq form (many more)) text → (b : ℕ) × (tail : List ℕ) × (text ≡ b ∷ tail) × (test b ≡ true) × (list_all rest tail ≡ true)
class_from form more test rest c d text h =
    let r = c.from h.front h.first in
    (r.0, h.back, h.joined ∙ ap (λ z. z ++ h.back) r.1, r.2, subst (λ z. list_all rest z ≡ true) (sym h.second.joined) (parts_from more rest d h.second.parts h.second.each))

-- ---- names

letters_class : IsClass letter is_letter
letters_class = either_class (either (byte 97 122) (byte 65 90)) (one 95) _ _ (either_class (byte 97 122) (byte 65 90) _ _ (range_class 97 122) (range_class 65 90)) (one_class 95)

bytes_class : IsClass name_byte is_name_byte
bytes_class = either_class letter (byte 48 57) _ _ letters_class (range_class 48 57)

pub name_into : (text : List ℕ) → is_name text ≡ true → IsText name text
name_into [] h = absurd (false≢true h)
name_into (b ∷ text) h = let p = both (is_name_byte b) (list_all is_name_byte text) h in class_into name_byte name_byte is_name_byte is_name_byte bytes_class bytes_class b text p.0 p.1

pub name_from : (text : List ℕ) → IsText name text → is_name text ≡ true
name_from text h =
    let r = class_from name_byte name_byte is_name_byte is_name_byte bytes_class bytes_class text h in
    subst (λ z. is_name z ≡ true) (sym r.2) (and_both (is_name_byte r.0) _ r.3 r.4)

pub bare_into : (text : List ℕ) → is_bare text ≡ true → IsText bare_name text
bare_into [] h = absurd (false≢true h)
bare_into (b ∷ text) h = let p = both (is_letter b) (list_all is_name_byte text) h in class_into letter name_byte is_letter is_name_byte letters_class bytes_class b text p.0 p.1

pub bare_from : (text : List ℕ) → IsText bare_name text → is_bare text ≡ true
bare_from text h =
    let r = class_from letter name_byte is_letter is_name_byte letters_class bytes_class text h in
    subst (λ z. is_bare z ≡ true) (sym r.2) (and_both (is_letter r.0) _ r.3 r.4)

-- a name, and a byte that closes it
pub closed_into : (c : ℕ) (text : List ℕ) → is_name text ≡ true → IsText (seq name (one c)) (text ++ c ∷ [])
closed_into c text h = record { front = text; back = c ∷ []; joined = refl; first = name_into text h; second = one_text c }

pub closed_from : (c : ℕ) (text : List ℕ) → IsText (seq name (one c)) text → (inside : List ℕ) × (text ≡ inside ++ c ∷ []) × (is_name inside ≡ true)
closed_from c text h = (h.front, h.joined ∙ ap (λ z. h.front ++ z) (text_one c h.back h.second), name_from h.front h.first)

pub quoted_into : (c : ℕ) (text : List ℕ) → is_name text ≡ true → IsText (quoted c) (c ∷ (text ++ c ∷ []))
quoted_into c text h = record { front = c ∷ []; back = text ++ c ∷ []; joined = refl; first = one_text c; second = closed_into c text h }

pub quoted_from : (c : ℕ) (text : List ℕ) → IsText (quoted c) text → (inside : List ℕ) × (text ≡ c ∷ (inside ++ c ∷ [])) × (is_name inside ≡ true)
quoted_from c text h =
    let r = closed_from c h.back h.second in
    (r.0, h.joined ∙ ap (λ z. z ++ h.back) (text_one c h.front h.first) ∙ ap (λ z. c ∷ z) r.1, r.2)

-- ---- letters in any case

lower_is : (small b : ℕ) → is_small small ≡ true → is_char small b ≡ true → ascii_lower b ≡ small
lower_is small b s h = grind (arith, nat_tests)

is_lower : (small b : ℕ) → is_small small ≡ true → ascii_lower b ≡ small → is_char small b ≡ true
is_lower small b s h = grind (arith, nat_tests)

-- the texts of letters are the texts that are these letters in small ones
pub letters_from : (small text : List ℕ) → list_all is_small small ≡ true → IsText (letters small) text → map ascii_lower text ≡ small
letters_from [] text s h = rw h refl
letters_from (c ∷ small) text s h =
    let p = both (is_small c) (list_all is_small small) s in
    let r = text_char c h.front h.first in
    let more = letters_from small h.back p.1 h.second in
    ap (map ascii_lower) (h.joined ∙ ap (λ z. z ++ h.back) r.alone) ∙ (λ i. lower_is c r.value p.0 r.is i ∷ more i)

pub letters_into : (small text : List ℕ) → list_all is_small small ≡ true → map ascii_lower text ≡ small → IsText (letters small) text
letters_into [] [] s h = refl
letters_into [] (b ∷ text) s h = absurd (let f : ⊥ = cc in f)
letters_into (c ∷ small) [] s h = absurd (let f : ⊥ = cc in f)
letters_into (c ∷ small) (b ∷ text) s h =
    let p = both (is_small c) (list_all is_small small) s in
    let first : ascii_lower b ≡ c = cc in
    let more : map ascii_lower text ≡ small = cc in
    record { front = b ∷ []; back = text; joined = refl; first = char_text c b (is_lower c b p.0 first); second = letters_into small text p.1 more }
