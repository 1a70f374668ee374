-- Words: a table's word is read where it is spelled, and is spelled where it is read.
use Rattle.std.proofs.Common.{◌≡◌, ◌⊎◌, inl, inr, ℕ, ◌-◌, ◌≤◌, Bool, true, false, not, ◌&&◌, ◌||◌, nat_eq, nat_le, List, [], ◌∷◌, ◌++◌, Some, None, option_map, if◌then◌else◌, refl, sym, ap, subst, ◌∙◌, append_assoc, arith}
use Rattle.std.specs.Option.{option_or}
use Rattle.std.specs.List.{concat, AllByRecursion}
use Rattle.std.proofs.lemmas.Bool.{false≢true, leb-true}
use Rattle.std.proofs.lemmas.Bool.Decides.{Decides-eqb}
use Rattle.std.proofs.lemmas.Option.{some_pair_parts}
use Rattle.lk_grammar.specs.Forms.{IsText, IsJoined, either}
use Rattle.lk_grammar.specs.Words.{one, any_of, is_white, each_alone, is_small, char, letters, spaces, is_char, after_letters, first_word, do_differ, is_apart, IsFirst, is_word, letter_starts, starts, is_next_word, IsClearWord, word_form}
use Rattle.lk_grammar.specs.Tokens.{tokens_form, IsBegun, IsLexer}
use Rattle.lk_grammar.proofs.TokenLaws.{any_text}
use Rattle.lk_grammar.proofs.FormLaws.{both, and_both, one_of, or_one, or_other}

-- no byte up to the digits is a small letter
pub no_small : (b : ℕ) → b ≤ 57 → is_small b ≡ false
no_small b h =
    elim (nat_le 97 b) as (λ e. nat_le 97 b ≡ e → (e && nat_le b 122) ≡ false) [
      | true ↦ λ e. absurd (let from : 97 ≤ b = leb-true 97 b e in omega arith)
      | false ↦ λ _. refl
    ] refl

-- a text that begins with a space
pub record IsWhiteHead (white text : List ℕ) : Type 0 where
  pub head : ℕ
  pub tail : List ℕ
  pub is : text ≡ head ∷ tail
  pub space : is_white white head ≡ true

-- one byte that is the letter, in any case
pub record IsCharText (letter : ℕ) (text : List ℕ) : Type 0 where
  pub value : ℕ
  pub alone : text ≡ value ∷ []
  pub is : is_char letter value ≡ true

same : (a b : ℕ) → nat_eq a b ≡ true → a ≡ b
same a b h = (Decides-eqb a b).0 h

itself : (a : ℕ) → nat_eq a a ≡ true
itself a = (Decides-eqb a a).1 refl

pub one_text : (b : ℕ) → IsText (one b) (b ∷ [])
one_text b = record { value = b; from = omega arith; upto = omega arith; alone = refl }

pub text_one : (b : ℕ) (text : List ℕ) → IsText (one b) text → text ≡ b ∷ []
text_one b text h =
    let low : b ≤ h.value = h.from in
    let high : h.value ≤ b = h.upto in
    let e : h.value ≡ b = omega arith in
    h.alone ∙ ap (λ v. v ∷ []) e

pub char_text : (letter b : ℕ) → is_char letter b ≡ true → IsText (char letter) (b ∷ [])
char_text letter b h =
    elim (is_small letter) as (λ s. (nat_eq b letter || (s && nat_eq b (letter - 32))) ≡ true → IsText (if s then either (one letter) (one (letter - 32)) else one letter) (b ∷ [])) [
      | true ↦ λ h.
          elim (one_of (nat_eq b letter) (nat_eq b (letter - 32)) h) [
            | inl p ↦ inl (subst (λ z. IsText (one z) (b ∷ [])) (same b letter p) (one_text b))
            | inr q ↦ inr (subst (λ z. IsText (one z) (b ∷ [])) (same b (letter - 32) q) (one_text b))
          ]
      | false ↦ λ h.
          elim (one_of (nat_eq b letter) false h) [
            | inl p ↦ subst (λ z. IsText (one z) (b ∷ [])) (same b letter p) (one_text b)
            | inr q ↦ absurd (false≢true q)
          ]
    ] h

pub text_char : (letter : ℕ) (text : List ℕ) → IsText (char letter) text → IsCharText letter text
text_char letter text h =
    elim (is_small letter) as (λ s. is_small letter ≡ s → IsText (if s then either (one letter) (one (letter - 32)) else one letter) text → IsCharText letter text) [
      | true ↦ λ small h.
          elim h [
            | inl p ↦ record { value = letter; alone = text_one letter text p; is = or_one _ _ (itself letter) }
            | inr q ↦ record { value = letter - 32; alone = text_one (letter - 32) text q; is = or_other _ _ (and_both (is_small letter) _ small (itself (letter - 32))) }
          ]
      | false ↦ λ _ h. record { value = letter; alone = text_one letter text h; is = or_one _ _ (itself letter) }
    ] refl h

-- what is behind spelled letters is found
after_spelled : (small front rest : List ℕ) → IsText (letters small) front → after_letters small (front ++ rest) ≡ Some rest
after_spelled [] front rest h = rw h refl
after_spelled (letter ∷ small) front rest h =
    let c = text_char letter h.front h.first in
    let whole : (c.value ∷ h.back) ++ rest ≡ front ++ rest = ap (λ z. z ++ rest) (sym (h.joined ∙ ap (λ z. z ++ h.back) c.alone)) in
    let tail = after_spelled small h.back rest h.second in
    subst (λ z. after_letters (letter ∷ small) z ≡ Some rest) whole
    (subst (λ b. (if b then after_letters small (h.back ++ rest) else None) ≡ Some rest) (sym c.is) tail)

-- and what is found is behind spelled letters
after_before : (small text rest : List ℕ) → after_letters small text ≡ Some rest → IsJoined (IsText (letters small)) (λ back. back ≡ rest) text
after_before [] text rest e = record { front = []; back = text; joined = refl; first = refl; second = cc }
after_before (letter ∷ small) [] rest e = absurd (let f : ⊥ = cc in f)
after_before (letter ∷ small) (b ∷ text) rest e =
    elim (is_char letter b) as (λ c. is_char letter b ≡ c → (if c then after_letters small text else None) ≡ Some rest → IsJoined (IsText (letters (letter ∷ small))) (λ back. back ≡ rest) (b ∷ text)) [
      | true ↦ λ c e.
          let t = after_before small text rest e in
          record {
            front = b ∷ t.front;
            back = t.back;
            joined = ap (λ z. b ∷ z) t.joined;
            first = record { front = b ∷ []; back = t.front; joined = refl; first = char_text letter b c; second = t.first };
            second = t.second;
          }
      | false ↦ λ _ e. absurd (let f : ⊥ = cc in f)
    ] refl e

flipped : (x : Bool) → not x ≡ true → x ≡ false
flipped true h = absurd (false≢true h)
flipped false h = refl

-- no byte is both of two letters that differ
pub small_from : (a : ℕ) → is_small a ≡ true → 97 ≤ a
small_from a h = leb-true 97 a (both (nat_le 97 a) (nat_le a 122) h).0

pub small_upto : (a : ℕ) → is_small a ≡ true → a ≤ 122
small_upto a h = leb-true a 122 (both (nat_le 97 a) (nat_le a 122) h).1

-- a byte that is both of two letters: they do not differ
is_both : (a b x : ℕ) → is_char a x ≡ true → is_char b x ≡ true → (nat_eq a b || (is_small a && nat_eq b (a - 32)) || (is_small b && nat_eq a (b - 32))) ≡ true
is_both a b x p q =
    elim (one_of (nat_eq x a) (is_small a && nat_eq x (a - 32)) p) [
      | inl i ↦
          let e : x ≡ a = same x a i in
          elim (one_of (nat_eq x b) (is_small b && nat_eq x (b - 32)) q) [
            | inl j ↦
                let f : x ≡ b = same x b j in
                or_one _ _ (or_one (nat_eq a b) _ ((Decides-eqb a b).1 (omega arith)))
            | inr j ↦
                let k = both (is_small b) (nat_eq x (b - 32)) j in
                let f : x ≡ b - 32 = same x (b - 32) k.1 in
                or_other _ (is_small b && nat_eq a (b - 32)) (and_both (is_small b) (nat_eq a (b - 32)) k.0 ((Decides-eqb a (b - 32)).1 (omega arith)))
          ]
      | inr i ↦
          let l = both (is_small a) (nat_eq x (a - 32)) i in
          let e : x ≡ a - 32 = same x (a - 32) l.1 in
          elim (one_of (nat_eq x b) (is_small b && nat_eq x (b - 32)) q) [
            | inl j ↦
                let f : x ≡ b = same x b j in
                or_one _ _ (or_other (nat_eq a b) (is_small a && nat_eq b (a - 32)) (and_both (is_small a) (nat_eq b (a - 32)) l.0 ((Decides-eqb b (a - 32)).1 (omega arith))))
            | inr j ↦
                let k = both (is_small b) (nat_eq x (b - 32)) j in
                let f : x ≡ b - 32 = same x (b - 32) k.1 in
                let from : 97 ≤ a = small_from a l.0 in
                let from' : 97 ≤ b = small_from b k.0 in
                or_one _ _ (or_one (nat_eq a b) _ ((Decides-eqb a b).1 (omega arith)))
          ]
    ]

not_both : (a b x : ℕ) → do_differ a b ≡ true → is_char b x ≡ true → is_char a x ≡ false
not_both a b x d h =
    elim (is_char a x) as (λ i. is_char a x ≡ i → i ≡ false) [
      | true ↦ λ i. absurd (false≢true (sym (flipped _ d) ∙ is_both a b x i h))
      | false ↦ λ _. refl
    ] refl

-- letters that are apart are not found
after_apart : (other small front rest : List ℕ) → is_apart other small rest ≡ true → IsText (letters small) front → after_letters other (front ++ rest) ≡ None
after_apart [] small front rest d h = absurd (false≢true d)
after_apart (a ∷ other) [] front [] d h = rw h refl
after_apart (a ∷ other) [] front (b ∷ rest) d h = rw (h, flipped (is_char a b) d) refl
after_apart (a ∷ other) (letter ∷ small) front rest d h =
    let c = text_char letter h.front h.first in
    let whole : (c.value ∷ h.back) ++ rest ≡ front ++ rest = ap (λ z. z ++ rest) (sym (h.joined ∙ ap (λ z. z ++ h.back) c.alone)) in
    let none : (if is_char a c.value then after_letters other (h.back ++ rest) else None) ≡ None =
    elim (one_of (do_differ a letter) (is_apart other small rest) d) [
      | inl p ↦ rw (not_both a letter c.value p c.is) refl
      | inr q ↦ elim (is_char a c.value) as (λ i. (if i then after_letters other (h.back ++ rest) else None) ≡ None) [
        | true ↦ after_apart other small h.back rest q h.second
        | false ↦ refl
      ]
    ] in
    subst (λ z. after_letters (a ∷ other) z ≡ None) whole none

parts_head : (white : List ℕ) (parts : List (List ℕ)) → AllByRecursion (IsText (any_of white)) parts → (concat parts ≡ []) ⊎ IsWhiteHead white (concat parts)
parts_head white [] each = inl refl
parts_head white (p ∷ parts) each =
    let a = any_text white p each.0 in
    inr (record { head = a.value; tail = concat parts; is = ap (λ z. z ++ concat parts) a.alone; space = a.is })

-- spaces are none or begin with one
pub spaces_head : (white text : List ℕ) → IsText (spaces white) text → (text ≡ []) ⊎ IsWhiteHead white text
spaces_head white text h =
    elim (parts_head white h.parts h.each) [
      | inl e ↦ inl (h.joined ∙ e)
      | inr q ↦ inr (record { head = q.head; tail = q.tail; is = h.joined ∙ q.is; space = q.space })
    ]

-- what holds of each byte alone holds of each of them
pub white_head : (P : List ℕ → Type 0) (white : List ℕ) (b : ℕ) → AllByRecursion P (each_alone white) → is_white white b ≡ true → P (b ∷ [])
white_head P [] b each h = absurd (false≢true h)
white_head P (w ∷ white) b each h =
    elim (one_of (nat_eq b w) (is_white white b) h) [
      | inl p ↦ subst (λ z. P (z ∷ [])) (sym (same b w p)) each.0
      | inr q ↦ white_head P white b each.1 q
    ]

pub front_of : (P : List ℕ → Type 0) (xs ys : List (List ℕ)) → AllByRecursion P (xs ++ ys) → AllByRecursion P xs
front_of P [] ys h = tt
front_of P (x ∷ xs) ys h = (h.0, front_of P xs ys h.1)

pub back_of : (P : List ℕ → Type 0) (xs ys : List (List ℕ)) → AllByRecursion P (xs ++ ys) → AllByRecursion P ys
back_of P [] ys h = h
back_of P (x ∷ xs) ys h = back_of P xs ys h.1

letter_head : (P : List ℕ → Type 0) (letter b : ℕ) → is_char letter b ≡ true → P (letter ∷ []) → AllByRecursion P (if is_small letter then ((letter - 32) ∷ []) ∷ [] else []) → P (b ∷ [])
letter_head P letter b c p =
    elim (is_small letter) as (λ s. (nat_eq b letter || (s && nat_eq b (letter - 32))) ≡ true → AllByRecursion P (if s then ((letter - 32) ∷ []) ∷ [] else []) → P (b ∷ [])) [
      | true ↦ λ c q.
          elim (one_of (nat_eq b letter) (nat_eq b (letter - 32)) c) [
            | inl i ↦ subst (λ z. P (z ∷ [])) (sym (same b letter i)) p
            | inr i ↦ subst (λ z. P (z ∷ [])) (sym (same b (letter - 32) i)) q.0
          ]
      | false ↦ λ c q.
          elim (one_of (nat_eq b letter) false c) [
            | inl i ↦ subst (λ z. P (z ∷ [])) (sym (same b letter i)) p
            | inr i ↦ absurd (false≢true i)
          ]
    ] c

-- spelled letters begin with one of their starts
pub letters_head : (P : List ℕ → Type 0) (white small front : List ℕ) → is_word white small ≡ true → AllByRecursion P (letter_starts small) → IsText (letters small) front → (b : ℕ) × ((tail : List ℕ) × ((front ≡ b ∷ tail) × P (b ∷ [])))
letters_head P white [] front w f h = absurd (false≢true w)
letters_head P white (letter ∷ small) front w f h =
    let c = text_char letter h.front h.first in
    (c.value, (h.back, (h.joined ∙ ap (λ z. z ++ h.back) c.alone, letter_head P letter c.value c.is f.0 f.1)))

-- and with no space
pub letters_begun : (white small front : List ℕ) → is_word white small ≡ true → IsText (letters small) front → IsBegun white front
letters_begun white [] front w h = absurd (false≢true w)
letters_begun white (letter ∷ small) front w h =
    let c = text_char letter h.front h.first in
    let n = both (not (is_white white letter)) (not (is_small letter && is_white white (letter - 32))) w in
    let no_space : is_white white c.value ≡ false =
    elim (one_of (nat_eq c.value letter) (is_small letter && nat_eq c.value (letter - 32)) c.is) [
      | inl p ↦ subst (λ z. is_white white z ≡ false) (sym (same c.value letter p)) (flipped (is_white white letter) n.0)
      | inr q ↦
          let k = both (is_small letter) (nat_eq c.value (letter - 32)) q in
          let no_capital = subst (λ b. (b && is_white white (letter - 32)) ≡ false) k.0 (flipped (is_small letter && is_white white (letter - 32)) n.1) in
          subst (λ z. is_white white z ≡ false) (sym (same c.value (letter - 32) k.1)) no_capital
    ] in
    record { head = c.value; tail = h.back; is = h.joined ∙ ap (λ z. z ++ h.back) c.alone; no_space = no_space }

apart_by_head : (other small : List ℕ) (b : ℕ) (rest : List ℕ) → is_apart other small (b ∷ []) ≡ is_apart other small (b ∷ rest)
apart_by_head [] small b rest = refl
apart_by_head (a ∷ other) [] b rest = refl
apart_by_head (a ∷ other) (letter ∷ small) b rest = ap (λ z. do_differ a letter || z) (apart_by_head other small b rest)

module _ {W : Type 0} (letters_of : W → List ℕ) where
  -- the first word is found where it is spelled
  pub first_spelled : (table : List W) (word : W) (front rest : List ℕ) → IsFirst letters_of table word rest → IsText (word_form letters_of word) front → first_word letters_of table (front ++ rest) ≡ Some (word, rest)
  first_spelled [] word front rest f h = absurd f
  first_spelled (w ∷ ws) word front rest f h =
      elim f [
        | inl e ↦
            let found = after_spelled (letters_of word) front rest h in
            subst (λ v. option_or (option_map (λ r. (v, r)) (after_letters (letters_of v) (front ++ rest))) (first_word letters_of ws (front ++ rest)) ≡ Some (word, rest)) e (rw found refl)
        | inr q ↦ rw (after_apart (letters_of w) (letters_of word) front rest q.0 h) (first_spelled ws word front rest q.1 h)
      ]

  -- what is found first is spelled
  pub first_before : (table : List W) (text rest : List ℕ) (word : W) → first_word letters_of table text ≡ Some (word, rest) → IsJoined (IsText (word_form letters_of word)) (λ back. back ≡ rest) text
  first_before [] text rest word e = absurd (let f : ⊥ = cc in f)
  first_before (w ∷ ws) text rest word e =
      elim (after_letters (letters_of w) text) as (λ o. after_letters (letters_of w) text ≡ o → option_or (option_map (λ r. (w, r)) o) (first_word letters_of ws text) ≡ Some (word, rest) → IsJoined (IsText (word_form letters_of word)) (λ back. back ≡ rest) text) [
        | None ↦ λ _ e. first_before ws text rest word e
        | Some r ↦ λ found e.
            let parts = some_pair_parts w word r rest e in
            let h = after_before (letters_of w) text r found in
            subst (λ v. IsJoined (IsText (word_form letters_of v)) (λ back. back ≡ rest) text) parts.0
            (record { front = h.front; back = h.back; joined = h.joined; first = h.first; second = h.second ∙ parts.1 })
      ] refl e

  -- a word that is first before a byte is first before a text that begins with it
  pub by_head : (table : List W) (word : W) (b : ℕ) (rest : List ℕ) → IsFirst letters_of table word (b ∷ []) → IsFirst letters_of table word (b ∷ rest)
  by_head [] word b rest f = f
  by_head (w ∷ ws) word b rest f =
      elim f [ inl e ↦ inl e | inr q ↦ inr (subst (λ i. i ≡ true) (apart_by_head (letters_of w) (letters_of word) b rest) q.0, by_head ws word b rest q.1) ]

  module _ (white : List ℕ) (table : List W) where
    -- a word that is first before each start of the next words is first before them
    first_at : (word : W) (words : List W) (rest : List ℕ) → is_next_word white letters_of words ≡ true → AllByRecursion (IsFirst letters_of table word) (starts white letters_of words) → IsText (tokens_form white (word_form letters_of) words) rest → IsFirst letters_of table word rest
    first_at word [] rest next f h =
        elim (spaces_head white rest h) [
          | inl e ↦ subst (IsFirst letters_of table word) (sym e) f.0
          | inr q ↦ subst (IsFirst letters_of table word) (sym q.is) (by_head table word q.head q.tail (white_head (IsFirst letters_of table word) white q.head f.1 q.space))
        ]
    first_at word (u ∷ us) rest next f h =
        let first = h.first in
        let whole : first.front ++ (first.back ++ h.back) ≡ rest = sym (h.joined ∙ ap (λ z. z ++ h.back) first.joined ∙ append_assoc first.front first.back h.back) in
        elim (spaces_head white first.front first.first) [
          | inl e ↦
              let l = letters_head (IsFirst letters_of table word) white (letters_of u) first.back next (front_of _ (letter_starts (letters_of u)) (each_alone white) f) first.second in
              let begins : l.0 ∷ (l.1.0 ++ h.back) ≡ rest = ap (λ z. z ++ h.back) (sym l.1.1.0) ∙ ap (λ z. z ++ (first.back ++ h.back)) (sym e) ∙ whole in
              subst (IsFirst letters_of table word) begins (by_head table word l.0 (l.1.0 ++ h.back) l.1.1.1)
          | inr q ↦
              let begins : q.head ∷ (q.tail ++ (first.back ++ h.back)) ≡ rest = ap (λ z. z ++ (first.back ++ h.back)) (sym q.is) ∙ whole in
              subst (IsFirst letters_of table word) begins (by_head table word q.head (q.tail ++ (first.back ++ h.back)) (white_head (IsFirst letters_of table word) white q.head (back_of _ (letter_starts (letters_of u)) (each_alone white) f) q.space))
        ]

    -- the words of a table are a lexer's tokens
    pub table_lexes : IsLexer white (word_form letters_of) (IsClearWord white letters_of table) (first_word letters_of table)
    table_lexes = record {
      before = λ text rest word e. first_before table text rest word e;
      found = λ word words front rest clear h r. first_spelled table word front rest (first_at word words rest clear.is_next clear.first r) h;
      begun = λ word words front clear h. letters_begun white (letters_of word) front clear.is_one h;
    }
