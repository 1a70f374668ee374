-- The plain character in front of a text is one, whole, and no mark is one.
use Rattle.std.proofs.Common.{◌≡◌, inl, inr, ℕ, suc, ◌-◌, ◌≤◌, ◌<◌, true, false, ◌&&◌, ◌||◌, nat_eq, nat_le, List, [], ◌∷◌, ◌++◌, length, take, if◌then◌else◌, refl, sym, ap, subst, ◌∙◌, arith}
use Rattle.std.proofs.lemmas.Bool.{false≢true, leb-true, leb-false, le-leb}
use Rattle.std.proofs.lemmas.Bool.Decides.{Decides-eqb}
use Rattle.lk_grammar.specs.Forms.{Form, IsText, byte, seq}
use Rattle.lk_grammar.specs.Words.{letters, is_small}
use Rattle.lk_grammar.specs.Tokens.{IsBegun}
use Rattle.lk_grammar.specs.Literals.{is_ended, IsLiteralReader}
use Rattle.lk_grammar.proofs.FormLaws.{both, and_both, one_of, no_cons}
use Rattle.lk_grammar.proofs.WordLaws.{text_char}
use Rattle.lk_filter_text.specs.Characters.{later, long_character, letter_byte, plain_form, is_in, is_plain_byte, ends_one, ends_two, ends_three, begins_two, begins_three, begins_four, character_length, begins_mark, goes_on}

-- ---- ranges

from_in : (low high b : ℕ) → is_in low high b ≡ true → IsText (byte low high) (b ∷ [])
from_in low high b h =
    let p = both (nat_le low b) (nat_le b high) h in
    record { value = b; from = leb-true low b p.0; upto = leb-true b high p.1; alone = refl }

in_range : (low high b : ℕ) → low ≤ b → b ≤ high → is_in low high b ≡ true
in_range low high b p q = and_both (nat_le low b) (nat_le b high) (le-leb low b p) (le-leb b high q)

above : (low high b : ℕ) → high < b → is_in low high b ≡ false
above low high b h =
    elim (is_in low high b) as (λ e. is_in low high b ≡ e → e ≡ false) [
      | true ↦ λ e. absurd (let upto : b ≤ high = leb-true b high (both (nat_le low b) (nat_le b high) e).1 in omega arith)
      | false ↦ λ _. refl
    ] refl

below : (low high b : ℕ) → b < low → is_in low high b ≡ false
below low high b h =
    elim (is_in low high b) as (λ e. is_in low high b ≡ e → e ≡ false) [
      | true ↦ λ e. absurd (let from : low ≤ b = leb-true low b (both (nat_le low b) (nat_le b high) e).0 in omega arith)
      | false ↦ λ _. refl
    ] refl

-- ---- what is found is a plain character

plain_byte : (b : ℕ) → is_plain_byte b ≡ true → IsText plain_form (b ∷ [])
plain_byte b h =
    elim (one_of (is_in 0 36 b) _ h) [
      | inl p ↦ first (leb-true b 36 (both (nat_le 0 b) (nat_le b 36) p).1)
      | inr q ↦
          elim (one_of (is_in 38 43 b) _ q) [
            | inl p ↦ inr (inr (inl (inr (inr (inl (from_in 38 43 b p))))))
            | inr r ↦
                elim (one_of (is_in 45 93 b) (is_in 95 127 b) r) [
                  | inl p ↦ let s = both (nat_le 45 b) (nat_le b 93) p in third (leb-true 45 b s.0) (leb-true b 93 s.1)
                  | inr p ↦ inr (inr (inl (inr (inr (inr (inr (from_in 95 127 b p)))))))
                ]
          ]
    ]
  where
    first : b ≤ 36 → IsText plain_form (b ∷ [])
    first upto =
        elim (nat_le b 31) as (λ e. nat_le b 31 ≡ e → IsText plain_form (b ∷ [])) [
          | true ↦ λ e. inr (inr (inl (inl (record { value = b; from = omega arith; upto = leb-true b 31 e; alone = refl }))))
          | false ↦ λ e.
              let from : 32 ≤ b = not_below 31 e in
              elim (nat_eq b 32) as (λ e. nat_eq b 32 ≡ e → IsText plain_form (b ∷ [])) [
                | true ↦ λ e. let is : b ≡ 32 = (Decides-eqb b 32).0 e in inl (record { value = b; from = from; upto = omega arith; alone = refl })
                | false ↦ λ e. inr (inr (inl (inr (inl (record { value = b; from = more 32 from e; upto = upto; alone = refl })))))
              ] refl
        ] refl
      where
        not_below : (n : ℕ) → nat_le b n ≡ false → n < b
        not_below n e = leb-false b n e

        more : (n : ℕ) → n ≤ b → nat_eq b n ≡ false → n < b
        more n from e =
            elim (nat_le b n) as (λ l. nat_le b n ≡ l → n < b) [
              | true ↦ λ l. absurd (let upto : b ≤ n = leb-true b n l in let is : b ≡ n = omega arith in false≢true (sym e ∙ (Decides-eqb b n).1 is))
              | false ↦ λ l. leb-false b n l
            ] refl

    third : 45 ≤ b → b ≤ 93 → IsText plain_form (b ∷ [])
    third from upto =
        elim (nat_eq b 45) as (λ e. nat_eq b 45 ≡ e → IsText plain_form (b ∷ [])) [
          | true ↦ λ e. let is : b ≡ 45 = (Decides-eqb b 45).0 e in inr (inl (record { value = b; from = from; upto = omega arith; alone = refl }))
          | false ↦ λ e. inr (inr (inl (inr (inr (inr (inl (record { value = b; from = more e; upto = upto; alone = refl })))))))
        ] refl
      where
        more : nat_eq b 45 ≡ false → 46 ≤ b
        more e =
            elim (nat_le b 45) as (λ l. nat_le b 45 ≡ l → 46 ≤ b) [
              | true ↦ λ l. absurd (let upto : b ≤ 45 = leb-true b 45 l in let is : b ≡ 45 = omega arith in false≢true (sym e ∙ (Decides-eqb b 45).1 is))
              | false ↦ λ l. let over : 45 < b = leb-false b 45 l in omega arith
            ] refl

-- one text behind another
pair : (f g : Form) (x y : List ℕ) → IsText f x → IsText g y → IsText (seq f g) (x ++ y)
pair f g x y p q = record { front = x; back = y; joined = refl; first = p; second = q }

one_end : (low high : ℕ) (text : List ℕ) → ends_one low high text ≡ true → IsText (byte low high) (take 1 text)
one_end low high [] h = absurd (false≢true h)
one_end low high (b ∷ text) h = from_in low high b h

two_ends : (low high : ℕ) (text : List ℕ) → ends_two low high text ≡ true → IsText (seq (byte low high) later) (take 2 text)
two_ends low high [] h = absurd (false≢true h)
two_ends low high (b ∷ text) h =
    let p = both (is_in low high b) (ends_one 128 191 text) h in
    pair (byte low high) later (b ∷ []) (take 1 text) (from_in low high b p.0) (one_end 128 191 text p.1)

three_ends : (low high : ℕ) (text : List ℕ) → ends_three low high text ≡ true → IsText (seq (byte low high) (seq later later)) (take 3 text)
three_ends low high [] h = absurd (false≢true h)
three_ends low high (b ∷ text) h =
    let p = both (is_in low high b) (ends_two 128 191 text) h in
    pair (byte low high) (seq later later) (b ∷ []) (take 2 text) (from_in low high b p.0) (two_ends 128 191 text p.1)

two_text : (b : ℕ) (text : List ℕ) → begins_two b text ≡ true → IsText plain_form (take 2 (b ∷ text))
two_text b text h =
    let p = both (is_in 194 223 b) (ends_one 128 191 text) h in
    inr (inr (inr (inl (pair (byte 194 223) later (b ∷ []) (take 1 text) (from_in 194 223 b p.0) (one_end 128 191 text p.1)))))

three_text : (b : ℕ) (text : List ℕ) → begins_three b text ≡ true → IsText plain_form (take 3 (b ∷ text))
three_text b text h =
    elim (one_of (is_in 224 224 b && ends_two 160 191 text) _ h) [
      | inl s ↦ let p = both (is_in 224 224 b) (ends_two 160 191 text) s in
          inr (inr (inr (inr (inl (pair (byte 224 224) (seq (byte 160 191) later) (b ∷ []) (take 2 text) (from_in 224 224 b p.0) (two_ends 160 191 text p.1))))))
      | inr t ↦ elim (one_of (is_in 225 236 b && ends_two 128 191 text) _ t) [
        | inl s ↦ let p = both (is_in 225 236 b) (ends_two 128 191 text) s in
            inr (inr (inr (inr (inr (inl (pair (byte 225 236) (seq later later) (b ∷ []) (take 2 text) (from_in 225 236 b p.0) (two_ends 128 191 text p.1)))))))
        | inr u ↦ elim (one_of (is_in 237 237 b && ends_two 128 159 text) (is_in 238 239 b && ends_two 128 191 text) u) [
          | inl s ↦ let p = both (is_in 237 237 b) (ends_two 128 159 text) s in
              inr (inr (inr (inr (inr (inr (inl (pair (byte 237 237) (seq (byte 128 159) later) (b ∷ []) (take 2 text) (from_in 237 237 b p.0) (two_ends 128 159 text p.1))))))))
          | inr s ↦ let p = both (is_in 238 239 b) (ends_two 128 191 text) s in
              inr (inr (inr (inr (inr (inr (inr (inl (pair (byte 238 239) (seq later later) (b ∷ []) (take 2 text) (from_in 238 239 b p.0) (two_ends 128 191 text p.1)))))))))
        ]
      ]
    ]

four_text : (b : ℕ) (text : List ℕ) → begins_four b text ≡ true → IsText plain_form (take 4 (b ∷ text))
four_text b text h =
    elim (one_of (is_in 240 240 b && ends_three 144 191 text) _ h) [
      | inl s ↦ let p = both (is_in 240 240 b) (ends_three 144 191 text) s in
          inr (inr (inr (inr (inr (inr (inr (inr (inl (pair (byte 240 240) (seq (byte 144 191) (seq later later)) (b ∷ []) (take 3 text) (from_in 240 240 b p.0) (three_ends 144 191 text p.1))))))))))
      | inr t ↦ elim (one_of (is_in 241 243 b && ends_three 128 191 text) (is_in 244 244 b && ends_three 128 143 text) t) [
        | inl s ↦ let p = both (is_in 241 243 b) (ends_three 128 191 text) s in
            inr (inr (inr (inr (inr (inr (inr (inr (inr (inl (pair (byte 241 243) (seq later (seq later later)) (b ∷ []) (take 3 text) (from_in 241 243 b p.0) (three_ends 128 191 text p.1)))))))))))
        | inr s ↦ let p = both (is_in 244 244 b) (ends_three 128 143 text) s in
            inr (inr (inr (inr (inr (inr (inr (inr (inr (inr (pair (byte 244 244) (seq (byte 128 143) (seq later later)) (b ∷ []) (take 3 text) (from_in 244 244 b p.0) (three_ends 128 143 text p.1)))))))))))
      ]
    ]

character_text : (text : List ℕ) → nat_eq (character_length text) 0 ≡ false → IsText plain_form (take (character_length text) text)
character_text [] h = absurd (false≢true (sym h))
character_text (b ∷ text) h =
    elim (is_plain_byte b) as (λ e. is_plain_byte b ≡ e → nat_eq (if e then 1 else (if begins_two b text then 2 else (if begins_three b text then 3 else (if begins_four b text then 4 else 0)))) 0 ≡ false → IsText plain_form (take (if e then 1 else (if begins_two b text then 2 else (if begins_three b text then 3 else (if begins_four b text then 4 else 0)))) (b ∷ text))) [
      | true ↦ λ e _. plain_byte b e
      | false ↦ λ _ h.
          elim (begins_two b text) as (λ e. begins_two b text ≡ e → nat_eq (if e then 2 else (if begins_three b text then 3 else (if begins_four b text then 4 else 0))) 0 ≡ false → IsText plain_form (take (if e then 2 else (if begins_three b text then 3 else (if begins_four b text then 4 else 0))) (b ∷ text))) [
            | true ↦ λ e _. two_text b text e
            | false ↦ λ _ h.
                elim (begins_three b text) as (λ e. begins_three b text ≡ e → nat_eq (if e then 3 else (if begins_four b text then 4 else 0)) 0 ≡ false → IsText plain_form (take (if e then 3 else (if begins_four b text then 4 else 0)) (b ∷ text))) [
                  | true ↦ λ e _. three_text b text e
                  | false ↦ λ _ h.
                      elim (begins_four b text) as (λ e. begins_four b text ≡ e → nat_eq (if e then 4 else 0) 0 ≡ false → IsText plain_form (take (if e then 4 else 0) (b ∷ text))) [
                        | true ↦ λ e _. four_text b text e
                        | false ↦ λ _ h. absurd (false≢true (sym h))
                      ] refl h
                ] refl h
          ] refl h
    ] refl h

-- ---- a plain character is found whole, whatever comes behind it

-- the byte of a text of one byte
of_byte : (low high : ℕ) (text : List ℕ) → IsText (byte low high) text → (b : ℕ) × (text ≡ b ∷ []) × (low ≤ b) × (b ≤ high)
of_byte low high text h = (h.value, h.alone, h.from, h.upto)

ends_one_text : (low high : ℕ) (text rest : List ℕ) → IsText (byte low high) text → (ends_one low high (text ++ rest) ≡ true) × (length text ≡ 1)
ends_one_text low high text rest h = (subst (λ z. ends_one low high (z ++ rest) ≡ true) (sym h.alone) (in_range low high h.value h.from h.upto), ap length h.alone)

ends_two_text : (low high : ℕ) (text rest : List ℕ) → IsText (seq (byte low high) later) text → (ends_two low high (text ++ rest) ≡ true) × (length text ≡ 2)
ends_two_text low high text rest h =
    let b = h.first in
    let whole : text ≡ b.value ∷ h.back = h.joined ∙ ap (λ z. z ++ h.back) b.alone in
    let tail = ends_one_text 128 191 h.back rest h.second in
    (subst (λ z. ends_two low high (z ++ rest) ≡ true) (sym whole) (and_both (is_in low high b.value) (ends_one 128 191 (h.back ++ rest)) (in_range low high b.value b.from b.upto) tail.0), ap length whole ∙ ap suc tail.1)

ends_three_text : (low high : ℕ) (text rest : List ℕ) → IsText (seq (byte low high) (seq later later)) text → (ends_three low high (text ++ rest) ≡ true) × (length text ≡ 3)
ends_three_text low high text rest h =
    let b = h.first in
    let whole : text ≡ b.value ∷ h.back = h.joined ∙ ap (λ z. z ++ h.back) b.alone in
    let tail = ends_two_text 128 191 h.back rest h.second in
    (subst (λ z. ends_three low high (z ++ rest) ≡ true) (sym whole) (and_both (is_in low high b.value) (ends_two 128 191 (h.back ++ rest)) (in_range low high b.value b.from b.upto) tail.0), ap length whole ∙ ap suc tail.1)

no_plain : (b : ℕ) → 128 ≤ b → is_plain_byte b ≡ false
no_plain b h = rw (above 0 36 b (omega arith), above 38 43 b (omega arith), above 45 93 b (omega arith), above 95 127 b (omega arith)) refl

no_two : (b : ℕ) (text : List ℕ) → 224 ≤ b → begins_two b text ≡ false
no_two b text h = rw (above 194 223 b (omega arith)) refl

no_three : (b : ℕ) (text : List ℕ) → 240 ≤ b → begins_three b text ≡ false
no_three b text h = rw (above 224 224 b (omega arith), above 225 236 b (omega arith), above 237 237 b (omega arith), above 238 239 b (omega arith)) refl

-- a first byte and what is behind it
abbrev Found : List ℕ → List ℕ → Type 0
Found text rest = character_length (text ++ rest) ≡ length text

one_found : (low high : ℕ) (text rest : List ℕ) → ((b : ℕ) → low ≤ b → b ≤ high → is_plain_byte b ≡ true) → IsText (byte low high) text → Found text rest
one_found low high text rest plain h = subst (λ z. Found z rest) (sym h.alone) (rw (plain h.value h.from h.upto) refl)

two_found : (text rest : List ℕ) → IsText (seq (byte 194 223) later) text → Found text rest
two_found text rest h =
    let b = h.first in
    let tail = ends_one_text 128 191 h.back rest h.second in
    let low : 194 ≤ b.value = b.from in
    let first = no_plain b.value (omega arith) in
    let two : begins_two b.value (h.back ++ rest) ≡ true = and_both (is_in 194 223 b.value) (ends_one 128 191 (h.back ++ rest)) (in_range 194 223 b.value b.from b.upto) tail.0 in
    subst (λ z. Found z rest) (sym (h.joined ∙ ap (λ z. z ++ h.back) b.alone)) (rw (first, two, tail.1) refl)

three_found : (low high from upto : ℕ) (text rest : List ℕ) → 224 ≤ low → ((b : ℕ) (t : List ℕ) → low ≤ b → b ≤ high → ends_two from upto t ≡ true → begins_three b t ≡ true) → IsText (seq (byte low high) (seq (byte from upto) later)) text → Found text rest
three_found low high from upto text rest least three h =
    let b = h.first in
    let tail = ends_two_text from upto h.back rest h.second in
    let start : low ≤ b.value = b.from in
    let first = no_plain b.value (omega arith) in
    let second = no_two b.value (h.back ++ rest) (omega arith) in
    let third = three b.value (h.back ++ rest) b.from b.upto tail.0 in
    subst (λ z. Found z rest) (sym (h.joined ∙ ap (λ z. z ++ h.back) b.alone)) (rw (first, second, third, tail.1) refl)

four_found : (low high from upto : ℕ) (text rest : List ℕ) → 240 ≤ low → ((b : ℕ) (t : List ℕ) → low ≤ b → b ≤ high → ends_three from upto t ≡ true → begins_four b t ≡ true) → IsText (seq (byte low high) (seq (byte from upto) (seq later later))) text → Found text rest
four_found low high from upto text rest least four h =
    let b = h.first in
    let tail = ends_three_text from upto h.back rest h.second in
    let start : low ≤ b.value = b.from in
    let first = no_plain b.value (omega arith) in
    let second = no_two b.value (h.back ++ rest) (omega arith) in
    let third = no_three b.value (h.back ++ rest) (omega arith) in
    let fourth = four b.value (h.back ++ rest) b.from b.upto tail.0 in
    subst (λ z. Found z rest) (sym (h.joined ∙ ap (λ z. z ++ h.back) b.alone)) (rw (first, second, third, fourth, tail.1) refl)

plain_0 : (b : ℕ) → 0 ≤ b → b ≤ 36 → is_plain_byte b ≡ true
plain_0 b p q = rw (in_range 0 36 b p q) refl

plain_38 : (b : ℕ) → 38 ≤ b → b ≤ 43 → is_plain_byte b ≡ true
plain_38 b p q = rw (above 0 36 b (omega arith), in_range 38 43 b p q) refl

plain_45 : (b : ℕ) → 45 ≤ b → b ≤ 93 → is_plain_byte b ≡ true
plain_45 b p q = rw (above 0 36 b (omega arith), above 38 43 b (omega arith), in_range 45 93 b p q) refl

plain_95 : (b : ℕ) → 95 ≤ b → b ≤ 127 → is_plain_byte b ≡ true
plain_95 b p q = rw (above 0 36 b (omega arith), above 38 43 b (omega arith), above 45 93 b (omega arith), in_range 95 127 b p q) refl

long_found : (text rest : List ℕ) → IsText long_character text → Found text rest
long_found text rest (inl h) = two_found text rest h
long_found text rest (inr (inl h)) = three_found 224 224 160 191 text rest (omega arith) (λ b t p q e. rw (in_range 224 224 b p q, e) refl) h
long_found text rest (inr (inr (inl h))) = three_found 225 236 128 191 text rest (omega arith) (λ b t p q e. rw (above 224 224 b (omega arith), in_range 225 236 b p q, e) refl) h
long_found text rest (inr (inr (inr (inl h)))) = three_found 237 237 128 159 text rest (omega arith) (λ b t p q e. rw (above 224 224 b (omega arith), above 225 236 b (omega arith), in_range 237 237 b p q, e) refl) h
long_found text rest (inr (inr (inr (inr (inl h))))) = three_found 238 239 128 191 text rest (omega arith) (λ b t p q e. rw (above 224 224 b (omega arith), above 225 236 b (omega arith), above 237 237 b (omega arith), in_range 238 239 b p q, e) refl) h
long_found text rest (inr (inr (inr (inr (inr (inl h)))))) = four_found 240 240 144 191 text rest (omega arith) (λ b t p q e. rw (in_range 240 240 b p q, e) refl) h
long_found text rest (inr (inr (inr (inr (inr (inr (inl h))))))) = four_found 241 243 128 191 text rest (omega arith) (λ b t p q e. rw (above 240 240 b (omega arith), in_range 241 243 b p q, e) refl) h
long_found text rest (inr (inr (inr (inr (inr (inr (inr h))))))) = four_found 244 244 128 143 text rest (omega arith) (λ b t p q e. rw (above 240 240 b (omega arith), above 241 243 b (omega arith), in_range 244 244 b p q, e) refl) h

byte_found : (text rest : List ℕ) → IsText letter_byte text → Found text rest
byte_found text rest (inl h) = one_found 0 31 text rest (λ b p q. plain_0 b p (omega (arith, q))) h
byte_found text rest (inr (inl h)) = one_found 33 36 text rest (λ b p q. plain_0 b (omega arith) q) h
byte_found text rest (inr (inr (inl h))) = one_found 38 43 text rest plain_38 h
byte_found text rest (inr (inr (inr (inl h)))) = one_found 46 93 text rest (λ b p q. plain_45 b (omega (arith, p)) q) h
byte_found text rest (inr (inr (inr (inr h)))) = one_found 95 127 text rest plain_95 h

character_found : (text rest : List ℕ) → IsText plain_form text → is_ended goes_on rest ≡ true → Found text rest
character_found text rest (inl h) ended = one_found 32 32 text rest (λ b p q. plain_0 b (omega arith) (omega (arith, q))) h
character_found text rest (inr (inl h)) ended = one_found 45 45 text rest (λ b p q. plain_45 b p (omega (arith, q))) h
character_found text rest (inr (inr (inl h))) ended = byte_found text rest h
character_found text rest (inr (inr (inr h))) ended = long_found text rest h

-- a text whose found length is its own is not empty
begun : (text : List ℕ) → IsText plain_form text → IsBegun [] text
begun [] h = absurd (empty_none h)
  where
    no_byte : (low high : ℕ) → IsText (byte low high) [] → ⊥
    no_byte low high h = let e : [] ≡ h.value ∷ [] = h.alone in no_cons e

    no_seq : (low high : ℕ) (f : Form) → IsText (seq (byte low high) f) [] → ⊥
    no_seq low high f h = let e : [] ≡ h.first.value ∷ h.back = h.joined ∙ ap (λ z. z ++ h.back) h.first.alone in no_cons e

    empty_none : IsText plain_form [] → ⊥
    empty_none (inl h) = no_byte 32 32 h
    empty_none (inr (inl h)) = no_byte 45 45 h
    empty_none (inr (inr (inl (inl h)))) = no_byte 0 31 h
    empty_none (inr (inr (inl (inr (inl h))))) = no_byte 33 36 h
    empty_none (inr (inr (inl (inr (inr (inl h)))))) = no_byte 38 43 h
    empty_none (inr (inr (inl (inr (inr (inr (inl h))))))) = no_byte 46 93 h
    empty_none (inr (inr (inl (inr (inr (inr (inr h))))))) = no_byte 95 127 h
    empty_none (inr (inr (inr (inl h)))) = no_seq 194 223 later h
    empty_none (inr (inr (inr (inr (inl h))))) = no_seq 224 224 (seq (byte 160 191) later) h
    empty_none (inr (inr (inr (inr (inr (inl h)))))) = no_seq 225 236 (seq later later) h
    empty_none (inr (inr (inr (inr (inr (inr (inl h))))))) = no_seq 237 237 (seq (byte 128 159) later) h
    empty_none (inr (inr (inr (inr (inr (inr (inr (inl h)))))))) = no_seq 238 239 (seq later later) h
    empty_none (inr (inr (inr (inr (inr (inr (inr (inr (inl h))))))))) = no_seq 240 240 (seq (byte 144 191) (seq later later)) h
    empty_none (inr (inr (inr (inr (inr (inr (inr (inr (inr (inl h)))))))))) = no_seq 241 243 (seq later (seq later later)) h
    empty_none (inr (inr (inr (inr (inr (inr (inr (inr (inr (inr h)))))))))) = no_seq 244 244 (seq (byte 128 143) (seq later later)) h
begun (b ∷ text) h = record { head = b; tail = text; is = refl; no_space = refl }

-- ---- marks

at_mark : (n letter v : ℕ) (text : List ℕ) → is_small n ≡ false → character_length (n ∷ text) ≡ 0 → letter ≡ n → (nat_eq v letter || (is_small letter && nat_eq v (letter - 32))) ≡ true → character_length (v ∷ text) ≡ 0
at_mark n letter v text small none is e =
    let turned : (nat_eq v n || (is_small n && nat_eq v (n - 32))) ≡ true = subst (λ z. (nat_eq v z || (is_small z && nat_eq v (z - 32))) ≡ true) is e in
    let same : v ≡ n = elim (one_of (nat_eq v n) (is_small n && nat_eq v (n - 32)) turned) [
      | inl p ↦ (Decides-eqb v n).0 p
      | inr q ↦ absurd (false≢true (sym small ∙ (both (is_small n) (nat_eq v (n - 32)) q).0))
    ] in
    subst (λ z. character_length (z ∷ text) ≡ 0) (sym same) none

clear : (small front rest : List ℕ) → begins_mark small ≡ true → IsText (letters small) front → character_length (front ++ rest) ≡ 0
clear [] front rest mark h = absurd (false≢true mark)
clear (letter ∷ small) front rest mark h =
    let c = text_char letter h.front h.first in
    let whole : front ≡ c.value ∷ h.back = h.joined ∙ ap (λ z. z ++ h.back) c.alone in
    subst (λ z. character_length (z ++ rest) ≡ 0) (sym whole)
    (elim (one_of (nat_eq letter 37) _ mark) [
      | inl p ↦ at_mark 37 letter c.value (h.back ++ rest) refl refl ((Decides-eqb letter 37).0 p) c.is
      | inr q ↦ elim (one_of (nat_eq letter 44) (nat_eq letter 94) q) [
        | inl p ↦ at_mark 44 letter c.value (h.back ++ rest) refl refl ((Decides-eqb letter 44).0 p) c.is
        | inr p ↦ at_mark 94 letter c.value (h.back ++ rest) refl refl ((Decides-eqb letter 94).0 p) c.is
      ]
    ])

pub character_reader : IsLiteralReader [] plain_form goes_on begins_mark character_length
character_reader = record { before = character_text; found = character_found; begun = begun; clear = clear }
