-- Texts in UTF-8 are whole characters by the table.
use Rattle.std.proofs.Common.{◌≡◌, ℕ, Bool, true, false, ◌&&◌, ◌==◌, nat_lt, nat_le, ◌+◌, ◌/◌, ◌%◌, ◌<◌, ◌≤◌, List, [], ◌∷◌, ◌++◌, ◌⊎◌, inl, inr, Some, refl, ap, ◌∙◌, subst, arith}
use Rattle.std.proofs.lemmas.Bool.{cases_lt}
use Rattle.std.proofs.lemmas.Bool.Decides.{nat_tests}
use Rattle.std.proofs.lemmas.Str.{IsUtf8-from_is_utf8, encode_ascii}
use Rattle.std.specs.Str.{is_utf8}
use lib.Utf8.{scalar, scalars, encode, encodes, scalar_cases}
use Rattle.lk_utf8.specs.declared.utf8.Utf8.{Utf8}
use Rattle.lk_utf8.specs.declared.utf8.Utf8.TheVariants as utf
use Rattle.lk_utf8.specs.Utf8.{completes, is_text, owed, begun}
use Rattle.lk_utf8.proofs.CompletionLaws.{front_goes_on, small_begins}
use Rattle.lk_utf8.proofs.Encodings.{Within, encode_two, encode_three, encode_four}

-- ---- a character's first byte, and the bytes behind it

begun_one : (a : ℕ) → 194 ≤ a → a ≤ 223 → begun a ≡ Some utf.One
begun_one a low high =
    let t1 : nat_lt a 128 ≡ false = grind (arith, nat_tests) in
    let t2 : (nat_le 194 a && nat_le a 223) ≡ true = grind (arith, nat_tests) in
    rw (t1, t2) refl

begun_two : (a : ℕ) → 225 ≤ a → a ≤ 239 → (a ≡ 237 → ⊥) → begun a ≡ Some utf.Two
begun_two a low high isnt =
    let t1 : nat_lt a 128 ≡ false = grind (arith, nat_tests) in
    let t2 : (nat_le 194 a && nat_le a 223) ≡ false = grind (arith, nat_tests) in
    let t3 : (a == 224) ≡ false = grind (arith, nat_tests) in
    let t4 : (a == 237) ≡ false = grind (arith, nat_tests) in
    let t5 : (nat_le 225 a && nat_le a 239) ≡ true = grind (arith, nat_tests) in
    rw (t1, t2, t3, t4, t5) refl

begun_three : (a : ℕ) → 241 ≤ a → a ≤ 243 → begun a ≡ Some utf.Three
begun_three a low high =
    let t1 : nat_lt a 128 ≡ false = grind (arith, nat_tests) in
    let t2 : (nat_le 194 a && nat_le a 223) ≡ false = grind (arith, nat_tests) in
    let t3 : (a == 224) ≡ false = grind (arith, nat_tests) in
    let t4 : (a == 237) ≡ false = grind (arith, nat_tests) in
    let t5 : (nat_le 225 a && nat_le a 239) ≡ false = grind (arith, nat_tests) in
    let t6 : (a == 240) ≡ false = grind (arith, nat_tests) in
    let t7 : (nat_le 241 a && nat_le a 243) ≡ true = grind (arith, nat_tests) in
    rw (t1, t2, t3, t4, t5, t6, t7) refl

owed_within : (low high b : ℕ) (rest : Utf8) → Within low high b → owed low high b rest ≡ Some rest
owed_within low high b rest w =
    let t : (nat_le low b && nat_le b high) ≡ true = within (w.0) (w.1) in
    rw t refl
  where
    within : low ≤ b → b ≤ high → (nat_le low b && nat_le b high) ≡ true
    within l h = grind (arith, nat_tests)

-- ---- the last bytes of a character

one_past : (b : ℕ) (text : List ℕ) → Within 128 191 b → completes utf.One (b ∷ text) ≡ completes utf.Whole text
one_past b text w = front_goes_on utf.One utf.Whole b text (owed_within 128 191 b utf.Whole w)

two_past : (b d : ℕ) (text : List ℕ) → Within 128 191 b → Within 128 191 d → completes utf.Two (b ∷ d ∷ text) ≡ completes utf.Whole text
two_past b d text w v = front_goes_on utf.Two utf.One b (d ∷ text) (owed_within 128 191 b utf.One w) ∙ one_past d text v

-- ---- a character

two_whole : (a b : ℕ) (text : List ℕ) → 194 ≤ a → a ≤ 223 → Within 128 191 b → completes utf.Whole (a ∷ b ∷ text) ≡ completes utf.Whole text
two_whole a b text low high w = front_goes_on utf.Whole utf.One a (b ∷ text) (begun_one a low high) ∙ one_past b text w

three_whole : (a b d : ℕ) (text : List ℕ) → 224 ≤ a → a ≤ 239 → Within 128 191 b → Within 128 191 d → (a ≡ 224 → 160 ≤ b) → (a ≡ 237 → b ≤ 159) → completes utf.Whole (a ∷ b ∷ d ∷ text) ≡ completes utf.Whole text
three_whole a b d text low high w v short surrogate =
    elim (cases_lt 224 a) [
      | inr h ↦
          let is : a ≡ 224 = omega arith in
          ap (λ x. completes utf.Whole (x ∷ b ∷ d ∷ text)) is
          ∙ front_goes_on utf.BehindE0 utf.One b (d ∷ text) (owed_within 160 191 b utf.One (short is, w.1))
          ∙ one_past d text v
      | inl above ↦ elim (cases_lt a 237) [
        | inl h ↦ plain above (λ is. omega arith)
        | inr h ↦ elim (cases_lt 237 a) [
          | inl g ↦ plain above (λ is. omega arith)
          | inr g ↦
              let is : a ≡ 237 = omega arith in
              ap (λ x. completes utf.Whole (x ∷ b ∷ d ∷ text)) is
              ∙ front_goes_on utf.BehindEd utf.One b (d ∷ text) (owed_within 128 159 b utf.One (w.0, surrogate is))
              ∙ one_past d text v
        ]
      ]
    ]
  where
    plain : 224 < a → (a ≡ 237 → ⊥) → completes utf.Whole (a ∷ b ∷ d ∷ text) ≡ completes utf.Whole text
    plain above isnt = front_goes_on utf.Whole utf.Two a (b ∷ d ∷ text) (begun_two a above high isnt) ∙ two_past b d text w v

four_whole : (a b d f : ℕ) (text : List ℕ) → 240 ≤ a → a ≤ 244 → Within 128 191 b → Within 128 191 d → Within 128 191 f → (a ≡ 240 → 144 ≤ b) → (a ≡ 244 → b ≤ 143) → completes utf.Whole (a ∷ b ∷ d ∷ f ∷ text) ≡ completes utf.Whole text
four_whole a b d f text low high w v x short large =
    elim (cases_lt 240 a) [
      | inr h ↦
          let is : a ≡ 240 = omega arith in
          ap (λ y. completes utf.Whole (y ∷ b ∷ d ∷ f ∷ text)) is
          ∙ front_goes_on utf.BehindF0 utf.Two b (d ∷ f ∷ text) (owed_within 144 191 b utf.Two (short is, w.1))
          ∙ two_past d f text v x
      | inl above ↦ elim (cases_lt a 244) [
        | inl h ↦
            front_goes_on utf.Whole utf.Three a (b ∷ d ∷ f ∷ text) (begun_three a (omega arith) (omega arith))
            ∙ front_goes_on utf.Three utf.Two b (d ∷ f ∷ text) (owed_within 128 191 b utf.Two w)
            ∙ two_past d f text v x
        | inr h ↦
            let is : a ≡ 244 = omega arith in
            ap (λ y. completes utf.Whole (y ∷ b ∷ d ∷ f ∷ text)) is
            ∙ front_goes_on utf.BehindF4 utf.Two b (d ∷ f ∷ text) (owed_within 128 143 b utf.Two (w.0, large is))
            ∙ two_past d f text v x
      ]
    ]

-- ---- the bytes of a character by the standard library

-- the last six bits behind the mark of a byte that goes on
follows : (bits : ℕ) → Within 128 191 (128 + bits % 64)
follows bits = (omega arith, omega arith)

spelled : (c : ℕ) (bytes text : List ℕ) → encode c ≡ bytes → completes utf.Whole (bytes ++ text) ≡ completes utf.Whole text → completes utf.Whole (encode c ++ text) ≡ completes utf.Whole text
spelled c bytes text e h = ap (λ x. completes utf.Whole (x ++ text)) e ∙ h

of_two : (c : ℕ) (text : List ℕ) → 128 ≤ c → c < 2048 → completes utf.Whole (encode c ++ text) ≡ completes utf.Whole text
of_two c text low high =
    let a : ℕ = 192 + c / 64 in
    let b : ℕ = 128 + c % 64 in
    let w = follows c in
    spelled c (a ∷ b ∷ []) text (encode_two c a b (omega arith) (omega arith) w.0 w.1 (omega arith))
    (two_whole a b text (omega arith) (omega arith) w)

of_three : (c : ℕ) (text : List ℕ) → 2048 ≤ c → c < 65536 → (c < 55296) ⊎ (57344 ≤ c) → completes utf.Whole (encode c ++ text) ≡ completes utf.Whole text
of_three c text low high apart =
    let a : ℕ = 224 + c / 4096 in
    let b : ℕ = 128 + c / 64 % 64 in
    let d : ℕ = 128 + c % 64 in
    let w = follows (c / 64) in
    let v = follows c in
    spelled c (a ∷ b ∷ d ∷ []) text (encode_three c a b d (omega arith) (omega arith) w.0 w.1 v.0 v.1 low (omega arith))
    (three_whole a b d text (omega arith) (omega arith) w v (λ is. omega arith) (λ is. elim apart [ inl h ↦ omega arith | inr h ↦ omega arith ]))

of_four : (c : ℕ) (text : List ℕ) → 65536 ≤ c → c < 1114112 → completes utf.Whole (encode c ++ text) ≡ completes utf.Whole text
of_four c text low high =
    let a : ℕ = 240 + c / 262144 in
    let b : ℕ = 128 + c / 4096 % 64 in
    let d : ℕ = 128 + c / 64 % 64 in
    let f : ℕ = 128 + c % 64 in
    let w = follows (c / 4096) in
    let v = follows (c / 64) in
    let x = follows c in
    spelled c (a ∷ b ∷ d ∷ f ∷ []) text (encode_four c a b d f (omega arith) (omega arith) w.0 w.1 v.0 v.1 x.0 x.1 low (omega arith))
    (four_whole a b d f text (omega arith) (omega arith) w v x (λ is. omega arith) (λ is. omega arith))

-- a character is whole by the table
pub character_whole : (c : ℕ) (text : List ℕ) → scalar c ≡ true → completes utf.Whole (encode c ++ text) ≡ completes utf.Whole text
character_whole c text s =
    elim (cases_lt c 128) [
      | inl h ↦ spelled c (c ∷ []) text (encode_ascii c h) (front_goes_on utf.Whole utf.Whole c text (small_begins c h))
      | inr h ↦ elim (cases_lt c 2048) [
        | inl g ↦ of_two c text h g
        | inr g ↦ elim (cases_lt c 65536) [
          | inl k ↦ of_three c text g k (elim (scalar_cases c s) [ inl l ↦ inl l | inr r ↦ inr r.0 ])
          | inr k ↦ of_four c text k (elim (scalar_cases c s) [ inl l ↦ omega arith | inr r ↦ r.1 ])
        ]
      ]
    ]

both : (a b : Bool) → (a && b) ≡ true → (a ≡ true) × (b ≡ true)
both true b h = (refl, h)
both false b h = cc

characters_whole : (cs : List ℕ) → scalars cs ≡ true → completes utf.Whole (encodes cs) ≡ true
characters_whole [] s = refl
characters_whole (c ∷ cs) s =
    let p = both (scalar c) (scalars cs) s in
    character_whole c (encodes cs) p.0 ∙ characters_whole cs p.1

-- a text in UTF-8 is whole characters
pub utf8_is_whole : (text : List ℕ) → is_utf8 text ≡ true → is_text text ≡ true
utf8_is_whole text h = let u = IsUtf8-from_is_utf8 text h in subst (λ x. is_text x ≡ true) u.1.1 (characters_whole u.0 u.1.0)
