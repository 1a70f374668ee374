-- Whole characters by the table are texts in UTF-8.
use Rattle.std.proofs.Common.{◌≡◌, ℕ, Bool, true, false, ◌&&◌, ◌==◌, nat_lt, nat_le, cond, ◌+◌, ◌-◌, ◌*◌, ◌<◌, ◌≤◌, List, [], ◌∷◌, ◌++◌, inl, inr, Option, Some, None, refl, sym, ◌∙◌, subst, arith, IsUtf8}
use Rattle.std.proofs.lemmas.Bool.{cases_lt, eqb-true, eqb-false, ltb-true}
use Rattle.std.proofs.lemmas.Bool.Decides.{nat_tests}
use Rattle.std.proofs.lemmas.Str.{is_utf8-from_IsUtf8, IsUtf8-append, IsUtf8-nil, IsUtf8-encode, encode_ascii}
use Rattle.std.specs.Str.{is_utf8}
use lib.Utf8.{scalar, encode, low_scalar}
use Rattle.lk_utf8.specs.declared.utf8.Utf8.{Utf8}
use Rattle.lk_utf8.specs.declared.utf8.Utf8.TheVariants as utf
use Rattle.lk_utf8.specs.Utf8.{completes, utf8_after, is_text, owed, begun}
use Rattle.lk_utf8.proofs.CompletionLaws.{completes_parts}
use Rattle.lk_utf8.proofs.Encodings.{Within, encode_two, encode_three, encode_four, scalar_three}

-- the first bytes behind which so much is owed
abbrev Begins : Utf8 → ℕ → Type 0
Begins utf.Whole a = a < 128
Begins utf.One a = (194 ≤ a) × (a ≤ 223)
Begins utf.Two a = (225 ≤ a) × (a ≤ 239) × (a ≡ 237 → ⊥)
Begins utf.Three a = (241 ≤ a) × (a ≤ 243)
Begins utf.BehindE0 a = a ≡ 224
Begins utf.BehindEd a = a ≡ 237
Begins utf.BehindF0 a = a ≡ 240
Begins utf.BehindF4 a = a ≡ 244

abbrev OnSome : (Utf8 → Type 0) → Option Utf8 → Type 0
OnSome P None = Unit {0}
OnSome P (Some u) = P u

decide : (P : Option Utf8 → Type 0) (c : Bool) (x y : Option Utf8) → (c ≡ true → P x) → (c ≡ false → P y) → P (cond c x y)
decide P true x y f g = f refl
decide P false x y f g = g refl

begun_by : (a : ℕ) → OnSome (λ u. Begins u a) (begun a)
begun_by a =
    let P : Option Utf8 → Type 0 = OnSome (λ u. Begins u a) in
    decide P (nat_lt a 128) _ _ (λ h. ltb-true a 128 h) (λ _.
    decide P (nat_le 194 a && nat_le a 223) _ _ (λ h. (grind (arith, nat_tests), grind (arith, nat_tests))) (λ _.
    decide P (a == 224) _ _ (λ h. eqb-true a 224 h) (λ _.
    decide P (a == 237) _ _ (λ h. eqb-true a 237 h) (λ isnt.
    decide P (nat_le 225 a && nat_le a 239) _ _ (λ h. (grind (arith, nat_tests), grind (arith, nat_tests), eqb-false a 237 isnt)) (λ _.
    decide P (a == 240) _ _ (λ h. eqb-true a 240 h) (λ _.
    decide P (nat_le 241 a && nat_le a 243) _ _ (λ h. (grind (arith, nat_tests), grind (arith, nat_tests))) (λ _.
    decide P (a == 244) _ _ (λ h. eqb-true a 244 h) (λ _. tt))))))))

begins_by : (a : ℕ) (u : Utf8) → begun a ≡ Some u → Begins u a
begins_by a u e = subst (OnSome (λ v. Begins v a)) e (begun_by a)

owed_by : (low high b : ℕ) (rest u : Utf8) → owed low high b rest ≡ Some u → Within low high b × (u ≡ rest)
owed_by low high b rest u e = subst (OnSome (λ v. Within low high b × (v ≡ rest))) e (owed_some low high b rest)
  where
    owed_some : (low high b : ℕ) (rest : Utf8) → OnSome (λ v. Within low high b × (v ≡ rest)) (owed low high b rest)
    owed_some low high b rest =
        decide (OnSome (λ v. Within low high b × (v ≡ rest))) (nat_le low b && nat_le b high) _ _
        (λ h. ((grind (arith, nat_tests), grind (arith, nat_tests)), refl)) (λ _. tt)

one_more : (c : ℕ) (bytes rest : List ℕ) → scalar c ≡ true → encode c ≡ bytes → IsUtf8 rest → IsUtf8 (bytes ++ rest)
one_more c bytes rest s e u = IsUtf8-append bytes rest (subst IsUtf8 e (IsUtf8-encode c s)) u

-- a byte that is owed, and what is owed behind it
step_by : (u rest : Utf8) (low high b : ℕ) (text : List ℕ) → utf8_after u b ≡ owed low high b rest → completes u (b ∷ text) ≡ true → Within low high b × (completes rest text ≡ true)
step_by u rest low high b text same h =
    let p = completes_parts u b text h in
    let q = owed_by low high b rest p.0 (sym same ∙ p.1) in
    (q.0, subst (λ x. completes x text ≡ true) q.1 p.2)

two_utf8 : (a b : ℕ) (text : List ℕ) → 194 ≤ a → a ≤ 223 → Within 128 191 b → IsUtf8 text → IsUtf8 (a ∷ b ∷ text)
two_utf8 a b text la ha w u =
    let c : ℕ = 64 * (a - 192) + (b - 128) in
    one_more c (a ∷ b ∷ []) text (low_scalar c (omega arith)) (encode_two c a b la ha w.0 w.1 refl) u

three_utf8 : (a b d : ℕ) (text : List ℕ) → 224 ≤ a → a ≤ 239 → Within 128 191 b → Within 128 191 d → (a ≡ 224 → 160 ≤ b) → (a ≡ 237 → b ≤ 159) → IsUtf8 text → IsUtf8 (a ∷ b ∷ d ∷ text)
three_utf8 a b d text la ha w v short surrogate u =
    let c : ℕ = 4096 * (a - 224) + 64 * (b - 128) + (d - 128) in
    let big : 2048 ≤ c = elim (cases_lt 224 a) [ inl h ↦ omega arith | inr h ↦ let is : a ≡ 224 = omega arith in omega (arith, short is) ] in
    let s : scalar c ≡ true = elim (cases_lt a 237) [
      | inl h ↦ scalar_three c (inl (omega arith))
      | inr h ↦ elim (cases_lt 237 a) [
        | inl g ↦ scalar_three c (inr (omega arith, omega arith))
        | inr g ↦ let is : a ≡ 237 = omega arith in scalar_three c (inl (omega (arith, surrogate is)))
      ]
    ] in
    one_more c (a ∷ b ∷ d ∷ []) text s (encode_three c a b d la ha w.0 w.1 v.0 v.1 big refl) u

four_utf8 : (a b d f : ℕ) (text : List ℕ) → 240 ≤ a → a ≤ 244 → Within 128 191 b → Within 128 191 d → Within 128 191 f → (a ≡ 240 → 144 ≤ b) → (a ≡ 244 → b ≤ 143) → IsUtf8 text → IsUtf8 (a ∷ b ∷ d ∷ f ∷ text)
four_utf8 a b d f text la ha w v x short large u =
    let c : ℕ = 262144 * (a - 240) + 4096 * (b - 128) + 64 * (d - 128) + (f - 128) in
    let big : 65536 ≤ c = elim (cases_lt 240 a) [ inl h ↦ omega arith | inr h ↦ let is : a ≡ 240 = omega arith in omega (arith, short is) ] in
    let below : c < 1114112 = elim (cases_lt a 244) [ inl h ↦ omega arith | inr h ↦ let is : a ≡ 244 = omega arith in omega (arith, large is) ] in
    one_more c (a ∷ b ∷ d ∷ f ∷ []) text (scalar_three c (inr (omega arith, below))) (encode_four c a b d f la ha w.0 w.1 v.0 v.1 x.0 x.1 big refl) u

mutual
  text_utf8 : (text : List ℕ) → completes utf.Whole text ≡ true → IsUtf8 text
  text_utf8 [] h = IsUtf8-nil
  text_utf8 (a ∷ text) h = let p = completes_parts utf.Whole a text h in lead a text p.0 (begins_by a p.0 p.1) p.2 (λ g. text_utf8 text g)

  lead : (a : ℕ) (text : List ℕ) (u : Utf8) → Begins u a → completes u text ≡ true → (completes utf.Whole text ≡ true → IsUtf8 text) → IsUtf8 (a ∷ text)
  lead a text utf.Whole r h again = one_more a (a ∷ []) text (low_scalar a (omega arith)) (encode_ascii a r) (again h)
  lead a [] utf.One r h again = cc
  lead a (b ∷ text) utf.One r h again =
      let s = step_by utf.One utf.Whole 128 191 b text refl h in two_utf8 a b text r.0 r.1 s.0 (text_utf8 text s.1)
  lead a [] utf.Two r h again = cc
  lead a (b ∷ []) utf.Two r h again = let s = step_by utf.Two utf.One 128 191 b [] refl h in let never = s.1 in cc
  lead a (b ∷ d ∷ text) utf.Two r h again =
      let s = step_by utf.Two utf.One 128 191 b (d ∷ text) refl h in
      let v = step_by utf.One utf.Whole 128 191 d text refl s.1 in
      three_utf8 a b d text (omega arith) r.1 s.0 v.0 (λ is. absurd (omega arith)) (λ is. absurd (r.2 is)) (text_utf8 text v.1)
  lead a [] utf.BehindE0 r h again = cc
  lead a (b ∷ []) utf.BehindE0 r h again = let s = step_by utf.BehindE0 utf.One 160 191 b [] refl h in let never = s.1 in cc
  lead a (b ∷ d ∷ text) utf.BehindE0 r h again =
      let s = step_by utf.BehindE0 utf.One 160 191 b (d ∷ text) refl h in
      let v = step_by utf.One utf.Whole 128 191 d text refl s.1 in
      three_utf8 a b d text (omega arith) (omega arith) (omega arith, s.0.1) v.0 (λ is. s.0.0) (λ is. absurd (omega arith)) (text_utf8 text v.1)
  lead a [] utf.BehindEd r h again = cc
  lead a (b ∷ []) utf.BehindEd r h again = let s = step_by utf.BehindEd utf.One 128 159 b [] refl h in let never = s.1 in cc
  lead a (b ∷ d ∷ text) utf.BehindEd r h again =
      let s = step_by utf.BehindEd utf.One 128 159 b (d ∷ text) refl h in
      let v = step_by utf.One utf.Whole 128 191 d text refl s.1 in
      three_utf8 a b d text (omega arith) (omega arith) (s.0.0, omega arith) v.0 (λ is. absurd (omega arith)) (λ is. s.0.1) (text_utf8 text v.1)
  lead a [] utf.Three r h again = cc
  lead a (b ∷ []) utf.Three r h again = let s = step_by utf.Three utf.Two 128 191 b [] refl h in let never = s.1 in cc
  lead a (b ∷ d ∷ []) utf.Three r h again =
      let s = step_by utf.Three utf.Two 128 191 b (d ∷ []) refl h in
      let v = step_by utf.Two utf.One 128 191 d [] refl s.1 in let never = v.1 in cc
  lead a (b ∷ d ∷ f ∷ text) utf.Three r h again =
      let s = step_by utf.Three utf.Two 128 191 b (d ∷ f ∷ text) refl h in
      let v = step_by utf.Two utf.One 128 191 d (f ∷ text) refl s.1 in
      let w = step_by utf.One utf.Whole 128 191 f text refl v.1 in
      four_utf8 a b d f text (omega arith) (omega arith) s.0 v.0 w.0 (λ is. absurd (omega arith)) (λ is. absurd (omega arith)) (text_utf8 text w.1)
  lead a [] utf.BehindF0 r h again = cc
  lead a (b ∷ []) utf.BehindF0 r h again = let s = step_by utf.BehindF0 utf.Two 144 191 b [] refl h in let never = s.1 in cc
  lead a (b ∷ d ∷ []) utf.BehindF0 r h again =
      let s = step_by utf.BehindF0 utf.Two 144 191 b (d ∷ []) refl h in
      let v = step_by utf.Two utf.One 128 191 d [] refl s.1 in let never = v.1 in cc
  lead a (b ∷ d ∷ f ∷ text) utf.BehindF0 r h again =
      let s = step_by utf.BehindF0 utf.Two 144 191 b (d ∷ f ∷ text) refl h in
      let v = step_by utf.Two utf.One 128 191 d (f ∷ text) refl s.1 in
      let w = step_by utf.One utf.Whole 128 191 f text refl v.1 in
      four_utf8 a b d f text (omega arith) (omega arith) (omega arith, s.0.1) v.0 w.0 (λ is. s.0.0) (λ is. absurd (omega arith)) (text_utf8 text w.1)
  lead a [] utf.BehindF4 r h again = cc
  lead a (b ∷ []) utf.BehindF4 r h again = let s = step_by utf.BehindF4 utf.Two 128 143 b [] refl h in let never = s.1 in cc
  lead a (b ∷ d ∷ []) utf.BehindF4 r h again =
      let s = step_by utf.BehindF4 utf.Two 128 143 b (d ∷ []) refl h in
      let v = step_by utf.Two utf.One 128 191 d [] refl s.1 in let never = v.1 in cc
  lead a (b ∷ d ∷ f ∷ text) utf.BehindF4 r h again =
      let s = step_by utf.BehindF4 utf.Two 128 143 b (d ∷ f ∷ text) refl h in
      let v = step_by utf.Two utf.One 128 191 d (f ∷ text) refl s.1 in
      let w = step_by utf.One utf.Whole 128 191 f text refl v.1 in
      four_utf8 a b d f text (omega arith) (omega arith) (s.0.0, omega arith) v.0 w.0 (λ is. absurd (omega arith)) (λ is. s.0.1) (text_utf8 text w.1)

-- whole characters are UTF-8
pub whole_is_utf8 : (text : List ℕ) → is_text text ≡ true → is_utf8 text ≡ true
whole_is_utf8 text h = is_utf8-from_IsUtf8 text (text_utf8 text h)
