-- What completes a text, byte by byte.
use Rattle.std.proofs.Common.{◌≡◌, ℕ, Bool, true, false, ◌&&◌, ◌==◌, nat_le, cond, ◌<◌, ◌≤◌, List, ◌∷◌, Option, Some, None, refl, ap, subst, ◌∙◌, arith}
use Rattle.std.proofs.lemmas.Bool.{lt-ltb, eqb-true}
use Rattle.std.proofs.lemmas.Bool.Decides.{nat_tests}
use Rattle.std.specs.List.{AllByRecursion}
use Rattle.lk_utf8.specs.declared.utf8.Utf8.{Utf8}
use Rattle.lk_utf8.specs.declared.utf8.Utf8.TheVariants as utf
use Rattle.lk_utf8.specs.Utf8.{completes, utf8_after, is_whole, owed, goes_on, ending}

-- nothing is owed in one state alone
pub whole_is : (u : Utf8) → is_whole u ≡ true → u ≡ utf.Whole
whole_is utf.Whole h = refl
whole_is _ h = cc

-- ---- the first byte of what completes a text

-- where the byte may stand, the rest completes what is owed behind it
pub front_goes_on : (u next : Utf8) (b : ℕ) (text : List ℕ) → utf8_after u b ≡ Some next → completes u (b ∷ text) ≡ completes next text
front_goes_on u next b text e = ap (λ o. goes_on o (λ v. completes v text)) e

-- where it may not, nothing does
pub front_stops : (u : Utf8) (b : ℕ) (text : List ℕ) → utf8_after u b ≡ None → completes u (b ∷ text) ≡ false
front_stops u b text e = ap (λ o. goes_on o (λ v. completes v text)) e

-- one more byte, and then what completes the text behind it
pub completes_more : (u v : Utf8) (b : ℕ) (text : List ℕ) → utf8_after u b ≡ Some v → completes v text ≡ true → completes u (b ∷ text) ≡ true
completes_more u v b text e h = front_goes_on u v b text e ∙ h

-- the first byte of what completes a text may stand there, and the rest completes the text behind it
pub completes_parts : (u : Utf8) (b : ℕ) (text : List ℕ) → completes u (b ∷ text) ≡ true → (v : Utf8) × (utf8_after u b ≡ Some v) × (completes v text ≡ true)
completes_parts u b text h = by_after (utf8_after u b) refl h
  where
    by_after : (o : Option Utf8) → utf8_after u b ≡ o → goes_on o (λ next. completes next text) ≡ true → (v : Utf8) × (utf8_after u b ≡ Some v) × (completes v text ≡ true)
    by_after None e g = cc
    by_after (Some v) e g = (v, e, g)

-- ---- bytes below 128

-- a byte below 128 is a character
pub small_begins : (b : ℕ) → b < 128 → utf8_after utf.Whole b ≡ Some utf.Whole
small_begins b h = ap (λ c. cond c (Some utf.Whole) (begun_above b)) (lt-ltb b 128 h)
  where
    begun_above : ℕ → Option Utf8
    begun_above x = cond (nat_le 194 x && nat_le x 223) (Some utf.One) (cond (x == 224) (Some utf.BehindE0) (cond (x == 237) (Some utf.BehindEd) (cond (nat_le 225 x && nat_le x 239) (Some utf.Two) (cond (x == 240) (Some utf.BehindF0) (cond (nat_le 241 x && nat_le x 243) (Some utf.Three) (cond (x == 244) (Some utf.BehindF4) None))))))

owed_none : (low high b : ℕ) (rest : Utf8) → 128 ≤ low → b < 128 → owed low high b rest ≡ None
owed_none low high b rest lo small = grind (arith, nat_tests)

-- and stands where a character may begin
pub small_none : (b : ℕ) → b < 128 → (x : Utf8) → is_whole x ≡ false → utf8_after x b ≡ None
small_none b small utf.Whole h = cc
small_none b small utf.One h = owed_none 128 191 b utf.Whole (omega arith) small
small_none b small utf.Two h = owed_none 128 191 b utf.One (omega arith) small
small_none b small utf.Three h = owed_none 128 191 b utf.Two (omega arith) small
small_none b small utf.BehindE0 h = owed_none 160 191 b utf.One (omega arith) small
small_none b small utf.BehindEd h = owed_none 128 159 b utf.One (omega arith) small
small_none b small utf.BehindF0 h = owed_none 144 191 b utf.Two (omega arith) small
small_none b small utf.BehindF4 h = owed_none 128 143 b utf.Two (omega arith) small

-- where a byte may stand that goes on with no character, a character may begin
pub whole_at : (u : Utf8) (c : ℕ) (text : List ℕ) → ((x : Utf8) → is_whole x ≡ false → utf8_after x c ≡ None) → completes u (c ∷ text) ≡ true → is_whole u ≡ true
whole_at u c text none h = by_whole (is_whole u) refl
  where
    by_whole : (w : Bool) → is_whole u ≡ w → w ≡ true
    by_whole true e = refl
    by_whole false e = let p = completes_parts u c text h in let no = none u e in let some = p.1 in cc

-- the byte that stands there is none that may not
begins_none : (u v : Utf8) (b c : ℕ) → (b == c) ≡ true → utf8_after u c ≡ None → utf8_after u b ≡ Some v → ⊥
begins_none u v b c h none some =
    let same : utf8_after u c ≡ Some v = subst (λ x. utf8_after u x ≡ Some v) (eqb-true b c h) some in cc

-- a byte that goes on with no character is the one that stands there only where a character may begin
pub apart : (u v : Utf8) (b c : ℕ) → ((x : Utf8) → is_whole x ≡ false → utf8_after x c ≡ None) → (is_whole u && (b == c)) ≡ false → utf8_after u b ≡ Some v → (b == c) ≡ false
apart u v b c none h some = by_whole (is_whole u) (b == c) refl refl h
  where
    by_whole : (w e : Bool) → is_whole u ≡ w → (b == c) ≡ e → (w && e) ≡ false → e ≡ false
    by_whole w false hw he h = refl
    by_whole true true hw he h = h
    by_whole false true hw he h = absurd (begins_none u v b c he (none u hw) some)

-- ---- the ending of each state

-- a text that owes so much has an ending
pub ending_completes : (u : Utf8) → completes u (ending u) ≡ true
ending_completes utf.Whole = refl
ending_completes utf.One = refl
ending_completes utf.Two = refl
ending_completes utf.Three = refl
ending_completes utf.BehindE0 = refl
ending_completes utf.BehindEd = refl
ending_completes utf.BehindF0 = refl
ending_completes utf.BehindF4 = refl

-- no byte of an ending is below 128
pub ending_high : (u : Utf8) → AllByRecursion (λ b. 128 ≤ b) (ending u)
ending_high utf.Whole = tt
ending_high utf.One = (omega arith, tt)
ending_high utf.Two = (omega arith, (omega arith, tt))
ending_high utf.Three = (omega arith, (omega arith, (omega arith, tt)))
ending_high utf.BehindE0 = (omega arith, (omega arith, tt))
ending_high utf.BehindEd = (omega arith, (omega arith, tt))
ending_high utf.BehindF0 = (omega arith, (omega arith, (omega arith, tt)))
ending_high utf.BehindF4 = (omega arith, (omega arith, (omega arith, tt)))
