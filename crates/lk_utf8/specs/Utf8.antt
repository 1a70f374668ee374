-- Texts in UTF-8, by the table of RFC 3629, section 4.
use Rattle.std.specs.Prelude.{ℕ, Bool, true, false, ◌&&◌, ◌==◌, nat_le, nat_lt, List, [], ◌∷◌, Option, Some, None, if◌then◌else◌}
use Rattle.lk_utf8.specs.declared.utf8.Utf8.{Utf8}
use Rattle.lk_utf8.specs.declared.utf8.Utf8.TheVariants.{Whole, One, Two, Three, BehindE0, BehindEd, BehindF0, BehindF4}

-- the byte is within these bounds, and then this is owed
abbrev pub owed : ℕ → ℕ → ℕ → Utf8 → Option Utf8
owed low high b rest = if nat_le low b && nat_le b high then Some rest else None

-- what is owed behind a character's first byte
abbrev pub begun : ℕ → Option Utf8
begun b =
    if nat_lt b 128 then Some Whole else
    if nat_le 194 b && nat_le b 223 then Some One else
    if b == 224 then Some BehindE0 else
    if b == 237 then Some BehindEd else
    if nat_le 225 b && nat_le b 239 then Some Two else
    if b == 240 then Some BehindF0 else
    if nat_le 241 b && nat_le b 243 then Some Three else
    if b == 244 then Some BehindF4 else None

-- what is owed behind one more byte, where it may stand there
abbrev pub utf8_after : Utf8 → ℕ → Option Utf8
utf8_after Whole b = begun b
utf8_after One b = owed 128 191 b Whole
utf8_after Two b = owed 128 191 b One
utf8_after Three b = owed 128 191 b Two
utf8_after BehindE0 b = owed 160 191 b One
utf8_after BehindEd b = owed 128 159 b One
utf8_after BehindF0 b = owed 144 191 b Two
utf8_after BehindF4 b = owed 128 143 b Two

-- nothing is owed
abbrev pub is_whole : Utf8 → Bool
is_whole Whole = true
is_whole _ = false

-- a byte stands there, and the rest is as it has to be
abbrev pub goes_on : Option Utf8 → (Utf8 → Bool) → Bool
goes_on None is_rest = false
goes_on (Some utf8) is_rest = is_rest utf8

-- the bytes give what is owed, and then whole characters
abbrev pub completes : Utf8 → List ℕ → Bool
completes utf8 [] = is_whole utf8
completes utf8 (b ∷ text) = goes_on (utf8_after utf8 b) (λ next. completes next text)

-- the bytes are whole characters
abbrev pub is_text : List ℕ → Bool
is_text text = completes Whole text

-- bytes that complete a text that owes this
abbrev pub ending : Utf8 → List ℕ
ending Whole = []
ending One = 128 ∷ []
ending Two = 128 ∷ 128 ∷ []
ending Three = 128 ∷ 128 ∷ 128 ∷ []
ending BehindE0 = 160 ∷ 128 ∷ []
ending BehindEd = 128 ∷ 128 ∷ []
ending BehindF0 = 144 ∷ 128 ∷ 128 ∷ []
ending BehindF4 = 128 ∷ 128 ∷ 128 ∷ []
