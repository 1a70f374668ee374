-- Lists of interned texts: each text stands once, and its number is its place.
use Rattle.std.specs.Prelude.{ℕ, ◌≡◌, ◌<◌, ◌++◌, ◌↔◌, if◌then◌else◌, List, [], ◌∷◌, length}
use Rattle.std.specs.List.{list_any, slice_index_or}
use Rattle.lk_val.specs.Texts.{is_same_text}

-- the text of this number
abbrev pub text_at : List (List ℕ) → ℕ → List ℕ
text_at texts number = slice_index_or texts number []

-- the number is one of the list, and that of this text
abbrev pub HasText : List (List ℕ) → ℕ → List ℕ → Type 0
HasText texts number text = (number < length texts) × (text_at texts number ≡ text)

-- the list with the text: at its end, unless it stands there already
abbrev pub with_text : List ℕ → List (List ℕ) → List (List ℕ)
with_text text texts = if list_any (is_same_text text) texts then texts else texts ++ text ∷ []

-- each number of the one list is one of the other, with the same text
abbrev pub KeepsTexts : List (List ℕ) → List (List ℕ) → Type 0
KeepsTexts before after = (number : ℕ) → number < length before → HasText after number (text_at before number)

-- no text has two numbers
unfoldable pub AreOnce : List (List ℕ) → Type 0
AreOnce texts = (a b : ℕ) → a < length texts → b < length texts → text_at texts a ≡ text_at texts b → a ≡ b

-- two numbers are equal exactly where their texts are
abbrev pub AreExact : List (List ℕ) → Type 0
AreExact texts = (a b : ℕ) → a < length texts → b < length texts → (a ≡ b) ↔ (text_at texts a ≡ text_at texts b)
