-- Characters of UTF-8 that stand for themselves in filters of texts: all but a comma, `%` and `^`. (RFC 3629, section 4)
use Rattle.std.specs.Prelude.{ℕ, Bool, ◌&&◌, ◌||◌, nat_le, nat_eq, List, [], ◌∷◌, if◌then◌else◌, false}
use Rattle.lk_grammar.specs.Forms.{Form, byte, seq, either}

-- a later byte of a character
abbrev pub later : Form
later = byte 128 191

-- a character of two, three or four bytes
abbrev pub long_character : Form
long_character =
    either (seq (byte 194 223) later)
    (either (seq (byte 224 224) (seq (byte 160 191) later))
    (either (seq (byte 225 236) (seq later later))
    (either (seq (byte 237 237) (seq (byte 128 159) later))
    (either (seq (byte 238 239) (seq later later))
    (either (seq (byte 240 240) (seq (byte 144 191) (seq later later)))
    (either (seq (byte 241 243) (seq later (seq later later)))
    (seq (byte 244 244) (seq (byte 128 143) (seq later later)))))))))

-- a byte of ASCII that is no space, `%`, comma, `-` or `^`
abbrev pub letter_byte : Form
letter_byte = either (byte 0 31) (either (byte 33 36) (either (byte 38 43) (either (byte 46 93) (byte 95 127))))

-- a character that is no space, `%`, comma, `-` or `^`
abbrev pub letter_form : Form
letter_form = either letter_byte long_character

-- a character that is no `%`, comma or `^`
abbrev pub plain_form : Form
plain_form = either (byte 32 32) (either (byte 45 45) letter_form)

-- ---- the character in front of a text

abbrev pub is_in : ℕ → ℕ → ℕ → Bool
is_in low high b = nat_le low b && nat_le b high

abbrev pub is_plain_byte : ℕ → Bool
is_plain_byte b = is_in 0 36 b || (is_in 38 43 b || (is_in 45 93 b || is_in 95 127 b))

-- bytes from 128 to 191, as many as are wanted, and the first of them in a range
abbrev pub ends_one : ℕ → ℕ → List ℕ → Bool
ends_one low high [] = false
ends_one low high (b ∷ text) = is_in low high b

abbrev pub ends_two : ℕ → ℕ → List ℕ → Bool
ends_two low high [] = false
ends_two low high (b ∷ text) = is_in low high b && ends_one 128 191 text

abbrev pub ends_three : ℕ → ℕ → List ℕ → Bool
ends_three low high [] = false
ends_three low high (b ∷ text) = is_in low high b && ends_two 128 191 text

-- a character of two, of three and of four bytes comes first, by its first byte and those behind it
abbrev pub begins_two : ℕ → List ℕ → Bool
begins_two b text = is_in 194 223 b && ends_one 128 191 text

abbrev pub begins_three : ℕ → List ℕ → Bool
begins_three b text =
    (is_in 224 224 b && ends_two 160 191 text) || ((is_in 225 236 b && ends_two 128 191 text)
    || ((is_in 237 237 b && ends_two 128 159 text) || (is_in 238 239 b && ends_two 128 191 text)))

abbrev pub begins_four : ℕ → List ℕ → Bool
begins_four b text =
    (is_in 240 240 b && ends_three 144 191 text) || ((is_in 241 243 b && ends_three 128 191 text) || (is_in 244 244 b && ends_three 128 143 text))

-- the length of the plain character in front of the text, and 0 where there is none
abbrev pub character_length : List ℕ → ℕ
character_length [] = 0
character_length (b ∷ text) =
    if is_plain_byte b then 1
    else (if begins_two b text then 2
    else (if begins_three b text then 3
    else (if begins_four b text then 4
    else 0)))

-- letters with which no plain character begins
abbrev pub begins_mark : List ℕ → Bool
begins_mark [] = false
begins_mark (letter ∷ rest) = nat_eq letter 37 || (nat_eq letter 44 || nat_eq letter 94)

-- no byte goes on with a character
abbrev pub goes_on : ℕ → Bool
goes_on b = false
