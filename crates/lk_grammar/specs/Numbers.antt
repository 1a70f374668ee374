-- Numbers: digits, and behind a dot digits again; a `-` may stand before a number with a sign.
use Rattle.std.specs.Prelude.{ℕ, suc, ◌+◌, Bool, false, not, ◌&&◌, ◌||◌, nat_eq, nat_le, nat_lt, List, [], ◌∷◌, drop, if◌then◌else◌}
use Rattle.std.specs.List.{list_all}
use Rattle.lk_grammar.specs.Forms.{Form, byte, seq, many, optional}
use Rattle.lk_grammar.specs.Words.{one}

abbrev pub digit : Form
digit = byte 48 57

-- one digit or more
abbrev pub digits : Form
digits = seq digit (many digit)

abbrev pub unsigned_number : Form
unsigned_number = seq digits (optional (seq (one 46) digits))

abbrev pub number : Form
number = seq (optional (one 45)) unsigned_number

-- ---- the number in front of a text

abbrev pub is_digit : ℕ → Bool
is_digit b = nat_le 48 b && nat_le b 57

-- how many digits come first
abbrev pub digit_count : List ℕ → ℕ
digit_count [] = 0
digit_count (b ∷ text) = if is_digit b then suc (digit_count text) else 0

-- the length of a dot with digits behind it, if they come first
abbrev pub places_length : List ℕ → ℕ
places_length [] = 0
places_length (b ∷ text) = if nat_eq b 46 && not (nat_eq (digit_count text) 0) then suc (digit_count text) else 0

-- the length of the number without a sign that comes first, and 0 where there is none
abbrev pub unsigned_length : List ℕ → ℕ
unsigned_length text =
    if nat_eq (digit_count text) 0 then 0 else digit_count text + places_length (drop (digit_count text) text)

-- one more than a length that is not 0
abbrev pub signed_length : ℕ → ℕ
signed_length length = if nat_eq length 0 then 0 else suc length

-- the length of the number that comes first, and 0 where there is none
abbrev pub number_length : List ℕ → ℕ
number_length [] = 0
number_length (b ∷ text) = if nat_eq b 45 then signed_length (unsigned_length text) else unsigned_length (b ∷ text)

-- ---- what may stand beside a number

-- a byte that goes on with a number
abbrev pub is_of_number : ℕ → Bool
is_of_number b = is_digit b || nat_eq b 46

-- letters with which no number without a sign begins
abbrev pub begins_no_digit : List ℕ → Bool
begins_no_digit [] = false
begins_no_digit (letter ∷ rest) = not (is_digit letter)

-- letters with which no number begins
abbrev pub begins_no_number : List ℕ → Bool
begins_no_number [] = false
begins_no_number (letter ∷ rest) = if nat_eq letter 45 then begins_no_digit rest else not (is_digit letter)

-- no space is a digit or a sign
abbrev pub are_low : List ℕ → Bool
are_low white = list_all (λ b. nat_lt b 45) white
