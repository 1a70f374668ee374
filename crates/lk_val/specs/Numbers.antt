-- How a cell reads as a number, and how a number prints. A number is a count of 1/10,000.
use Rattle.std.specs.Prelude.{ℕ, pos, neg_ℤ, ℤ, Bool, true, false, not, ◌&&◌, ◌==◌, nat_lt, nat_le, if◌then◌else◌, ◌+◌, ◌-◌, ◌*◌, ◌/◌, ◌%◌, ◌^◌, List, [], ◌∷◌, ◌++◌, drop, length, take, Option, None, Some, Result, Ok, Err, int_lt, unsigned_abs, decimal, codes}
use Rattle.std.specs.List.{list_all, list_any, slice_index_or, position}
use Rattle.std.specs.Char.{is_ascii_digit}
use Rattle.lk_val.specs.declared.num.Num.{Num}
use Rattle.lk_val.specs.declared.num.NumFault.{NumFault}
use Rattle.lk_val.specs.declared.num.NumFault.TheVariants.{NotNumber, Places, Range}

-- ---- reading

abbrev pub has_minus : List ℕ → Bool
has_minus [] = false
has_minus (c ∷ cs) = c == 45

abbrev pub is_dot : ℕ → Bool
is_dot c = c == 46

-- one digit or more
abbrev pub is_digits : List ℕ → Bool
is_digits text = not (length text == 0) && list_all is_ascii_digit text

-- the number that digits write when they follow those of n
abbrev pub value_from : ℕ → List ℕ → ℕ
value_from n [] = n
value_from n (c ∷ cs) = value_from (10 * n + (c - 48)) cs

-- the digit at a place behind the dot, 0 past the end
abbrev pub place : List ℕ → ℕ → ℕ
place behind i = slice_index_or behind i 48 - 48

-- the count of 1/10,000 that the digits before and behind a dot write
abbrev pub magnitude : List ℕ → List ℕ → ℕ
magnitude whole behind = 10000 * value_from 0 whole + 1000 * place behind 0 + 100 * place behind 1 + 10 * place behind 2 + place behind 3

-- the number of this size, where 64 bits hold it
abbrev pub in_range : Bool → ℕ → Result Num NumFault
in_range true size = if nat_le size (2 ^ 63) then Ok (record { 0 = neg_ℤ (pos size) }) else Err Range
in_range false size = if nat_lt size (2 ^ 63) then Ok (record { 0 = pos size }) else Err Range

-- a digit other than 0 past the fourth place
abbrev pub is_too_fine : List ℕ → Bool
is_too_fine behind = list_any (λ c. not (c == 48)) (drop 4 behind)

-- digits on both sides of a dot
abbrev pub parted_of : Bool → List ℕ → List ℕ → Result Num NumFault
parted_of negative whole behind =
    if is_digits whole && is_digits behind
    then (if is_too_fine behind then Err Places else in_range negative (magnitude whole behind))
    else Err NotNumber

-- digits, and behind the first dot, if there is one, digits again
abbrev pub decimal_at : Bool → List ℕ → Option ℕ → Result Num NumFault
decimal_at negative body None =
    if is_digits body then in_range negative (magnitude body []) else Err NotNumber
decimal_at negative body (Some dot) = parted_of negative (take dot body) (drop (dot + 1) body)

abbrev pub decimal_of : Bool → List ℕ → Result Num NumFault
decimal_of negative body = decimal_at negative body (position is_dot body)

-- the number that a cell reads as, or the first rule that it breaks: an optional `-` before a decimal (lookd)
unfoldable pub num_of : List ℕ → Result Num NumFault
num_of text = if has_minus text then decimal_of true (drop 1 text) else decimal_of false text

-- ---- printing

-- one of the four digits of a number below 10,000, by its unit
abbrev pub digit_at : ℕ → ℕ → List ℕ
digit_at n unit = decimal (n / unit % 10)

-- the dot and the places behind it, without trailing zeros: nothing for none
abbrev pub places_text : ℕ → List ℕ
places_text n =
    if n == 0 then [] else
    (if n % 1000 == 0 then codes "." ++ digit_at n 1000 else
    (if n % 100 == 0 then codes "." ++ digit_at n 1000 ++ digit_at n 100 else
    (if n % 10 == 0 then codes "." ++ digit_at n 1000 ++ digit_at n 100 ++ digit_at n 10 else
    codes "." ++ digit_at n 1000 ++ digit_at n 100 ++ digit_at n 10 ++ decimal (n % 10))))

abbrev pub sign_text : ℤ → List ℕ
sign_text count = if int_lt count (pos 0) then codes "-" else []

-- a count of 1/10,000: a `-` below 0, the whole part, and the places that are needed (lookd)
abbrev pub number_text : ℤ → List ℕ
number_text count = sign_text count ++ decimal (unsigned_abs count / 10000) ++ places_text (unsigned_abs count % 10000)
