-- How a date and a count are written in filters of dates, and the days that a date is.
use Rattle.std.specs.Prelude.{ℕ, zero, suc, ◌+◌, ◌-◌, ◌*◌, ◌/◌, ◌%◌, Bool, false, not, ◌&&◌, ◌||◌, nat_eq, nat_le, nat_lt, List, [], ◌∷◌, slice_index, Option, Some, None, codes, if◌then◌else◌}
use Rattle.std.specs.Option.{option_and_then}
use Rattle.lk_grammar.specs.Forms.{Form, nothing, byte, seq, either, many, optional}
use Rattle.lk_grammar.specs.Words.{one, exactly}
use Rattle.lk_grammar.specs.Numbers.{digit, is_digit}
use Rattle.lk_types.specs.Calendar.{is_leap, year_start, month_start, from_1970}
use Rattle.lk_types.specs.declared.filter.Days.{Days}

-- ---- the days of a year, of a month and of a day

-- how many days a month has, in a leap year or not (Gregorian calendar)
abbrev pub month_length : Bool → ℕ → ℕ
month_length leap month = slice_index (31 ∷ (if leap then 29 else 28) ∷ 31 ∷ 30 ∷ 31 ∷ 30 ∷ 31 ∷ 31 ∷ 30 ∷ 31 ∷ 30 ∷ 31 ∷ []) (month - 1)

-- the days from one up to another, both from 0001-01-01
abbrev pub days_between : ℕ → ℕ → Days
days_between from upto = record { from = from_1970 from; up_to = from_1970 upto }

abbrev pub days_of_year : ℕ → Days
days_of_year year = days_between (year_start year) (year_start (year + 1))

abbrev pub days_of_month : ℕ → ℕ → Days
days_of_month year month = days_between (month_start year month) (month_start year month + month_length (is_leap year) month)

abbrev pub days_of_day : ℕ → ℕ → ℕ → Days
days_of_day year month day = days_between (month_start year month + (day - 1)) (month_start year month + day)

-- ---- the days of a date that is written

-- a `-` or a `/`
abbrev pub is_separator : ℕ → Bool
is_separator b = nat_eq b 45 || nat_eq b 47

-- the number of two digits
abbrev pub pair_value : ℕ → ℕ → ℕ
pair_value a b = 10 * (a - 48) + (b - 48)

-- a number that begins with a digit, and has a second one where one comes next; and what is behind it
abbrev pub numeral_from : ℕ → List ℕ → ℕ × List ℕ
numeral_from a [] = (a - 48, [])
numeral_from a (b ∷ text) = if is_digit b then (pair_value a b, text) else (a - 48, b ∷ text)

abbrev pub first_numeral : List ℕ → Option (ℕ × List ℕ)
first_numeral [] = None
first_numeral (a ∷ text) = if is_digit a then Some (numeral_from a text) else None

-- the number of one or two digits behind the separator that a text begins with
abbrev pub first_part : List ℕ → Option (ℕ × List ℕ)
first_part [] = None
first_part (b ∷ text) = if is_separator b then first_numeral text else None

-- the day of a month, where nothing is behind it
abbrev pub day_at : ℕ → ℕ → ℕ × List ℕ → Option Days
day_at year month (day, b ∷ text) = None
day_at year month (day, []) = if nat_le 1 day && nat_le day (month_length (is_leap year) month) then Some (days_of_day year month day) else None

-- the month of a year, or the day of it behind a separator
abbrev pub month_at : ℕ → ℕ × List ℕ → Option Days
month_at year (month, []) = if nat_le 1 month && nat_le month 12 then Some (days_of_month year month) else None
month_at year (month, b ∷ text) = if nat_le 1 month && nat_le month 12 then option_and_then (day_at year month) (first_part (b ∷ text)) else None

-- the year, or the month or day of it behind a separator
abbrev pub year_at : ℕ → List ℕ → Option Days
year_at year [] = Some (days_of_year year)
year_at year (b ∷ text) = option_and_then (month_at year) (first_part (b ∷ text))

-- the year of four digits, of which one is not 0
abbrev pub year_of_digits : ℕ → ℕ → ℕ → ℕ → Option ℕ
year_of_digits a b c d =
    if is_digit a && is_digit b && is_digit c && is_digit d && nat_lt 0 (100 * pair_value a b + pair_value c d)
    then Some (100 * pair_value a b + pair_value c d) else None

-- the days of the date that a text is: a year, a month or a day (Looker, filter expressions: date)
abbrev pub days_of : List ℕ → Option Days
days_of (a ∷ b ∷ c ∷ d ∷ text) = option_and_then (λ year. year_at year text) (year_of_digits a b c d)
days_of text = None

-- ---- the count that is written

-- the number with further digits behind it, where it is 10,000 at most
abbrev pub count_from : ℕ → List ℕ → Option ℕ
count_from value [] = Some value
count_from value (b ∷ text) =
    if is_digit b && nat_le (10 * value + (b - 48)) 10000 then count_from (10 * value + (b - 48)) text else None

-- the number from 1 to 10,000 that a text is, without a leading 0 (lookd)
abbrev pub count_of : List ℕ → Option ℕ
count_of [] = None
count_of (a ∷ text) = if is_digit a && not (nat_eq a 48) then count_from (a - 48) text else None

-- ---- dates and counts as literals: a digit, and any number of digits and separators behind it

abbrev pub date_literal : Form
date_literal = seq digit (many (either (one 45) (byte 47 57)))

-- a byte that goes on with a literal
abbrev pub is_of_date : ℕ → Bool
is_of_date b = nat_eq b 45 || (nat_le 47 b && nat_le b 57)

-- how many bytes that go on with a literal come first
abbrev pub date_count : List ℕ → ℕ
date_count [] = 0
date_count (b ∷ text) = if is_of_date b then suc (date_count text) else 0

-- the length of the literal that comes first, and 0 where there is none
abbrev pub date_length : List ℕ → ℕ
date_length [] = 0
date_length (b ∷ text) = if is_digit b then suc (date_count text) else 0

-- ---- the dates and the counts as forms

abbrev pub separator : Form
separator = either (one 45) (one 47)

-- a number below 100 in two digits
abbrev pub pair : ℕ → Form
pair n = seq (one (48 + n / 10)) (one (48 + n % 10))

-- a number below 100 in one or two digits
abbrev pub numeral : ℕ → Form
numeral n = either (pair n) (if nat_le n 9 then one (48 + n) else nothing)

-- the forms of as many numbers as are counted, from the first on
abbrev pub each_from : (ℕ → Form) → ℕ → ℕ → Form
each_from form_of first zero = nothing
each_from form_of first (suc count) = either (form_of first) (each_from form_of (suc first) count)

-- a number from 1 on, in one or two digits
abbrev pub numerals : ℕ → Form
numerals count = each_from numeral 1 count

-- four times a number, in two digits
abbrev pub four_times : ℕ → Form
four_times n = pair (4 * n)

-- a multiple of 4 from 04 to 96
abbrev pub fourths : Form
fourths = each_from four_times 1 24

-- a month, or a day of it that it has in each year
abbrev pub month_form : ℕ → Form
month_form month = seq (numeral month) (optional (seq separator (numerals (month_length false month))))

-- a month of a year or a day of one, with a separator before it
abbrev pub in_year_form : Form
in_year_form = seq separator (each_from month_form 1 12)

-- 29 February, with a separator before it
abbrev pub leap_day_form : Form
leap_day_form = seq separator (seq (numeral 2) (seq separator (pair 29)))

abbrev pub two_digits : Form
two_digits = seq digit digit

-- two digits that are not 00
abbrev pub some_digits : Form
some_digits = either (seq (byte 49 57) digit) (seq (one 48) (byte 49 57))

-- four digits that are not 0000
abbrev pub year_form : Form
year_form = either (seq some_digits two_digits) (seq (pair 0) some_digits)

-- a multiple of 4 that ends a century only where it is one of 400
abbrev pub leap_form : Form
leap_form = either (seq two_digits fourths) (seq fourths (pair 0))

-- a year, or a month or day of it, or 29 February of a leap year
unfoldable pub date_form : Form
date_form = either (seq year_form (optional in_year_form)) (seq leap_form leap_day_form)

-- one digit to four, of which the first is not 0, or 10000
abbrev pub count_form : Form
count_form = either (seq (byte 49 57) (optional (seq digit (optional (seq digit (optional digit)))))) (exactly (codes "10000"))
