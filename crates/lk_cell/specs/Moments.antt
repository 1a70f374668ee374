-- How a cell reads as a moment: a day, then a clock or none, a fraction of a second or none, and a mark of UTC or none.
use Rattle.std.specs.Prelude.{ℕ, ◌+◌, ◌-◌, ◌*◌, ◌==◌, nat_eq, nat_le, Bool, true, ◌&&◌, ◌||◌, if◌then◌else◌, ℤ, pos, ◌+ℤ◌, List, [], ◌∷◌, take, drop, length, codes, Option, Some, None}
use Rattle.std.specs.List.{ends_with}
use Rattle.lk_val.specs.Numbers.{is_digits}
use Rattle.lk_types.specs.Calendar.{midnight}
use Rattle.lk_cell.specs.Days.{two_digits, day_cell}

-- ---- the clock

-- the second of the day at an hour, a minute and a second: hours to 23, minutes and seconds to 59
abbrev pub second_at : ℕ → ℕ → ℕ → Option ℕ
second_at hour minute second =
    if nat_le hour 23 && nat_le minute 59 && nat_le second 59 then Some (3600 * hour + 60 * minute + second) else None

-- the same, where each of them is a number
abbrev pub second_of_numbers : Option ℕ → Option ℕ → Option ℕ → Option ℕ
second_of_numbers (Some hour) (Some minute) (Some second) = second_at hour minute second
second_of_numbers hour minute second = None

-- the second of the day that a clock writes: a space or `T`, and `HH:MM:SS`
abbrev pub clock_second : List ℕ → Option ℕ
clock_second (mark ∷ h ∷ o ∷ colon ∷ m ∷ n ∷ dots ∷ s ∷ c ∷ []) =
    if (mark == 32 || mark == 84) && colon == 58 && dots == 58 then second_of_numbers (two_digits h o) (two_digits m n) (two_digits s c) else None
clock_second text = None

-- ---- what follows it

-- nothing, or `.` and one or more digits, which do not count
abbrev pub is_fraction : List ℕ → Bool
is_fraction [] = true
is_fraction (dot ∷ digits) = dot == 46 && is_digits digits

-- the text without the ` UTC` or the `Z` that it ends in
abbrev pub without_zone : List ℕ → List ℕ
without_zone text =
    if ends_with nat_eq text (codes " UTC") then take (length text - 4) text else
    (if ends_with nat_eq text (codes "Z") then take (length text - 1) text else text)

-- the second of the day that was read, where a fraction and a zone are all that follows
abbrev pub if_ended : ℕ → List ℕ → Option ℕ
if_ended second text = if is_fraction (without_zone text) then Some second else None

-- by the clock, if there is one, and else at midnight
abbrev pub second_by : Option ℕ → List ℕ → Option ℕ
second_by (Some second) text = if_ended second (drop 9 text)
second_by None text = if_ended 0 text

-- the second of the day that the text behind a day writes
unfoldable pub second_behind : List ℕ → Option ℕ
second_behind text = second_by (clock_second (take 9 text)) text

-- ---- the moment

-- the second of a day, where there are both, from 1970-01-01 00:00:00
abbrev pub moment_of : Option ℤ → Option ℕ → Option ℤ
moment_of (Some day) (Some second) = Some (midnight day +ℤ pos second)
moment_of day second = None

-- the moment that a cell writes, from 1970-01-01 00:00:00 UTC
unfoldable pub moment_cell : List ℕ → Option ℤ
moment_cell text = moment_of (day_cell (take 10 text)) (second_behind (drop 10 text))
