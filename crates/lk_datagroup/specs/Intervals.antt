-- Intervals of datagroups: a number, one space, and a unit in the singular or in the plural. (Looker, LookML reference: interval_trigger)
use Rattle.std.specs.Prelude.{ℕ, Bool, ◌&&◌, ◌||◌, ◌*◌, nat_eq, nat_le, if◌then◌else◌, List, Option, Some, None, codes}
use Rattle.std.specs.Char.{is_ascii_digit}
use Rattle.std.specs.Str.Parse.{digits_value}
use Rattle.std.specs.List.{after_first, before_first, list_all, list_any}
use Rattle.lk_val.specs.Texts.{is_same_text}

-- the seconds of a unit
abbrev pub seconds_in : List ℕ → Option ℕ
seconds_in unit =
    if is_same_text unit (codes "second") || is_same_text unit (codes "seconds") then Some 1
    else if is_same_text unit (codes "minute") || is_same_text unit (codes "minutes") then Some 60
    else if is_same_text unit (codes "hour") || is_same_text unit (codes "hours") then Some 3600
    else None

abbrev pub is_space : ℕ → Bool
is_space c = nat_eq c 32

-- digits, leading zeros among them, from 1 to 1,000,000
abbrev pub is_count : List ℕ → Bool
is_count text = list_all is_ascii_digit text && (nat_le 1 (digits_value 10 text) && nat_le (digits_value 10 text) 1000000)

-- the number that such a text is
abbrev pub count_of : List ℕ → Option ℕ
count_of text = if is_count text then Some (digits_value 10 text) else None

-- the interval in seconds: what stands before the first space is the number, and what stands behind it the unit
abbrev pub interval_of : List ℕ → Option ℕ
interval_of text =
    if list_any is_space text
    then times (count_of (before_first is_space text)) (seconds_in (after_first is_space text))
    else None
  where
    times : Option ℕ → Option ℕ → Option ℕ
    times (Some n) (Some seconds) = Some (n * seconds)
    times n seconds = None
