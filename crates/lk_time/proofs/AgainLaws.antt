-- A timeframe of a timeframe is the timeframe, wherever the one is had from the other.
use Rattle.std.proofs.Common.{◌≡◌, ℕ, zero, suc, ◌+◌, ◌-◌, ◌*◌, ◌/◌, ◌<◌, ◌≤◌, true, false, refl, sym, ap, ◌∙◌, arith, pos, ◌+ℤ◌}
use Rattle.std.specs.Prelude.{◌==◌, if◌then◌else◌}
use Rattle.std.proofs.lemmas.Bool.{false≢true}
use Rattle.std.proofs.lemmas.Bool.Decides.{nat_tests}
use Rattle.jiff_core.proofs.SignedLemmas.{signed_arith}
use Rattle.lk_val.specs.declared.value.Value.{Value}
use Rattle.lk_val.specs.declared.value.Value.TheVariants as value
use Rattle.lk_types.specs.Calendar.{from_year_one, from_1970, midnight, day_of_moment, second_of_moment, year_of, month_of, month_start}
use Rattle.lk_types.specs.Timeframes.{framed, timeframe_of, frame_place, is_same_frame, is_had_from, coarsened, day_at}
use Rattle.lk_types.specs.declared.schema.Frame.{Frame}
use Rattle.lk_types.specs.declared.schema.Frame.TheVariants.{Raw, Time, Date, Week, Month, Quarter, Year, HourOfDay, DayOfWeek, DayOfMonth, MonthNum}
use Rattle.lk_time.specs.FrameValues.{IsInYears, IsNoText, frame_value}
use Rattle.lk_time.proofs.YearLaws.{year_of-IsInYear, year_of-range}
use Rattle.lk_time.proofs.CivilLaws.{year_of-IsCivilDay, month_of-IsCivilDay, month_start-bound}
use Rattle.lk_time.proofs.FrameLaws.{from_year_one-from_1970, from_year_one-bound, day_of_moment-range, second_of_moment-bound, day_of_moment-midnight, second_of_moment-midnight, month_of-range, first-of}

-- ---- timeframes by their places

frame_at : ℕ → Frame
frame_at zero = Raw
frame_at (suc zero) = Time
frame_at (suc (suc zero)) = Date
frame_at (suc (suc (suc zero))) = Week
frame_at (suc (suc (suc (suc zero)))) = Month
frame_at (suc (suc (suc (suc (suc zero))))) = Quarter
frame_at (suc (suc (suc (suc (suc (suc zero)))))) = Year
frame_at (suc (suc (suc (suc (suc (suc (suc zero))))))) = HourOfDay
frame_at (suc (suc (suc (suc (suc (suc (suc (suc zero)))))))) = DayOfWeek
frame_at (suc (suc (suc (suc (suc (suc (suc (suc (suc zero))))))))) = DayOfMonth
frame_at (suc (suc (suc (suc (suc (suc (suc (suc (suc (suc n)))))))))) = MonthNum

frame_at-place : (f : Frame) → frame_at (frame_place f) ≡ f
unfolding frame_at
frame_at-place Raw = refl
frame_at-place Time = refl
frame_at-place Date = refl
frame_at-place Week = refl
frame_at-place Month = refl
frame_at-place Quarter = refl
frame_at-place Year = refl
frame_at-place HourOfDay = refl
frame_at-place DayOfWeek = refl
frame_at-place DayOfMonth = refl
frame_at-place MonthNum = refl

same_number : (a b : ℕ) → (a == b) ≡ true → a ≡ b
same_number a b h = grind (arith, nat_tests)

-- only a timeframe itself is the same
pub same_frame : (f g : Frame) → is_same_frame f g ≡ true → f ≡ g
same_frame f g h = sym (frame_at-place f) ∙ ap frame_at (same_number (frame_place f) (frame_place g) h) ∙ frame_at-place g

-- ---- timeframes of a moment, of a day and of the first day of a month

-- only `raw` takes more from the value than its day and second
framed-any : (f : Frame) (v w : Value) (n s : ℕ) → is_had_from f Time ≡ true → framed f v n s ≡ framed f w n s
framed-any Raw v w n s had = absurd (false≢true had)
framed-any f v w n s had = refl

of_moment : (f : Frame) (v : Value) (n s : ℕ) → s < 86400 → is_had_from f Time ≡ true → timeframe_of f (value.Moment (midnight (from_1970 n) +ℤ pos s)) ≡ framed f v n s
of_moment f v n s h had =
    let m = midnight (from_1970 n) +ℤ pos s in
    rw (day_of_moment-midnight (from_1970 n) s h, second_of_moment-midnight (from_1970 n) s h, from_year_one-from_1970 n) (framed-any f (value.Moment m) v n s had)

of_day : (f : Frame) (v : Value) (n s : ℕ) → is_had_from f Date ≡ true → timeframe_of f (day_at n) ≡ framed f v n s
of_day Raw v n s had = absurd (false≢true had)
of_day Time v n s had = absurd (false≢true had)
of_day HourOfDay v n s had = absurd (false≢true had)
of_day f v n s had = rw (from_year_one-from_1970 n) refl

of_month : (f : Frame) (v : Value) (n s : ℕ) → n ≤ 3652058 → is_had_from f Month ≡ true → timeframe_of f (framed Month v n s) ≡ framed f v n s
of_month Month v n s h had =
    let range = month_of-range (year_of n) n (year_of-IsInYear n).from in
    let is = first-of n (month_of (year_of n) n) h range.0 range.1 in
    rw (from_year_one-from_1970 (month_start (year_of n) (month_of (year_of n) n)), year_of-IsCivilDay is, month_of-IsCivilDay is) refl
of_month Quarter v n s h had =
    let range = month_of-range (year_of n) n (year_of-IsInYear n).from in
    let is = first-of n (month_of (year_of n) n) h range.0 range.1 in
    rw (from_year_one-from_1970 (month_start (year_of n) (month_of (year_of n) n)), year_of-IsCivilDay is, month_of-IsCivilDay is) refl
of_month Year v n s h had =
    let range = month_of-range (year_of n) n (year_of-IsInYear n).from in
    let is = first-of n (month_of (year_of n) n) h range.0 range.1 in
    rw (from_year_one-from_1970 (month_start (year_of n) (month_of (year_of n) n)), year_of-IsCivilDay is) refl
of_month MonthNum v n s h had =
    let range = month_of-range (year_of n) n (year_of-IsInYear n).from in
    let is = first-of n (month_of (year_of n) n) h range.0 range.1 in
    rw (from_year_one-from_1970 (month_start (year_of n) (month_of (year_of n) n)), year_of-IsCivilDay is, month_of-IsCivilDay is) refl
of_month f v n s h had = absurd (false≢true had)

of_quarter : (v : Value) (n s : ℕ) → n ≤ 3652058 → timeframe_of Year (framed Quarter v n s) ≡ framed Year v n s
of_quarter v n s h =
    let month = month_of (year_of n) n in
    let range = month_of-range (year_of n) n (year_of-IsInYear n).from in
    let is = first-of n (3 * ((month - 1) / 3) + 1) h (omega arith) (omega (arith, range)) in
    rw (from_year_one-from_1970 (month_start (year_of n) (3 * ((month - 1) / 3) + 1)), year_of-IsCivilDay is) refl

-- ---- the law, for a value that lies s seconds after the midnight of day n

framed_again : (fine coarse : Frame) (v : Value) (n s : ℕ) → n ≤ 3652058 → s < 86400 → ((f : Frame) → timeframe_of f v ≡ framed f v n s) → is_had_from coarse fine ≡ true → is_same_frame coarse fine ≡ false → timeframe_of coarse (framed fine v n s) ≡ framed coarse v n s
framed_again Raw coarse v n s h k framing had other = framing coarse
framed_again Time coarse v n s h k framing had other = of_moment coarse v n s k had
framed_again Date coarse v n s h k framing had other = of_day coarse v n s had
framed_again Month coarse v n s h k framing had other = of_month coarse v n s h had
framed_again Week Week v n s h k framing had other = absurd (false≢true (sym other))
framed_again Week coarse v n s h k framing had other = absurd (false≢true had)
framed_again Quarter Year v n s h k framing had other = of_quarter v n s h
framed_again Quarter Quarter v n s h k framing had other = absurd (false≢true (sym other))
framed_again Quarter coarse v n s h k framing had other = absurd (false≢true had)
framed_again Year Year v n s h k framing had other = absurd (false≢true (sym other))
framed_again Year coarse v n s h k framing had other = absurd (false≢true had)
framed_again HourOfDay HourOfDay v n s h k framing had other = absurd (false≢true (sym other))
framed_again HourOfDay coarse v n s h k framing had other = absurd (false≢true had)
framed_again DayOfWeek DayOfWeek v n s h k framing had other = absurd (false≢true (sym other))
framed_again DayOfWeek coarse v n s h k framing had other = absurd (false≢true had)
framed_again DayOfMonth DayOfMonth v n s h k framing had other = absurd (false≢true (sym other))
framed_again DayOfMonth coarse v n s h k framing had other = absurd (false≢true had)
framed_again MonthNum MonthNum v n s h k framing had other = absurd (false≢true (sym other))
framed_again MonthNum coarse v n s h k framing had other = absurd (false≢true had)

-- framing after framing with another timeframe
again : (fine coarse : Frame) (v : Value) → IsInYears v → is_had_from coarse fine ≡ true → is_same_frame coarse fine ≡ false → timeframe_of coarse (timeframe_of fine v) ≡ timeframe_of coarse v
again fine coarse value.Null is had other = refl
again fine coarse (value.Day d) is had other = framed_again fine coarse (value.Day d) (from_year_one d) 0 (from_year_one-bound d is) (omega arith) (λ f. refl) had other
again fine coarse (value.Moment m) is had other = framed_again fine coarse (value.Moment m) (from_year_one (day_of_moment m)) (second_of_moment m) (from_year_one-bound (day_of_moment m) (day_of_moment-range m is)) (second_of_moment-bound m) (λ f. refl) had other
again fine coarse v is had other = absurd is

pub coarsened-timeframe_of : (fine coarse : Frame) (v : Value) → IsInYears v → is_had_from coarse fine ≡ true → coarsened coarse fine (timeframe_of fine v) ≡ timeframe_of coarse v
coarsened-timeframe_of fine coarse v is had =
    elim (is_same_frame coarse fine) as (λ b. is_same_frame coarse fine ≡ b → (if b then timeframe_of fine v else timeframe_of coarse (timeframe_of fine v)) ≡ timeframe_of coarse v) [
      | true ↦ λ same. ap (λ f. timeframe_of f v) (sym (same_frame coarse fine same))
      | false ↦ λ other. again fine coarse v is had other
    ] refl

-- ---- the values of `frame`, where a day of the week is its day

frame_value-plain : (f : Frame) → is_same_frame f DayOfWeek ≡ false → (v : Value) → frame_value f v ≡ timeframe_of f v
frame_value-plain DayOfWeek other v = absurd (false≢true (sym other))
frame_value-plain f other v = refl

date_again : (fine : Frame) → is_same_frame fine DayOfWeek ≡ false → is_had_from DayOfWeek fine ≡ true → (v : Value) → IsInYears v → timeframe_of Date (timeframe_of fine v) ≡ timeframe_of Date v
date_again Raw other had value.Null is = refl
date_again Raw other had (value.Day d) is = refl
date_again Raw other had (value.Moment m) is = refl
date_again Raw other had v is = absurd is
date_again Time other had v is = again Time Date v is refl refl
date_again Date other had value.Null is = refl
date_again Date other had (value.Day d) is = of_day Date (value.Day d) (from_year_one d) 0 refl
date_again Date other had (value.Moment m) is = of_day Date (value.Moment m) (from_year_one (day_of_moment m)) (second_of_moment m) refl
date_again Date other had v is = absurd is
date_again DayOfWeek other had v is = absurd (false≢true (sym other))
date_again fine other had v is = absurd (false≢true had)

to_other : (fine coarse : Frame) → is_same_frame fine DayOfWeek ≡ false → is_had_from coarse fine ≡ true → is_same_frame coarse fine ≡ false → (v : Value) → IsInYears v → frame_value coarse (timeframe_of fine v) ≡ frame_value coarse v
to_other fine DayOfWeek weekday had other v is = date_again fine weekday had v is
to_other fine coarse weekday had other v is = again fine coarse v is had other

pub frame_value-again : (fine coarse : Frame) → is_same_frame fine DayOfWeek ≡ false → is_had_from coarse fine ≡ true → is_same_frame coarse fine ≡ false → (v : Value) → IsInYears v → frame_value coarse (frame_value fine v) ≡ frame_value coarse v
frame_value-again fine coarse weekday had other v is = rw (frame_value-plain fine weekday v) (to_other fine coarse weekday had other v is)

-- what another timeframe is had from lies in the years
framed-IsInYears : (fine coarse : Frame) (v : Value) (n s : ℕ) → n ≤ 3652058 → s < 86400 → IsInYears v → is_had_from coarse fine ≡ true → is_same_frame coarse fine ≡ false → IsInYears (framed fine v n s)
framed-IsInYears Raw coarse v n s h k is had other = is
framed-IsInYears Time coarse v n s h k is had other = (omega (arith, signed_arith), omega (arith, signed_arith))
framed-IsInYears Date coarse v n s h k is had other = (omega (arith, signed_arith), omega (arith, signed_arith))
framed-IsInYears Month coarse v n s h k is had other =
    let years = year_of-range n h in
    let months = month_of-range (year_of n) n (year_of-IsInYear n).from in
    let bound = month_start-bound (year_of n) (month_of (year_of n) n) years.0 years.1 months.0 months.1 in
    (omega (arith, signed_arith), omega (arith, signed_arith, bound))
framed-IsInYears Quarter coarse v n s h k is had other =
    let years = year_of-range n h in
    let months = month_of-range (year_of n) n (year_of-IsInYear n).from in
    let bound = month_start-bound (year_of n) (3 * ((month_of (year_of n) n - 1) / 3) + 1) years.0 years.1 (omega arith) (omega (arith, months)) in
    (omega (arith, signed_arith), omega (arith, signed_arith, bound))
framed-IsInYears Week Week v n s h k is had other = absurd (false≢true (sym other))
framed-IsInYears Week coarse v n s h k is had other = absurd (false≢true had)
framed-IsInYears Year Year v n s h k is had other = absurd (false≢true (sym other))
framed-IsInYears Year coarse v n s h k is had other = absurd (false≢true had)
framed-IsInYears HourOfDay HourOfDay v n s h k is had other = absurd (false≢true (sym other))
framed-IsInYears HourOfDay coarse v n s h k is had other = absurd (false≢true had)
framed-IsInYears DayOfWeek DayOfWeek v n s h k is had other = absurd (false≢true (sym other))
framed-IsInYears DayOfWeek coarse v n s h k is had other = absurd (false≢true had)
framed-IsInYears DayOfMonth DayOfMonth v n s h k is had other = absurd (false≢true (sym other))
framed-IsInYears DayOfMonth coarse v n s h k is had other = absurd (false≢true had)
framed-IsInYears MonthNum MonthNum v n s h k is had other = absurd (false≢true (sym other))
framed-IsInYears MonthNum coarse v n s h k is had other = absurd (false≢true had)

pub frame_value-IsInYears : (fine coarse : Frame) → is_same_frame fine DayOfWeek ≡ false → is_had_from coarse fine ≡ true → is_same_frame coarse fine ≡ false → (v : Value) → IsInYears v → IsInYears (frame_value fine v)
frame_value-IsInYears fine coarse weekday had other v is = rw (frame_value-plain fine weekday v) (in_years fine coarse had other v is)
  where
    in_years : (fine coarse : Frame) → is_had_from coarse fine ≡ true → is_same_frame coarse fine ≡ false → (v : Value) → IsInYears v → IsInYears (timeframe_of fine v)
    in_years fine coarse had other value.Null is = is
    in_years fine coarse had other (value.Day d) is = framed-IsInYears fine coarse (value.Day d) (from_year_one d) 0 (from_year_one-bound d is) (omega arith) is had other
    in_years fine coarse had other (value.Moment m) is = framed-IsInYears fine coarse (value.Moment m) (from_year_one (day_of_moment m)) (second_of_moment m) (from_year_one-bound (day_of_moment m) (day_of_moment-range m is)) (second_of_moment-bound m) is had other
    in_years fine coarse had other v is = absurd is

-- only a day of the week is a text
framed-IsNoText : (f : Frame) (v : Value) (n s : ℕ) → IsNoText v → is_same_frame f DayOfWeek ≡ false → IsNoText (framed f v n s)
framed-IsNoText Raw v n s is weekday = is
framed-IsNoText DayOfWeek v n s is weekday = absurd (false≢true (sym weekday))
framed-IsNoText f v n s is weekday = tt

pub frame_value-IsNoText : (f : Frame) → is_same_frame f DayOfWeek ≡ false → (v : Value) → IsInYears v → IsNoText (frame_value f v)
frame_value-IsNoText f weekday v is = rw (frame_value-plain f weekday v) (no_text f weekday v is)
  where
    no_text : (f : Frame) → is_same_frame f DayOfWeek ≡ false → (v : Value) → IsInYears v → IsNoText (timeframe_of f v)
    no_text f weekday value.Null is = tt
    no_text f weekday (value.Day d) is = framed-IsNoText f (value.Day d) (from_year_one d) 0 tt weekday
    no_text f weekday (value.Moment m) is = framed-IsNoText f (value.Moment m) (from_year_one (day_of_moment m)) (second_of_moment m) tt weekday
    no_text f weekday v is = absurd is
