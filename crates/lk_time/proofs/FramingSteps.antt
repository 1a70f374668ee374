-- What `frame` computes for days and moments is the timeframe.
use Rattle.std.proofs.Common.{◌≡◌, refl, sym, ap, ◌∙◌, arith, ℤ, pos, ◌+ℤ◌, ◌*ℤ◌, ⊎_elim}
use Rattle.std.specs.Prelude.{◌⊎◌}
use Rattle.jiff_core.proofs.SignedLemmas.{signed_arith}
use Rattle.lk_val.specs.declared.value.Value.TheVariants as value
use Rattle.lk_types.specs.Calendar.{from_year_one, from_1970, midnight, day_of_moment, second_of_moment}
use Rattle.lk_types.specs.declared.schema.Frame.{Frame}
use Rattle.lk_types.specs.declared.schema.Frame.TheVariants.{Raw, Time, Date, HourOfDay, DayOfWeek}
use Rattle.lk_val.specs.Years.{IsDayInYears, IsMomentInYears}
use Rattle.lk_time.specs.FrameValues.{frame_value}
use Rattle.lk_time.proofs.FrameLaws.{from_1970-from_year_one, moment-parts, day_of_moment-range}

pub day_of_day : (f : Frame) (d : ℤ) → IsDayInYears d → (f ≡ Raw) ⊎ ((f ≡ Date) ⊎ (f ≡ DayOfWeek)) → value.Day d ≡ frame_value f (value.Day d)
day_of_day f d is which =
    let same = ap value.Day (sym (from_1970-from_year_one d is.0)) in
    ⊎_elim (λ e. rw e refl) (λ more. ⊎_elim (λ e. rw e same) (λ e. rw e same) more) which

pub time_of_day : (d m : ℤ) → IsDayInYears d → m ≡ d *ℤ pos 86400 → value.Moment m ≡ frame_value Time (value.Day d)
time_of_day d m is e =
    let start : m ≡ midnight d +ℤ pos 0 = omega (arith, signed_arith) in
    rw (from_1970-from_year_one d is.0) (ap value.Moment start)

pub moment_of_moment : (f : Frame) (m : ℤ) → IsMomentInYears m → (f ≡ Raw) ⊎ (f ≡ Time) → value.Moment m ≡ frame_value f (value.Moment m)
moment_of_moment f m is which =
    let start : midnight (from_1970 (from_year_one (day_of_moment m))) +ℤ pos (second_of_moment m) ≡ m = ap (λ d. midnight d +ℤ pos (second_of_moment m)) (from_1970-from_year_one (day_of_moment m) (day_of_moment-range m is).0) ∙ moment-parts m in
    ⊎_elim (λ e. rw e refl) (λ e. rw e (ap value.Moment (sym start))) which

pub day_of_moment-frame : (f : Frame) (m : ℤ) → (f ≡ Raw → ⊥) → (f ≡ Time → ⊥) → (f ≡ HourOfDay → ⊥) → frame_value f (value.Day (day_of_moment m)) ≡ frame_value f (value.Moment m)
day_of_moment-frame Raw m raw time hour = absurd (raw refl)
day_of_moment-frame Time m raw time hour = absurd (time refl)
day_of_moment-frame HourOfDay m raw time hour = absurd (hour refl)
day_of_moment-frame f m raw time hour = refl
