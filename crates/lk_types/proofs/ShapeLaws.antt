-- Shaped values have the kind that their shape makes.
use Rattle.std.proofs.Common.{◌≡◌, ℕ, List, true, refl}
use Rattle.std.specs.Prelude.{ℤ}
use Rattle.lk_types.specs.Calendar.{from_year_one, day_of_moment, second_of_moment}
use Rattle.lk_val.specs.declared.value.Value.{Value}
use Rattle.lk_val.specs.declared.value.Value.TheVariants as value
use Rattle.lk_types.specs.Tables.{is_of_kind}
use Rattle.lk_types.specs.Timeframes.{framed, timeframe_of}
use Rattle.lk_types.specs.Shapes.{shaped, shaped_kind, framed_kind, plain_value, tier_of}
use Rattle.lk_types.specs.declared.schema.Kind.{Kind}
use Rattle.lk_types.specs.declared.schema.Kind.TheVariants as kind
use Rattle.lk_types.specs.declared.schema.Frame.{Frame}
use Rattle.lk_types.specs.declared.schema.Frame.TheVariants as frame
use Rattle.lk_types.specs.declared.explore.Shape.{Shape}
use Rattle.lk_types.specs.declared.explore.Shape.TheVariants as shape

plain_kind : (k : Kind) (v : Value) → is_of_kind k v ≡ true → is_of_kind k (plain_value k v) ≡ true
plain_kind kind.Text v h = h
plain_kind kind.Number v h = h
plain_kind kind.Day v h = h
plain_kind kind.Moment v h = h
plain_kind kind.Truth (value.Truth b) h = refl
plain_kind kind.Truth value.Null h = refl
plain_kind kind.Truth (value.Text t) h = refl
plain_kind kind.Truth (value.Num n) h = refl
plain_kind kind.Truth (value.Day d) h = refl
plain_kind kind.Truth (value.Moment m) h = refl

tier_kind : (bounds : List ℤ) (v : Value) → is_of_kind kind.Number (tier_of bounds v) ≡ true
tier_kind bounds (value.Num n) = refl
tier_kind bounds value.Null = refl
tier_kind bounds (value.Text t) = refl
tier_kind bounds (value.Truth b) = refl
tier_kind bounds (value.Day d) = refl
tier_kind bounds (value.Moment m) = refl

-- a timeframe of a value of a kind has the kind of the timeframe
kind_framed : (f : Frame) (k : Kind) (v : Value) (n s : ℕ) → is_of_kind k v ≡ true → is_of_kind (framed_kind f k) (framed f v n s) ≡ true
kind_framed frame.Raw k v n s h = h
kind_framed frame.Time k v n s h = refl
kind_framed frame.Date k v n s h = refl
kind_framed frame.Week k v n s h = refl
kind_framed frame.Month k v n s h = refl
kind_framed frame.Quarter k v n s h = refl
kind_framed frame.Year k v n s h = refl
kind_framed frame.HourOfDay k v n s h = refl
kind_framed frame.DayOfWeek k v n s h = refl
kind_framed frame.DayOfMonth k v n s h = refl
kind_framed frame.MonthNum k v n s h = refl

null_kind : (k : Kind) → is_of_kind k value.Null ≡ true
null_kind k = refl

frame_kind : (f : Frame) (k : Kind) (v : Value) → is_of_kind k v ≡ true → is_of_kind (framed_kind f k) (timeframe_of f v) ≡ true
frame_kind f k (value.Day d) h = kind_framed f k (value.Day d) (from_year_one d) 0 h
frame_kind f k (value.Moment m) h = kind_framed f k (value.Moment m) (from_year_one (day_of_moment m)) (second_of_moment m) h
frame_kind f k value.Null h = null_kind (framed_kind f k)
frame_kind f k (value.Text t) h = null_kind (framed_kind f k)
frame_kind f k (value.Num n) h = null_kind (framed_kind f k)
frame_kind f k (value.Truth b) h = null_kind (framed_kind f k)

pub shaped_kinds : (s : Shape) (k : Kind) (v : Value) → is_of_kind k v ≡ true → is_of_kind (shaped_kind s k) (shaped s k v) ≡ true
shaped_kinds shape.Plain k v h = plain_kind k v h
shaped_kinds (shape.Tier bounds) k v h = tier_kind bounds v
shaped_kinds (shape.Frame group f) k v h = frame_kind f k v h
