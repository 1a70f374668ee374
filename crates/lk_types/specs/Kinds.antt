-- The kinds that an expression may have. (lookd)
use Rattle.std.specs.Prelude.{◌≡◌, ℕ, Bool, true, false, not, ◌&&◌, ◌||◌, List, slice_get, Option, Some, None}
use Rattle.lk_val.specs.declared.value.Value.{Value}
use Rattle.lk_val.specs.declared.value.Value.TheVariants as value
use Rattle.lk_types.specs.Formula.{Formula, Column, Literal, Framed, Not, And, Or, Compare, IsNull, In, Between, Like, Number, Negate, Concat, Lower, Upper, Case, Coalesce, NullIf, Formulas, no_more, more, Cases, without_else, otherwise, when}
use Rattle.lk_types.specs.Expressions.{column_of}
use Rattle.lk_types.specs.Tables.{is_of_kind}
use Rattle.lk_types.specs.declared.rows.Joined.{Joined}
use Rattle.lk_types.specs.declared.schema.Frame.{Frame}
use Rattle.lk_types.specs.declared.schema.Frame.TheVariants as frame
use Rattle.lk_types.specs.declared.schema.Kind.{Kind}
use Rattle.lk_types.specs.declared.schema.Kind.TheVariants as kind
use Rattle.lk_types.specs.declared.kind_set.KindSet.{KindSet}
use Rattle.lk_types.specs.declared.kind_set.Leaves.{Leaves}

-- ---- sets of kinds

-- the empty set
abbrev pub no_kind : KindSet
no_kind = record { text = false; number = false; truth = false; day = false; moment = false }

-- the set of all kinds
abbrev pub every_kind : KindSet
every_kind = record { text = true; number = true; truth = true; day = true; moment = true }

-- the set of one kind
abbrev pub only : Kind → KindSet
only kind.Text = record no_kind { text = true }
only kind.Number = record no_kind { number = true }
only kind.Truth = record no_kind { truth = true }
only kind.Day = record no_kind { day = true }
only kind.Moment = record no_kind { moment = true }

-- no kind is in the set
abbrev pub is_empty : KindSet → Bool
is_empty s = not (s.text || (s.number || (s.truth || (s.day || s.moment))))

-- the kinds in both sets
abbrev pub shared : KindSet → KindSet → KindSet
shared s t = record { text = s.text && t.text; number = s.number && t.number; truth = s.truth && t.truth; day = s.day && t.day; moment = s.moment && t.moment }

-- the set, where a condition holds
abbrev pub kinds_if : Bool → KindSet → KindSet
kinds_if true s = s
kinds_if false s = no_kind

-- the kind of a set that has one alone; none of a larger set, and of the empty one
abbrev pub single_of : Bool → Bool → Bool → Bool → Bool → Option Kind
single_of true false false false false = Some kind.Text
single_of false true false false false = Some kind.Number
single_of false false true false false = Some kind.Truth
single_of false false false true false = Some kind.Day
single_of false false false false true = Some kind.Moment
single_of a b c d e = None

abbrev pub single : KindSet → Option Kind
single s = single_of s.text s.number s.truth s.day s.moment

-- a day or moment is in the set
abbrev pub has_time : KindSet → Bool
has_time s = s.day || s.moment

-- the kinds that compare with some kind of a set: its own, and day and moment with each other
abbrev pub comparable : KindSet → KindSet
comparable s = record s { day = has_time s; moment = has_time s }

-- some kind of the one set compares with some kind of the other
unfoldable pub do_compare : KindSet → KindSet → Bool
do_compare s t = not (is_empty (shared s (comparable t)))

-- the kind is in the set
abbrev pub has_kind : Kind → KindSet → Bool
has_kind kind.Text s = s.text
has_kind kind.Number s = s.number
has_kind kind.Truth s = s.truth
has_kind kind.Day s = s.day
has_kind kind.Moment s = s.moment

-- two kinds are the same
abbrev pub is_same_kind : Kind → Kind → Bool
is_same_kind j k = has_kind j (only k)

-- ---- kinds of values and columns

-- null has every kind
abbrev pub kinds_of_value : Value → KindSet
kinds_of_value value.Null = every_kind
kinds_of_value (value.Text t) = only kind.Text
kinds_of_value (value.Num n) = only kind.Number
kinds_of_value (value.Truth b) = only kind.Truth
kinds_of_value (value.Day d) = only kind.Day
kinds_of_value (value.Moment m) = only kind.Moment

-- the kind of a column among those of its part, if there is such a column
abbrev pub kind_among : Option (List Kind) → ℕ → Option Kind
kind_among None column = None
kind_among (Some kinds) column = slice_get kinds column

-- the kind of a part's column
abbrev pub kind_at : Leaves → ℕ → ℕ → Option Kind
kind_at leaves part column = kind_among (slice_get leaves.kinds part) column

-- where there is no such column, there is no kind
abbrev pub kinds_of_column : Option Kind → KindSet
kinds_of_column None = no_kind
kinds_of_column (Some k) = only k

-- a timeframe is of a day or moment, and has a kind of its own; the raw one is the day or moment itself
abbrev pub kinds_framed : Frame → KindSet → KindSet
kinds_framed frame.Raw s = record no_kind { day = s.day; moment = s.moment }
kinds_framed frame.Time s = kinds_if (has_time s) (only kind.Moment)
kinds_framed frame.HourOfDay s = kinds_if (has_time s) (only kind.Number)
kinds_framed frame.DayOfMonth s = kinds_if (has_time s) (only kind.Number)
kinds_framed frame.MonthNum s = kinds_if (has_time s) (only kind.Number)
kinds_framed frame.DayOfWeek s = kinds_if (has_time s) (only kind.Text)
kinds_framed f s = kinds_if (has_time s) (only kind.Day)

-- ---- kinds of expressions

-- truth, where a condition holds; number and text alike
abbrev pub truth_if : Bool → KindSet
truth_if b = kinds_if b (only kind.Truth)

abbrev pub number_if : Bool → KindSet
number_if b = kinds_if b (only kind.Number)

abbrev pub text_if : Bool → KindSet
text_if b = kinds_if b (only kind.Text)

abbrev mutual
  -- the kinds that an expression may have, where each null has every kind by itself; none where kinds clash in it
  pub kinds_of : Leaves → Formula → KindSet
  kinds_of leaves (Column part column) = kinds_of_column (kind_at leaves part column)
  kinds_of leaves (Literal v) = kinds_of_value v
  kinds_of leaves (Framed f a) = kinds_framed f (kinds_of leaves a)
  kinds_of leaves (Not a) = truth_if (kinds_of leaves a).truth
  kinds_of leaves (And a b) = truth_if ((kinds_of leaves a).truth && (kinds_of leaves b).truth)
  kinds_of leaves (Or a b) = truth_if ((kinds_of leaves a).truth && (kinds_of leaves b).truth)
  kinds_of leaves (Compare c a b) = truth_if (do_compare (kinds_of leaves a) (kinds_of leaves b))
  kinds_of leaves (IsNull a) = truth_if (not (is_empty (kinds_of leaves a)))
  kinds_of leaves (In a xs) = truth_if (not (is_empty (kinds_of leaves a)) && do_all_compare leaves (kinds_of leaves a) xs)
  kinds_of leaves (Between a low high) = truth_if (do_compare (kinds_of leaves a) (kinds_of leaves low) && do_compare (kinds_of leaves a) (kinds_of leaves high))
  kinds_of leaves (Like a pieces) = truth_if (kinds_of leaves a).text
  kinds_of leaves (Number op a b) = number_if ((kinds_of leaves a).number && (kinds_of leaves b).number)
  kinds_of leaves (Negate a) = number_if (kinds_of leaves a).number
  kinds_of leaves (Concat a b) = text_if ((kinds_of leaves a).text && (kinds_of leaves b).text)
  kinds_of leaves (Lower a) = text_if (kinds_of leaves a).text
  kinds_of leaves (Upper a) = text_if (kinds_of leaves a).text
  kinds_of leaves (Case cases) = kinds_of_cases leaves cases
  kinds_of leaves (Coalesce xs) = kinds_of_all leaves xs
  kinds_of leaves (NullIf a b) = shared (kinds_of leaves a) (comparable (kinds_of leaves b))

  -- each expression compares with one of the kinds
  pub do_all_compare : Leaves → KindSet → Formulas → Bool
  do_all_compare leaves s no_more = true
  do_all_compare leaves s (more a xs) = do_compare s (kinds_of leaves a) && do_all_compare leaves s xs

  -- the kinds that all the expressions may have
  pub kinds_of_all : Leaves → Formulas → KindSet
  kinds_of_all leaves no_more = every_kind
  kinds_of_all leaves (more a xs) = shared (kinds_of leaves a) (kinds_of_all leaves xs)

  -- the kinds that all the branches may have, where the conditions may be truth values
  pub kinds_of_cases : Leaves → Cases → KindSet
  kinds_of_cases leaves without_else = every_kind
  kinds_of_cases leaves (otherwise a) = kinds_of leaves a
  kinds_of_cases leaves (when c a rest) = kinds_if (kinds_of leaves c).truth (shared (kinds_of leaves a) (kinds_of_cases leaves rest))

-- ---- rows

-- each cell of the row is null, or of its column's kind
abbrev pub HasKinds : Leaves → Joined → Type 0
HasKinds leaves row = (part column : ℕ) (k : Kind) → kind_at leaves part column ≡ Some k → is_of_kind k (column_of row part column) ≡ true
