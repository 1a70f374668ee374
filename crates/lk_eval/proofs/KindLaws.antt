-- The value of an expression is null, or the expression has no kind but the value's.
use Rattle.std.proofs.Common.{◌≡◌, ℕ, Bool, true, false, not, ◌&&◌, ◌||◌, List, ◌++◌, Option, Some, None, refl, sym}
use Rattle.std.specs.Prelude.{if◌then◌else◌}
use Rattle.std.proofs.lemmas.Bool.{false≢true}
use Rattle.lk_val.specs.Values.{is_null}
use Rattle.lk_val.specs.declared.num.Num.{Num}
use Rattle.lk_val.specs.declared.value.Value.{Value}
use Rattle.lk_val.specs.declared.value.Value.TheVariants as value
use Rattle.lk_types.specs.Formula.{Formula, Column, Literal, Framed, Not, And, Or, Compare, IsNull, In, Between, Like, Number, Negate, Concat, Lower, Upper, Case, Coalesce, NullIf, Formulas, no_more, more, Cases, without_else, otherwise, when}
use Rattle.lk_types.specs.Expressions.{value_of, values_of, first_case, column_of, value_of_truth, value_of_num, apply, negated, joined_text, on_text, first_known, null_if, is_true, computed}
use Rattle.lk_types.specs.Tables.{is_of_kind}
use Rattle.lk_types.specs.Timeframes.{timeframe_of}
use Rattle.lk_types.specs.declared.expr.Arithmetic.{Arithmetic}
use Rattle.lk_types.specs.declared.rows.Joined.{Joined}
use Rattle.lk_types.specs.declared.schema.Frame.{Frame}
use Rattle.lk_types.specs.declared.schema.Frame.TheVariants as frame
use Rattle.lk_types.specs.declared.schema.Kind.{Kind}
use Rattle.lk_types.specs.declared.schema.Kind.TheVariants as kind
use Rattle.lk_types.specs.Kinds.{no_kind, only, is_empty, shared, kinds_if, single, single_of, has_time, comparable, kinds_of_value, kind_at, kinds_of_column, kinds_framed, truth_if, number_if, text_if, kinds_of, kinds_of_all, kinds_of_cases, HasKinds}
use Rattle.lk_types.specs.declared.kind_set.KindSet.{KindSet}
use Rattle.lk_types.specs.declared.kind_set.Leaves.{Leaves}

-- the set has no kind but the value's; for null it may be any set
abbrev fits : KindSet → Value → Type 0
fits s value.Null = Unit {0}
fits s (value.Text t) = (s.number ≡ false) × (s.truth ≡ false) × (s.day ≡ false) × (s.moment ≡ false)
fits s (value.Num n) = (s.text ≡ false) × (s.truth ≡ false) × (s.day ≡ false) × (s.moment ≡ false)
fits s (value.Truth b) = (s.text ≡ false) × (s.number ≡ false) × (s.day ≡ false) × (s.moment ≡ false)
fits s (value.Day d) = (s.text ≡ false) × (s.number ≡ false) × (s.truth ≡ false) × (s.moment ≡ false)
fits s (value.Moment m) = (s.text ≡ false) × (s.number ≡ false) × (s.truth ≡ false) × (s.day ≡ false)

and_left : (a b : Bool) → a ≡ false → (a && b) ≡ false
and_left true b h = absurd (false≢true (sym h))
and_left false b h = refl

and_right : (a b : Bool) → b ≡ false → (a && b) ≡ false
and_right true b h = h
and_right false b h = refl

-- fewer kinds fit as well
shared-left : (s t : KindSet) (v : Value) → fits s v → fits (shared s t) v
shared-left s t value.Null h = tt
shared-left s t (value.Text x) h = (and_left s.number t.number h.0, and_left s.truth t.truth h.1, and_left s.day t.day h.2, and_left s.moment t.moment h.3)
shared-left s t (value.Num x) h = (and_left s.text t.text h.0, and_left s.truth t.truth h.1, and_left s.day t.day h.2, and_left s.moment t.moment h.3)
shared-left s t (value.Truth x) h = (and_left s.text t.text h.0, and_left s.number t.number h.1, and_left s.day t.day h.2, and_left s.moment t.moment h.3)
shared-left s t (value.Day x) h = (and_left s.text t.text h.0, and_left s.number t.number h.1, and_left s.truth t.truth h.2, and_left s.moment t.moment h.3)
shared-left s t (value.Moment x) h = (and_left s.text t.text h.0, and_left s.number t.number h.1, and_left s.truth t.truth h.2, and_left s.day t.day h.3)

shared-right : (s t : KindSet) (v : Value) → fits t v → fits (shared s t) v
shared-right s t value.Null h = tt
shared-right s t (value.Text x) h = (and_right s.number t.number h.0, and_right s.truth t.truth h.1, and_right s.day t.day h.2, and_right s.moment t.moment h.3)
shared-right s t (value.Num x) h = (and_right s.text t.text h.0, and_right s.truth t.truth h.1, and_right s.day t.day h.2, and_right s.moment t.moment h.3)
shared-right s t (value.Truth x) h = (and_right s.text t.text h.0, and_right s.number t.number h.1, and_right s.day t.day h.2, and_right s.moment t.moment h.3)
shared-right s t (value.Day x) h = (and_right s.text t.text h.0, and_right s.number t.number h.1, and_right s.truth t.truth h.2, and_right s.moment t.moment h.3)
shared-right s t (value.Moment x) h = (and_right s.text t.text h.0, and_right s.number t.number h.1, and_right s.truth t.truth h.2, and_right s.day t.day h.3)

none-fits : (v : Value) → fits no_kind v
none-fits value.Null = tt
none-fits (value.Text x) = (refl, refl, refl, refl)
none-fits (value.Num x) = (refl, refl, refl, refl)
none-fits (value.Truth x) = (refl, refl, refl, refl)
none-fits (value.Day x) = (refl, refl, refl, refl)
none-fits (value.Moment x) = (refl, refl, refl, refl)

kinds_if-fits : (b : Bool) (s : KindSet) (v : Value) → fits s v → fits (kinds_if b s) v
kinds_if-fits true s v h = h
kinds_if-fits false s v h = none-fits v

-- ---- the values of each form

literal : (v : Value) → fits (kinds_of_value v) v
literal value.Null = tt
literal (value.Text x) = (refl, refl, refl, refl)
literal (value.Num x) = (refl, refl, refl, refl)
literal (value.Truth x) = (refl, refl, refl, refl)
literal (value.Day x) = (refl, refl, refl, refl)
literal (value.Moment x) = (refl, refl, refl, refl)

of_kind : (k : Kind) (v : Value) → is_of_kind k v ≡ true → fits (only k) v
of_kind k value.Null h = tt
of_kind kind.Text (value.Text t) h = (refl, refl, refl, refl)
of_kind kind.Number (value.Num n) h = (refl, refl, refl, refl)
of_kind kind.Truth (value.Truth b) h = (refl, refl, refl, refl)
of_kind kind.Day (value.Day d) h = (refl, refl, refl, refl)
of_kind kind.Moment (value.Moment m) h = (refl, refl, refl, refl)
of_kind k v h = absurd (false≢true h)

column : (o : Option Kind) (v : Value) → ((k : Kind) → o ≡ Some k → is_of_kind k v ≡ true) → fits (kinds_of_column o) v
column None v h = none-fits v
column (Some k) v h = of_kind k v (h k refl)

truth : (b : Bool) (o : Option Bool) → fits (truth_if b) (value_of_truth o)
truth b None = tt
truth b (Some t) = kinds_if-fits b (only kind.Truth) (value.Truth t) (refl, refl, refl, refl)

number : (b : Bool) (o : Option Num) → fits (number_if b) (value_of_num o)
number b None = tt
number b (Some n) = kinds_if-fits b (only kind.Number) (value.Num n) (refl, refl, refl, refl)

arithmetic : (b : Bool) (op : Arithmetic) (v w : Value) → fits (number_if b) (apply op v w)
arithmetic b op (value.Num x) (value.Num y) = number b (computed op x y)
arithmetic b op v w = tt

negative : (b : Bool) (v : Value) → fits (number_if b) (negated v)
negative b (value.Num x) = number b _
negative b v = tt

text : (b : Bool) (t : List ℕ) → fits (text_if b) (value.Text t)
text b t = kinds_if-fits b (only kind.Text) (value.Text t) (refl, refl, refl, refl)

choice : (b : Bool) (s : KindSet) (v w : Value) → fits s v → fits s w → fits s (if b then v else w)
choice true s v w p q = p
choice false s v w p q = q

concat : (b : Bool) (v w : Value) → fits (text_if b) (joined_text v w)
concat b (value.Text x) (value.Text y) = choice _ (text_if b) (value.Text (x ++ y)) value.Null (text b (x ++ y)) tt
concat b v w = tt

letters : (b : Bool) (f : List ℕ → List ℕ) (v : Value) → fits (text_if b) (on_text f v)
letters b f (value.Text x) = text b (f x)
letters b f v = tt

-- the set of one kind, or of none, has no other kind
text_alone : (b : Bool) → ((text_if b).number ≡ false) × ((text_if b).truth ≡ false) × ((text_if b).day ≡ false) × ((text_if b).moment ≡ false)
text_alone true = (refl, refl, refl, refl)
text_alone false = (refl, refl, refl, refl)

number_alone : (b : Bool) → ((number_if b).text ≡ false) × ((number_if b).truth ≡ false) × ((number_if b).day ≡ false) × ((number_if b).moment ≡ false)
number_alone true = (refl, refl, refl, refl)
number_alone false = (refl, refl, refl, refl)

day_alone : (b : Bool) → ((kinds_if b (only kind.Day)).text ≡ false) × ((kinds_if b (only kind.Day)).number ≡ false) × ((kinds_if b (only kind.Day)).truth ≡ false) × ((kinds_if b (only kind.Day)).moment ≡ false)
day_alone true = (refl, refl, refl, refl)
day_alone false = (refl, refl, refl, refl)

moment_alone : (b : Bool) → ((kinds_if b (only kind.Moment)).text ≡ false) × ((kinds_if b (only kind.Moment)).number ≡ false) × ((kinds_if b (only kind.Moment)).truth ≡ false) × ((kinds_if b (only kind.Moment)).day ≡ false)
moment_alone true = (refl, refl, refl, refl)
moment_alone false = (refl, refl, refl, refl)

timeframe : (f : Frame) (s : KindSet) (v : Value) → fits s v → fits (kinds_framed f s) (timeframe_of f v)
timeframe frame.Raw s (value.Day d) h = (refl, refl, refl, h.3)
timeframe frame.Raw s (value.Moment m) h = (refl, refl, refl, h.3)
timeframe frame.Time s (value.Day d) h = moment_alone (has_time s)
timeframe frame.Time s (value.Moment d) h = moment_alone (has_time s)
timeframe frame.HourOfDay s (value.Day d) h = number_alone (has_time s)
timeframe frame.HourOfDay s (value.Moment d) h = number_alone (has_time s)
timeframe frame.DayOfMonth s (value.Day d) h = number_alone (has_time s)
timeframe frame.DayOfMonth s (value.Moment d) h = number_alone (has_time s)
timeframe frame.MonthNum s (value.Day d) h = number_alone (has_time s)
timeframe frame.MonthNum s (value.Moment d) h = number_alone (has_time s)
timeframe frame.DayOfWeek s (value.Day d) h = text_alone (has_time s)
timeframe frame.DayOfWeek s (value.Moment d) h = text_alone (has_time s)
timeframe f s (value.Day d) h = day_alone (has_time s)
timeframe f s (value.Moment d) h = day_alone (has_time s)
timeframe f s v h = tt

mutual
  pub value_of-fits : (leaves : Leaves) (e : Formula) (row : Joined) → HasKinds leaves row → fits (kinds_of leaves e) (value_of e row)
  value_of-fits leaves (Column part c) row h = column (kind_at leaves part c) (column_of row part c) (λ k is. h part c k is)
  value_of-fits leaves (Literal v) row h = literal v
  value_of-fits leaves (Framed f a) row h = timeframe f (kinds_of leaves a) (value_of a row) (value_of-fits leaves a row h)
  value_of-fits leaves (Not a) row h = truth _ _
  value_of-fits leaves (And a b) row h = truth _ _
  value_of-fits leaves (Or a b) row h = truth _ _
  value_of-fits leaves (Compare c a b) row h = truth _ _
  value_of-fits leaves (IsNull a) row h = truth _ (Some (is_null (value_of a row)))
  value_of-fits leaves (In a xs) row h = truth _ _
  value_of-fits leaves (Between a low high) row h = truth _ _
  value_of-fits leaves (Like a pieces) row h = truth _ _
  value_of-fits leaves (Number op a b) row h = arithmetic _ op (value_of a row) (value_of b row)
  value_of-fits leaves (Negate a) row h = negative _ (value_of a row)
  value_of-fits leaves (Concat a b) row h = concat _ (value_of a row) (value_of b row)
  value_of-fits leaves (Lower a) row h = letters _ _ (value_of a row)
  value_of-fits leaves (Upper a) row h = letters _ _ (value_of a row)
  value_of-fits leaves (Case cases) row h = first_case-fits leaves cases row h
  value_of-fits leaves (Coalesce xs) row h = first_known-fits leaves xs row h
  value_of-fits leaves (NullIf a b) row h = shared-left (kinds_of leaves a) (comparable (kinds_of leaves b)) (null_if (value_of a row) (value_of b row)) (choice _ (kinds_of leaves a) value.Null (value_of a row) tt (value_of-fits leaves a row h))

  first_known-fits : (leaves : Leaves) (xs : Formulas) (row : Joined) → HasKinds leaves row → fits (kinds_of_all leaves xs) (first_known (values_of xs row))
  first_known-fits leaves no_more row h = tt
  first_known-fits leaves (more a xs) row h =
      choice (is_null (value_of a row)) (shared (kinds_of leaves a) (kinds_of_all leaves xs)) (first_known (values_of xs row)) (value_of a row)
      (shared-right (kinds_of leaves a) (kinds_of_all leaves xs) (first_known (values_of xs row)) (first_known-fits leaves xs row h))
      (shared-left (kinds_of leaves a) (kinds_of_all leaves xs) (value_of a row) (value_of-fits leaves a row h))

  first_case-fits : (leaves : Leaves) (cases : Cases) (row : Joined) → HasKinds leaves row → fits (kinds_of_cases leaves cases) (first_case cases row)
  first_case-fits leaves without_else row h = tt
  first_case-fits leaves (otherwise a) row h = value_of-fits leaves a row h
  first_case-fits leaves (when c a rest) row h =
      let s = shared (kinds_of leaves a) (kinds_of_cases leaves rest) in
      kinds_if-fits (kinds_of leaves c).truth s (first_case (when c a rest) row)
      (choice (is_true (value_of c row)) s (value_of a row) (first_case rest row)
      (shared-left (kinds_of leaves a) (kinds_of_cases leaves rest) (value_of a row) (value_of-fits leaves a row h))
      (shared-right (kinds_of leaves a) (kinds_of_cases leaves rest) (first_case rest row) (first_case-fits leaves rest row h)))

-- ---- the one kind of a set

one_text : (b : Bool) (k : Kind) → single_of b false false false false ≡ Some k → k ≡ kind.Text
one_text true k e = cc
one_text false k e = cc

one_number : (b : Bool) (k : Kind) → single_of false b false false false ≡ Some k → k ≡ kind.Number
one_number true k e = cc
one_number false k e = cc

one_truth : (b : Bool) (k : Kind) → single_of false false b false false ≡ Some k → k ≡ kind.Truth
one_truth true k e = cc
one_truth false k e = cc

one_day : (b : Bool) (k : Kind) → single_of false false false b false ≡ Some k → k ≡ kind.Day
one_day true k e = cc
one_day false k e = cc

one_moment : (b : Bool) (k : Kind) → single_of false false false false b ≡ Some k → k ≡ kind.Moment
one_moment true k e = cc
one_moment false k e = cc

-- a value that fits is of the set's one kind
pub of_single : (s : KindSet) (v : Value) (k : Kind) → fits s v → single s ≡ Some k → is_of_kind k v ≡ true
of_single s value.Null k h e = refl
of_single s (value.Text x) k h e = rw (one_text s.text k (rw h.0 at (rw h.1 at (rw h.2 at (rw h.3 at e))))) refl
of_single s (value.Num x) k h e = rw (one_number s.number k (rw h.0 at (rw h.1 at (rw h.2 at (rw h.3 at e))))) refl
of_single s (value.Truth x) k h e = rw (one_truth s.truth k (rw h.0 at (rw h.1 at (rw h.2 at (rw h.3 at e))))) refl
of_single s (value.Day x) k h e = rw (one_day s.day k (rw h.0 at (rw h.1 at (rw h.2 at (rw h.3 at e))))) refl
of_single s (value.Moment x) k h e = rw (one_moment s.moment k (rw h.0 at (rw h.1 at (rw h.2 at (rw h.3 at e))))) refl

no_text : (b : Bool) → (not (b || (false || (false || (false || false))))) ≡ false → single_of b false false false false ≡ None → ⊥
no_text true e f = cc
no_text false e f = cc

no_number : (b : Bool) → (not (false || (b || (false || (false || false))))) ≡ false → single_of false b false false false ≡ None → ⊥
no_number true e f = cc
no_number false e f = cc

no_truth : (b : Bool) → (not (false || (false || (b || (false || false))))) ≡ false → single_of false false b false false ≡ None → ⊥
no_truth true e f = cc
no_truth false e f = cc

no_day : (b : Bool) → (not (false || (false || (false || (b || false))))) ≡ false → single_of false false false b false ≡ None → ⊥
no_day true e f = cc
no_day false e f = cc

no_moment : (b : Bool) → (not (false || (false || (false || (false || b))))) ≡ false → single_of false false false false b ≡ None → ⊥
no_moment true e f = cc
no_moment false e f = cc

-- where several kinds are left, only null fits
pub of_several : (s : KindSet) (v : Value) → fits s v → is_empty s ≡ false → single s ≡ None → v ≡ value.Null
of_several s value.Null h some e = refl
of_several s (value.Text x) h some e = absurd (no_text s.text (rw h.0 at (rw h.1 at (rw h.2 at (rw h.3 at some)))) (rw h.0 at (rw h.1 at (rw h.2 at (rw h.3 at e)))))
of_several s (value.Num x) h some e = absurd (no_number s.number (rw h.0 at (rw h.1 at (rw h.2 at (rw h.3 at some)))) (rw h.0 at (rw h.1 at (rw h.2 at (rw h.3 at e)))))
of_several s (value.Truth x) h some e = absurd (no_truth s.truth (rw h.0 at (rw h.1 at (rw h.2 at (rw h.3 at some)))) (rw h.0 at (rw h.1 at (rw h.2 at (rw h.3 at e)))))
of_several s (value.Day x) h some e = absurd (no_day s.day (rw h.0 at (rw h.1 at (rw h.2 at (rw h.3 at some)))) (rw h.0 at (rw h.1 at (rw h.2 at (rw h.3 at e)))))
of_several s (value.Moment x) h some e = absurd (no_moment s.moment (rw h.0 at (rw h.1 at (rw h.2 at (rw h.3 at some)))) (rw h.0 at (rw h.1 at (rw h.2 at (rw h.3 at e)))))
