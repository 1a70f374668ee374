-- The literals of conditions are of the years 1 to 9999.
use Rattle.std.proofs.Common.{◌≡◌, ◌^◌, Bool, true, false, ◌&&◌, ◌||◌, List, [], ◌∷◌, ◌++◌, map, Option, Some, None, refl, sym, ◌∙◌, arith, ℤ, pos, neg_ℤ, ◌*ℤ◌, int_lt}
use Rattle.std.specs.Prelude.{if◌then◌else◌}
use Rattle.std.specs.List.{fold, list_all}
use Rattle.std.proofs.lemmas.Bool.{false≢true}
use Rattle.std.proofs.lemmas.Int.{ints}
use Rattle.lk_val.specs.declared.num.Num.{Num}
use Rattle.lk_val.specs.declared.value.Value.{Value}
use Rattle.lk_val.specs.declared.value.Value.TheVariants as value
use Rattle.lk_val.specs.Years.{first_day, last_day}
use Rattle.lk_types.specs.Dates.{is_dated, are_literals_dated, are_cases_dated}
use Rattle.lk_types.specs.Formula.{Formula, Literal, Not, And, Or, Compare, IsNull}
use Rattle.lk_types.specs.declared.expr.Comparison.{Comparison}
use Rattle.lk_types.specs.declared.expr.Comparison.TheVariants as comparison
use Rattle.lk_types.specs.declared.explore.Shape.{Shape}
use Rattle.lk_types.specs.declared.explore.Shape.TheVariants as shape
use Rattle.lk_types.specs.declared.filter.Edge.{Edge}
use Rattle.lk_types.specs.declared.filter.Edge.TheVariants.{Lowest, At, Highest}
use Rattle.lk_types.specs.declared.filter.Filter.{Filter}
use Rattle.lk_types.specs.declared.filter.Test.{Test}
use Rattle.lk_types.specs.declared.filter.Test.TheVariants as test
use Rattle.lk_types.specs.declared.schema.Kind.{Kind}
use Rattle.lk_types.specs.declared.schema.Kind.TheVariants as kind
use Rattle.lk_semantics.specs.DatedRows.{is_condition_dated}
use Rattle.lk_plan.specs.Joining.{no, yes, or_else, joined, listed, all_of, known_with, within}
use Rattle.lk_plan.specs.TestConditions.{compares_with, bound_condition, above_condition, below_condition, is_nowhere, number_condition, text_condition, truth_condition, day_literal, compares_with_day, from_condition, before_condition, begins_late, ends_early, span_condition, date_condition, test_condition}
use Rattle.lk_plan.specs.FilterConditions.{exclude_condition, filter_condition}
use Rattle.lk_plan.specs.FieldFormulas.{plain_formula, number_literal, tier_cases, shaped_formula}
use Rattle.lk_plan.proofs.JoiningLaws.{left, right, both, all-append, joined_to}
use Rattle.lk_plan.proofs.DayLaws.{by_test}

-- ---- joined conditions

dated_and : (e f : Formula) → are_literals_dated e ≡ true → are_literals_dated f ≡ true → are_literals_dated (And e f) ≡ true
dated_and e f h k = both (are_literals_dated e) (are_literals_dated f) h k

dated_or : (e f : Formula) → are_literals_dated e ≡ true → are_literals_dated f ≡ true → are_literals_dated (Or e f) ≡ true
dated_or e f h k = both (are_literals_dated e) (are_literals_dated f) h k

module _ (op : Formula → Formula → Formula) (dated_op : (e f : Formula) → are_literals_dated e ≡ true → are_literals_dated f ≡ true → are_literals_dated (op e f) ≡ true) where
  fold_dated : (e : Formula) (es : List Formula) → are_literals_dated e ≡ true → list_all are_literals_dated es ≡ true → are_literals_dated (fold op e es) ≡ true
  fold_dated e [] h k = h
  fold_dated e (f ∷ es) h k =
      fold_dated (op e f) es (dated_op e f h (left (are_literals_dated f) (list_all are_literals_dated es) k)) (right (are_literals_dated f) (list_all are_literals_dated es) k)

  joined_dated : (es : List Formula) → list_all are_literals_dated es ≡ true → is_condition_dated (joined op es) ≡ true
  joined_dated [] h = refl
  joined_dated (e ∷ es) h =
      rw (joined_to op e es) (fold_dated e es (left (are_literals_dated e) (list_all are_literals_dated es) h) (right (are_literals_dated e) (list_all are_literals_dated es) h))

pub listed_dated : (e : Option Formula) → is_condition_dated e ≡ true → list_all are_literals_dated (listed e) ≡ true
listed_dated None h = refl
listed_dated (Some e) h = both (are_literals_dated e) true h refl

pub all_dated : (es fs : List Formula) → list_all are_literals_dated es ≡ true → list_all are_literals_dated fs ≡ true → list_all are_literals_dated (es ++ fs) ≡ true
all_dated es fs h k = all-append are_literals_dated es fs ∙ both (list_all are_literals_dated es) (list_all are_literals_dated fs) h k

or_dated : (e : Option Formula) (other : Formula) → is_condition_dated e ≡ true → are_literals_dated other ≡ true → are_literals_dated (or_else e other) ≡ true
or_dated None other h k = k
or_dated (Some e) other h k = h

pub all_of_dated : (es : List Formula) → list_all are_literals_dated es ≡ true → are_literals_dated (all_of es) ≡ true
all_of_dated [] h = refl
all_of_dated (e ∷ es) h = or_dated (joined And (e ∷ es)) yes (joined_dated And dated_and (e ∷ es) h) refl

if_dated : (b : Bool) (e : Formula) → (b ≡ false → are_literals_dated e ≡ true) → are_literals_dated (if b then no else e) ≡ true
if_dated true e h = refl
if_dated false e h = h refl

-- ---- tests

module _ (x : Formula) (h : are_literals_dated x ≡ true) where
  known_dated : (es : List Formula) → list_all are_literals_dated es ≡ true → are_literals_dated (known_with x es) ≡ true
  known_dated [] k = h
  known_dated (e ∷ es) k = or_dated (joined And (e ∷ es)) (Not (IsNull x)) (joined_dated And dated_and (e ∷ es) k) h

  within_dated : (low high : Option Formula) → is_condition_dated low ≡ true → is_condition_dated high ≡ true → are_literals_dated (within x low high) ≡ true
  within_dated low high k l = known_dated (listed low ++ listed high) (all_dated (listed low) (listed high) (listed_dated low k) (listed_dated high l))

  compare_dated : (c : Comparison) (v : Value) → is_dated v ≡ true → are_literals_dated (Compare c x (Literal v)) ≡ true
  compare_dated c v k = both (are_literals_dated x) (is_dated v) h k

  bound_dated : (c : Comparison) (n : Option Num) → is_condition_dated (bound_condition x c n) ≡ true
  bound_dated c None = refl
  bound_dated c (Some n) = compare_dated c (value.Num n) refl

  above_dated : (low : Edge) (closed : Bool) → is_condition_dated (above_condition x low closed) ≡ true
  above_dated Lowest closed = refl
  above_dated Highest closed = refl
  above_dated (At n) true = compare_dated comparison.AtLeast (value.Num n) refl
  above_dated (At n) false = compare_dated comparison.Greater (value.Num n) refl

  below_dated : (high : Edge) (closed : Bool) → is_condition_dated (below_condition x high closed) ≡ true
  below_dated Lowest closed = refl
  below_dated Highest closed = refl
  below_dated (At n) true = compare_dated comparison.AtMost (value.Num n) refl
  below_dated (At n) false = compare_dated comparison.Less (value.Num n) refl

  each_dated : (cs : List (Comparison × Num)) → list_all are_literals_dated (map (λ c. compares_with x c.0 c.1) cs) ≡ true
  each_dated [] = refl
  each_dated (c ∷ cs) = λ i. compare_dated c.0 (value.Num c.1) refl i && each_dated cs i

  number_dated : (t : Test) → are_literals_dated (number_condition x t) ≡ true
  number_dated test.Null = h
  number_dated test.Empty = h
  number_dated (test.Is n) = compare_dated comparison.Equal (value.Num n) refl
  number_dated (test.Compare cs) = known_dated (map (λ c. compares_with x c.0 c.1) cs) (each_dated cs)
  number_dated (test.To low high) = within_dated (bound_condition x comparison.AtLeast low) (bound_condition x comparison.AtMost high) (bound_dated comparison.AtLeast low) (bound_dated comparison.AtMost high)
  number_dated (test.Range low high) =
      if_dated (is_nowhere low.edge high.edge) (within x (above_condition x low.edge low.closed) (below_condition x high.edge high.closed))
      (λ _. within_dated (above_condition x low.edge low.closed) (below_condition x high.edge high.closed) (above_dated low.edge low.closed) (below_dated high.edge high.closed))
  number_dated t = refl

  text_dated : (t : Test) → are_literals_dated (text_condition x t) ≡ true
  text_dated test.Null = h
  text_dated test.Empty = dated_or (IsNull x) (Compare comparison.Equal x (Literal (value.Text []))) h (compare_dated comparison.Equal (value.Text []) refl)
  text_dated (test.Like p) = h
  text_dated t = refl

  truth_dated : (t : Test) → are_literals_dated (truth_condition x t) ≡ true
  truth_dated test.Null = h
  truth_dated test.Empty = h
  truth_dated (test.Truth b) = compare_dated comparison.Equal (value.Truth b) refl
  truth_dated t = refl

  -- ---- days

  day_dated : (k : Kind) (d : ℤ) → int_lt d first_day ≡ false → int_lt last_day d ≡ false → is_dated (day_literal k d) ≡ true
  day_dated kind.Moment d a b = grind (arith, ints)
  day_dated kind.Text d a b = grind (arith, ints)
  day_dated kind.Number d a b = grind (arith, ints)
  day_dated kind.Truth d a b = grind (arith, ints)
  day_dated kind.Day d a b = grind (arith, ints)

  from_dated : (k : Kind) (from : Option ℤ) → begins_late from ≡ false → is_condition_dated (from_condition k x from) ≡ true
  from_dated k None a = refl
  from_dated k (Some d) a =
      by_test (λ b. is_condition_dated (if b then None else Some (compares_with_day k x comparison.AtLeast d)) ≡ true) (int_lt d first_day)
      (λ _. refl) (λ late. compare_dated comparison.AtLeast (day_literal k d) (day_dated k d late a))

  before_dated : (k : Kind) (up_to : Option ℤ) → ends_early up_to ≡ false → is_condition_dated (before_condition k x up_to) ≡ true
  before_dated k None a = refl
  before_dated k (Some d) a =
      by_test (λ b. is_condition_dated (if b then None else Some (compares_with_day k x comparison.Less d)) ≡ true) (int_lt last_day d)
      (λ _. refl) (λ early. compare_dated comparison.Less (day_literal k d) (day_dated k d a early))

  span_dated : (k : Kind) (from up_to : Option ℤ) → are_literals_dated (span_condition k x from up_to) ≡ true
  span_dated k from up_to =
      if_dated (begins_late from || ends_early up_to) (within x (from_condition k x from) (before_condition k x up_to))
      (λ inside. within_dated (from_condition k x from) (before_condition k x up_to) (from_dated k from (or_left (begins_late from) (ends_early up_to) inside)) (before_dated k up_to (or_right (begins_late from) (ends_early up_to) inside)))
    where
      or_left : (a b : Bool) → (a || b) ≡ false → a ≡ false
      or_left true b p = p
      or_left false b p = refl

      or_right : (a b : Bool) → (a || b) ≡ false → b ≡ false
      or_right true b p = absurd (false≢true (sym p))
      or_right false b p = p

  date_dated : (k : Kind) (t : Test) → are_literals_dated (date_condition k x t) ≡ true
  date_dated k test.Null = h
  date_dated k test.Empty = h
  date_dated k (test.In days) = span_dated k (Some days.from) (Some days.up_to)
  date_dated k (test.Before days) = span_dated k None (Some days.from)
  date_dated k (test.After days) = span_dated k (Some days.from) None
  date_dated k (test.FromTo first last) = span_dated k (Some first.from) (Some last.from)
  date_dated k t = refl

  -- ---- filters

  test_dated : (k : Kind) (t : Test) → are_literals_dated (test_condition k x t) ≡ true
  test_dated kind.Text t = text_dated t
  test_dated kind.Number t = number_dated t
  test_dated kind.Truth t = truth_dated t
  test_dated kind.Day t = date_dated kind.Day t
  test_dated kind.Moment t = date_dated kind.Moment t

  exclude_dated : (k : Kind) (t : Test) → are_literals_dated (exclude_condition k x t) ≡ true
  exclude_dated k test.Null = test_dated k test.Null
  exclude_dated k test.Empty = test_dated k test.Empty
  exclude_dated k t = dated_or (IsNull x) (Not (test_condition k x t)) h (test_dated k t)

  tests_dated : (k : Kind) (ts : List Test) → list_all are_literals_dated (map (test_condition k x) ts) ≡ true
  tests_dated k [] = refl
  tests_dated k (t ∷ ts) = λ i. test_dated k t i && tests_dated k ts i

  excludes_dated : (k : Kind) (ts : List Test) → list_all are_literals_dated (map (exclude_condition k x) ts) ≡ true
  excludes_dated k [] = refl
  excludes_dated k (t ∷ ts) = λ i. exclude_dated k t i && excludes_dated k ts i

  pub filter_dated : (k : Kind) (f : Filter) → is_condition_dated (filter_condition k x f) ≡ true
  filter_dated k f =
      joined_dated And dated_and (listed (joined Or (map (test_condition k x) f.include)) ++ listed (joined And (map (exclude_condition k x) f.exclude)))
      (all_dated (listed (joined Or (map (test_condition k x) f.include))) (listed (joined And (map (exclude_condition k x) f.exclude)))
      (listed_dated (joined Or (map (test_condition k x) f.include)) (joined_dated Or dated_or (map (test_condition k x) f.include) (tests_dated k f.include)))
      (listed_dated (joined And (map (exclude_condition k x) f.exclude)) (joined_dated And dated_and (map (exclude_condition k x) f.exclude) (excludes_dated k f.exclude))))

  -- ---- what is filtered

  tiers_dated : (bounds : List ℤ) (low : ℤ) → are_cases_dated (tier_cases x low bounds) ≡ true
  tiers_dated [] low = both (are_literals_dated (Compare comparison.AtLeast x (number_literal low))) true (compare_dated comparison.AtLeast (value.Num (record { 0 = low })) refl) refl
  tiers_dated (b ∷ bounds) low =
      both (are_literals_dated (Compare comparison.Less x (number_literal (b *ℤ pos 10000)))) (true && are_cases_dated (tier_cases x (b *ℤ pos 10000) bounds))
      (compare_dated comparison.Less (value.Num (record { 0 = b *ℤ pos 10000 })) refl) (tiers_dated bounds (b *ℤ pos 10000))

  plain_dated : (k : Kind) → are_literals_dated (plain_formula k x) ≡ true
  plain_dated kind.Text = h
  plain_dated kind.Number = h
  plain_dated kind.Day = h
  plain_dated kind.Moment = h
  plain_dated kind.Truth = both (are_literals_dated x) (true && true) h refl

  pub shaped_dated : (s : Shape) (k : Kind) → are_literals_dated (shaped_formula s k x) ≡ true
  shaped_dated shape.Plain k = plain_dated k
  shaped_dated (shape.Tier bounds) k = tiers_dated bounds (neg_ℤ (pos (2 ^ 63)))
  shaped_dated (shape.Frame group frame) k = h
