-- The conditions of tests on days and moments are true where the tests are met.
use Rattle.std.proofs.Common.{◌≡◌, ℕ, Bool, true, false, ◌&&◌, ◌||◌, ◌++◌, Option, Some, None, refl, sym, ◌∙◌, arith, ℤ, pos, ◌+ℤ◌, ◌<◌, ◌≤ℤ◌, int_le, int_lt}
use Rattle.std.specs.Prelude.{if◌then◌else◌}
use Rattle.std.specs.List.{list_any, list_all}
use Rattle.std.specs.Ordering.{int_cmp, is_ge, is_lt}
use Rattle.std.proofs.lemmas.Bool.{false≢true}
use Rattle.std.proofs.lemmas.Int.{ints}
use Rattle.lk_val.specs.Values.{is_null}
use Rattle.lk_val.specs.declared.value.Value.TheVariants as value
use Rattle.lk_types.specs.Calendar.{midnight, day_of_moment, second_of_moment}
use Rattle.lk_val.specs.Years.{first_day, last_day, IsDayInYears, IsMomentInYears}
use Rattle.lk_types.specs.Dates.{is_dated}
use Rattle.lk_types.specs.Expressions.{value_of}
use Rattle.lk_types.specs.Filters.{day_meets, null_meets}
use Rattle.lk_types.specs.Formula.{Formula}
use Rattle.lk_types.specs.declared.expr.Comparison.{Comparison}
use Rattle.lk_types.specs.declared.expr.Comparison.TheVariants as comparison
use Rattle.lk_types.specs.declared.filter.Test.{Test}
use Rattle.lk_types.specs.declared.filter.Test.TheVariants as test
use Rattle.lk_types.specs.declared.rows.Joined.{Joined}
use Rattle.lk_types.specs.declared.schema.Kind.{Kind}
use Rattle.lk_types.specs.declared.schema.Kind.TheVariants as kind
use Rattle.lk_time.proofs.FrameLaws.{day_of_moment-range, moment-parts, second_of_moment-bound}
use Rattle.lk_plan.specs.Joining.{no, listed, known_with}
use Rattle.lk_plan.specs.TestConditions.{day_literal, compares_with_day, from_condition, before_condition, begins_late, ends_early, span_condition, date_condition}
use Rattle.lk_plan.proofs.TestLaws.{compares_known}
use Rattle.lk_plan.proofs.JoiningLaws.{holds_of, is_known, and_false, holds_with, holds_without, known_known_with, any-append, all-append, all_known, no_if, known_if, alone}

-- ---- orders of whole numbers

pub at_or_after : (a b : ℤ) → is_ge (int_cmp a b) ≡ int_le b a
at_or_after a b = grind (arith, ints)

pub before : (a b : ℤ) → is_lt (int_cmp a b) ≡ int_lt a b
before a b = grind (arith, ints)

-- a moment of a day is at or after the start of another where its day is
start_from : (m day d : ℤ) (s : ℕ) → midnight day +ℤ pos s ≡ m → s < 86400 → is_ge (int_cmp m (midnight d)) ≡ int_le d day
start_from m day d s is h = grind (arith, ints)

start_before : (m day d : ℤ) (s : ℕ) → midnight day +ℤ pos s ≡ m → s < 86400 → is_lt (int_cmp m (midnight d)) ≡ int_lt day d
start_before m day d s is h = grind (arith, ints)

moment_from : (m d : ℤ) → is_ge (int_cmp m (midnight d)) ≡ int_le d (day_of_moment m)
moment_from m d = start_from m (day_of_moment m) d (second_of_moment m) (moment-parts m) (second_of_moment-bound m)

moment_before : (m d : ℤ) → is_lt (int_cmp m (midnight d)) ≡ int_lt (day_of_moment m) d
moment_before m d = start_before m (day_of_moment m) d (second_of_moment m) (moment-parts m) (second_of_moment-bound m)

le_of : (a b c : ℤ) → int_lt a b ≡ true → b ≤ℤ c → int_le a c ≡ true
le_of a b c h k = grind (arith, ints)

not_le : (a b c : ℤ) → int_lt b a ≡ true → c ≤ℤ b → int_le a c ≡ false
not_le a b c h k = grind (arith, ints)

lt_of : (a b c : ℤ) → int_lt b a ≡ true → c ≤ℤ b → int_lt c a ≡ true
lt_of a b c h k = grind (arith, ints)

not_lt : (a b c : ℤ) → int_lt a b ≡ true → b ≤ℤ c → int_lt c a ≡ false
not_lt a b c h k = grind (arith, ints)

day_in_years : (d : ℤ) → is_dated (value.Day d) ≡ true → IsDayInYears d
day_in_years d is = grind (arith, ints)

moment_in_years : (m : ℤ) → is_dated (value.Moment m) ≡ true → IsMomentInYears m
moment_in_years m is = grind (arith, ints)

-- ---- days from one up to another

-- the day is at or after another, if there is one, and before it
abbrev is_from : ℤ → Option ℤ → Bool
is_from n None = true
is_from n (Some d) = int_le d n

abbrev is_before : ℤ → Option ℤ → Bool
is_before n None = true
is_before n (Some d) = int_lt n d

pub by_test : (P : Bool → Type 0) (b : Bool) → (b ≡ true → P true) → (b ≡ false → P false) → P b
by_test P true holds fails = holds refl
by_test P false holds fails = fails refl

module _ (x : Formula) (row : Joined) (k : Kind) where
  -- given: a known value, and what its comparisons with days say of its day
  module _ (n : ℤ) (known : is_null (value_of x row) ≡ false) (in_years : IsDayInYears n) (from_day : (d : ℤ) → holds_of row (compares_with_day k x comparison.AtLeast d) ≡ int_le d n) (before_day : (d : ℤ) → holds_of row (compares_with_day k x comparison.Less d) ≡ int_lt n d) where
    from_is : (from : Option ℤ) → list_all (holds_of row) (listed (from_condition k x from)) ≡ is_from n from
    from_is None = refl
    from_is (Some d) =
        by_test (λ b. list_all (holds_of row) (listed (if b then None else Some (compares_with_day k x comparison.AtLeast d))) ≡ int_le d n) (int_lt d first_day)
        (λ early. sym (le_of d first_day n early in_years.0))
        (λ late. alone (holds_of row (compares_with_day k x comparison.AtLeast d)) (int_le d n) (from_day d))

    before_is : (up_to : Option ℤ) → list_all (holds_of row) (listed (before_condition k x up_to)) ≡ is_before n up_to
    before_is None = refl
    before_is (Some d) =
        by_test (λ b. list_all (holds_of row) (listed (if b then None else Some (compares_with_day k x comparison.Less d))) ≡ int_lt n d) (int_lt last_day d)
        (λ late. sym (lt_of d last_day n late in_years.1))
        (λ early. alone (holds_of row (compares_with_day k x comparison.Less d)) (int_lt n d) (before_day d))

    late_is : (from : Option ℤ) → begins_late from ≡ true → is_from n from ≡ false
    late_is None h = absurd (false≢true h)
    late_is (Some d) h = not_le d last_day n h in_years.1

    early_is : (up_to : Option ℤ) → ends_early up_to ≡ true → is_before n up_to ≡ false
    early_is None h = absurd (false≢true h)
    early_is (Some d) h = not_lt d first_day n h in_years.0

    span_is : (from up_to : Option ℤ) → holds_of row (span_condition k x from up_to) ≡ (is_from n from && is_before n up_to)
    span_is from up_to =
        by_test (λ b. holds_of row (if b || ends_early up_to then no else known_with x (listed (from_condition k x from) ++ listed (before_condition k x up_to))) ≡ (is_from n from && is_before n up_to)) (begins_late from)
        (λ late i. sym (late_is from late) i && is_before n up_to)
        (λ _. by_test (λ b. holds_of row (if b then no else known_with x (listed (from_condition k x from) ++ listed (before_condition k x up_to))) ≡ (is_from n from && is_before n up_to)) (ends_early up_to)
        (λ early. sym (and_false (is_from n from)) ∙ (λ i. is_from n from && sym (early_is up_to early) i))
        (λ _. holds_with row x (listed (from_condition k x from) ++ listed (before_condition k x up_to)) known
        ∙ all-append (holds_of row) (listed (from_condition k x from)) (listed (before_condition k x up_to))
        ∙ (λ i. from_is from i && before_is up_to i)))

    date_is : (t : Test) → holds_of row (date_condition k x t) ≡ day_meets n t
    date_is test.Null = known
    date_is test.Empty = known
    date_is (test.In days) = span_is (Some days.from) (Some days.up_to)
    date_is (test.Before days) = span_is None (Some days.from)
    date_is (test.After days) = span_is (Some days.from) None ∙ alone (int_le days.from n) (int_le days.from n) refl
    date_is (test.FromTo first last) = span_is (Some first.from) (Some last.from)
    date_is t = refl

  -- null is in no days
  module _ (is : value_of x row ≡ value.Null) where
    none_of : (c : Comparison) (d : ℤ) → holds_of row (compares_with_day k x c d) ≡ false
    none_of c d = rw is refl

    no_from : (from : Option ℤ) → list_any (holds_of row) (listed (from_condition k x from)) ≡ false
    no_from None = refl
    no_from (Some d) =
        by_test (λ b. list_any (holds_of row) (listed (if b then None else Some (compares_with_day k x comparison.AtLeast d))) ≡ false) (int_lt d first_day)
        (λ _. refl) (λ _ i. none_of comparison.AtLeast d i || false)

    no_before : (up_to : Option ℤ) → list_any (holds_of row) (listed (before_condition k x up_to)) ≡ false
    no_before None = refl
    no_before (Some d) =
        by_test (λ b. list_any (holds_of row) (listed (if b then None else Some (compares_with_day k x comparison.Less d))) ≡ false) (int_lt last_day d)
        (λ _. refl) (λ _ i. none_of comparison.Less d i || false)

    no_span : (from up_to : Option ℤ) → holds_of row (span_condition k x from up_to) ≡ false
    no_span from up_to =
        no_if row (begins_late from || ends_early up_to) (known_with x (listed (from_condition k x from) ++ listed (before_condition k x up_to)))
        (holds_without row x (listed (from_condition k x from) ++ listed (before_condition k x up_to)) (rw is refl)
        (any-append (holds_of row) (listed (from_condition k x from)) (listed (before_condition k x up_to)) (no_from from) (no_before up_to)))

    pub date_null : (t : Test) → holds_of row (date_condition k x t) ≡ null_meets t
    date_null test.Null = rw is refl
    date_null test.Empty = rw is refl
    date_null (test.In days) = no_span (Some days.from) (Some days.up_to)
    date_null (test.Before days) = no_span None (Some days.from)
    date_null (test.After days) = no_span (Some days.from) None
    date_null (test.FromTo first last) = no_span (Some first.from) (Some last.from)
    date_null t = refl

  -- ---- known of every value but null

  literal_known : (d : ℤ) → is_null (day_literal k d) ≡ false
  literal_known d = elim k as (λ k. is_null (day_literal k d) ≡ false) [ kind.Text ↦ refl | kind.Number ↦ refl | kind.Truth ↦ refl | kind.Day ↦ refl | kind.Moment ↦ refl ]

  module _ (h : is_null (value_of x row) ≡ false) where
    day_known : (c : Comparison) (d : ℤ) → is_known row (compares_with_day k x c d) ≡ true
    day_known c d = compares_known x row c (day_literal k d) h (literal_known d)

    from_known : (from : Option ℤ) → list_all (is_known row) (listed (from_condition k x from)) ≡ true
    from_known None = refl
    from_known (Some d) =
        by_test (λ b. list_all (is_known row) (listed (if b then None else Some (compares_with_day k x comparison.AtLeast d))) ≡ true) (int_lt d first_day)
        (λ _. refl) (λ _ i. day_known comparison.AtLeast d i && true)

    before_known : (up_to : Option ℤ) → list_all (is_known row) (listed (before_condition k x up_to)) ≡ true
    before_known None = refl
    before_known (Some d) =
        by_test (λ b. list_all (is_known row) (listed (if b then None else Some (compares_with_day k x comparison.Less d))) ≡ true) (int_lt last_day d)
        (λ _. refl) (λ _ i. day_known comparison.Less d i && true)

    span_known : (from up_to : Option ℤ) → is_known row (span_condition k x from up_to) ≡ true
    span_known from up_to =
        known_if row (begins_late from || ends_early up_to) (known_with x (listed (from_condition k x from) ++ listed (before_condition k x up_to)))
        (known_known_with row x (listed (from_condition k x from) ++ listed (before_condition k x up_to))
        (all_known row (listed (from_condition k x from)) (listed (before_condition k x up_to)) (from_known from) (before_known up_to)))

    pub date_known : (t : Test) → is_known row (date_condition k x t) ≡ true
    date_known (test.In days) = span_known (Some days.from) (Some days.up_to)
    date_known (test.Before days) = span_known None (Some days.from)
    date_known (test.After days) = span_known (Some days.from) None
    date_known (test.FromTo first last) = span_known (Some first.from) (Some last.from)
    date_known t = refl

-- ---- a day, and a moment

module _ (x : Formula) (row : Joined) where
  pub day_is : (d : ℤ) → value_of x row ≡ value.Day d → is_dated (value.Day d) ≡ true → (t : Test) → holds_of row (date_condition kind.Day x t) ≡ day_meets d t
  day_is d is dated =
      date_is x row kind.Day d (rw is refl) (day_in_years d dated)
      (λ e. rw is (at_or_after d e)) (λ e. rw is (before d e))

  pub moment_is : (m : ℤ) → value_of x row ≡ value.Moment m → is_dated (value.Moment m) ≡ true → (t : Test) → holds_of row (date_condition kind.Moment x t) ≡ day_meets (day_of_moment m) t
  moment_is m is dated =
      date_is x row kind.Moment (day_of_moment m) (rw is refl) (day_of_moment-range m (moment_in_years m dated))
      (λ e. rw is (moment_from m e)) (λ e. rw is (moment_before m e))
