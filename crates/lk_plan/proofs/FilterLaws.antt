-- A filter's condition is true where the filter passes.
use Rattle.std.proofs.Common.{◌≡◌, Bool, true, false, not, ◌&&◌, ◌||◌, List, [], ◌∷◌, ◌++◌, map, Option, Some, None, refl, sym, ap, ◌∙◌}
use Rattle.std.specs.List.{list_any, list_all}
use Rattle.std.proofs.lemmas.Bool.{false≢true}
use Rattle.lk_val.specs.Values.{is_null}
use Rattle.lk_val.specs.declared.value.Value.{Value}
use Rattle.lk_val.specs.declared.value.Value.TheVariants as value
use Rattle.lk_types.specs.Dates.{is_dated}
use Rattle.lk_types.specs.Expressions.{value_of}
use Rattle.lk_types.specs.Filters.{meets, null_meets, passes}
use Rattle.lk_types.specs.Formula.{Formula, Not, And, Or, IsNull}
use Rattle.lk_types.specs.Tables.{is_of_kind}
use Rattle.lk_types.specs.declared.filter.Filter.{Filter}
use Rattle.lk_types.specs.declared.filter.Test.{Test}
use Rattle.lk_types.specs.declared.filter.Test.TheVariants as test
use Rattle.lk_types.specs.declared.rows.Joined.{Joined}
use Rattle.lk_types.specs.declared.schema.Kind.{Kind}
use Rattle.lk_types.specs.declared.schema.Kind.TheVariants as kind
use Rattle.lk_semantics.specs.Joins.{is_met}
use Rattle.lk_plan.specs.Joining.{joined, listed}
use Rattle.lk_plan.specs.TestConditions.{test_condition}
use Rattle.lk_plan.specs.FilterConditions.{exclude_condition, filter_condition}
use Rattle.lk_plan.proofs.JoiningLaws.{holds_of, is_known, all-append, and_true, holds_or, holds_not, holds_ands, holds_ors, joined_to}
use Rattle.lk_plan.proofs.TestLaws.{number_is, number_null, text_null, truth_null, text_is, truth_is, number_known, truth_known, text_known}
use Rattle.lk_plan.proofs.DayLaws.{day_is, moment_is, date_null, date_known}

-- ---- conditions that may be left out

pub all_met : (row : Joined) (es : List Formula) → is_met (joined And es) row ≡ list_all (holds_of row) es
all_met row [] = refl
all_met row (e ∷ es) = rw (joined_to And e es) (holds_ands row e es)

pub listed_met : (row : Joined) (e : Option Formula) → list_all (holds_of row) (listed e) ≡ is_met e row
listed_met row None = refl
listed_met row (Some e) = and_true (holds_of row e)

-- ---- tests of all kinds

module _ (x : Formula) (row : Joined) where
  test_at : (k : Kind) (v : Value) → value_of x row ≡ v → is_of_kind k v ≡ true → is_dated v ≡ true → (t : Test) → holds_of row (test_condition k x t) ≡ meets v t
  test_at kind.Text value.Null is of dated t = text_null x row is t
  test_at kind.Text (value.Text bytes) is of dated t = text_is x row bytes is t
  test_at kind.Number value.Null is of dated t = number_null x row is t
  test_at kind.Number (value.Num n) is of dated t = number_is x row n is t
  test_at kind.Truth value.Null is of dated t = truth_null x row is t
  test_at kind.Truth (value.Truth b) is of dated t = truth_is x row b is t
  test_at kind.Day value.Null is of dated t = date_null x row kind.Day is t
  test_at kind.Day (value.Day d) is of dated t = day_is x row d is dated t
  test_at kind.Moment value.Null is of dated t = date_null x row kind.Moment is t
  test_at kind.Moment (value.Moment m) is of dated t = moment_is x row m is dated t
  test_at k v is of dated t = absurd (false≢true of)

  known_at : (k : Kind) (v : Value) → value_of x row ≡ v → is_of_kind k v ≡ true → is_null v ≡ false → (t : Test) → is_known row (test_condition k x t) ≡ true
  known_at kind.Text (value.Text bytes) is of some t = text_known x row bytes is t
  known_at kind.Number (value.Num n) is of some t = number_known x row (rw is refl) t
  known_at kind.Truth (value.Truth b) is of some t = truth_known x row (rw is refl) t
  known_at kind.Day (value.Day d) is of some t = date_known x row kind.Day (rw is refl) t
  known_at kind.Moment (value.Moment m) is of some t = date_known x row kind.Moment (rw is refl) t
  known_at k value.Null is of some t = absurd (false≢true (sym some))
  known_at k v is of some t = absurd (false≢true of)

  -- the tests for null are known of null too
  empty_known : (k : Kind) → value_of x row ≡ value.Null → is_known row (test_condition k x test.Empty) ≡ true
  empty_known kind.Text is = rw is refl
  empty_known kind.Number is = refl
  empty_known kind.Truth is = refl
  empty_known kind.Day is = refl
  empty_known kind.Moment is = refl

  null_known : (k : Kind) → is_known row (test_condition k x test.Null) ≡ true
  null_known kind.Text = refl
  null_known kind.Number = refl
  null_known kind.Truth = refl
  null_known kind.Day = refl
  null_known kind.Moment = refl

  module _ (k : Kind) (of : is_of_kind k (value_of x row) ≡ true) (dated : is_dated (value_of x row) ≡ true) where
    pub test_is : (t : Test) → holds_of row (test_condition k x t) ≡ meets (value_of x row) t
    test_is t = test_at k (value_of x row) refl of dated t

    not_is : (t : Test) → is_known row (test_condition k x t) ≡ true → holds_of row (Not (test_condition k x t)) ≡ not (meets (value_of x row) t)
    not_is t h = holds_not row (test_condition k x t) h ∙ ap not (test_is t)

    -- null passes an exclude that is not for null
    other_is : (t : Test) → null_meets t ≡ false → holds_of row (Or (IsNull x) (Not (test_condition k x t))) ≡ not (meets (value_of x row) t)
    other_is t other = holds_or row (IsNull x) (Not (test_condition k x t)) ∙ by (value_of x row) refl
      where
        by : (v : Value) → value_of x row ≡ v → (holds_of row (IsNull x) || holds_of row (Not (test_condition k x t))) ≡ not (meets (value_of x row) t)
        by value.Null is = rw is (ap not (sym other))
        by (value.Text bytes) is = rw is (not_is t (known_at k (value_of x row) refl of (rw is refl) t) ∙ ap (λ v. not (meets v t)) is)
        by (value.Num n) is = rw is (not_is t (known_at k (value_of x row) refl of (rw is refl) t) ∙ ap (λ v. not (meets v t)) is)
        by (value.Truth b) is = rw is (not_is t (known_at k (value_of x row) refl of (rw is refl) t) ∙ ap (λ v. not (meets v t)) is)
        by (value.Day d) is = rw is (not_is t (known_at k (value_of x row) refl of (rw is refl) t) ∙ ap (λ v. not (meets v t)) is)
        by (value.Moment m) is = rw is (not_is t (known_at k (value_of x row) refl of (rw is refl) t) ∙ ap (λ v. not (meets v t)) is)

    empty_is : (v : Value) → value_of x row ≡ v → is_known row (test_condition k x test.Empty) ≡ true
    empty_is value.Null is = empty_known k is
    empty_is (value.Text bytes) is = known_at k (value_of x row) refl of (rw is refl) test.Empty
    empty_is (value.Num n) is = known_at k (value_of x row) refl of (rw is refl) test.Empty
    empty_is (value.Truth b) is = known_at k (value_of x row) refl of (rw is refl) test.Empty
    empty_is (value.Day d) is = known_at k (value_of x row) refl of (rw is refl) test.Empty
    empty_is (value.Moment m) is = known_at k (value_of x row) refl of (rw is refl) test.Empty

    pub exclude_is : (t : Test) → holds_of row (exclude_condition k x t) ≡ not (meets (value_of x row) t)
    exclude_is test.Null = not_is test.Null (null_known k)
    exclude_is test.Empty = not_is test.Empty (empty_is (value_of x row) refl)
    exclude_is t = other_is t refl

    -- ---- the filter

    includes_are : (ts : List Test) → list_any (holds_of row) (map (test_condition k x) ts) ≡ list_any (meets (value_of x row)) ts
    includes_are [] = refl
    includes_are (t ∷ ts) = λ i. test_is t i || includes_are ts i

    excludes_are : (ts : List Test) → list_all (holds_of row) (map (exclude_condition k x) ts) ≡ not (list_any (meets (value_of x row)) ts)
    excludes_are [] = refl
    excludes_are (t ∷ ts) = (λ i. exclude_is t i && excludes_are ts i) ∙ step (meets (value_of x row) t) (list_any (meets (value_of x row)) ts)
      where
        step : (a b : Bool) → (not a && not b) ≡ not (a || b)
        step true b = refl
        step false b = refl

    some_is : (ts : List Test) → is_met (joined Or (map (test_condition k x) ts)) row ≡ (not (list_any (λ t. true) ts) || list_any (meets (value_of x row)) ts)
    some_is [] = refl
    some_is (t ∷ ts) =
        rw (joined_to Or (test_condition k x t) (map (test_condition k x) ts))
        (holds_ors row (test_condition k x t) (map (test_condition k x) ts) ∙ includes_are (t ∷ ts))

    pub filter_is : (f : Filter) → is_met (filter_condition k x f) row ≡ passes f (value_of x row)
    filter_is f =
        all_met row (listed (joined Or (map (test_condition k x) f.include)) ++ listed (joined And (map (exclude_condition k x) f.exclude)))
        ∙ all-append (holds_of row) (listed (joined Or (map (test_condition k x) f.include))) (listed (joined And (map (exclude_condition k x) f.exclude)))
        ∙ (λ i. (listed_met row (joined Or (map (test_condition k x) f.include)) ∙ some_is f.include) i
        && (listed_met row (joined And (map (exclude_condition k x) f.exclude)) ∙ all_met row (map (exclude_condition k x) f.exclude) ∙ excludes_are f.exclude) i)
