-- What is filtered of a field is the value of its expression.
use Rattle.std.proofs.Common.{◌≡◌, ◌^◌, true, false, not, ◌&&◌, List, [], ◌∷◌, refl, arith, ℤ, pos, neg_ℤ, ◌*ℤ◌, int_le, int_lt}
use Rattle.std.specs.Prelude.{if◌then◌else◌}
use Rattle.std.proofs.lemmas.Bool.{false≢true}
use Rattle.std.proofs.lemmas.Int.{ints}
use Rattle.lk_val.specs.declared.num.Num.{Num}
use Rattle.lk_val.specs.declared.value.Value.{Value}
use Rattle.lk_val.specs.declared.value.Value.TheVariants as value
use Rattle.lk_types.specs.Expressions.{value_of, first_case, is_true}
use Rattle.lk_types.specs.Formula.{Formula, Compare}
use Rattle.lk_types.specs.Shapes.{bound_below, tier_of, plain_value, shaped}
use Rattle.lk_types.specs.Tables.{is_of_kind}
use Rattle.lk_types.specs.declared.expr.Comparison.TheVariants as comparison
use Rattle.lk_types.specs.declared.explore.Shape.{Shape}
use Rattle.lk_types.specs.declared.explore.Shape.TheVariants as shape
use Rattle.lk_types.specs.declared.rows.Joined.{Joined}
use Rattle.lk_types.specs.declared.schema.Kind.{Kind}
use Rattle.lk_types.specs.declared.schema.Kind.TheVariants as kind
use Rattle.lk_types.specs.Dates.{are_literals_dated}
use Rattle.lk_types.specs.Kinds.{HasKinds, has_kind, is_empty, is_same_kind, kinds_of}
use Rattle.lk_types.specs.Shapes.{framed_kind}
use Rattle.lk_types.specs.declared.kind_set.Leaves.{Leaves}
use Rattle.lk_semantics.specs.Resolved.{are_tiers, has_shape_kind, has_tiers, is_settled, is_time_kind, is_type_kind, is_typed, settled_kind}
use Rattle.lk_derived.proofs.FittingJoins.{same_kind, settled-kind, shaped_by, typed-kind}
use Rattle.lk_plan.specs.FieldFormulas.{plain_formula, number_literal, tier_cases, tier_formula, shaped_formula}
use Rattle.lk_plan.proofs.JoiningLaws.{left, right}
use Rattle.lk_plan.proofs.DayLaws.{at_or_after, before, by_test}

module _ (e : Formula) (row : Joined) where
  plain_is : (k : Kind) (v : Value) → value_of e row ≡ v → is_of_kind k v ≡ true → value_of (plain_formula k e) row ≡ plain_value k v
  plain_is kind.Text v is of = is
  plain_is kind.Number v is of = is
  plain_is kind.Day v is of = is
  plain_is kind.Moment v is of = is
  plain_is kind.Truth value.Null is of = rw is refl
  plain_is kind.Truth (value.Truth b) is of = rw is refl
  plain_is kind.Truth v is of = absurd (false≢true of)

  -- a number by its tiers
  module _ (n : Num) (is : value_of e row ≡ value.Num n) where
    below_bound : (b : ℤ) → is_true (value_of (Compare comparison.Less e (number_literal b)) row) ≡ int_lt n.0 b
    below_bound b = rw is (before n.0 b)

    from_bound : (b : ℤ) → is_true (value_of (Compare comparison.AtLeast e (number_literal b)) row) ≡ int_le b n.0
    from_bound b = rw is (at_or_after n.0 b)

    not_below : (a b : ℤ) → int_lt a b ≡ true → int_le b a ≡ false
    not_below a b h = grind (arith, ints)

    at_least : (a b : ℤ) → int_lt a b ≡ false → int_le b a ≡ true
    at_least a b h = grind (arith, ints)

    cases_are : (bounds : List ℤ) (low : ℤ) → (bounds ≡ [] → int_le low n.0 ≡ true) → first_case (tier_cases e low bounds) row ≡ value.Num (record { 0 = bound_below n.0 bounds low })
    cases_are [] low h = rw (from_bound low, h refl) refl
    cases_are (b ∷ bounds) low h =
        let c = b *ℤ pos 10000 in
        rw (below_bound c) (by_test (λ t. (if t then value.Num (record { 0 = low }) else first_case (tier_cases e c bounds) row) ≡ value.Num (record { 0 = if int_le c n.0 then bound_below n.0 bounds c else low })) (int_lt n.0 c)
        (λ less. rw (not_below n.0 c less) refl)
        (λ more. rw (at_least n.0 c more) (cases_are bounds c (λ _. at_least n.0 c more))))

  -- null is in no tier
  no_cases : value_of e row ≡ value.Null → (bounds : List ℤ) (low : ℤ) → first_case (tier_cases e low bounds) row ≡ value.Null
  no_cases is [] low = rw is refl
  no_cases is (b ∷ bounds) low = rw is (no_cases is bounds (b *ℤ pos 10000))

  some_tiers : (bounds : List ℤ) → are_tiers bounds ≡ true → bounds ≡ [] → ⊥
  some_tiers [] h none = absurd (false≢true h)
  some_tiers (b ∷ bounds) h none = cc

  tier_is : (bounds : List ℤ) (v : Value) → value_of e row ≡ v → is_of_kind kind.Number v ≡ true → are_tiers bounds ≡ true → value_of (tier_formula e bounds) row ≡ tier_of bounds v
  tier_is bounds value.Null is of tiers = no_cases is bounds (neg_ℤ (pos (2 ^ 63)))
  tier_is bounds (value.Num n) is of tiers = cases_are n is bounds (neg_ℤ (pos (2 ^ 63))) (λ none. absurd (some_tiers bounds tiers none))
  tier_is bounds v is of tiers = absurd (false≢true of)

-- ---- fields of a resolved explore

module _ (leaves : Leaves) (row : Joined) (has : HasKinds leaves row) where
  pub shaped_is : (s : Shape) (k : Kind) (e : Formula) → has_tiers s ≡ true → has_shape_kind leaves s k e ≡ true → value_of (shaped_formula s k e) row ≡ shaped s k (value_of e row)
  shaped_is shape.Plain k e tiers h = plain_is e row k (value_of e row) refl (typed-kind leaves row has k e (right (is_type_kind k) (is_typed leaves k e) h))
  shaped_is (shape.Tier bounds) k e tiers h =
      tier_is e row bounds (value_of e row) refl (typed-kind leaves row has kind.Number e (right (is_same_kind k kind.Number) (is_typed leaves kind.Number e) h)) tiers
  shaped_is (shape.Frame group frame) k e tiers h = refl

  pub shaped_kind_is : (s : Shape) (k : Kind) (e : Formula) → has_shape_kind leaves s k e ≡ true → is_of_kind k (shaped s k (value_of e row)) ≡ true
  shaped_kind_is shape.Plain k e h = shaped_by shape.Plain k k (value_of e row) refl (typed-kind leaves row has k e (right (is_type_kind k) (is_typed leaves k e) h))
  shaped_kind_is (shape.Tier bounds) k e h =
      shaped_by (shape.Tier bounds) k kind.Number (value_of e row) (same_kind k kind.Number (left (is_same_kind k kind.Number) (is_typed leaves kind.Number e) h))
      (typed-kind leaves row has kind.Number e (right (is_same_kind k kind.Number) (is_typed leaves kind.Number e) h))
  shaped_kind_is (shape.Frame group frame) k e h =
      let base = settled_kind leaves kind.Moment e in
      let front = left (is_time_kind base && is_settled leaves kind.Moment base e) (is_same_kind k (framed_kind frame base)) h in
      shaped_by (shape.Frame group frame) k base (value_of e row) (same_kind k (framed_kind frame base) (right (is_time_kind base && is_settled leaves kind.Moment base e) (is_same_kind k (framed_kind frame base)) h))
      (settled-kind leaves row has kind.Moment base e (right (is_time_kind base) (is_settled leaves kind.Moment base e) front))

-- the literals of a typed expression are of the years 1 to 9999
pub shape_dated : (leaves : Leaves) (s : Shape) (k : Kind) (e : Formula) → has_shape_kind leaves s k e ≡ true → are_literals_dated e ≡ true
shape_dated leaves shape.Plain k e h = right (has_kind k (kinds_of leaves e)) (are_literals_dated e) (right (is_type_kind k) (is_typed leaves k e) h)
shape_dated leaves (shape.Tier bounds) k e h =
    right (has_kind kind.Number (kinds_of leaves e)) (are_literals_dated e) (right (is_same_kind k kind.Number) (is_typed leaves kind.Number e) h)
shape_dated leaves (shape.Frame group frame) k e h =
    let base = settled_kind leaves kind.Moment e in
    let front = left (is_time_kind base && is_settled leaves kind.Moment base e) (is_same_kind k (framed_kind frame base)) h in
    right (not (is_empty (kinds_of leaves e)) && is_same_kind base (settled_kind leaves kind.Moment e)) (are_literals_dated e)
    (right (is_time_kind base) (is_settled leaves kind.Moment base e) front)
