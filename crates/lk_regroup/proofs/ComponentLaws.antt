-- Parts of components that are put together.
use Rattle.std.proofs.Common.{◌≡◌, ◌+◌, refl, ap, ◌∙◌, arith}
use Rattle.std.specs.Prelude.{pos, ◌+ℤ◌, if◌then◌else◌}
use Rattle.std.specs.Ordering.{is_gt, is_lt, ordering_reverse}
use Rattle.std.specs.declared.cmp.Ordering.TheVariants.{Less, Equal, Greater}
use Rattle.std.proofs.lemmas.Int.{ints}
use Rattle.lk_val.specs.declared.value.Value.{Value}
use Rattle.lk_val.specs.declared.value.Value.TheVariants as value
use Rattle.lk_val.specs.Values.{null_last_cmp, value_cmp}
use Rattle.lk_val.proofs.SetLaws.{first_of-assoc}
use Rattle.lk_val.proofs.ValueLaws.{null_last_ordered, values_turned}
use Rattle.lk_types.specs.declared.answer.Partial.{Partial}
use Rattle.lk_semantics.specs.Measures.{greater, lesser}
use Rattle.lk_semantics.specs.Rollups.{merged, no_partial}

-- ---- the lesser and the greater of two values

pub lesser_by : (a b : Value) → lesser a b ≡ (if is_lt (null_last_cmp b a) then b else a)
lesser_by a b =
    ap (λ r. if is_gt r then b else a) (null_last_ordered.total.antisymm a b)
    ∙ elim (null_last_cmp b a) as (λ r. (if is_gt (ordering_reverse r) then b else a) ≡ (if is_lt r then b else a)) [
      | Less ↦ refl
      | Equal ↦ refl
      | Greater ↦ refl
    ]

pub greater_by : (a b : Value) → greater a b ≡ (if is_gt (value_cmp b a) then b else a)
greater_by a b = refl

-- null is neither
lesser_nothing : (v : Value) → lesser v value.Null ≡ v
lesser_nothing value.Null = refl
lesser_nothing (value.Text t) = refl
lesser_nothing (value.Num n) = refl
lesser_nothing (value.Truth b) = refl
lesser_nothing (value.Day d) = refl
lesser_nothing (value.Moment m) = refl

greater_nothing : (v : Value) → greater v value.Null ≡ v
greater_nothing value.Null = refl
greater_nothing (value.Text t) = refl
greater_nothing (value.Num n) = refl
greater_nothing (value.Truth b) = refl
greater_nothing (value.Day d) = refl
greater_nothing (value.Moment m) = refl

-- ---- parts

-- with nothing they are as they were
pub merged_nothing : (p : Partial) → merged p no_partial ≡ p
merged_nothing p =
    let count : p.count + 0 ≡ p.count = omega arith in
    let sum : p.sum +ℤ pos 0 ≡ p.sum = omega (arith, ints) in
    let values : p.values + 0 ≡ p.values = omega arith in
    λ i. record {
      count = count i;
      sum = sum i;
      values = values i;
      least = lesser_nothing p.least i;
      most = greater_nothing p.most i;
      distinct = p.distinct;
    }

-- it is the same from which end they are put together
pub merged-assoc : (p q r : Partial) → merged (merged p q) r ≡ merged p (merged q r)
merged-assoc p q r =
    let count : p.count + q.count + r.count ≡ p.count + (q.count + r.count) = omega arith in
    let sum : (p.sum +ℤ q.sum) +ℤ r.sum ≡ p.sum +ℤ (q.sum +ℤ r.sum) = omega (arith, ints) in
    let values : p.values + q.values + r.values ≡ p.values + (q.values + r.values) = omega arith in
    λ i. record {
      count = count i;
      sum = sum i;
      values = values i;
      least = first_of-assoc null_last_ordered p.least q.least r.least i;
      most = first_of-assoc values_turned p.most q.most r.most i;
      distinct = p.distinct;
    }
