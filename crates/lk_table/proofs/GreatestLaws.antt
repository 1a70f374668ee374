-- The greatest of some values, found one by one, and of the rows of parts, one part behind the other.
use Rattle.std.proofs.Common.{◌≡◌, ℕ, ◌+◌, ◌<◌, List, [], ◌∷◌, ◌++◌, get_or, length, take, refl, sym, ap, ◌∙◌}
use Rattle.std.specs.Prelude.{if◌then◌else◌, slice_index_or}
use Rattle.std.proofs.lemmas.List.{map-append, map_more, take_more}
use Rattle.std.specs.Ordering.{is_gt, ordering_reverse}
use Rattle.std.specs.declared.cmp.Ordering.TheVariants.{Less, Equal, Greater}
use Rattle.lk_val.specs.ValueOrder.{values_ordered}
use Rattle.lk_val.specs.Values.{value_cmp}
use Rattle.lk_val.proofs.SetLaws.{first_of-comm, first_of-assoc}
use Rattle.lk_val.proofs.ValueLaws.{values_turned}
use Rattle.lk_val.specs.declared.value.Value.{Value}
use Rattle.lk_val.specs.declared.value.Value.TheVariants as value
use Rattle.lk_types.specs.Tables.{Rows, column_values}
use Rattle.lk_semantics.specs.Measures.{greater, greatest_of}
use Rattle.lk_table.specs.Contents.{Content}
use Rattle.lk_table.specs.Versions.{rows_of}
use Rattle.lk_table.proofs.VersionLaws.{rows_of_more}

pub greater_by : (a b : Value) → greater a b ≡ (if is_gt (value_cmp a b) then a else b)
greater_by a b =
    ap (λ r. if is_gt r then b else a) (values_ordered.total.antisymm b a)
    ∙ elim (value_cmp a b) as (λ r. value_cmp a b ≡ r → (if is_gt (ordering_reverse r) then b else a) ≡ (if is_gt r then a else b)) [
      | Less ↦ λ e. refl
      | Equal ↦ λ e. values_ordered.exact a b e
      | Greater ↦ λ e. refl
    ] refl

greater-swapped : (a b c : Value) → greater a (greater b c) ≡ greater b (greater a c)
greater-swapped a b c =
    sym (first_of-assoc values_turned a b c) ∙ ap (λ x. greater x c) (first_of-comm values_turned a b) ∙ first_of-assoc values_turned b a c

-- one value more
greatest-push : (vs : List Value) (v : Value) → greater v (greatest_of vs) ≡ greatest_of (vs ++ v ∷ [])
greatest-push [] v = refl
greatest-push (w ∷ vs) v = greater-swapped v w (greatest_of vs) ∙ ap (greater w) (greatest-push vs v)

-- one row more
pub greatest_more : (rows : Rows) (column n : ℕ) (most cell : Value) → n < length rows
    → most ≡ greatest_of (column_values (take n rows) column) → cell ≡ slice_index_or (slice_index_or rows n []) column value.Null
    → greater cell most ≡ greatest_of (column_values (take (n + 1) rows) column)
greatest_more rows column n most cell below so_far is =
    (λ i. greater (is i) (so_far i))
    ∙ greatest-push (column_values (take n rows) column) (slice_index_or (slice_index_or rows n []) column value.Null)
    ∙ ap greatest_of (sym (map_more (λ cells. slice_index_or cells column value.Null) rows n [] below))

-- ---- parts

greater_null : (v : Value) → v ≡ greater v value.Null
greater_null value.Null = refl
greater_null (value.Text t) = refl
greater_null (value.Num n) = refl
greater_null (value.Truth b) = refl
greater_null (value.Day d) = refl
greater_null (value.Moment m) = refl

-- the greatest of some values and more behind them
greatest-append : (us vs : List Value) → greatest_of (us ++ vs) ≡ greater (greatest_of vs) (greatest_of us)
greatest-append [] vs = greater_null (greatest_of vs)
greatest-append (u ∷ us) vs = ap (greater u) (greatest-append us vs) ∙ greater-swapped u (greatest_of vs) (greatest_of us)

-- one part more
pub greatest_of_part : (parts : List Content) (part : Content) (column n : ℕ) (most cell : Value) → n < length parts → part ≡ get_or parts n part
    → most ≡ greatest_of (column_values (rows_of (take n parts)) column) → cell ≡ greatest_of (column_values part.rows column)
    → greater cell most ≡ greatest_of (column_values (rows_of (take (n + 1) parts)) column)
greatest_of_part parts part column n most cell below here so_far is =
    let values : List (List Value) → List Value = λ rows. column_values rows column in
    (λ i. greater (is i) (so_far i))
    ∙ sym (greatest-append (values (rows_of (take n parts))) (values part.rows))
    ∙ ap greatest_of (sym (map-append (λ cells. slice_index_or cells column value.Null) (rows_of (take n parts)) part.rows))
    ∙ ap (λ rows. greatest_of (values rows)) (sym (rows_of_more (take n parts) part))
    ∙ ap (λ more. greatest_of (values (rows_of more))) (ap (λ last. take n parts ++ last ∷ []) here ∙ sym (take_more parts n part below))
