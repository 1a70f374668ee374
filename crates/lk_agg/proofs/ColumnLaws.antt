-- What a group keeps for a measure, with what one more row gives.
use Rattle.std.proofs.Common.{◌≡◌, ℕ, Bool, true, false, not, List, [], ◌∷◌, ◌++◌, map, refl, sym, ap, ◌∙◌, append-nil, arith}
use Rattle.std.specs.Prelude.{◌+◌, ◌+ℤ◌, if◌then◌else◌, filter, slice_index_or, Option, Some, None, is_some}
use Rattle.std.proofs.lemmas.Int.{ints}
use Rattle.std.specs.Ordering.{is_lt, is_gt, ordering_reverse}
use Rattle.std.specs.declared.cmp.Ordering.{Ordering}
use Rattle.std.specs.declared.cmp.Ordering.TheVariants.{Less, Equal, Greater}
use Rattle.std.proofs.lemmas.List.{map-append}
use Rattle.std.proofs.lemmas.List.Elements.{filter-append}
use Rattle.lk_val.specs.Sets.{IsExactOrder, set_of, first_of, with_item}
use Rattle.lk_val.specs.ValueOrder.{values_ordered}
use Rattle.lk_val.specs.Values.{value_cmp, null_last_cmp, is_null, is_same_tuple}
use Rattle.lk_val.proofs.SetLaws.{set_of-push, first_of-comm, first_of-assoc}
use Rattle.lk_val.proofs.ValueLaws.{null_last_ordered, values_turned}
use Rattle.lk_val.specs.declared.value.Value.{Value}
use Rattle.lk_semantics.specs.Measures.{Entry, entry_at, entries_of, no_entry, pairs_of, unless_counted, amount, lesser, greater, least_of, greatest_of, distinct_values, values_of_entries}
use Rattle.lk_types.specs.PairOrder.{pair_cmp, pairs_ordered}
use Rattle.lk_semantics.proofs.PairLaws.{given, given-append, entries_of-append}
use Rattle.lk_types.specs.declared.answer.GivenRow.{GivenRow}
use Rattle.lk_types.specs.declared.explore.Op.{Op}
use Rattle.lk_types.specs.declared.explore.Op.TheVariants as op
use Rattle.lk_agg.specs.declared.columns.Column.TheVariants.{Count, Sum, SumDistinct, Average, AverageDistinct, Different, Least, Greatest}
use Rattle.lk_agg.specs.Tallies.{Tallied, tally_of, with_amount}
use Rattle.lk_agg.specs.Columns.{column_of, keyed, placed, rows_over, with_key, with_key_by, with_place, with_row, with_value, with_entry, with_given, with_cells}
use Rattle.lk_agg.specs.Gathering.{columns_at}

-- ---- the lesser and the greater of two values

pub lesser_by : (a b : Value) → lesser a b ≡ (if is_lt (null_last_cmp a b) then a else b)
lesser_by a b =
    elim (null_last_cmp a b) as (λ r. null_last_cmp a b ≡ r → (if is_gt r then b else a) ≡ (if is_lt r then a else b)) [
      | Less ↦ λ e. refl
      | Equal ↦ λ e. null_last_ordered.exact a b e
      | Greater ↦ λ e. refl
    ] refl

pub greater_by : (a b : Value) → greater a b ≡ (if is_gt (value_cmp a b) then a else b)
greater_by a b =
    ap (λ r. if is_gt r then b else a) (values_ordered.total.antisymm b a)
    ∙ elim (value_cmp a b) as (λ r. value_cmp a b ≡ r → (if is_gt (ordering_reverse r) then b else a) ≡ (if is_gt r then a else b)) [
      | Less ↦ λ e. refl
      | Equal ↦ λ e. values_ordered.exact a b e
      | Greater ↦ λ e. refl
    ] refl

-- ---- one more entry

-- one more entry with its key, or without
pairs_of-push : (o : Op) (es : List Entry) (e : Entry) → with_key o e.1 (pairs_of o (keyed es)) ≡ pairs_of o (keyed (es ++ e ∷ []))
pairs_of-push o es e =
    sym (ap (pairs_of o) (filter-append (λ (x : Entry). is_some x.1.key) es (e ∷ []))
    ∙ by_key e.1.key e.1.value e.0 e.1.counts)
  where
    by_key : (k : Option Value) (v : Value) (p : ℕ) (b : Bool) → pairs_of o (keyed es ++ keyed ((p, record { key = k; value = v; counts = b }) ∷ [])) ≡ with_key_by o k v (pairs_of o (keyed es))
    by_key None v p b = ap (pairs_of o) (append-nil (keyed es))
    by_key (Some key) v p b =
        ap (set_of pair_cmp) (given-append o (keyed es) ((p, record { key = Some key; value = v; counts = b }) ∷ []))
        ∙ elim (is_null key) as (λ n. set_of pair_cmp (given o (keyed es) ++ (if not n then record { key = key; value = unless_counted o v } ∷ [] else [])) ≡ (if n then pairs_of o (keyed es) else with_item pair_cmp (record { key = key; value = unless_counted o v }) (pairs_of o (keyed es)))) [
          | true ↦ ap (set_of pair_cmp) (append-nil (given o (keyed es)))
          | false ↦ set_of-push pairs_ordered (given o (keyed es)) (record { key = key; value = unless_counted o v })
        ]

tally_swapped : (v w : Value) (t : Tallied) → with_amount v (with_amount w t) ≡ with_amount w (with_amount v t)
tally_swapped v w t =
    let rows : t.rows + 1 + 1 ≡ t.rows + 1 + 1 = refl in
    let values : t.values + (if is_null w then 0 else 1) + (if is_null v then 0 else 1) ≡ t.values + (if is_null v then 0 else 1) + (if is_null w then 0 else 1) = omega arith in
    let sum : (t.sum +ℤ amount w) +ℤ amount v ≡ (t.sum +ℤ amount v) +ℤ amount w = omega (arith, ints) in
    λ i. record { rows = rows i; values = values i; sum = sum i }

tally_last : (es : List Entry) (e : Entry) → with_amount e.1.value (tally_of es) ≡ tally_of (es ++ e ∷ [])
tally_last [] e = refl
tally_last (d ∷ es) e = tally_swapped e.1.value d.1.value (tally_of es) ∙ ap (with_amount d.1.value) (tally_last es e)

tally-push : (es : List Entry) (e : Entry) → with_place e.1 (tally_of (placed es)) ≡ tally_of (placed (es ++ e ∷ []))
tally-push es e =
    sym (ap tally_of (filter-append (λ (x : Entry). not (is_some x.1.key)) es (e ∷ []))
    ∙ elim (is_some e.1.key) as (λ b. tally_of (placed es ++ (if not b then e ∷ [] else [])) ≡ (if b then tally_of (placed es) else with_amount e.1.value (tally_of (placed es)))) [
      | true ↦ ap tally_of (append-nil (placed es))
      | false ↦ sym (tally_last (placed es) e)
    ])

rows-push : (o : Op) (es : List Entry) (e : Entry) → with_row o e.1 (rows_over o es) ≡ rows_over o (es ++ e ∷ [])
rows-push o es e = λ i. record { pairs = pairs_of-push o es e i; tally = tally-push es e i }

values-push : (es : List Entry) (e : Entry) → values_of_entries (es ++ e ∷ []) ≡ values_of_entries es ++ e.1.value ∷ []
values-push es e = map-append (λ (x : Entry). x.1.value) es (e ∷ [])

distinct-push : (vs : List Value) (v : Value) → with_value v (distinct_values vs) ≡ distinct_values (vs ++ v ∷ [])
distinct-push vs v =
    sym (ap (set_of value_cmp) (filter-append (λ w. not (is_null w)) vs (v ∷ []))
    ∙ elim (is_null v) as (λ b. set_of value_cmp (filter (λ w. not (is_null w)) vs ++ (if not b then v ∷ [] else [])) ≡ (if b then distinct_values vs else with_item value_cmp v (distinct_values vs))) [
      | true ↦ ap (set_of value_cmp) (append-nil (filter (λ w. not (is_null w)) vs))
      | false ↦ set_of-push values_ordered (filter (λ w. not (is_null w)) vs) v
    ])

swapped : {A : Type 0} {cmp : A → A → Ordering} (o : IsExactOrder cmp) (a b c : A) → first_of cmp a (first_of cmp b c) ≡ first_of cmp b (first_of cmp a c)
swapped {A} {cmp} o a b c = sym (first_of-assoc o a b c) ∙ ap (λ x. first_of cmp x c) (first_of-comm o a b) ∙ first_of-assoc o b a c

least-push : (vs : List Value) (v : Value) → lesser v (least_of vs) ≡ least_of (vs ++ v ∷ [])
least-push [] v = refl
least-push (w ∷ vs) v = swapped null_last_ordered v w (least_of vs) ∙ ap (lesser w) (least-push vs v)

greatest-push : (vs : List Value) (v : Value) → greater v (greatest_of vs) ≡ greatest_of (vs ++ v ∷ [])
greatest-push [] v = refl
greatest-push (w ∷ vs) v = swapped values_turned v w (greatest_of vs) ∙ ap (greater w) (greatest-push vs v)

-- what is kept of some entries, with one more, is what is kept of all
pub with_entry-column_of : (o : Op) (es : List Entry) (e : Entry) → with_entry e (column_of o es) ≡ column_of o (es ++ e ∷ [])
with_entry-column_of op.Count es e = ap Count (rows-push op.Count es e)
with_entry-column_of op.Sum es e = ap Sum (rows-push op.Sum es e)
with_entry-column_of op.SumDistinct es e = ap SumDistinct (rows-push op.SumDistinct es e)
with_entry-column_of op.Average es e = ap Average (rows-push op.Average es e)
with_entry-column_of op.AverageDistinct es e = ap AverageDistinct (rows-push op.AverageDistinct es e)
with_entry-column_of op.CountDistinct es e = ap Different (distinct-push (values_of_entries es) e.1.value ∙ ap distinct_values (sym (values-push es e)))
with_entry-column_of op.Min es e = ap Least (least-push (values_of_entries es) e.1.value ∙ ap least_of (sym (values-push es e)))
with_entry-column_of op.Max es e = ap Greatest (greatest-push (values_of_entries es) e.1.value ∙ ap greatest_of (sym (values-push es e)))
with_entry-column_of op.Number es e = refl

-- ---- one more row

-- what a row gives, where it is of the group
of_group : (i : ℕ) (row : GivenRow) (group : List Value) → is_same_tuple row.group group ≡ true
    → entries_of i (row ∷ []) group ≡ (if (entry_at i row).1.counts then entry_at i row ∷ [] else [])
of_group i row group same = ap (λ b. filter (λ (e : Entry). e.1.counts) (map (entry_at i) (if b then row ∷ [] else []))) same

-- and where it is not
of_other : (i : ℕ) (row : GivenRow) (group : List Value) → is_same_tuple row.group group ≡ false → entries_of i (row ∷ []) group ≡ []
of_other i row group other = ap (λ b. filter (λ (e : Entry). e.1.counts) (map (entry_at i) (if b then row ∷ [] else []))) other

pub column-push : (o : Op) (i : ℕ) (rows : List GivenRow) (row : GivenRow) (group : List Value) → is_same_tuple row.group group ≡ true
    → with_given row.place (slice_index_or row.cells i no_entry) (column_of o (entries_of i rows group)) ≡ column_of o (entries_of i (rows ++ row ∷ []) group)
column-push o i rows row group same =
    sym (ap (column_of o) (entries_of-append i group rows (row ∷ []) ∙ ap (λ es. entries_of i rows group ++ es) (of_group i row group same))
    ∙ elim (entry_at i row).1.counts as (λ b. column_of o (entries_of i rows group ++ (if b then entry_at i row ∷ [] else [])) ≡ (if b then with_entry (entry_at i row) (column_of o (entries_of i rows group)) else column_of o (entries_of i rows group))) [
      | true ↦ sym (with_entry-column_of o (entries_of i rows group) (entry_at i row))
      | false ↦ ap (column_of o) (append-nil (entries_of i rows group))
    ])

-- the columns of the row's group take what it gives
pub columns-push : (i : ℕ) (ops : List Op) (rows : List GivenRow) (row : GivenRow) (group : List Value) → is_same_tuple row.group group ≡ true
    → with_cells i row.place row.cells (columns_at i ops rows group) ≡ columns_at i ops (rows ++ row ∷ []) group
columns-push i [] rows row group same = refl
columns-push i (o ∷ ops) rows row group same = λ k. column-push o i rows row group same k ∷ columns-push (i + 1) ops rows row group same k

-- those of another group stay
pub columns-other : (i : ℕ) (ops : List Op) (rows : List GivenRow) (row : GivenRow) (group : List Value) → is_same_tuple row.group group ≡ false
    → columns_at i ops (rows ++ row ∷ []) group ≡ columns_at i ops rows group
columns-other i [] rows row group other = refl
columns-other i (o ∷ ops) rows row group other =
    let kept = entries_of-append i group rows (row ∷ []) ∙ ap (λ es. entries_of i rows group ++ es) (of_other i row group other) ∙ append-nil (entries_of i rows group) in
    λ k. column_of o (kept k) ∷ columns-other (i + 1) ops rows row group other k
