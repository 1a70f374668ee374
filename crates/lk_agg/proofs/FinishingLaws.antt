-- What the columns of groups come to are the measures and conflicts of their rows.
use Rattle.std.proofs.Common.{◌≡◌, ◌+◌, ℕ, true, false, cond, not, List, [], ◌∷◌, ◌++◌, map, refl, sym, ap, ◌∙◌}
use Rattle.std.specs.Prelude.{if◌then◌else◌, filter, flat_map, Some, ◌||◌, ◌&&◌}
use Rattle.std.specs.List.{AllByRecursion, enumerate_from}
use Rattle.std.specs.List.Sorted.{IsStrictlySortedBy}
use Rattle.std.specs.Ordering.{is_eq, ordering_then, ordering_reverse}
use Rattle.std.specs.declared.cmp.Ordering.TheVariants.{Less, Equal, Greater}
use Rattle.std.specs.Cmp.{tied_itself}
use Rattle.lk_val.specs.ValueOrder.{values_ordered}
use Rattle.lk_val.specs.Values.{value_cmp, is_same}
use Rattle.lk_val.proofs.SetLaws.{IsStrictlySortedBy-set_of}
use Rattle.lk_val.specs.declared.value.Value.{Value}
use Rattle.lk_semantics.specs.Measures.{Entry, entries_of, pairs_of, total, known_count, has_other, conflict_keys, first_conflict, head_of, measure_of, uses_key, group_row, group_rows, groups_of}
use Rattle.lk_semantics.specs.Rollups.{no_partial, partial_of, rollup_row, rollup_rows}
use Rattle.lk_semantics.proofs.PairLaws.{given}
use Rattle.lk_types.specs.PairOrder.{pair_cmp, pairs_ordered}
use Rattle.lk_types.specs.declared.answer.GivenRow.{GivenRow}
use Rattle.lk_types.specs.declared.answer.Pair.{Pair}
use Rattle.lk_types.specs.declared.answer.Partial.{Partial}
use Rattle.lk_types.specs.declared.explore.Op.{Op}
use Rattle.lk_types.specs.declared.explore.Op.TheVariants as op
use Rattle.lk_agg.specs.declared.parts.Part.{Part}
use Rattle.lk_agg.specs.Columns.{column_of, keyed}
use Rattle.lk_agg.specs.Regular.{AreRegular, AreRegularFrom, counted, is_regular}
use Rattle.lk_agg.proofs.PartLaws.{group_part, part-regular}
use Rattle.lk_agg.proofs.PlacedLaws.{count_is, sum_is, values_are, others_are}
use Rattle.lk_agg.specs.Gathering.{columns_at, gathered}
use Rattle.lk_agg.specs.Finishing.{part_of, cell_of, kept_of, twice_after, twice_in, twice_of, or_first, at_place, conflict_from, conflict_among, row_of, kept_row_of}

-- ---- parts

-- the sum of the pairs' values, and how many of these are not null
abbrev pub summed_over : Op → List Entry → Partial
summed_over o es = record no_partial { sum = total (pairs_of o es); values = known_count (pairs_of o es) }

-- the parts of a measure over what rows give, also of one that stands in no rollup
abbrev pub all_parts : Op → List Entry → Partial
all_parts op.Count es = partial_of op.Count es
all_parts op.Sum es = partial_of op.Sum es
all_parts op.SumDistinct es = summed_over op.SumDistinct es
all_parts op.Average es = partial_of op.Average es
all_parts op.AverageDistinct es = summed_over op.AverageDistinct es
all_parts op.CountDistinct es = partial_of op.CountDistinct es
all_parts op.Min es = partial_of op.Min es
all_parts op.Max es = partial_of op.Max es
all_parts op.Number es = no_partial

abbrev pub whole_part : Op → List Entry → Part
whole_part o es = record { op = o; parts = all_parts o es }

part_is : (o : Op) (es : List Entry) → (uses_key o ≡ true → is_regular es ≡ true) → part_of (column_of o es) ≡ whole_part o es
part_is op.Count es r = λ i. record { op = op.Count; parts = record no_partial { count = count_is op.Count es (r refl) i } }
part_is op.Sum es r = λ i. record { op = op.Sum; parts = record no_partial { sum = sum_is op.Sum (λ v. refl) es (r refl) i; values = values_are op.Sum (λ v. refl) es (r refl) i } }
part_is op.SumDistinct es r = λ i. record { op = op.SumDistinct; parts = record no_partial { sum = sum_is op.SumDistinct (λ v. refl) es (r refl) i; values = values_are op.SumDistinct (λ v. refl) es (r refl) i } }
part_is op.Average es r = λ i. record { op = op.Average; parts = record no_partial { sum = sum_is op.Average (λ v. refl) es (r refl) i; values = values_are op.Average (λ v. refl) es (r refl) i } }
part_is op.AverageDistinct es r = λ i. record { op = op.AverageDistinct; parts = record no_partial { sum = sum_is op.AverageDistinct (λ v. refl) es (r refl) i; values = values_are op.AverageDistinct (λ v. refl) es (r refl) i } }
part_is op.CountDistinct es r = refl
part_is op.Min es r = refl
part_is op.Max es r = refl
part_is op.Number es r = refl

cell_is : (o : Op) (es : List Entry) → cell_of (whole_part o es) ≡ measure_of o es
cell_is op.Count es = refl
cell_is op.Sum es = refl
cell_is op.SumDistinct es = refl
cell_is op.Average es = refl
cell_is op.AverageDistinct es = refl
cell_is op.CountDistinct es = refl
cell_is op.Min es = refl
cell_is op.Max es = refl
cell_is op.Number es = refl

kept_is : (o : Op) (es : List Entry) → kept_of (whole_part o es) ≡ partial_of o es
kept_is op.Count es = refl
kept_is op.Sum es = refl
kept_is op.SumDistinct es = refl
kept_is op.Average es = refl
kept_is op.AverageDistinct es = refl
kept_is op.CountDistinct es = refl
kept_is op.Min es = refl
kept_is op.Max es = refl
kept_is op.Number es = refl

-- the entries of a group are as regular as those of all rows
group_regular : (i : ℕ) (o : Op) (rows : List GivenRow) (group : List Value) → (uses_key o ≡ true → is_regular (counted i rows) ≡ true) → uses_key o ≡ true → is_regular (entries_of i rows group) ≡ true
group_regular i o rows group r keyed = part-regular (entries_of i rows group) (counted i rows) (group_part i group rows) (r keyed)

-- what is made of the parts of a group's columns is made of what its rows give
made_is : {R : Type 0} (made : Part → R) (meant : Op → List Entry → R) → ((o : Op) (es : List Entry) → made (whole_part o es) ≡ meant o es)
    → (i : ℕ) (ops : List Op) (rows : List GivenRow) (group : List Value) → AreRegularFrom i ops rows
    → map made (map part_of (columns_at i ops rows group)) ≡ map (λ c. meant c.1 (entries_of c.0 rows group)) (enumerate_from i ops)
made_is made meant is i [] rows group r = refl
made_is made meant is i (o ∷ ops) rows group r =
    let here = ap made (part_is o (entries_of i rows group) (group_regular i o rows group r.0)) ∙ is o (entries_of i rows group) in
    λ k. here k ∷ made_is made meant is (i + 1) ops rows group r.1 k

-- ---- conflicts

head_of-append : {A : Type 0} (xs ys : List A) → head_of (xs ++ ys) ≡ or_first (head_of xs) (head_of ys)
head_of-append [] ys = refl
head_of-append (x ∷ xs) ys = refl

head_of-map : (i : ℕ) (keys : List Value) → head_of (map (λ key. (i, key)) keys) ≡ at_place i (head_of keys)
head_of-map i [] = refl
head_of-map i (k ∷ keys) = refl

-- neighbours with one key differ in their values
same_key : (p q : Pair) → pair_cmp p q ≡ Less → is_same p.key q.key ≡ true → is_same p.value q.value ≡ false
same_key p q less same =
    elim (value_cmp p.key q.key) as (λ r. is_eq r ≡ true → ordering_then r (value_cmp p.value q.value) ≡ Less → is_same p.value q.value ≡ false) [
      | Less ↦ λ s l. cc s
      | Equal ↦ λ s l. ap is_eq l
      | Greater ↦ λ s l. cc s
    ] same less

-- the keys of ascending pairs do not fall
later_key : (p q : Pair) → pair_cmp p q ≡ Less → is_same p.key q.key ≡ false → value_cmp p.key q.key ≡ Less
later_key p q less other =
    elim (value_cmp p.key q.key) as (λ r. is_eq r ≡ false → ordering_then r (value_cmp p.value q.value) ≡ Less → r ≡ Less) [
      | Less ↦ λ s l. refl
      | Equal ↦ λ s l. cc s
      | Greater ↦ λ s l. l
    ] other less

-- p is before each of the pairs
abbrev pub IsFirst : Pair → List Pair → Type 0
IsFirst p ps = AllByRecursion (λ q. pair_cmp p q ≡ Less) ps

-- a pair whose key is before all the keys of pairs has no other among them
no_other_key : (p : Pair) (ps : List Pair) → AllByRecursion (λ q. value_cmp p.key q.key ≡ Less) ps → has_other ps p ≡ false
no_other_key p [] all = refl
no_other_key p (q ∷ ps) all = ap (λ r. (is_eq r && not (is_same p.value q.value)) || has_other ps p) all.0 ∙ no_other_key p ps all.1

-- the keys of ascending pairs are not before the first
keys_later : (p q : Pair) (qs : List Pair) → value_cmp p.key q.key ≡ Less → IsFirst q qs → AllByRecursion (λ r. value_cmp p.key r.key ≡ Less) qs
keys_later p q [] less all = tt
keys_later p q (r ∷ rs) less all =
    let later : value_cmp p.key r.key ≡ Less =
    elim (value_cmp q.key r.key) as (λ o. value_cmp q.key r.key ≡ o → ordering_then o (value_cmp q.value r.value) ≡ Less → value_cmp p.key r.key ≡ Less) [
      | Less ↦ λ e l. values_ordered.total.trans p.key q.key r.key less e
      | Equal ↦ λ e l. ap (value_cmp p.key) (sym (values_ordered.exact q.key r.key e)) ∙ less
      | Greater ↦ λ e l. cc l
    ] refl all.0 in
    (later, keys_later p q rs less all.1)

not_equal : (a b : Value) → value_cmp a b ≡ Less → is_same b a ≡ false
not_equal a b less = ap is_eq (values_ordered.total.antisymm b a ∙ ap ordering_reverse less)

-- what has an other has one without a pair of another key
others_without : (p : Pair) (all ps : List Pair) → AllByRecursion (λ r. value_cmp p.key r.key ≡ Less) ps → filter (has_other (p ∷ all)) ps ≡ filter (has_other all) ps
others_without p all [] later = refl
others_without p all (r ∷ rs) later =
    let same : has_other (p ∷ all) r ≡ has_other all r = ap (λ b. (b && not (is_same r.value p.value)) || has_other all r) (not_equal p.key r.key later.0) in
    λ i. cond (same i) (r ∷ others_without p all rs later.1 i) (others_without p all rs later.1 i)

-- the first of the pairs that have another
twice_is : (p : Pair) (ps : List Pair) → IsStrictlySortedBy pair_cmp (p ∷ ps) → head_of (map (λ q. q.key) (filter (has_other (p ∷ ps)) (p ∷ ps))) ≡ twice_after p ps
unfolding IsStrictlySortedBy
twice_is p [] sorted =
    ap (λ b. head_of (map (λ (q : Pair). q.key) (cond b (p ∷ []) []))) (itself_alone p)
  where
    itself_alone : (p : Pair) → has_other (p ∷ []) p ≡ false
    itself_alone p = ap (λ r. (is_same p.key p.key && not (is_eq r)) || false) (tied_itself values_ordered.total p.value) ∙ elim (is_same p.key p.key) as (λ b. ((b && false) || false) ≡ false) [ true ↦ refl | false ↦ refl ]
twice_is p (q ∷ qs) sorted =
    elim (is_same p.key q.key) as (λ b. is_same p.key q.key ≡ b → head_of (map (λ (r : Pair). r.key) (filter (has_other (p ∷ q ∷ qs)) (p ∷ q ∷ qs))) ≡ (if b then Some p.key else twice_after q qs)) [
      | true ↦ λ same. ap (λ b. head_of (map (λ (r : Pair). r.key) (cond b (p ∷ filter (has_other (p ∷ q ∷ qs)) (q ∷ qs)) (filter (has_other (p ∷ q ∷ qs)) (q ∷ qs))))) (has_next same)
      | false ↦ λ other.
          let less = later_key p q sorted.0.0 other in
          let later : AllByRecursion (λ r. value_cmp p.key r.key ≡ Less) (q ∷ qs) = (less, keys_later p q qs less sorted.1.0) in
          ap (λ b. head_of (map (λ (r : Pair). r.key) (cond b (p ∷ filter (has_other (p ∷ q ∷ qs)) (q ∷ qs)) (filter (has_other (p ∷ q ∷ qs)) (q ∷ qs))))) (none_here later)
          ∙ ap (λ rs. head_of (map (λ (r : Pair). r.key) rs)) (others_without p (q ∷ qs) (q ∷ qs) later)
          ∙ twice_is q qs sorted.1
    ] refl
  where
    self_false : has_other (p ∷ q ∷ qs) p ≡ has_other (q ∷ qs) p
    self_false = ap (λ r. (is_same p.key p.key && not (is_eq r)) || has_other (q ∷ qs) p) (tied_itself values_ordered.total p.value) ∙ elim (is_same p.key p.key) as (λ b. ((b && false) || has_other (q ∷ qs) p) ≡ has_other (q ∷ qs) p) [ true ↦ refl | false ↦ refl ]

    none_here : AllByRecursion (λ r. value_cmp p.key r.key ≡ Less) (q ∷ qs) → has_other (p ∷ q ∷ qs) p ≡ false
    none_here later = self_false ∙ no_other_key p (q ∷ qs) later

    has_next : is_same p.key q.key ≡ true → has_other (p ∷ q ∷ qs) p ≡ true
    has_next same = self_false ∙ (λ i. (same i && not (same_key p q sorted.0.0 same i)) || has_other qs p)

twice_set : (ps : List Pair) → IsStrictlySortedBy pair_cmp ps → twice_in ps ≡ head_of (map (λ q. q.key) (filter (has_other ps) ps))
twice_set [] sorted = refl
twice_set (p ∷ ps) sorted = sym (twice_is p ps sorted)

twice_pairs : (o : Op) (es : List Entry) → twice_in (pairs_of o es) ≡ head_of (map (λ (q : Pair). q.key) (filter (has_other (pairs_of o es)) (pairs_of o es)))
twice_pairs o es = twice_set (pairs_of o es) (IsStrictlySortedBy-set_of pairs_ordered (given o es))

-- the first key that stands with two values
keyed_twice : (o : Op) (es : List Entry) → is_regular es ≡ true → twice_in (pairs_of o (keyed es)) ≡ head_of (map (λ (q : Pair). q.key) (filter (has_other (pairs_of o es)) (pairs_of o es)))
keyed_twice o es r = twice_pairs o (keyed es) ∙ ap (λ ps. head_of (map (λ (q : Pair). q.key) ps)) (others_are o es r)

twice_column : (o : Op) (es : List Entry) → (uses_key o ≡ true → is_regular es ≡ true) → twice_of (column_of o es) ≡ head_of (conflict_keys o es)
twice_column op.Count es r = keyed_twice op.Count es (r refl)
twice_column op.Sum es r = keyed_twice op.Sum es (r refl)
twice_column op.SumDistinct es r = keyed_twice op.SumDistinct es (r refl)
twice_column op.Average es r = keyed_twice op.Average es (r refl)
twice_column op.AverageDistinct es r = keyed_twice op.AverageDistinct es (r refl)
twice_column op.CountDistinct es r = refl
twice_column op.Min es r = refl
twice_column op.Max es r = refl
twice_column op.Number es r = refl

-- the conflicts of a group from the measure at place i on
abbrev pub group_conflicts : ℕ → List Op → List GivenRow → List Value → List (ℕ × Value)
group_conflicts i ops rows group = flat_map (λ c. map (λ key. (c.0, key)) (conflict_keys c.1 (entries_of c.0 rows group))) (enumerate_from i ops)

conflict_is : (i : ℕ) (ops : List Op) (rows : List GivenRow) (group : List Value) → AreRegularFrom i ops rows → conflict_from i (columns_at i ops rows group) ≡ head_of (group_conflicts i ops rows group)
conflict_is i [] rows group r = refl
conflict_is i (o ∷ ops) rows group r =
    let here : at_place i (twice_of (column_of o (entries_of i rows group))) ≡ head_of (map (λ key. (i, key)) (conflict_keys o (entries_of i rows group))) =
    ap (at_place i) (twice_column o (entries_of i rows group) (group_regular i o rows group r.0)) ∙ sym (head_of-map i (conflict_keys o (entries_of i rows group))) in
    (λ k. or_first (here k) (conflict_is (i + 1) ops rows group r.1 k))
    ∙ sym (head_of-append (map (λ key. (i, key)) (conflict_keys o (entries_of i rows group))) (group_conflicts (i + 1) ops rows group))

-- ---- groups

-- the first conflict of the groups
conflicts_are : (ops : List Op) (rows : List GivenRow) → AreRegular ops rows → (groups : List (List Value))
    → conflict_among (map (λ group. (group, columns_at 0 ops rows group)) groups) ≡ head_of (flat_map (group_conflicts 0 ops rows) groups)
conflicts_are ops rows r [] = refl
conflicts_are ops rows r (g ∷ groups) =
    (λ i. or_first (conflict_is 0 ops rows g r i) (conflicts_are ops rows r groups i))
    ∙ sym (head_of-append (group_conflicts 0 ops rows g) (flat_map (group_conflicts 0 ops rows) groups))

pub conflict_among-gathered : (dims : ℕ) (ops : List Op) (rows : List GivenRow) → AreRegular ops rows → conflict_among (gathered dims ops rows) ≡ first_conflict dims ops rows
conflict_among-gathered dims ops rows r = conflicts_are ops rows r (groups_of dims rows)

-- the rows of the groups
rows_are : (ops : List Op) (rows : List GivenRow) → AreRegular ops rows → (groups : List (List Value))
    → map row_of (map (λ group. (group, columns_at 0 ops rows group)) groups) ≡ map (group_row ops rows) groups
rows_are ops rows r [] = refl
rows_are ops rows r (g ∷ groups) = λ i. record { group = g; cells = made_is cell_of measure_of cell_is 0 ops rows g r i } ∷ rows_are ops rows r groups i

pub rows-gathered : (dims : ℕ) (ops : List Op) (rows : List GivenRow) → AreRegular ops rows → map row_of (gathered dims ops rows) ≡ group_rows dims ops rows
rows-gathered dims ops rows r = rows_are ops rows r (groups_of dims rows)

-- what a rollup keeps of the groups
kept_are : (ops : List Op) (rows : List GivenRow) → AreRegular ops rows → (groups : List (List Value))
    → map kept_row_of (map (λ group. (group, columns_at 0 ops rows group)) groups) ≡ map (rollup_row ops rows) groups
kept_are ops rows r [] = refl
kept_are ops rows r (g ∷ groups) = λ i. (g, made_is kept_of partial_of kept_is 0 ops rows g r i) ∷ kept_are ops rows r groups i

pub kept-gathered : (dims : ℕ) (ops : List Op) (rows : List GivenRow) → AreRegular ops rows → map kept_row_of (gathered dims ops rows) ≡ rollup_rows dims ops rows
kept-gathered dims ops rows r = kept_are ops rows r (groups_of dims rows)
