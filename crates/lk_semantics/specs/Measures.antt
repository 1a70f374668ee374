-- Measures over distinct keys. The rows are given with their groups, keys and values; nothing here knows of joins or expressions.
use Rattle.std.specs.Prelude.{ℕ, zero, suc, ◌*◌, ◌==◌, Bool, true, false, not, ◌&&◌, if◌then◌else◌, ℤ, pos, ◌+ℤ◌, List, [], ◌∷◌, map, filter, flat_map, length, slice_index_or, count_by, Option, Some, None}
use Rattle.std.specs.List.{list_any, enumerate_from}
use Rattle.std.specs.Ordering.{ordering_then, flip_args}
use Rattle.std.specs.declared.cmp.Ordering.{Ordering}
use Rattle.lk_val.specs.Sets.{set_of, first_of}
use Rattle.lk_val.specs.Values.{value_cmp, null_last_cmp, tuple_cmp, is_same, is_null, is_same_tuple}
use Rattle.lk_val.specs.Fractions.{reduced}
use Rattle.lk_val.specs.declared.value.Value.{Value}
use Rattle.lk_val.specs.declared.value.Value.TheVariants as value
use Rattle.lk_val.specs.declared.cell.Cell.{Cell}
use Rattle.lk_val.specs.declared.cell.Cell.TheVariants as cell
use Rattle.lk_types.specs.PairOrder.{pair_cmp}
use Rattle.lk_types.specs.declared.explore.Op.{Op}
use Rattle.lk_types.specs.declared.explore.Op.TheVariants.{Count, CountDistinct, Sum, Average, Min, Max, SumDistinct, AverageDistinct, Number}
use Rattle.lk_types.specs.declared.answer.KeyValue.{KeyValue}
use Rattle.lk_types.specs.declared.answer.GivenRow.{GivenRow}
use Rattle.lk_types.specs.declared.answer.Pair.{Pair}
use Rattle.lk_types.specs.declared.answer.GroupRow.{GroupRow}

-- what a row gives to one measure, with the row's place
abbrev pub Entry : Type 0
Entry = ℕ × KeyValue

-- what a row gives to a measure that it has nothing for
abbrev pub no_entry : KeyValue
no_entry = record { key = None; value = value.Null; counts = false }

-- what a row gives to the measure at place i, with the row's place
abbrev pub entry_at : ℕ → GivenRow → Entry
entry_at i row = (row.place, slice_index_or row.cells i no_entry)

-- what the rows of a group give to the measure at place i, where they count for it
abbrev pub entries_of : ℕ → List GivenRow → List Value → List Entry
entries_of i rows group = filter (λ e. e.1.counts) (map (entry_at i) (filter (λ row. is_same_tuple row.group group) rows))

-- ---- pairs

-- the key, or else the row's place
abbrev pub key_or_place : Option Value → ℕ → Value
key_or_place (Some k) place = k
key_or_place None place = value.Num (record { 0 = pos place })

-- what is counted is one fixed value
abbrev pub unless_counted : Op → Value → Value
unless_counted Count v = value.Null
unless_counted op v = v

-- an entry as a pair of key and value
abbrev pub pair_of : Op → Entry → Pair
pair_of op e = record { key = key_or_place e.1.key e.0; value = unless_counted op e.1.value }

-- the key is not null
abbrev pub has_key : Pair → Bool
has_key p = not (is_null p.key)

-- the set of the pairs of key and value, without null keys
abbrev pub pairs_of : Op → List Entry → List Pair
pairs_of op entries = set_of pair_cmp (filter has_key (map (pair_of op) entries))

-- the measure is taken over pairs of key and value
abbrev pub uses_key : Op → Bool
uses_key Count = true
uses_key Sum = true
uses_key Average = true
uses_key SumDistinct = true
uses_key AverageDistinct = true
uses_key CountDistinct = false
uses_key Min = false
uses_key Max = false
uses_key Number = false

-- another pair has the key with a different value
abbrev pub has_other : List Pair → Pair → Bool
has_other pairs p = list_any (λ q. is_same p.key q.key && not (is_same p.value q.value)) pairs

-- the keys of the pairs that stand with another value, ascending: null differs from every other value
abbrev pub conflict_keys : Op → List Entry → List Value
conflict_keys op entries = if uses_key op then map (λ p. p.key) (filter (has_other (pairs_of op entries)) (pairs_of op entries)) else []

-- ---- cells

-- a number's count of 1/10,000, and nothing of any other value
abbrev pub amount : Value → ℤ
amount (value.Num n) = n.0
amount v = pos 0

-- the sum of the pairs' values
abbrev pub total : List Pair → ℤ
total [] = pos 0
total (p ∷ ps) = amount p.value +ℤ total ps

-- how many of the pairs' values are not null
abbrev pub known_count : List Pair → ℕ
known_count pairs = count_by (λ p. not (is_null p.value)) pairs

-- the sum over the number of values as a fraction, null for none
abbrev pub average_cell : ℤ → ℕ → Cell
average_cell sum count = if count == 0 then cell.Value value.Null else cell.Frac (reduced sum (pos (10000 * count)))

-- the lesser and the greater of two values, of which null is neither
abbrev pub lesser : Value → Value → Value
lesser = first_of null_last_cmp

-- the greater of two values, of which null is neither: null comes first
abbrev pub greater : Value → Value → Value
greater = first_of (flip_args value_cmp)

-- the least value, null for none
abbrev pub least_of : List Value → Value
least_of [] = value.Null
least_of (v ∷ vs) = lesser v (least_of vs)

-- the greatest value, null for none
abbrev pub greatest_of : List Value → Value
greatest_of [] = value.Null
greatest_of (v ∷ vs) = greater v (greatest_of vs)

-- the different values without null
abbrev pub distinct_values : List Value → List Value
distinct_values values = set_of value_cmp (filter (λ v. not (is_null v)) values)

-- the values that entries have
abbrev pub values_of_entries : List Entry → List Value
values_of_entries entries = map (λ e. e.1.value) entries

-- a measure over what a group's rows give: counts, sums and averages over the pairs, the others over the rows
abbrev pub measure_of : Op → List Entry → Cell
measure_of Count entries = cell.Count (length (pairs_of Count entries))
measure_of Sum entries = cell.Sum (total (pairs_of Sum entries))
measure_of SumDistinct entries = cell.Sum (total (pairs_of SumDistinct entries))
measure_of Average entries = average_cell (total (pairs_of Average entries)) (known_count (pairs_of Average entries))
measure_of AverageDistinct entries = average_cell (total (pairs_of AverageDistinct entries)) (known_count (pairs_of AverageDistinct entries))
measure_of Min entries = cell.Value (least_of (values_of_entries entries))
measure_of Max entries = cell.Value (greatest_of (values_of_entries entries))
measure_of CountDistinct entries = cell.Count (length (distinct_values (values_of_entries entries)))
measure_of Number entries = cell.Value value.Null

-- ---- groups

-- the different groups, ascending; without dimensions the one empty group
abbrev pub groups_of : ℕ → List GivenRow → List (List Value)
groups_of zero rows = [] ∷ []
groups_of (suc n) rows = set_of tuple_cmp (map (λ row. row.group) rows)

-- a group with its measures
abbrev pub group_row : List Op → List GivenRow → List Value → GroupRow
group_row ops rows group = record { group = group; cells = map (λ c. measure_of c.1 (entries_of c.0 rows group)) (enumerate_from 0 ops) }

-- each group of so many dimensions with its measures, ascending
abbrev pub group_rows : ℕ → List Op → List GivenRow → List GroupRow
group_rows dims ops rows = map (group_row ops rows) (groups_of dims rows)

-- the conflicts, by group, then by the measure's place, then by key: the first is the least
abbrev pub conflicts_of : ℕ → List Op → List GivenRow → List (ℕ × Value)
conflicts_of dims ops rows =
    flat_map (λ group. flat_map (λ c. map (λ key. (c.0, key)) (conflict_keys c.1 (entries_of c.0 rows group))) (enumerate_from 0 ops)) (groups_of dims rows)

-- the first of a list, if it has one
abbrev pub head_of : {A : Type 0} → List A → Option A
head_of [] = None
head_of (x ∷ xs) = Some x

-- the least conflict, if there is one
abbrev pub first_conflict : ℕ → List Op → List GivenRow → Option (ℕ × Value)
first_conflict dims ops rows = head_of (conflicts_of dims ops rows)
