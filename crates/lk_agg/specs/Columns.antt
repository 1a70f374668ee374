-- What a group keeps for each measure, and what one more row adds to it.
use Rattle.std.specs.Prelude.{ℕ, ◌+◌, not, if◌then◌else◌, List, [], ◌∷◌, filter, slice_index_or, Option, Some, None, is_some}
use Rattle.lk_val.specs.Sets.{with_item}
use Rattle.lk_val.specs.Values.{value_cmp, is_null}
use Rattle.lk_val.specs.declared.value.Value.{Value}
use Rattle.lk_semantics.specs.Measures.{Entry, no_entry, pairs_of, unless_counted, lesser, greater, least_of, greatest_of, distinct_values, values_of_entries}
use Rattle.lk_types.specs.PairOrder.{pair_cmp}
use Rattle.lk_types.specs.declared.answer.KeyValue.{KeyValue}
use Rattle.lk_types.specs.declared.answer.Pair.{Pair}
use Rattle.lk_types.specs.declared.explore.Op.{Op}
use Rattle.lk_types.specs.declared.explore.Op.TheVariants as op
use Rattle.lk_agg.specs.Tallies.{Tallied, tally_of, with_amount}
use Rattle.lk_agg.specs.declared.kept.KeptRows.{KeptRows}
use Rattle.lk_agg.specs.declared.columns.Column.{Column}
use Rattle.lk_agg.specs.declared.columns.Column.TheVariants.{Count, Sum, SumDistinct, Average, AverageDistinct, Different, Least, Greatest, Nothing}

-- the entries with keys, and those without
abbrev pub keyed : List Entry → List Entry
keyed entries = filter (λ e. is_some e.1.key) entries

abbrev pub placed : List Entry → List Entry
placed entries = filter (λ e. not (is_some e.1.key)) entries

-- the rows that are kept for a measure over keys
abbrev pub rows_over : Op → List Entry → KeptRows
rows_over o entries = record { pairs = pairs_of o (keyed entries); tally = tally_of (placed entries) }

-- what a group keeps for a measure, over what its rows give
abbrev pub column_of : Op → List Entry → Column
column_of op.Count entries = Count (rows_over op.Count entries)
column_of op.Sum entries = Sum (rows_over op.Sum entries)
column_of op.SumDistinct entries = SumDistinct (rows_over op.SumDistinct entries)
column_of op.Average entries = Average (rows_over op.Average entries)
column_of op.AverageDistinct entries = AverageDistinct (rows_over op.AverageDistinct entries)
column_of op.CountDistinct entries = Different (distinct_values (values_of_entries entries))
column_of op.Min entries = Least (least_of (values_of_entries entries))
column_of op.Max entries = Greatest (greatest_of (values_of_entries entries))
column_of op.Number entries = Nothing

-- what it keeps before any row
abbrev pub fresh : Op → Column
fresh o = column_of o []

-- the set with one more pair, unless its key is null
abbrev pub with_pair : Op → Value → Value → List Pair → List Pair
with_pair o key v pairs = if is_null key then pairs else with_item pair_cmp (record { key = key; value = unless_counted o v }) pairs

-- the set with the pair of a row, where it has a key
abbrev pub with_key_by : Op → Option Value → Value → List Pair → List Pair
with_key_by o None v pairs = pairs
with_key_by o (Some key) v pairs = with_pair o key v pairs

abbrev pub with_key : Op → KeyValue → List Pair → List Pair
with_key o given pairs = with_key_by o given.key given.value pairs

-- the tally with a row, where it has no key
abbrev pub with_place : KeyValue → Tallied → Tallied
with_place given t = if is_some given.key then t else with_amount given.value t

-- the rows with one more
abbrev pub with_row : Op → KeyValue → KeptRows → KeptRows
with_row o given rows = record { pairs = with_key o given rows.pairs; tally = with_place given rows.tally }

-- the set with one more value, unless it is null
abbrev pub with_value : Value → List Value → List Value
with_value v values = if is_null v then values else with_item value_cmp v values

-- what is kept with one more entry
abbrev pub with_entry : Entry → Column → Column
with_entry e (Count rows) = Count (with_row op.Count e.1 rows)
with_entry e (Sum rows) = Sum (with_row op.Sum e.1 rows)
with_entry e (SumDistinct rows) = SumDistinct (with_row op.SumDistinct e.1 rows)
with_entry e (Average rows) = Average (with_row op.Average e.1 rows)
with_entry e (AverageDistinct rows) = AverageDistinct (with_row op.AverageDistinct e.1 rows)
with_entry e (Different values) = Different (with_value e.1.value values)
with_entry e (Least v) = Least (lesser e.1.value v)
with_entry e (Greatest v) = Greatest (greater e.1.value v)
with_entry e Nothing = Nothing

-- what is kept with what a row at a place gives, where it counts
abbrev pub with_given : ℕ → KeyValue → Column → Column
with_given place given column = if given.counts then with_entry (place, given) column else column

-- the columns from place i on with what a row gives to each
abbrev pub with_cells : ℕ → ℕ → List KeyValue → List Column → List Column
with_cells i place cells [] = []
with_cells i place cells (c ∷ columns) = with_given place (slice_index_or cells i no_entry) c ∷ with_cells (i + 1) place cells columns
