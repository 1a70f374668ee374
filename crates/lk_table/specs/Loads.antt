-- What a table holds after a batch is loaded into it, or the first key that stands twice. (lookd)
use Rattle.std.specs.Prelude.{Bool, ◌||◌, nat_lt, if◌then◌else◌, List, [], ◌++◌, Option, Some, None, Result, Ok, Err}
use Rattle.std.specs.List.{count_by, find}
use Rattle.lk_val.specs.Sets.{has}
use Rattle.lk_val.specs.Values.{is_same, value_cmp}
use Rattle.lk_val.specs.declared.value.Value.{Value}
use Rattle.lk_types.specs.Tables.{Rows}
use Rattle.lk_table.specs.Contents.{Content, keys_of}
use Rattle.lk_table.specs.declared.fault.BatchFault.{BatchFault}
use Rattle.lk_table.specs.declared.fault.BatchFault.TheVariants.{L4}

-- the key stands more than once
abbrev pub is_repeated : List Value → Value → Bool
is_repeated keys key = nat_lt 1 (count_by (is_same key) keys)

-- the rows that stay under a batch
abbrev pub kept_rows : Bool → Rows → Rows
kept_rows replace rows = if replace then [] else rows

-- the key stands twice among those of the batch, or a row that stays holds it
abbrev pub is_conflict : List Value → List Value → Value → Bool
is_conflict held keys key = is_repeated keys key || has value_cmp key held

-- the first such key, in the order of the batch's rows
abbrev pub first_conflict : List Value → List Value → Option Value
first_conflict held keys = find (is_conflict held keys) keys

-- the content with other rows, unless a key is in conflict
abbrev pub unless_conflict : Option Value → Content → Rows → Result Content BatchFault
unless_conflict (Some key) content rows = Err (L4 key)
unless_conflict None content rows = Ok (record { kinds = content.kinds; key = content.key; rows = rows })

-- the batch's rows behind the table's rows, or in place of them; or the first key in conflict (L4)
abbrev pub loaded : Content → Content → Bool → Result Content BatchFault
loaded table batch replace =
    unless_conflict
    (first_conflict (keys_of table.key (kept_rows replace table.rows)) (keys_of table.key batch.rows))
    table
    (kept_rows replace table.rows ++ batch.rows)
