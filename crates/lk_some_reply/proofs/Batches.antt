-- A batch is loaded into a table or has a fault of its own: neither is want of memory.
use Rattle.std.proofs.Common.{ℕ, ◌+◌, Bool, List, [], ◌∷◌, ◌++◌, map, length, position, Option, Some, None, Result, Ok, Err}
use Rattle.lk_val.specs.declared.value.Value.{Value}
use Rattle.lk_csv.specs.Records.{records_of}
use Rattle.lk_types.specs.Tables.{Rows}
use Rattle.lk_types.specs.declared.schema.ColumnDef.{ColumnDef}
use Rattle.lk_types.specs.declared.schema.TableDef.{TableDef}
use Rattle.lk_table.specs.Batches.{Fields, and_then, batch_from, batch_of, column_at, content_from, in_front, or_wrong, places_of, record_values, row_from, rows_behind, rows_from, sources_of, unless_null, with_keys}
use Rattle.lk_table.specs.Contents.{Content, content_of, keys_of, lacks_key}
use Rattle.lk_table.specs.Loads.{first_conflict, kept_rows, loaded, unless_conflict}
use Rattle.lk_table.specs.declared.fault.BatchFault.{BatchFault}
use Rattle.lk_table.specs.declared.fault.BatchFault.TheVariants as batch
use Rattle.lk_load.specs.Loading.{table_loaded, with_batch}
use Rattle.lk_some_reply.proofs.Failing.{FailsBy, fails_behind, fails_then}

-- the batch has a fault
abbrev pub IsBatchFault : BatchFault → Type 0
IsBatchFault (batch.L3 row column) = Unit {0}
IsBatchFault (batch.L4 key) = Unit {0}
IsBatchFault (batch.L5 row) = Unit {0}
IsBatchFault batch.NoMemory = ⊥

wrong_faults : {A : Type 0} (row : ℕ) (r : Result A (List ℕ)) → FailsBy IsBatchFault (or_wrong row r)
wrong_faults row (Ok value) = tt
wrong_faults row (Err name) = tt

rows_faults : (named : List ColumnDef) (sources : List (Option ℕ)) (number : ℕ) (records : List Fields) → FailsBy IsBatchFault (rows_from named sources number records)
rows_faults named sources number [] = tt
rows_faults named sources number (fields ∷ records) =
    fails_then IsBatchFault (or_wrong number (record_values named fields)) (λ values. in_front (row_from sources values ∷ []) (rows_from named sources (number + 1) records)) (wrong_faults number (record_values named fields)) (λ values.
    fails_behind IsBatchFault (row_from sources values ∷ []) (rows_from named sources (number + 1) records) (rows_faults named sources (number + 1) records))

null_faults : (content : Content) (place : Option ℕ) → FailsBy IsBatchFault (unless_null content place)
null_faults content (Some place) = tt
null_faults content None = tt

content_faults : (def : TableDef) (records : List Fields) (places : List ℕ) → FailsBy IsBatchFault (content_from def (rows_behind def.columns records places))
content_faults def records places =
    fails_then IsBatchFault (rows_behind def.columns records places) (λ those. Ok (content_of def those))
    (rows_faults (map (column_at def.columns) places) (sources_of (length def.columns) places) 1 records) (λ those. tt)

batch_faults : (def : TableDef) (records : List Fields) → FailsBy IsBatchFault (batch_from def records)
batch_faults def [] = tt
batch_faults def (header ∷ records) =
    fails_then IsBatchFault (or_wrong 0 (places_of def.columns [] header)) (λ places. and_then (content_from def (rows_behind def.columns records places)) with_keys)
    (wrong_faults 0 (places_of def.columns [] header)) (λ places.
    fails_then IsBatchFault (content_from def (rows_behind def.columns records places)) with_keys (content_faults def records places)
    (λ content. null_faults content (position (lacks_key content.key) content.rows)))

conflict_faults : (key : Option Value) (content : Content) (rows : Rows) → FailsBy IsBatchFault (unless_conflict key content rows)
conflict_faults (Some key) content rows = tt
conflict_faults None content rows = tt

behind_faults : (table given : Content) (replace : Bool) → FailsBy IsBatchFault (loaded table given replace)
behind_faults table given replace =
    conflict_faults (first_conflict (keys_of table.key (kept_rows replace table.rows)) (keys_of table.key given.rows)) table (kept_rows replace table.rows ++ given.rows)

with_faults : (def : TableDef) (content : Content) (r : Result Content BatchFault) → FailsBy IsBatchFault r → FailsBy IsBatchFault (with_batch def content r)
with_faults def content (Ok version) h = tt
with_faults def content (Err why) h = h

pub loaded_faults : (def : TableDef) (rows : Rows) (text : List ℕ) (replace : Bool) → FailsBy IsBatchFault (table_loaded def rows text replace)
loaded_faults def rows text replace =
    fails_then IsBatchFault (batch_of def text) (λ given. with_batch def given (loaded (content_of def rows) given replace)) (batch_faults def (records_of text)) (λ given.
    with_faults def given (loaded (content_of def rows) given replace) (behind_faults (content_of def rows) given replace))
