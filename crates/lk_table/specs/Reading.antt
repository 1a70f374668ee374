-- How the rows of a batch are read one after the other.
use Rattle.std.specs.Prelude.{◌+◌, List, [], ◌∷◌, length, map, None, Result, Ok}
use Rattle.lk_types.specs.declared.schema.ColumnDef.{ColumnDef}
use Rattle.lk_table.specs.Contents.{Content, kind_of}
use Rattle.lk_table.specs.Columns.{with_row}
use Rattle.lk_table.specs.Batches.{Fields, and_then, or_wrong, record_values}
use Rattle.lk_table.specs.declared.fault.BatchFault.{BatchFault}

-- no rows of the columns that a header names
abbrev pub no_rows : List ColumnDef → Content
no_rows named = record { kinds = map kind_of named; key = None; rows = [] }

-- the content with the values of one record more, or the record's fault
abbrev pub record_added : List ColumnDef → Content → Fields → Result Content BatchFault
record_added named content fields =
    and_then (or_wrong (length content.rows + 1) (record_values named fields)) (λ values. Ok (with_row content values))

-- the content with the values of all the records, or the first fault among them
abbrev pub rows_added : List ColumnDef → Content → List Fields → Result Content BatchFault
rows_added named content [] = Ok content
rows_added named content (fields ∷ records) =
    and_then (record_added named content fields) (λ more. rows_added named more records)
