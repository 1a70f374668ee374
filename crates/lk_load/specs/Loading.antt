-- What a table holds after a text is loaded into it. (lookd)
use Rattle.std.specs.Prelude.{◌≡◌, ℕ, Bool, true, List, length, Result, Ok, Err}
use Rattle.lk_types.specs.Tables.{Rows, is_valid_table}
use Rattle.lk_types.specs.declared.schema.TableDef.{TableDef}
use Rattle.lk_table.specs.Batches.{and_then, batch_of}
use Rattle.lk_table.specs.BatchTexts.{batch_text}
use Rattle.lk_table.specs.Contents.{Content, content_of}
use Rattle.lk_table.specs.Loads.{loaded}
use Rattle.lk_table.specs.declared.fault.BatchFault.{BatchFault}

-- a table after a batch is loaded, how many rows the batch has, and its canonical text
pub record LoadedTable : Type 0 where
  pub version : Content
  pub rows : ℕ
  pub text : List ℕ

-- the table after a batch, and with it the number of the batch's rows and its canonical text
abbrev pub with_batch : TableDef → Content → Result Content BatchFault → Result LoadedTable BatchFault
with_batch def batch (Err fault) = Err fault
with_batch def batch (Ok content) = Ok (record { version = content; rows = length batch.rows; text = batch_text def batch })

-- the text is read as a batch (L3, then L5), whose rows come behind the table's or in their place (L4)
abbrev pub table_loaded : TableDef → Rows → List ℕ → Bool → Result LoadedTable BatchFault
table_loaded def rows text replace =
    and_then (batch_of def text) (λ batch. with_batch def batch (loaded (content_of def rows) batch replace))

-- the content is a table's: each row has a cell for each column, null or of its kind and such as a cell reads, and no key
-- is null or stands twice
pub record IsTable (def : TableDef) (content : Content) : Type 0 where
  pub valid : is_valid_table def content.rows ≡ true
  pub shaped : content ≡ content_of def content.rows
