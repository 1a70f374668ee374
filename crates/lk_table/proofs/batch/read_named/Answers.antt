use Rattle.std.proofs.Common.{◌≡◌, ◌∙◌, ap, map, subst, Bor, List}
use Rattle.std.specs.Prelude.{IfOk}
use Rattle.lk_csv.specs.Reading.{records_left}
use Rattle.lk_val.specs.Memory.{IsUnlessMemory}
use Rattle.lk_types.specs.declared.schema.ColumnDef.{ColumnDef}
use Rattle.lk_table.specs.Contents.{kind_of}
use Rattle.lk_table.specs.Faults.{is_no_memory}
use Rattle.lk_table.specs.Reading.{no_rows, rows_added}
use Rattle.lk_table.proofs.batch.read_named.Goals as goal

pub returns-clause-value : goal.returns-clause-value
returns-clause-value c =
    let told = ap (map (λ (column : Bor ColumnDef). column.now)) c.deref.ensures.value ∙ c.in_ok-named.ensures in
    subst (λ (named : List ColumnDef). IsUnlessMemory is_no_memory c.read_rows.result (rows_added named (no_rows named) (records_left c.args.reader.now))) told
    c.read_rows.ensures.value

pub returns-clause-kinds : goal.returns-clause-kinds
returns-clause-kinds c =
    let told = ap (map (λ (column : Bor ColumnDef). column.now)) c.deref.ensures.value ∙ c.in_ok-named.ensures in
    subst (λ (named : List ColumnDef). IfOk c.read_rows.result (λ block. block.kinds ≡ map kind_of named)) told
    c.read_rows.ensures.kinds
