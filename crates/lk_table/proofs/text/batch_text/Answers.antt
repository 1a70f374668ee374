use Rattle.std.proofs.Common.{◌≡◌, ◌∙◌, ◌++◌, ap, ap₂, subst, map, List, ℕ}
use Rattle.std.specs.Prelude.{IfOk}
use Rattle.lk_csv.specs.Records.{record_text, records_text}
use Rattle.lk_types.specs.declared.schema.ColumnDef.{ColumnDef}
use Rattle.lk_table.specs.Batches.{Fields}
use Rattle.lk_table.specs.BatchTexts.{fields_of_row, marked, names_of}
use Rattle.lk_table.specs.Contents.{Content}
use Rattle.lk_table.proofs.TextLaws.{records_text-cons}
use Rattle.lk_table.proofs.text.batch_text.Goals as goal

pub returns : goal.returns
returns c =
    let names = c.deref.ensures.value ∙ c.in_ok-names.ensures ∙ ap (λ (columns : List ColumnDef). names_of columns) c.as_slice.ensures in
    let rows = ap (λ (content : Content). records_text (map fields_of_row content.rows)) (c.deref-2.ensures ∙ c.block.ensures) in
    let text = c.in_ok-add_rows.ensures
    ∙ ap₂ (λ (first rest : List ℕ). first ++ rest) (c.in_ok-text.ensures ∙ ap (λ (fields : Fields). record_text fields) names) rows
    ∙ records_text-cons (names_of c.args.def.now.columns) (map fields_of_row c.args.b.now.rows) in
    subst (λ (wanted : List ℕ). IfOk c.marked.result (λ all. all ≡ wanted)) (ap marked text) c.marked.ensures
