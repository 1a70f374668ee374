use Rattle.std.proofs.Common.{◌≡◌, ◌+◌, ◌∙◌, ap, arith, length, map, List, Bor}
use Rattle.std.specs.Prelude.{Ok}
use Rattle.csv.specs.Records.{fields_of}
use Rattle.lk_val.specs.ValueRefs.{value_of_ref}
use Rattle.lk_types.specs.declared.schema.Kind.{Kind}
use Rattle.lk_types.specs.declared.schema.ColumnDef.{ColumnDef}
use Rattle.lk_table.specs.Columns.{are_of_kinds, built, with_row}
use Rattle.lk_table.proofs.FitLaws.{record_fit}
use Rattle.lk_table.proofs.ReadLaws.{or_wrong_ok, record_gives}
use Rattle.lk_table.proofs.batch.add_record.Goals as goal

pub push_row-requires-clause-kinds : goal.push_row-requires-clause-kinds
push_row-requires-clause-kinds c =
    let named = map (λ (column : Bor ColumnDef). column.now) c.args.named.now in
    let values = map value_of_ref c.in_ok-values.values.items in
    let fits = record_fit named (fields_of c.args.csv_record.now) values (or_wrong_ok c.in-Some.row _ values c.in_ok-values.ensures.ok) in
    ap (are_of_kinds (built c.args.rows.now).kinds) (ap (map value_of_ref) c.deref.ensures.value)
    ∙ ap (λ (kinds : List Kind). are_of_kinds kinds values) c.requires.kinds
    ∙ fits

pub returns-clause-rows : goal.returns-clause-rows
returns-clause-rows c =
    let named = map (λ (column : Bor ColumnDef). column.now) c.args.named.now in
    let values = map value_of_ref c.in_ok-values.values.items in
    let before = built c.args.rows.now in
    let more : c.in-Some.row ≡ length before.rows + 1 = omega (arith, c.len.ensures) in
    ap Ok (c.in_ok-push_row.ensures.rows ∙ ap (with_row before) (ap (map value_of_ref) c.deref.ensures.value))
    ∙ record_gives named before (fields_of c.args.csv_record.now) c.in-Some.row more values c.in_ok-values.ensures.ok
