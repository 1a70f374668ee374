use Rattle.std.proofs.Common.{◌∙◌, ap, map, Bor}
use Rattle.csv.specs.Records.{fields_of}
use Rattle.lk_csv.specs.Reading.{before, records_left}
use Rattle.lk_types.specs.declared.schema.ColumnDef.{ColumnDef}
use Rattle.lk_table.specs.Columns.{built}
use Rattle.lk_table.proofs.ReadLaws.{added_kinds, added_step}
use Rattle.lk_table.proofs.batch.read_rows.Goals as goal

pub loop-record-preserved : goal.loop-record-preserved
loop-record-preserved c =
    let named = map (λ (column : Bor ColumnDef). column.now) c.args.named.now in
    let fields = fields_of c.take_record.new.row in
    let left = records_left c.take_record.new.reader in
    let took = c.in_ok-take_record.ensures in
    let all = took.value ∙ ap (λ found. before found fields left) c.if-branch.true in
    let now = built c.loop-record.rows in
    let more = built c.add_record.new.rows in
    record {
      reading = took.reading c.if-branch.true;
      held = c.in_ok-add_record.ensures.held;
      kinds = added_kinds now more _ _ c.in_ok-add_record.ensures.rows ∙ c.loop-record.invariant.kinds;
      rest = added_step named now more fields left (records_left c.loop-record.reader) all c.in_ok-add_record.ensures.rows
          ∙ c.loop-record.invariant.rest;
    }
