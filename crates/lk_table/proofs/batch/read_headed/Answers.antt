use Rattle.std.proofs.Common.{ap, ◌∙◌, [], subst, sym, List}
use Rattle.csv.specs.Records.{fields_of}
use Rattle.lk_types.specs.declared.schema.ColumnDef.{ColumnDef}
use Rattle.lk_csv.specs.Reading.{records_left}
use Rattle.lk_table.specs.Batches.{places_of, rows_behind}
use Rattle.lk_table.specs.Contents.{Content}
use Rattle.lk_table.specs.Widening.{IsOnce}
use Rattle.lk_table.proofs.FitLaws.{places_once, places_within}
use Rattle.lk_table.proofs.ReadLaws.{keys_kept, shape_from}
use Rattle.lk_table.proofs.batch.read_headed.Goals as goal

pub read_behind-requires-clause-places : goal.read_behind-requires-clause-places
read_behind-requires-clause-places c =
    let columns = c.args.def.now.columns in
    let names = fields_of c.take_record.new.row in
    let told = ap (λ (all : List ColumnDef). places_of all [] names) (sym c.as_slice.ensures) ∙ c.in_ok-places.ensures.ok in
    rw c.deref.ensures.value (places_within columns names c.in_ok-places.places.items told)

pub read_behind-requires-clause-once : goal.read_behind-requires-clause-once
read_behind-requires-clause-once c =
    let columns = c.args.def.now.columns in
    let names = fields_of c.take_record.new.row in
    let told = ap (λ (all : List ColumnDef). places_of all [] names) (sym c.as_slice.ensures) ∙ c.in_ok-places.ensures.ok in
    subst IsOnce (sym c.deref.ensures.value) (places_once columns names c.in_ok-places.places.items told)

pub returns-clause-shape : goal.returns-clause-shape
returns-clause-shape c =
    let records = records_left c.take_record.new.reader in
    let shape = shape_from c.args.def.now (rows_behind c.args.def.now.columns records c.deref.result.now) c.in_ok-block.block c.in_ok-block.ensures in
    let kept = keys_kept c.in_ok-block.block c.in_ok-with_keys.field-0 c.in_ok-with_keys.ensures in
    let same = c.in_ok-hold.ensures ∙ kept in
    (ap (λ (content : Content). content.kinds) same ∙ shape.0, ap (λ (content : Content). content.key) same ∙ shape.1)
