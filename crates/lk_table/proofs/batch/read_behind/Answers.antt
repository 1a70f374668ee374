use Rattle.std.proofs.Common.{◌∙◌, ap, refl, subst, sym, arith, length, map, List}
use Rattle.std.specs.Prelude.{Result, Err}
use Rattle.std.proofs.lemmas.List.{length-map}
use Rattle.std.proofs.lemmas.Result.{err_from_is_err_and}
use Rattle.lk_csv.specs.Reading.{records_left}
use Rattle.lk_val.specs.Memory.{IsUnlessMemory}
use Rattle.lk_types.specs.declared.schema.Kind.{Kind}
use Rattle.lk_types.specs.declared.schema.ColumnDef.{ColumnDef}
use Rattle.lk_table.specs.Contents.{Content, kind_of}
use Rattle.lk_table.specs.Batches.{column_at, content_from, rows_behind}
use Rattle.lk_table.specs.Faults.{is_no_memory}
use Rattle.lk_table.specs.Widening.{kind_at_place}
use Rattle.lk_table.proofs.FitLaws.{kinds_there}
use Rattle.lk_table.specs.declared.fault.BatchFault.{BatchFault}
use Rattle.lk_table.proofs.ReadLaws.{behind_err, behind_ok}
use Rattle.lk_table.proofs.batch.read_behind.Goals as goal

pub widened-requires : goal.widened-requires
widened-requires c =
    let columns = c.args.def.now.columns in
    let places = c.args.places.now in
    let told = ap (λ (all : List ColumnDef). map (column_at all) places) c.as_slice-columns.ensures in
    let kinds = c.deref.ensures.value ∙ c.in_ok-kinds.ensures ∙ ap (map kind_of) c.as_slice-columns.ensures in
    let width = ap (λ (all : List Kind). length all) kinds ∙ length-map columns kind_of in
    record {
      kinds = c.in_ok-block.ensures.kinds
          ∙ ap (map kind_of) told
          ∙ kinds_there columns places
          ∙ ap (λ (all : List Kind). map (kind_at_place all) places) (sym kinds);
      within = λ k d below. omega (arith, width, c.requires.places k d below);
      once = c.requires.once;
    }

pub returns : goal.returns
returns c =
    let places = c.args.places.now in
    let named = map (column_at c.as_slice-columns.result.now) places in
    let told = ap (λ (all : List ColumnDef). map (column_at all) places) c.as_slice-columns.ensures in
    let kinds = c.deref.ensures.value ∙ c.in_ok-kinds.ensures ∙ ap (map kind_of) c.as_slice-columns.ensures in
    behind_ok c.args.def.now places named c.deref.result.now (records_left c.args.reader.now) told kinds
    c.in_ok-block.block c.in_ok-widened.field-0 c.in_ok-block.ensures.value c.in_ok-widened.ensures

pub returns-in_err-block : goal.returns-in_err-block
returns-in_err-block c =
    let places = c.args.places.now in
    let named = map (column_at c.as_slice-columns.result.now) places in
    let told = ap (λ (all : List ColumnDef). map (column_at all) places) c.as_slice-columns.ensures in
    let failed = err_from_is_err_and c.from_residual-in_err-block.result c.from_residual-in_err-block.ensures.1 in
    subst (λ (r : Result Content BatchFault). IsUnlessMemory is_no_memory r (content_from c.args.def.now (rows_behind c.args.def.now.columns (records_left c.args.reader.now) places)))
    (sym (failed.1 ∙ ap Err failed.2))
    (behind_err c.args.def.now places named (map kind_of c.args.def.now.columns) (records_left c.args.reader.now) told refl
    _ c.in_err-block.ensures.value)
