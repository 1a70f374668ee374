use Rattle.std.proofs.Common.{◌<◌, ◌∙◌, ap, sym, arith, length, length-set, map, slice_index_or}
use Rattle.std.proofs.lemmas.List.{get_or-map, length-map}
use Rattle.lk_val.specs.ValueRefs.{value_of_ref}
use Rattle.lk_val.specs.declared.value.Value.TheVariants as value
use Rattle.lk_val.specs.declared.value_ref.ValueRef.TheVariants as ref
use Rattle.lk_types.specs.Tables.{is_of_kind}
use Rattle.lk_table.specs.declared.column.Column.{Column}
use Rattle.lk_table.specs.Columns.{kind_in}
use Rattle.lk_table.proofs.RowLaws.{kinds_long}
use Rattle.lk_table.proofs.BlockLaws.{kind_there, kinds_step, marked_step, values_step}
use Rattle.lk_table.proofs.builder.push_cells.Goals as goal

pub index_mut-requires : goal.index_mut-requires
index_mut-requires c =
    let first = c.args.columns.now.items in
    let values = map value_of_ref c.args.cells.now in
    omega (arith, c.loop-i.columns.ok.0, c.loop-i.invariant.long, kinds_long (map kind_in first) values c.requires.kinds, length-map first kind_in, length-map c.args.cells.now value_of_ref)

pub push_cell-requires-clause-kind : goal.push_cell-requires-clause-kind
push_cell-requires-clause-kind c =
    let first = c.args.columns.now.items in
    let values = map value_of_ref c.args.cells.now in
    let i = c.loop-i.i in
    let inside : i < length c.loop-i.columns.items =
    omega (arith, c.loop-i.invariant.long, kinds_long (map kind_in first) values c.requires.kinds, length-map first kind_in, length-map c.args.cells.now value_of_ref) in
    let here = get_or-map value_of_ref c.args.cells.now i ref.Null value.Null (omega arith) in
    let column = c.index_mut.result.now in
    ap (λ (one : Column). is_of_kind (kind_in one) (value_of_ref (slice_index_or c.args.cells.now i ref.Null))) c.index_mut.ensures.value
    ∙ ap (is_of_kind (kind_in (slice_index_or c.loop-i.columns.items i column))) (sym here)
    ∙ kind_there first c.loop-i.columns.items values i column c.loop-i.invariant.kinds c.index_mut.ensures.value inside value.Null c.requires.kinds

pub push_cell-requires-clause-marked : goal.push_cell-requires-clause-marked
push_cell-requires-clause-marked c =
    let first = c.args.columns.now.items in
    let values = map value_of_ref c.args.cells.now in
    let i = c.loop-i.i in
    let inside : i < length c.loop-i.columns.items =
    omega (arith, c.loop-i.invariant.long, kinds_long (map kind_in first) values c.requires.kinds, length-map first kind_in, length-map c.args.cells.now value_of_ref) in
    rw c.index_mut.ensures.value (c.loop-i.invariant.marked i c.index_mut.result.now inside)

pub loop-i-preserved : goal.loop-i-preserved
loop-i-preserved c =
    let first = c.args.columns.now.items in
    let columns = c.loop-i.columns.items in
    let values = map value_of_ref c.args.cells.now in
    let i = c.loop-i.i in
    let inside : i < length columns =
    omega (arith, c.loop-i.invariant.long, kinds_long (map kind_in first) values c.requires.kinds, length-map first kind_in, length-map c.args.cells.now value_of_ref) in
    let below : i < length values = omega (arith, length-map c.args.cells.now value_of_ref) in
    let here = sym (get_or-map value_of_ref c.args.cells.now i ref.Null value.Null (omega arith)) in
    let column = c.index_mut.result.now in
    let done = c.in_ok-push_cell.ensures in
    let after = c.push_cell.new.column in
    record {
      long = length-set columns i after ∙ c.loop-i.invariant.long;
      values = values_step first columns values i column c.loop-i.invariant.kinds c.index_mut.ensures.value inside
          c.args.region.now c.loop-i.region c.push_cell.new.region after _ done.kept c.loop-i.invariant.marked done.marked
          done.kind done.values here below c.loop-i.invariant.long c.loop-i.invariant.values;
      kinds = kinds_step first columns values i column c.loop-i.invariant.kinds c.index_mut.ensures.value inside
          c.args.region.now c.loop-i.region c.push_cell.new.region after _ done.kept c.loop-i.invariant.marked done.marked
          done.kind done.values here below c.loop-i.invariant.long c.loop-i.invariant.values;
      marked = marked_step first columns values i column c.loop-i.invariant.kinds c.index_mut.ensures.value inside
          c.args.region.now c.loop-i.region c.push_cell.new.region after _ done.kept c.loop-i.invariant.marked done.marked
          done.kind done.values here below c.loop-i.invariant.long c.loop-i.invariant.values;
      texts = done.texts;
    }
