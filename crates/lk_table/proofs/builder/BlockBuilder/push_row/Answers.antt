use Rattle.std.proofs.Common.{◌≡◌, ap₂, arith, length, map, List}
use Rattle.std.specs.Prelude.{None}
use Rattle.std.proofs.lemmas.List.{length-map}
use Rattle.lk_val.specs.ValueRefs.{value_of_ref}
use Rattle.lk_types.specs.Tables.{Rows}
use Rattle.lk_types.specs.declared.schema.Kind.{Kind}
use Rattle.lk_table.specs.Contents.{Content}
use Rattle.lk_table.specs.Columns.{kind_in}
use Rattle.lk_table.proofs.RowLaws.{kinds_long}
use Rattle.lk_table.proofs.BlockLaws.{held_more, rows_more}
use Rattle.lk_table.proofs.builder.BlockBuilder.push_row.Goals as goal

abbrev the_content : List Kind → Rows → Content
the_content kinds rows = record { kinds = kinds; key = None; rows = rows }

pub returns-clause-held : goal.returns-clause-held
returns-clause-held c =
    let first = c.args.self.now in
    let values = map value_of_ref c.args.cells.now in
    let long : length values ≡ length first.columns.items =
    omega (arith, length-map first.columns.items kind_in, kinds_long (map kind_in first.columns.items) values c.requires.kinds) in
    held_more first.region c.push_cells.new.region first.columns.items c.push_cells.new.columns.items first.count first.text
    c.in-Some.count c.in_ok-text.text values c.requires.held long (omega arith) c.in_ok-text.ensures
    c.in_ok-push_cells.ensures.values c.in_ok-push_cells.ensures.marked c.in_ok-push_cells.ensures.texts

pub returns-clause-rows : goal.returns-clause-rows
returns-clause-rows c =
    let first = c.args.self.now in
    let values = map value_of_ref c.args.cells.now in
    let long : length values ≡ length first.columns.items =
    omega (arith, length-map first.columns.items kind_in, kinds_long (map kind_in first.columns.items) values c.requires.kinds) in
    ap₂ the_content
    c.in_ok-push_cells.ensures.kinds
    (rows_more first.region c.push_cells.new.region first.columns.items c.push_cells.new.columns.items first.count first.text
    c.in-Some.count c.in_ok-text.text values c.requires.held long (omega arith) c.in_ok-text.ensures c.in_ok-push_cells.ensures.values)
