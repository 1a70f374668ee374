use Rattle.std.proofs.Common.{◌<◌, ◌≤◌, ◌∙◌, ap, sym, arith, length, map, List}
use Rattle.std.proofs.lemmas.List.{take_all}
use Rattle.lk_types.specs.Tables.{Cells}
use Rattle.lk_table.specs.declared.column.Column.{Column}
use Rattle.lk_table.specs.Contents.{Content, cell_at, row_at}
use Rattle.lk_table.specs.Columns.{are_of_kinds, values_in}
use Rattle.lk_table.proofs.RowLaws.{length-rows_in}
use Rattle.lk_table.proofs.BlockLaws.{length_there, row_of_kinds, row_there}
use Rattle.lk_table.proofs.block.Block.row.Goals as goal

pub cell_in-requires-clause-row : goal.cell_in-requires-clause-row
cell_in-requires-clause-row c =
    let fields = c.self.inside in
    let columns = fields.columns.items in
    let i = c.loop-column.column-index in
    let height = ap (λ (content : Content). length content.rows) c.self.view_is in
    let inside : i < length columns = omega (arith, ap (λ (all : List Column). length all) c.deref-column-items.ensures.value) in
    let is = rw c.deref-column-items.ensures.value at c.column-item.is in
    let even = length_there fields.region columns fields.count i c.column-item.result inside is c.self.invariant.even in
    omega (arith, c.requires, height, length-rows_in fields.count (map (values_in fields.region) columns), even)

pub returns-clause-cells : goal.returns-clause-cells
returns-clause-cells c =
    let fields = c.self.inside in
    let columns = fields.columns.items in
    let height = ap (λ (content : Content). length content.rows) c.self.view_is in
    let below : c.args.row < fields.count =
    omega (arith, c.requires, height, length-rows_in fields.count (map (values_in fields.region) columns)) in
    let end : length columns ≤ c.loop-column.column-index =
    omega (arith, ap (λ (all : List Column). length all) c.deref-column-items.ensures.value) in
    c.loop-column.invariant
    ∙ ap (λ (all : List Column). map (λ cells. cell_at cells c.args.row) (map (values_in fields.region) all)) (take_all c.loop-column.column-index columns end)
    ∙ sym (row_there fields.region columns fields.count c.args.row below)
    ∙ ap (λ (content : Content). row_at content.rows c.args.row) c.self.view_is

pub returns-clause-kinds : goal.returns-clause-kinds
returns-clause-kinds c =
    let fields = c.self.inside in
    let columns = fields.columns.items in
    let end : length columns ≤ c.loop-column.column-index =
    omega (arith, ap (λ (all : List Column). length all) c.deref-column-items.ensures.value) in
    let cells = c.loop-column.invariant
    ∙ ap (λ (all : List Column). map (λ cells. cell_at cells c.args.row) (map (values_in fields.region) all)) (take_all c.loop-column.column-index columns end) in
    ap (λ (row : Cells). are_of_kinds c.args.self.now.kinds row) cells
    ∙ ap (λ (content : Content). are_of_kinds content.kinds (map (λ cells. cell_at cells c.args.row) (map (values_in fields.region) columns))) (sym c.self.view_is)
    ∙ row_of_kinds fields.region columns c.args.row
