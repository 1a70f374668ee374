use Rattle.std.proofs.Common.{◌<◌, ◌≤◌, ◌∙◌, ap, sym, arith, length, map}
use Rattle.lk_table.specs.Contents.{Content, cell_at, row_at}
use Rattle.lk_table.specs.Columns.{values_in}
use Rattle.lk_table.proofs.RowLaws.{length-rows_in}
use Rattle.lk_table.proofs.BlockLaws.{cell_there, length_there, no_cell}
use Rattle.lk_table.proofs.block.Block.cell.Goals as goal

pub cell_in-requires-clause-row : goal.cell_in-requires-clause-row
cell_in-requires-clause-row c =
    let fields = c.self.inside in
    let height = ap (λ (content : Content). length content.rows) c.self.view_is in
    let inside : c.args.column < length fields.columns.items = omega (arith, fields.columns.ok.0) in
    let even = length_there fields.region fields.columns.items fields.count c.args.column c.index.result.now inside c.index.ensures c.self.invariant.even in
    omega (arith, c.requires, height, length-rows_in fields.count (map (values_in fields.region) fields.columns.items), even)

pub returns-then-column-len : goal.returns-then-column-len
returns-then-column-len c =
    let fields = c.self.inside in
    let height = ap (λ (content : Content). length content.rows) c.self.view_is in
    let inside : c.args.column < length fields.columns.items = omega (arith, fields.columns.ok.0) in
    let below : c.args.row < fields.count =
    omega (arith, c.requires, height, length-rows_in fields.count (map (values_in fields.region) fields.columns.items)) in
    c.cell_in.ensures
    ∙ cell_there fields.region fields.columns.items fields.count c.args.column c.index.result.now inside c.index.ensures c.args.row below
    ∙ ap (λ (content : Content). cell_at (row_at content.rows c.args.row) c.args.column) c.self.view_is

pub returns-else-column-len : goal.returns-else-column-len
returns-else-column-len c =
    let fields = c.self.inside in
    let height = ap (λ (content : Content). length content.rows) c.self.view_is in
    let outside : length fields.columns.items ≤ c.args.column = omega (arith, fields.columns.ok.0) in
    let below : c.args.row < fields.count =
    omega (arith, c.requires, height, length-rows_in fields.count (map (values_in fields.region) fields.columns.items)) in
    sym (no_cell fields.region fields.columns.items fields.count c.args.row c.args.column below outside)
    ∙ ap (λ (content : Content). cell_at (row_at content.rows c.args.row) c.args.column) c.self.view_is
