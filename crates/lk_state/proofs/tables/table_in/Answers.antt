use Rattle.std.proofs.Common.{◌<◌, arith, length}
use Rattle.lk_state.specs.Tables.{nothing_held}
use Rattle.lk_state.proofs.ContentLaws.{same_there, table_there, tables_long}
use Rattle.lk_state.proofs.tables.table_in.Goals as goal

pub bounds-tables-number : goal.bounds-tables-number
bounds-tables-number c = omega (arith, c.requires.within, tables_long c.args.defs.now c.args.tables.now c.requires.are)

pub returns-clause-content : goal.returns-clause-content
returns-clause-content c =
    let within : c.args.number < length c.args.tables.now =
    omega (arith, c.requires.within, tables_long c.args.defs.now c.args.tables.now c.requires.are) in
    same_there c.args.tables.now c.args.number c.index-tables-number.result nothing_held within c.index-tables-number.is

pub returns-clause-table : goal.returns-clause-table
returns-clause-table c = table_there c.args.defs.now c.args.tables.now c.args.number c.requires.are c.requires.within
