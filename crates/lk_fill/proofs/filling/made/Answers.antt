use Rattle.std.proofs.Common.{◌∙◌, [], Ok, Err, Result, ap}
use Rattle.lk_types.specs.Tables.{Rows}
use Rattle.lk_rollup.specs.declared.fault.BuildFault.{BuildFault}
use Rattle.lk_fill.proofs.FillLaws.{rows_whole}
use Rattle.lk_fill.proofs.filling.made.Goals as goal

rows_in : Result Rows BuildFault → Rows
rows_in (Ok rows) = rows
rows_in (Err fault) = []

pub returns-in-Ok : goal.returns-in-Ok
unfolding rows_in
returns-in-Ok c =
    let m = c.args.m.now in
    ap rows_in c.in-Ok.ensures ∙ rows_whole m c.args.set.now c.args.table c.requires.model c.requires.within
