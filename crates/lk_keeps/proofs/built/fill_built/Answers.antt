use Rattle.std.proofs.Common.{◌∙◌, List, ap, subst, sym}
use Rattle.std.specs.Prelude.{Option}
use Rattle.lk_types.specs.Tables.{Rows, are_valid_tables}
use Rattle.lk_table.specs.Contents.{rows_of_each}
use Rattle.lk_fill.specs.Reads.{AreRowsOf}
use Rattle.lk_keeps.specs.Built.{all_built}
use Rattle.lk_keeps.proofs.BuiltLaws.{hand_is, tables_valid}
use Rattle.lk_keeps.proofs.built.fill_built.Goals as goal

pub fill-requires-clause-tables : goal.fill-requires-clause-tables
fill-requires-clause-tables c =
    let m = c.args.m.now in
    ap (are_valid_tables m.schema.tables) c.tables.ensures
    ∙ tables_valid m c.args.keeps.now c.requires.kept c.args.group c.requires.group c.requires.persists

pub fill-requires-clause-hand : goal.fill-requires-clause-hand
fill-requires-clause-hand c =
    let m = c.args.m.now in
    let keeps = c.args.keeps.now in
    let g = c.args.group in
    subst (λ (rows : List (Option Rows)). AreRowsOf m (rows_of_each c.tables.result.now) rows) (sym (c.as_slice.ensures ∙ c.in_ok-at_hand.ensures))
    (subst (λ (stored : List Rows). AreRowsOf m stored (all_built m keeps g)) (sym c.tables.ensures)
    (hand_is m keeps c.requires.kept g c.requires.group c.requires.persists))
