use Rattle.std.proofs.Common.{map, sym, ◌∙◌}
use Rattle.lk_agg.specs.Columns.{fresh, with_cells}
use Rattle.lk_agg.specs.Given.{given_cells}
use Rattle.lk_agg.proofs.GatheringLaws.{with_step-found, with_step-new}
use Rattle.lk_agg.proofs.groups.add_row.Goals as goal

pub returns-in_ok-columns-in-Some : goal.returns-in_ok-columns-in-Some
returns-in_ok-columns-in-Some c =
    (c.get_mut.follows.holds c.in_ok-columns-in-Some.field-0).0
    ∙ rw (c.in_ok-columns-in-Some.ensures, c.replace-taken.ensures.value)
    (with_step-found (map fresh c.args.ops.now) (with_cells 0 c.args.place (given_cells c.args.cells)) c.args.groups.now.entries c.args.group c.in-Some.columns.now c.get_mut.ensures.ordered (sym c.in-Some.ensures.value))

pub returns-in_ok-insert-in-None : goal.returns-in_ok-insert-in-None
returns-in_ok-insert-in-None c =
    c.in_ok-insert-in-None.ensures.entries
    ∙ rw (c.get_mut.follows.holds-at-none, c.in_ok-columns-in-None-2.ensures, c.in_ok-columns-in-None.ensures)
    (with_step-new (map fresh c.args.ops.now) (with_cells 0 c.args.place (given_cells c.args.cells)) c.args.groups.now.entries c.args.group (sym c.in-None.ensures.value))
