use Rattle.std.proofs.Common.{map, sym, ◌∙◌}
use Rattle.lk_regroup.specs.ComponentParts.{first_parts, with_parts}
use Rattle.lk_regroup.proofs.GatheringLaws.{with_row-found, with_row-new}
use Rattle.lk_regroup.proofs.grouping.add_parts.Goals as goal

pub returns-in_ok-parts-in-Some : goal.returns-in_ok-parts-in-Some
returns-in_ok-parts-in-Some c =
    (c.get_mut.follows.holds c.in_ok-parts-in-Some.field-0).0
    ∙ rw (c.in_ok-parts-in-Some.ensures, c.replace-taken.ensures.value)
    (with_row-found (map (first_parts c.args.partials.now) c.args.components.now) (map (with_parts c.args.partials.now)) c.args.groups.now.entries c.args.group c.in-Some.parts.now c.get_mut.ensures.ordered (sym c.in-Some.ensures.value))

pub returns-in_ok-insert-in-None : goal.returns-in_ok-insert-in-None
returns-in_ok-insert-in-None c =
    c.in_ok-insert-in-None.ensures.entries
    ∙ rw (c.get_mut.follows.holds-at-none, c.in_ok-parts-in-None.ensures)
    (with_row-new (map (first_parts c.args.partials.now) c.args.components.now) (map (with_parts c.args.partials.now)) c.args.groups.now.entries c.args.group (sym c.in-None.ensures.value))
