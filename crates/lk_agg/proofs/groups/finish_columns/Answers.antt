use Rattle.std.proofs.Common.{◌≡◌, ◌∙◌, ap, map, None, Option, sym}
use Rattle.std.specs.Vec.Iter.{into_iter_items}
use Rattle.lk_val.specs.declared.value.Value.{Value}
use Rattle.lk_agg.specs.Finishing.{conflict_from, part_of, twice_of}
use Rattle.lk_agg.specs.declared.parts.Part.{Part}
use Rattle.lk_agg.proofs.StepLaws.{no_conflict, one_more}
use Rattle.lk_agg.proofs.groups.finish_columns.Goals as goal

pub loop-column-preserved : goal.loop-column-preserved
loop-column-preserved c =
    let left = into_iter_items c.loop-column.column-iterator in
    let rest = into_iter_items c.next.new.self in
    let column = c.in-Some.column in
    let part = c.in_ok-part.part in
    let none : None ≡ twice_of column = sym c.in_default.is ∙ ap (λ (finished : Part × Option Value). finished.1) c.in_ok-part.ensures in
    record {
      can_go_on = tt;
      will_end = tt;
      made = one_more part_of c.loop-column.parts c.push.new.self (map part_of c.args.columns) left rest column part
          c.loop-column.invariant.made c.in-Some.ensures.steps.0 (ap (λ (finished : Part × Option Value). finished.0) c.in_ok-part.ensures) c.in_ok-push.ensures.ok;
      conflict = no_conflict c.loop-column.parts left rest column (conflict_from 0 c.args.columns) c.push.new.self part
          c.loop-column.invariant.conflict c.in-Some.ensures.steps.0 none c.in_ok-push.ensures.ok;
    }
