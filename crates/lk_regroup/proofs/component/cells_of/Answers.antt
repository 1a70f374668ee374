use Rattle.std.proofs.Common.{map, sym, ◌∙◌}
use Rattle.std.specs.Vec.Iter.{into_iter_items}
use Rattle.lk_regroup.specs.ComponentParts.{cell_of}
use Rattle.lk_agg.proofs.StepLaws.{none_more, one_more}
use Rattle.lk_regroup.proofs.component.cells_of.Goals as goal

pub loop-one-preserved : goal.loop-one-preserved
loop-one-preserved c = record {
  can_go_on = tt;
  will_end = tt;
  made = one_more cell_of c.loop-one.cells c.push.new.self (map cell_of c.args.has) (into_iter_items c.loop-one.one-iterator) (into_iter_items c.next.new.self) c.in-Some.one c.cell_of.result
      c.loop-one.invariant.made c.in-Some.ensures.steps.0 c.cell_of.ensures c.in_ok-push.ensures.ok;
}

pub returns : goal.returns
returns c =
    let left = c.loop-one.one-iterator in
    none_more cell_of c.loop-one.cells (map cell_of c.args.has) (into_iter_items left) c.loop-one.invariant.made (sym left.rest.ok.0 ∙ c.in-None.ensures.steps.0)
