use Rattle.std.proofs.Common.{map, sym, ◌∙◌}
use Rattle.std.specs.Vec.Iter.{into_iter_items}
use Rattle.lk_agg.specs.Finishing.{kept_of}
use Rattle.lk_agg.proofs.StepLaws.{none_more, one_more}
use Rattle.lk_agg.proofs.groups.partials_of.Goals as goal

pub loop-part-preserved : goal.loop-part-preserved
loop-part-preserved c = record {
  can_go_on = tt;
  will_end = tt;
  made = one_more kept_of c.loop-part.partials c.push.new.self (map kept_of c.args.parts) (into_iter_items c.loop-part.part-iterator) (into_iter_items c.next.new.self) c.in-Some.part c.kept_of.result
      c.loop-part.invariant.made c.in-Some.ensures.steps.0 c.kept_of.ensures c.in_ok-push.ensures.ok;
}

pub returns : goal.returns
returns c =
    let left = c.loop-part.part-iterator in
    none_more kept_of c.loop-part.partials (map kept_of c.args.parts) (into_iter_items left) c.loop-part.invariant.made (sym left.rest.ok.0 ∙ c.in-None.ensures.steps.0)
