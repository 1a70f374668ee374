use Rattle.std.proofs.Common.{map, sym, ◌∙◌}
use Rattle.std.specs.Vec.Iter.{into_iter_items}
use Rattle.lk_agg.proofs.StepLaws.{none_more, one_more}
use Rattle.lk_agg.proofs.kept.pairs_of.Goals as goal

pub loop-item-preserved : goal.loop-item-preserved
loop-item-preserved g c = record {
  can_go_on = tt;
  will_end = tt;
  made = one_more g.T.Paired.pair c.loop-item.pairs c.push.new.self (map g.T.Paired.pair c.args.items.items) (into_iter_items c.loop-item.item-iterator) (into_iter_items c.next.new.self) c.in-Some.item c.into_pair.result
      c.loop-item.invariant.made c.in-Some.ensures.steps.0 c.into_pair.ensures c.in_ok-push.ensures.ok;
}

pub returns : goal.returns
returns g c =
    let left = c.loop-item.item-iterator in
    none_more g.T.Paired.pair c.loop-item.pairs (map g.T.Paired.pair c.args.items.items) (into_iter_items left) c.loop-item.invariant.made (sym left.rest.ok.0 ∙ c.in-None.ensures.steps.0)
