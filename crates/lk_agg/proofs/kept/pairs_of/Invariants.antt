use Rattle.std.proofs.Common.{◌≡◌, ◌++◌, map}
use Rattle.std.specs.Vec.Iter.{into_iter_items}
use Rattle.lk_agg.proofs.kept.pairs_of.Given as goal

abbrev pub invariant-loop-item : goal.invariant-loop-item
invariant-loop-item g l = record {
  can_go_on : (goal.iterator-loop-item g).can_next l.item-iterator;
  will_end : (goal.iterator-loop-item g).is_finite l.item-iterator;
  made : l.pairs ++ map g.T.Paired.pair (into_iter_items l.item-iterator) ≡ map g.T.Paired.pair l.fn.items.items;
}
