use Rattle.std.proofs.Common.{◌≡◌}
use Rattle.std.specs.BTreeSet.{contains}
use Rattle.std.specs.Vec.Iter.{into_iter_items}
use Rattle.lk_val.specs.Distinct.{do_differ}
use Rattle.lk_val.proofs.DistinctLaws.{differ_after}
use Rattle.lk_val.proofs.distinct.do_differ.Given as goal

abbrev pub invariant-loop-item : goal.invariant-loop-item
invariant-loop-item g l = record {
  can_go_on : (goal.iterator-loop-item g).can_next l.item-iterator;
  will_end : (goal.iterator-loop-item g).is_finite l.item-iterator;
  rest : differ_after g.T.PartialEq.eq (contains g.T.Ord.cmp l.seen) (into_iter_items l.item-iterator)
      ≡ do_differ g.T.PartialEq.eq l.fn.items;
}
