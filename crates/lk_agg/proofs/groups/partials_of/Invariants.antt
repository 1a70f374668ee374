use Rattle.std.proofs.Common.{◌≡◌, ◌++◌, map}
use Rattle.std.specs.Vec.Iter.{into_iter_items}
use Rattle.lk_agg.specs.Finishing.{kept_of}
use Rattle.lk_agg.proofs.groups.partials_of.Given as goal

abbrev pub invariant-loop-part : goal.invariant-loop-part
invariant-loop-part l = record {
  can_go_on : goal.iterator-loop-part.can_next l.part-iterator;
  will_end : goal.iterator-loop-part.is_finite l.part-iterator;
  made : l.partials ++ map kept_of (into_iter_items l.part-iterator) ≡ map kept_of l.fn.parts;
}
