use Rattle.std.proofs.Common.{◌∙◌, ap, sym, cond, true}
use Rattle.std.specs.List.{list_any}
use Rattle.std.specs.BTreeSet.{contains}
use Rattle.std.specs.Vec.Iter.{into_iter_items}
use Rattle.lk_val.specs.Distinct.{do_differ}
use Rattle.lk_val.proofs.DistinctLaws.{differ_after, after_none, after_first}
use Rattle.lk_val.proofs.distinct.do_differ.Goals as goal

pub loop-item-init : goal.loop-item-init
loop-item-init g c = record {
  can_go_on = tt;
  will_end = tt;
  rest = after_none g.T.PartialEq.eq (contains g.T.Ord.cmp c.new-seen.result)
      (into_iter_items c.into_iter-item-iterator.result)
      (λ x. ap (list_any _) c.new-seen.ensures.empty)
      ∙ ap (do_differ g.T.PartialEq.eq)
      (c.into_iter-item-iterator.ensures.into_iter_gives.0 ∙ c.into_vec-item-items.ensures);
}

pub loop-item-preserved : goal.loop-item-preserved
loop-item-preserved g c = record {
  can_go_on = tt;
  will_end = tt;
  rest = let known = contains g.T.Ord.cmp c.loop-item.seen in
      after_first g.T.PartialEq.eq known (contains g.T.Ord.cmp c.insert.new.self)
      c.in-Some.item (into_iter_items c.next.new.self)
      (sym c.in_ok-insert.ensures.added ∙ c.if-not-branch.false)
      (λ y. c.in_ok-insert.ensures.updates.0 y
      ∙ ap (λ b. cond b true (known y)) (sym (g.met.T.Ord.matches_eq c.in-Some.item y)))
      ∙ ap (differ_after g.T.PartialEq.eq known) (sym c.in-Some.ensures.steps.0)
      ∙ c.loop-item.invariant.rest;
}
