use Rattle.std.proofs.Common.{◌∙◌, ◌∷◌, [], ap, arith}
use Rattle.lk_semantics.specs.Joins.{fanned_after}
use Rattle.lk_tree.proofs.PartSetLaws.{all_views, joins_start, next_views, no_views}
use Rattle.lk_tree.proofs.fanning.fanned.Goals as goal

pub loop-j-init : goal.loop-j-init
loop-j-init c = record {
  before = 0 ∷ [];
  fanned = [];
  are = record { earlier = c.with_part.ensures [] no_views; repeated = no_views };
  left = ap (fanned_after c.args.x.now (0 ∷ []) []) (joins_start c.args.x.now c.args.joins.now);
}

pub loop-j-preserved : goal.loop-j-preserved
loop-j-preserved c =
    next_views c.args.x.now c.args.joins.now c.loop-j.j (omega (arith, c.loop-j-test.true, c.len-j-end.ensures)) c.loop-j.views c.after_join-views.result c.loop-j.invariant
    (c.after_join-views.ensures c.loop-j.invariant.before c.loop-j.invariant.fanned c.loop-j.invariant.are)

pub returns : goal.returns
returns c =
    c.has_part.ensures ∙ all_views c.args.x.now c.args.joins.now c.loop-j.j c.loop-j.views c.args.part (omega (arith, c.loop-j-test.false, c.len-j-end.ensures)) c.loop-j.invariant
