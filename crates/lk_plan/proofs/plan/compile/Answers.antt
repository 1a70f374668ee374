use Rattle.lk_plan.proofs.ResolvedLaws.{explore_of, few, parts, tiers}
use Rattle.lk_plan.proofs.plan.compile.Goals as goal

pub visible_condition-requires : goal.visible_condition-requires
visible_condition-requires c =
    tiers c.args.m.now c.index-as_slice-b.result
    (explore_of c.args.m.now c.requires.model c.as_slice.result.now c.as_slice.ensures c.args.b.now.explore c.requires.bound.explore c.index-as_slice-b.result c.index-as_slice-b.is)

pub passing_condition-requires : goal.passing_condition-requires
passing_condition-requires c =
    tiers c.args.m.now c.index-as_slice-b.result
    (explore_of c.args.m.now c.requires.model c.as_slice.result.now c.as_slice.ensures c.args.b.now.explore c.requires.bound.explore c.index-as_slice-b.result c.index-as_slice-b.is)

pub fanned_views-requires-clause-few : goal.fanned_views-requires-clause-few
fanned_views-requires-clause-few c =
    few c.args.m.now c.index-as_slice-b.result
    (explore_of c.args.m.now c.requires.model c.as_slice.result.now c.as_slice.ensures c.args.b.now.explore c.requires.bound.explore c.index-as_slice-b.result c.index-as_slice-b.is)

pub fanned_views-requires-clause-parts : goal.fanned_views-requires-clause-parts
fanned_views-requires-clause-parts c =
    parts c.args.m.now c.index-as_slice-b.result
    (explore_of c.args.m.now c.requires.model c.as_slice.result.now c.as_slice.ensures c.args.b.now.explore c.requires.bound.explore c.index-as_slice-b.result c.index-as_slice-b.is)
