use Rattle.std.proofs.Common.{◌∙◌, ap}
use Rattle.lk_route.specs.Routes.{built_numbers}
use Rattle.lk_route.proofs.RouteLaws.{build_routed, rollup_routed}
use Rattle.lk_route.proofs.ready.Ready.route.Goals as goal

pub returns-in-Some : goal.returns-in-Some
returns-in-Some c =
    rollup_routed c.args.m.now (built_numbers c.args.builds.now) c.args.number c.args.b.now c.explore_of-x.result.now c.in-Some.r c.chosen.result c.route_to_rollup.result c.explore_of-x.ensures
    c.chosen.ensures c.in-Some.is c.route_to_rollup.ensures

pub returns-in-None : goal.returns-in-None
returns-in-None c =
    build_routed c.args.m.now (built_numbers c.args.builds.now) c.args.number c.args.b.now c.explore_of-x.result.now c.chosen.result c.first_reached-group.result c.as_slice.result.now
    c.as_slice-in-None.result.now c.route_to.result c.requires.model c.explore_of-x.ensures c.chosen.ensures c.in-None.is
    (c.as_slice.ensures ∙ ap (λ ready. ready.groups) c.requires.ready.is) c.as_slice-in-None.ensures c.first_reached-group.ensures c.route_to.ensures
