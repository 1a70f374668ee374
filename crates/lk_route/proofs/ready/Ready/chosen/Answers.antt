use Rattle.lk_semantics.specs.Derived.{explore_at}
use Rattle.lk_route.proofs.RouteLaws.{best_chosen, none_chosen}
use Rattle.lk_route.proofs.ready.Ready.chosen.Goals as goal

pub returns-then-b : goal.returns-then-b
returns-then-b c = none_chosen (explore_at c.args.m.now c.args.b.now.explore) c.args.b.now c.if-b.true

pub returns : goal.returns
returns c = best_chosen (explore_at c.args.m.now c.args.b.now.explore) c.args.b.now c.best.result c.if-b.false c.best.ensures
