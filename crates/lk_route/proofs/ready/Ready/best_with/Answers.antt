use Rattle.lk_semantics.specs.Derived.{explore_at}
use Rattle.lk_route.proofs.RouteLaws.{bettered, left_as_it_is}
use Rattle.lk_route.proofs.ready.Ready.best_with.Goals as goal

pub returns-then-not-fits : goal.returns-then-not-fits
returns-then-not-fits c =
    left_as_it_is (explore_at c.args.m.now c.args.b.now.explore) c.args.b.now c.args.r c.args.best c.fits.result c.fits.ensures c.if-not-fits.true

pub returns : goal.returns
returns c =
    bettered (explore_at c.args.m.now c.args.b.now.explore) c.explore_of.result.now c.args.b.now c.args.r c.args.best c.better.result c.fits.result c.fits.ensures c.if-not-fits.false
    c.explore_of.ensures c.better.ensures
