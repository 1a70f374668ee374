use Rattle.std.proofs.Common.{◌≡◌, ◌+◌, ◌-◌, ◌<◌, ◌≤◌, ◌∙◌, arith, ap, length, sym}
use Rattle.lk_types.specs.declared.explore.Explore.{Explore}
use Rattle.lk_semantics.specs.Derived.{explore_at}
use Rattle.lk_route.proofs.RouteLaws.{best_next, best_past}
use Rattle.lk_route.proofs.ready.Ready.best.Goals as goal

pub loop-r-init : goal.loop-r-init
loop-r-init c =
    best_past (explore_at c.args.m.now c.args.b.now.explore) c.args.b.now c.len-r.result (sym (c.len-r.ensures ∙ ap (λ (x : Explore). length x.rollups) c.explore_of.ensures))

pub loop-r-preserved : goal.loop-r-preserved
loop-r-preserved c =
    let x = explore_at c.args.m.now c.args.b.now.explore in
    let k = c.loop-r.r - 1 in
    let one : k + 1 ≡ c.loop-r.r = omega (arith, c.loop-r-test.true) in
    let many : c.len-r.result ≡ length x.rollups = c.len-r.ensures ∙ ap (λ (x : Explore). length x.rollups) c.explore_of.ensures in
    let near : c.loop-r.r ≤ c.len-r.result = c.loop-r.auto.r in
    let less : k < length x.rollups = omega (arith, one, many, near) in
    best_next x c.args.b.now k c.loop-r.r c.loop-r.best c.best_with-best.result one less c.loop-r.invariant c.best_with-best.ensures
