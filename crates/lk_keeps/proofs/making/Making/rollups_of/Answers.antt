use Rattle.std.proofs.Common.{◌≡◌, ◌∙◌, ◌+◌, ◌<◌, ◌++◌, ◌∷◌, [], ap, arith, drop, length, map}
use Rattle.std.specs.List.{enumerate_from}
use Rattle.lk_types.specs.declared.explore.Explore.{Explore}
use Rattle.lk_semantics.specs.Derived.{explore_at}
use Rattle.lk_semantics.specs.Rollups.{no_rollup, rollup_at}
use Rattle.lk_fill.proofs.NumberedLaws.{next_numbered}
use Rattle.lk_keeps.specs.Anew.{rollup_anew}
use Rattle.lk_keeps.specs.Keeps.{sources_over}
use Rattle.lk_keeps.specs.Large.{large_rollups}
use Rattle.lk_keeps.specs.Steps.{large_among, rollups_anew}
use Rattle.lk_keeps.proofs.MakingLaws.{part_made, rollups_next}
use Rattle.lk_keeps.proofs.making.Making.rollups_of.Goals as goal

pub loop-place-preserved : goal.loop-place-preserved
loop-place-preserved c =
    let m = c.args.self.now.model.now in
    let groups = c.args.self.now.groups.now in
    let stored = c.args.self.now.set.now.stored in
    let x = explore_at m c.args.explore in
    let rows = rollup_anew m groups stored c.args.self.now.keeps.now c.args.explore x in
    let i = c.loop-place.place in
    let number = c.in_ok-number_of.field-0 in
    let same : number ≡ i = c.in_ok-number_of.ensures in
    let bound = c.len-place-end.ensures ∙ ap (λ (y : Explore). length y.rollups) c.explore_of.ensures in
    let less : i < length x.rollups = omega (arith, c.loop-place-test.true, bound) in
    let s = sources_over m stored in
    let rollup = c.in_ok-rollup.rollup in
    let wanted = rows (number, rollup_at x number) in
    let made = part_made rollup wanted (large_among groups s x (rollup_at x number ∷ [])) c.in_ok-rollup.ensures in
    record {
      made = ap (λ all. all ++ map rows (enumerate_from (i + 1) (drop (i + 1) x.rollups))) c.in_ok-push.ensures.ok
          ∙ next_numbered rows x.rollups i no_rollup c.loop-place.rollups (rollups_anew m groups stored c.args.self.now.keeps.now (c.args.explore, x)) rollup less (made.0 ∙ ap (λ k. rows (k, rollup_at x k)) same) c.loop-place.invariant.made;
      large = rollups_next groups s x rollup wanted number i (large_rollups groups s x) (omega (arith, less, same)) same c.loop-place.invariant.large c.in_ok-rollup.ensures;
    }
