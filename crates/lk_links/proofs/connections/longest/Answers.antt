use Rattle.std.proofs.Common.{◌+◌, ◌<◌, length, slice_index_or, arith, refl, subst, sym}
use Rattle.lk_links.proofs.ShareLaws.{IsMost, most_moves, most_stays, no_more_than}
use Rattle.lk_links.proofs.connections.longest.Goals.{then-len-seen, else-len-seen}
use Rattle.lk_links.proofs.connections.longest.Goals as goal

pub loop-place-preserved : goal.loop-place-preserved
loop-place-preserved g c =
    let all = c.args.connections.now in
    let at = c.loop-place.place in
    let most = c.loop-place.longest in
    let best = c.index-connections-longest.result in
    let best_is = c.index-connections-longest.is in
    let item = c.index-connections-place.result in
    let item_is = c.index-connections-place.is in
    let inside = c.loop-place-test.true in
    let in_most : most < length all = omega (arith, c.loop-place.invariant.3, inside) in
    elim c.if-len-seen.branch [
      | then-len-seen w ↦ (
        omega arith,
        omega (arith, inside),
        refl,
        omega (arith, w.longest-is),
        subst (λ n. IsMost (λ k. length k.worker.desk.seen) all (at + 1) n) (sym w.longest-is)
            (most_moves (λ k. length k.worker.desk.seen) all most at best item in_most inside best_is item_is
            (no_more_than (λ k. length k.worker.desk.seen) (slice_index_or all most best) (slice_index_or all at item) best item best_is item_is
            (omega (arith, w.if-len-seen, c.len.ensures.length, c.len-seen.ensures.length))) c.loop-place.invariant.4),
      )
      | else-len-seen w ↦ (
        omega arith,
        omega (arith, inside),
        refl,
        omega (arith, w.longest-is, c.loop-place.invariant.3),
        subst (λ n. IsMost (λ k. length k.worker.desk.seen) all (at + 1) n) (sym w.longest-is)
            (most_stays (λ k. length k.worker.desk.seen) all most at best item in_most inside best_is item_is
            (no_more_than (λ k. length k.worker.desk.seen) (slice_index_or all at item) (slice_index_or all most best) item best item_is best_is
            (omega (arith, w.if-len-seen, c.len.ensures.length, c.len-seen.ensures.length))) c.loop-place.invariant.4),
      )
    ]
