use Rattle.std.proofs.Common.{◌≤◌, length, slice_index_or, arith, refl, subst, sym}
use mathlib.Core.List.{IsPrefix}
use Rattle.lk_links.proofs.ShareLaws.{one_more}
use Rattle.lk_links.proofs.connections.share.Goals as goal

pub loop-connection-preserved : goal.loop-connection-preserved
loop-connection-preserved g c =
    let at = c.loop-connection.connection-index in
    let item = c.connection-item.result in
    let inside = c.loop-connection-test.true in
    let last = (slice_index_or c.args.connections.now c.longest-longest.result c.index-connections-longest.result).worker.desk.seen in
    let no_longer = subst (λ k. length k.worker.desk.seen ≤ length last) (sym c.connection-item.is) (c.loop-connection.invariant.3 at item inside) in (
      omega (arith, inside),
      refl,
      c.loop-connection.invariant.2,
      c.loop-connection.invariant.3,
      one_more (λ k. IsPrefix k.worker.desk.seen last) c.args.connections.now at item inside c.connection-item.is (c.compare.ensures no_longer) c.loop-connection.invariant.4,
    )
