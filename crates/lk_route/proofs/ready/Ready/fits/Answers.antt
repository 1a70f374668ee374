use Rattle.std.proofs.Common.{◌∙◌, ap}
use Rattle.lk_route.proofs.FitLaws.{fits_at}
use Rattle.lk_route.proofs.ReadyLaws.{ready_at}
use Rattle.lk_route.proofs.ready.Ready.fits.Goals as goal

pub returns : goal.returns
returns c =
    let m = c.args.m.now in
    let b = c.args.b.now in
    let rollups = c.as_slice.result.now in
    let own = c.as_slice-2.result.now in
    c.fits_by.ensures
    ∙ fits_at m b c.args.r c.explore_of-x.result.now c.rollup_of.result.now c.index-as_slice-r.result c.requires.query c.explore_of-x.ensures c.rollup_of.ensures
    (ready_at m b.explore c.args.r rollups c.index-as_slice-b.result own c.index-as_slice-r.result (c.as_slice.ensures ∙ ap (λ ready. ready.rollups) c.requires.ready.is)
    c.requires.query.explore c.requires.rollup c.index-as_slice-b.is c.as_slice-2.ensures c.index-as_slice-r.is)
