use Rattle.std.proofs.Common.{◌≡◌, ◌∙◌, ap}
use Rattle.std.specs.Option.{is_some}
use Rattle.lk_semantics.specs.Derived.{explore_at}
use Rattle.lk_semantics.specs.Rollups.{fields_fit, filters_fit, groups_fit, joins_fit, measures_fit, rollup_at}
use Rattle.lk_route.specs.Unmet.{first_unmet}
use Rattle.lk_route.proofs.FitLaws.{some_unmet, unmet_at}
use Rattle.lk_route.proofs.ReadyLaws.{ready_at}
use Rattle.lk_route.proofs.ready.Ready.first_unmet.Goals as goal

pub returns : goal.returns
returns c =
    let m = c.args.m.now in
    let b = c.args.b.now in
    let x = explore_at m b.explore in
    let r = rollup_at x c.args.r in
    let rollups = c.as_slice.result.now in
    let own = c.as_slice-2.result.now in
    let is : c.first_unmet_by.result ≡ first_unmet x r b =
    c.first_unmet_by.ensures
    ∙ unmet_at m b c.args.r c.explore_of-x.result.now c.rollup_of.result.now c.index-as_slice-r.result c.requires.query c.explore_of-x.ensures c.rollup_of.ensures
    (ready_at m b.explore c.args.r rollups c.index-as_slice-b.result own c.index-as_slice-r.result (c.as_slice.ensures ∙ ap (λ ready. ready.rollups) c.requires.ready.is)
    c.requires.query.explore c.requires.rollup c.index-as_slice-b.is c.as_slice-2.ensures c.index-as_slice-r.is) in
    record {
      first = is;
      fits = ap is_some is ∙ some_unmet (joins_fit x r b) (fields_fit x r b) (filters_fit r b) (measures_fit x r b) (groups_fit x r b);
    }
