use Rattle.std.proofs.Common.{◌∙◌}
use Rattle.lk_route.proofs.ReadyLaws.{measure_found}
use Rattle.lk_route.proofs.ready.ready_measure.Goals as goal

pub returns : goal.returns
returns c =
    c.measure_over.ensures
    ∙ measure_found c.args.x.now c.args.r.now c.args.measure c.args.known.now c.as_slice.result.now c.requires (c.as_slice.ensures ∙ c.in_ok-components.ensures)
