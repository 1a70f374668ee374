use Rattle.std.proofs.Common.{subst, sym}
use Rattle.lk_edition.specs.Offices.{standing_in}
use Rattle.lk_session.specs.Servers.{keeper_in}
use Rattle.lk_serve.specs.Scripts.{HasEnded, outside}
use Rattle.lk_serve.proofs.ScriptLaws.{has_ended}
use Rattle.lk_serve.proofs.script.serve.Goals as goal

pub returns-clause-served : goal.returns-clause-served
returns-clause-served g c =
    let before = outside (g.K.Keeper.held (keeper_in c.args.office)) (g.K.Keeper.faults (keeper_in c.args.office)) (g.I.Source.left c.args.input.now)
    (g.O.Sink.held c.args.out.now) (g.C.Clock.moments c.args.clock.now) in
    let served = c.serve_requests-ended.new in
    let after = outside (g.K.Keeper.held (keeper_in served.office)) (g.K.Keeper.faults (keeper_in served.office)) (g.I.Source.left served.input)
    (g.O.Sink.held served.out) (g.C.Clock.moments served.clock) in
    subst (λ keeper. HasEnded (standing_in c.args.office) before
    (outside (g.K.Keeper.held keeper) (g.K.Keeper.faults keeper) (g.I.Source.left served.input) (g.O.Sink.held served.out) (g.C.Clock.moments served.clock)) c.code_of.result)
    (sym c.close.ensures)
    (has_ended (standing_in c.args.office) (standing_in served.office) before after c.serve_requests-ended.result c.code_of.result c.serve_requests-ended.ensures.run c.code_of.ensures.code)
