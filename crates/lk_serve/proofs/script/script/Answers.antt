use Rattle.std.proofs.Common.{refl}
use Rattle.lk_edition.specs.Offices.{Begins, standing_in}
use Rattle.lk_session.specs.Servers.{keeper_in}
use Rattle.lk_serve.specs.Runs.{next_moment}
use Rattle.lk_serve.specs.Scripts.{outside}
use Rattle.lk_serve.proofs.MomentLaws.{opened_next}
use Rattle.lk_serve.specs.declared.opening.DataFiles.TheVariants as data_files
use Rattle.lk_serve.proofs.ScriptLaws.{not_opened, served}
use Rattle.lk_serve.proofs.script.script.Goals as goal

pub returns-in-Ok-clause-served : goal.returns-in-Ok-clause-served
returns-in-Ok-clause-served g c =
    let begins = Begins (g.K.Keeper.held c.args.keeper) (g.K.Keeper.handed c.args.keeper) in
    let files = g.F.Files.told c.args.files.now in
    let office = c.in-Ok.field-0.office in
    let opened = opened_next data_files.Read begins _ (next_moment (g.C.Clock.moments c.args.clock.now)) (standing_in office) c.in-Ok.ensures.next files c.in-Ok.ensures.opened in
    served files begins _
    (outside (g.K.Keeper.held (keeper_in office)) (g.K.Keeper.faults (keeper_in office)) (g.I.Source.left c.args.input.now) (g.O.Sink.held c.args.out.now) (g.C.Clock.moments c.open_office.new.clock))
    _ _ (standing_in office) c.in-Ok.ensures.stands opened
    (record { kept = c.in-Ok.ensures.kept_ok; left = refl }) c.in-Ok.ensures.asked c.in-Ok.ensures.cause_ok refl c.serve.ensures.served

pub returns-in-Err-clause-served : goal.returns-in-Err-clause-served
returns-in-Err-clause-served g c =
    not_opened (g.F.Files.told c.args.files.now) (Begins (g.K.Keeper.held c.args.keeper) (g.K.Keeper.handed c.args.keeper))
    (outside (g.K.Keeper.held c.args.keeper) (g.K.Keeper.faults c.args.keeper) (g.I.Source.left c.args.input.now) (g.O.Sink.held c.args.out.now) (g.C.Clock.moments c.args.clock.now))
    _ _ c.in-Err.field-0.why c.in-Err.ensures.unopened c.in-Err.ensures.project c.in-Err.ensures.faulty
    (record { kept = c.in-Err.ensures.kept_err; left = refl }) c.in-Err.ensures.once c.tell.ensures.told
