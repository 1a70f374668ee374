use Rattle.std.proofs.Common.{refl}
use Rattle.std.specs.Prelude.{None}
use Rattle.lk_edition.specs.Offices.{Begins, standing_in}
use Rattle.lk_serve.specs.Listening.{HasShut}
use Rattle.lk_serve.specs.Runs.{next_moment}
use Rattle.lk_serve.specs.Scripts.{outside}
use Rattle.lk_serve.specs.declared.opening.DataFiles.TheVariants as data_files
use Rattle.lk_serve.proofs.ListeningLaws.{listened, not_listened}
use Rattle.lk_serve.proofs.MomentLaws.{opened_next}
use Rattle.lk_serve.proofs.listening.listen.Goals as goal

pub returns-in-Ok-clause-listened : goal.returns-in-Ok-clause-listened
returns-in-Ok-clause-listened g c =
    let begins = Begins (g.K.Keeper.held c.args.keeper) (g.K.Keeper.handed c.args.keeper) in
    let files = g.F.Files.told c.args.files.now in
    let office = c.in-Ok.field-0.office in
    let opened = opened_next data_files.Unread begins _ (next_moment (g.C.Clock.moments c.args.clock.now)) (standing_in office) c.in-Ok.ensures.next files c.in-Ok.ensures.opened in
    let ran = c.serve_on.result in
    listened files begins
    (outside (g.K.Keeper.held c.args.keeper) (g.K.Keeper.faults c.args.keeper) None (g.O.Sink.held c.args.out.now) (g.C.Clock.moments c.args.clock.now))
    (outside (g.K.Keeper.held ran.keeper) (g.K.Keeper.faults ran.keeper) None (g.O.Sink.held c.args.out.now) (g.C.Clock.moments c.open_office.new.clock))
    ran.status (HasShut c.args.workers (g.D.Door.faults c.args.door) (g.D.Door.faults ran.door) (g.D.Door.ended ran.door) ran.status) (standing_in office) c.in-Ok.ensures.stands opened refl refl c.in-Ok.ensures.asked c.serve_on.ensures.shut

pub returns-in-Err-clause-listened : goal.returns-in-Err-clause-listened
returns-in-Err-clause-listened g c =
    not_listened (g.F.Files.told c.args.files.now) (Begins (g.K.Keeper.held c.args.keeper) (g.K.Keeper.handed c.args.keeper))
    (outside (g.K.Keeper.held c.args.keeper) (g.K.Keeper.faults c.args.keeper) None (g.O.Sink.held c.args.out.now) (g.C.Clock.moments c.args.clock.now))
    _ _ _ c.in-Err.field-0.why c.in-Err.ensures.unopened c.in-Err.ensures.project c.in-Err.ensures.faulty
    (record { kept = c.in-Err.ensures.kept_err; left = refl }) c.in-Err.ensures.once c.tell.ensures.told
