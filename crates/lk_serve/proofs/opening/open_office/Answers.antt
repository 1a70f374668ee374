use Rattle.lk_edition.specs.Offices.{Begins}
use Rattle.lk_serve.specs.Runs.{next_moment}
use Rattle.lk_serve.proofs.OpenedLaws.{line_opens, project_aside, project_there}
use Rattle.lk_serve.proofs.opening.open_office.Goals as goal

pub returns-in-Err-clause-unopened : goal.returns-in-Err-clause-unopened
returns-in-Err-clause-unopened g c =
    line_opens c.args.reads (Begins (g.K.Keeper.held c.args.keeper) (g.K.Keeper.handed c.args.keeper)) (next_moment (g.C.Clock.moments c.args.clock.now))
    (g.F.Files.told c.args.files.now) c.in-Err.why c.in-Err.ensures.line

pub returns-in-Ok-clause-project : goal.returns-in-Ok-clause-project
returns-in-Ok-clause-project g c =
    project_there c.args.reads c.open_over.result (λ unserved. unserved.why) (g.F.Files.told c.args.files.now) c.in-Ok.opening.loaded c.in-Ok.opening.seeds.items
    c.in-Ok.ensures.project

pub returns-in-Err-clause-project : goal.returns-in-Err-clause-project
returns-in-Err-clause-project g c = project_aside c.args.reads (g.F.Files.told c.args.files.now) c.in-Err.why c.in-Err.ensures.never
