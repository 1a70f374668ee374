use Rattle.std.proofs.Common.{of_z, subst, sym, to_z, w64}
use Rattle.lk_edition.specs.Offices.{standing_in}
use Rattle.lk_state.specs.Openings.{AreSeeds}
use Rattle.lk_serve.proofs.opening.open_over.Goals as goal

pub returns-in-Ok-clause-stands : goal.returns-in-Ok-clause-stands
returns-in-Ok-clause-stands g c =
    let model = c.args.opening.loaded.model in
    let opens = c.in-Ok.ensures.opened in
    let seeds = subst (AreSeeds model.schema.tables) (sym c.as_slice.ensures.value) c.requires.seeds in
    c.openings_begin_a_history.ensures model c.args.opening.loaded.users opens.kept c.as_slice.result.now (to_z w64 (of_z w64 c.args.now)) (standing_in c.in-Ok.office)
    c.requires.model seeds opens.is
