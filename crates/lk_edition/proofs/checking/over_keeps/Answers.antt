use Rattle.std.proofs.Common.{◌∙◌}
use Rattle.lk_types.specs.Tables.{are_valid_tables}
use Rattle.lk_table.specs.Contents.{rows_of_each}
use Rattle.lk_keeps.specs.Anew.{kept_anew}
use Rattle.lk_state.proofs.ContentLaws.{rows_valid}
use Rattle.lk_edition.proofs.StandingLaws.{anew_kept}
use Rattle.lk_edition.proofs.checking.over_keeps.Goals as goal

pub keep_anew-keeps-requires-clause-tables : goal.keep_anew-keeps-requires-clause-tables
keep_anew-keeps-requires-clause-tables c =
    (λ i. are_valid_tables (c.model.ensures i).schema.tables (rows_of_each (c.tables.ensures.tables i)))
    ∙ rows_valid c.args.edition.now.model.schema.tables c.args.edition.now.state.tables c.tables.ensures.are

pub pending_of-requires-clause-kept : goal.pending_of-requires-clause-kept
pending_of-requires-clause-kept c =
    let e = c.args.edition.now in
    anew_kept e.model c.args.groups.now (rows_of_each e.state.tables) e.keeps c.in-Ok.keeps c.what_is_built_anew_is_kept.ensures
    (rows_valid e.model.schema.tables e.state.tables c.tables.ensures.are) c.stands.ensures.kept
    (c.in-Ok.ensures ∙ (λ i. kept_anew (c.model.ensures i) c.args.groups.now (rows_of_each (c.tables.ensures.tables i)) (c.keeps.ensures i)))
