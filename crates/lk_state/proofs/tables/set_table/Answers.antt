use Rattle.std.proofs.Common.{◌∙◌, ap, sym, subst, List}
use Rattle.std.specs.Prelude.{slice_set}
use Rattle.lk_table.specs.Contents.{Content}
use Rattle.lk_state.specs.States.{AreTables}
use Rattle.lk_state.proofs.ContentLaws.{tables_set}
use Rattle.lk_state.proofs.tables.set_table.Goals as goal

pub returns-clause-are : goal.returns-clause-are
returns-clause-are c =
    let defs = c.args.defs.now in
    let set = c.from_vec.ensures ∙ c.set_item-all.ensures ∙ ap (λ (tables : List Content). slice_set tables c.args.number c.args.version) c.into_vec.ensures in
    subst (AreTables defs) (sym set) (tables_set defs c.args.tables c.args.number c.args.version c.requires.are c.requires.is)
