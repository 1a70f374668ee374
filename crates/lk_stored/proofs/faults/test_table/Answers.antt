use Rattle.std.proofs.Common.{◌∙◌, ap, subst}
use Rattle.std.specs.Prelude.{slice_index_or}
use Rattle.lk_scope.specs.Pieces.{IsTested}
use Rattle.lk_stored.specs.StoredFaults.{derived_line, derived_line_over}
use Rattle.lk_stored.proofs.faults.test_table.Goals as goal

pub returns : goal.returns
unfolding derived_line
returns c =
    let table = c.args.table.now in
    subst (λ x. IsTested c.test_table_over.result (derived_line_over x table))
    (c.explore_or.ensures ∙ ap (slice_index_or c.args.m.now.explores table.explore) c.no_explore-other.ensures)
    c.test_table_over.ensures
