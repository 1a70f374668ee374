use Rattle.std.proofs.Common.{◌≡◌, ◌∙◌, ap, subst}
use Rattle.std.specs.Prelude.{IfOk, slice_index_or}
use Rattle.lk_stored.specs.Reads.{tables_read}
use Rattle.lk_stored.proofs.reads.tables_read_in.Goals as goal

pub returns : goal.returns
returns c =
    let table = c.args.table.now in
    subst (λ x. IfOk c.tables_read.result (λ tables. tables ≡ tables_read x table))
    (c.explore_or.ensures ∙ ap (slice_index_or c.args.m.now.explores table.explore) c.no_explore-other.ensures)
    c.tables_read.ensures
