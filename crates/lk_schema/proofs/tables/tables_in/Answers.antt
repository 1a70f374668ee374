use Rattle.std.proofs.Common.{◌≡◌, ◌∙◌, ◌+◌, ◌++◌, ◌||◌, Some, not, ap, take, drop}
use Rattle.std.specs.List.{list_any}
use Rattle.std.specs.Ordering.{nat_cmp}
use Rattle.std.specs.Cmp.Lexicographic.{slice_cmp}
use Rattle.std.specs.BTreeSet.{contains}
use Rattle.lk_val.specs.Texts.{is_same_text}
use Rattle.lk_schema.specs.Schemas.{tables_in}
use Rattle.lk_schema.proofs.RowLaws.{seen_more}
use Rattle.lk_schema.proofs.TableLaws.{table_step}
use Rattle.lk_schema.proofs.tables.tables_in.Goals as goal

pub loop-row-preserved : goal.loop-row-preserved
loop-row-preserved c =
    let rows = c.args.rows.now in
    let i = c.loop-row.row-index in
    let x = c.row-item.result in
    let known = contains (slice_cmp nat_cmp) c.loop-row.seen in
    let new : c.in_ok-is_new.is_new ≡ not (list_any (λ other. is_same_text other.table x.table) (take i rows)) =
    c.in_ok-is_new.ensures.fresh
    ∙ ap (λ name. not (known name)) c.in_ok-copy.ensures
    ∙ ap not (c.loop-row.invariant.known x.table) in
    record {
      known = λ name. c.in_ok-is_new.ensures.seen name
          ∙ ap (λ table. is_same_text table name || known name) c.in_ok-copy.ensures
          ∙ ap (λ b. is_same_text x.table name || b) (c.loop-row.invariant.known name)
          ∙ seen_more is_same_text (λ row. Some row.table) rows i x c.loop-row-test.true c.row-item.is name;
      rest = ap (λ names. names ++ tables_in (take (i + 1) rows) (drop (i + 1) rows)) c.in_ok-names.ensures
          ∙ table_step c.loop-row.names rows i x c.loop-row-test.true c.row-item.is c.in_ok-is_new.is_new new
          ∙ c.loop-row.invariant.rest;
    }
