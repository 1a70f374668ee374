use Rattle.std.proofs.Common.{◌∙◌, ◌++◌, Bool, List, ap, codes, sym}
use Rattle.std.specs.List.{fold}
use Rattle.std.specs.Prelude.{is_some}
use Rattle.lk_params.specs.declared.finding.Finding.{Finding}
use Rattle.lk_params.specs.declared.number.Order.TheVariants as order
use Rattle.lk_params.specs.Findings.{sooner}
use Rattle.lk_written.specs.FilterFindings.{filters_findings}
use Rattle.lk_written.specs.ValueFindings.{wrong}
use Rattle.lk_view_field.proofs.FoldLaws.{four, from_not}
use Rattle.lk_view_field.proofs.measure.find_in_measure.Goals as goal

pub returns : goal.returns
returns c =
    let a = c.args in
    let first = a.findings.now.first in
    let type : Bool → List Finding = λ b. wrong order.Field a.object.now (codes "type") (codes "type") b in
    let sql : Bool → List Finding = λ b. wrong order.Field a.object.now (codes "sql") (codes "sql") b in
    let key : Bool → List Finding = λ b. wrong order.Field a.object.now (codes "sql_distinct_key") (codes "sql_distinct_key") b in
    let filters = filters_findings order.Field a.object.now (codes "filters") a.items.now in
    let no_sql = c.lacks_sql-no_sql.result in
    let no_key = c.lacks_key-no_key.result in
    c.in_ok-find_in_filters.ensures
    ∙ ap (λ x. fold sooner x filters) c.in_ok-add_wrong-3.ensures
    ∙ ap (λ x. fold sooner (fold sooner x (key no_key)) filters) c.in_ok-add_wrong-2.ensures
    ∙ ap (λ x. fold sooner (fold sooner (fold sooner x (sql no_sql)) (key no_key)) filters) c.in_ok-add_wrong.ensures
    ∙ four sooner first (type c.is_none.result) (sql no_sql) (key no_key) filters
    ∙ (λ i. fold sooner first (type (from_not c.is_none.result (is_some a.op) (sym c.is_none.ensures) i) ++ sql (c.lacks_sql-no_sql.ensures i) ++ key (c.lacks_key-no_key.ensures i) ++ filters))
