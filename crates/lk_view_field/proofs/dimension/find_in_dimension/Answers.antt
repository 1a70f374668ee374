use Rattle.std.proofs.Common.{◌∙◌, ◌++◌, Bool, List, ap, codes, sym}
use Rattle.std.specs.List.{fold}
use Rattle.std.specs.Prelude.{is_some}
use Rattle.lk_params.specs.declared.finding.Finding.{Finding}
use Rattle.lk_params.specs.declared.number.Order.TheVariants as order
use Rattle.lk_params.specs.Findings.{sooner}
use Rattle.lk_written.specs.ValueFindings.{wrong}
use Rattle.lk_view_field.specs.FieldFindings.{tier_findings}
use Rattle.lk_view_field.proofs.FoldLaws.{three, from_not}
use Rattle.lk_view_field.proofs.dimension.find_in_dimension.Goals as goal

pub returns : goal.returns
returns c =
    let a = c.args in
    let first = a.findings.now.first in
    let type : Bool → List Finding = λ b. wrong order.Field a.object.now (codes "type") (codes "type") b in
    let key : Bool → List Finding = λ b. wrong order.Field a.object.now (codes "primary_key") (codes "primary_key") b in
    let tiers = tier_findings a.object.now a.items.now a.kind in
    c.in_ok-find_in_tiers.ensures
    ∙ ap (λ x. fold sooner x tiers) c.in_ok-add_wrong-2.ensures
    ∙ ap (λ x. fold sooner (fold sooner x (key c.has_no_key_mark.result)) tiers) c.in_ok-add_wrong.ensures
    ∙ three sooner first (type c.is_none.result) (key c.has_no_key_mark.result) tiers
    ∙ (λ i. fold sooner first (type (from_not c.is_none.result (is_some a.kind) (sym c.is_none.ensures) i) ++ key (c.has_no_key_mark.ensures i) ++ tiers))
