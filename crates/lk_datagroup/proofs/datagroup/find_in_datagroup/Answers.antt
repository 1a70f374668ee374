use Rattle.std.proofs.Common.{◌∙◌, ◌++◌, Bool, List, None, ap, codes, sym}
use Rattle.std.specs.List.{fold}
use Rattle.std.proofs.lemmas.List.Sums.{fold-append}
use Rattle.std.proofs.lemmas.Result.{IfOk-equal}
use Rattle.lk_params.specs.Findings.{sooner}
use Rattle.lk_params.specs.Known.{block_findings}
use Rattle.lk_params.specs.declared.finding.Finding.{Finding}
use Rattle.lk_params.specs.declared.number.Order.TheVariants as order
use Rattle.lk_params.specs.declared.owner.Owner.TheVariants as owner
use Rattle.lk_datagroup.specs.Datagroups.{wrong_at}
use Rattle.lk_datagroup.proofs.datagroup.find_in_datagroup.Goals as goal

pub returns : goal.returns
returns c =
    let a = c.args in
    let first = a.findings.now.first in
    let block = block_findings order.Object owner.Datagroup a.name.now None a.items.now in
    let trigger : Bool → List Finding = λ so. wrong_at a.name.now (codes "sql_trigger") so in
    let interval : Bool → List Finding = λ so. wrong_at a.name.now (codes "interval_trigger") so in
    let one = trigger c.in_ok-is_wrong.is_wrong in
    let two = interval c.has_no_interval-is_wrong.result in
    IfOk-equal c.add_wrong_at-2.result c.add_wrong_at-2.new.findings.first _ _ c.add_wrong_at-2.ensures
    (ap (λ x. fold sooner x two) (c.in_ok-add_wrong_at.ensures ∙ ap (λ x. fold sooner x one) c.in_ok-find_unknown.ensures)
    ∙ sym (fold-append sooner first (block ++ one) two ∙ ap (λ x. fold sooner x two) (fold-append sooner first block one))
    ∙ (λ i. fold sooner first (block ++ trigger (c.in_ok-is_wrong.ensures i) ++ interval (c.has_no_interval-is_wrong.ensures i))))
