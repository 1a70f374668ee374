use Rattle.std.proofs.Common.{◌≡◌, List, ◌∙◌, ap, map, subst}
use Rattle.std.specs.Prelude.{IfOk}
use Rattle.lk_types.specs.declared.answer.GroupRow.{GroupRow}
use Rattle.lk_regroup.specs.declared.asked.Regrouping.{Regrouping}
use Rattle.lk_regroup.specs.ComponentParts.{row_of}
use Rattle.lk_regroup.specs.Regroupings.{counted, gathered, with_empty_group}
use Rattle.lk_regroup.proofs.RegroupedLaws.{regrouped_is}
use Rattle.lk_regroup.proofs.regrouping.regrouped.Goals as goal

pub returns : goal.returns
returns c =
    let rows = c.args.rows.now in
    let entries =
    c.in_ok-add_empty_group.ensures
    ∙ ap (with_empty_group c.in_ok-how.how) c.in_ok-groups.ensures
    ∙ ap (λ (how : Regrouping). with_empty_group how (gathered how (counted how rows))) c.in_ok-how.ensures in
    subst (λ (made : List GroupRow). IfOk c.finished.result (λ groups. groups ≡ made))
    (ap (map row_of) entries ∙ regrouped_is c.args.x.now c.args.r.now c.args.b.now rows)
    c.finished.ensures
