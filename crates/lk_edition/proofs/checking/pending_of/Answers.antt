use Rattle.std.proofs.Common.{◌≡◌, ◌∙◌, ℤ, map, subst, w64}
use Rattle.std.specs.Arc.{arc_value}
use Rattle.std.specs.Prelude.{IfOk}
use Rattle.std.proofs.lemmas.Int.{to_z-of_z}
use Rattle.lk_trigger.specs.Builds.{datagroup_at}
use Rattle.lk_edition.proofs.StandingLaws.{plan_is}
use Rattle.lk_edition.specs.Checks.{checked, names_of}
use Rattle.lk_edition.proofs.checking.pending_of.Goals as goal

pub returns : goal.returns
returns c =
    let e = c.args.edition.now in
    let groups = c.args.groups.now in
    let names = c.in_ok-names.ensures ∙ (λ i. map (λ g. (datagroup_at (c.as_slice.ensures i) g).name) groups) ∙ (λ i. names_of (c.model.ensures i) groups) in
    let next = subst (λ (now : ℤ). IfOk c.edition_checked-next.result (λ edition. arc_value edition ≡ checked e groups now c.args.keeps))
    (to_z-of_z w64 c.args.now c.ranges.now) c.edition_checked-next.ensures in
    plan_is arc_value c.edition_checked-next.result c.next_number-number.result c.built_reply-reply.result c.pending.result
    e groups c.args.now c.args.keeps c.in_ok-names.names next c.next_number-number.ensures names c.built_reply-reply.ensures c.pending.ensures
