use Rattle.std.proofs.Common.{◌≡◌, ◌∙◌, Bool, List, ap, subst, sym}
use Rattle.std.proofs.lemmas.Result.{IfOk-weaker}
use Rattle.lk_fields.specs.Existing.{is_on_cycle}
use Rattle.lk_fields.specs.Reaching.{IsReached, names_at}
use Rattle.lk_fields.specs.Rows.{is_marked, number_of}
use Rattle.lk_fields.proofs.CycleLaws.{none_on_cycle, nowhere, on_cycle}
use Rattle.lk_fields.proofs.existing.FieldSet.is_on_cycle.Goals as goal

pub returns-then-not-reaches_cycle : goal.returns-then-not-reaches_cycle
returns-then-not-reaches_cycle c = λ views scope is.
    none_on_cycle views scope c.args.place (sym (c.reaches_cycle.ensures views scope is) ∙ c.if-not-reaches_cycle.true)

pub returns-in-Some : goal.returns-in-Some
returns-in-Some c = λ views scope is.
    let place = c.args.place in
    let n = c.in-Some.number in
    let rows = c.as_slice-in-Some.result.now in
    let all = ap (λ ps. number_of ps place) (sym (c.as_slice.ensures ∙ is.places_are)) ∙ sym c.in-Some.ensures in
    IfOk-weaker c.reaches_itself.result (λ reaches. (marks : List Bool) × IsReached rows (names_at rows n) marks × (reaches ≡ is_marked marks n)) (λ b. b ≡ is_on_cycle views scope place)
    (λ b w. w.2 ∙ on_cycle views scope place n w.0 all (subst (λ rs. IsReached rs (names_at rs n) w.0) (c.as_slice-in-Some.ensures ∙ is.rows_are) w.1))
    c.reaches_itself.ensures

pub returns-in-None : goal.returns-in-None
returns-in-None c = λ views scope is.
    nowhere views scope c.args.place (ap (λ ps. number_of ps c.args.place) (sym (c.as_slice.ensures ∙ is.places_are)) ∙ sym c.in-None.ensures)
