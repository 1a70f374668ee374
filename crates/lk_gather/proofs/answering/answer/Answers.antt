use Rattle.std.proofs.Common.{◌≡◌, ◌∙◌, ap, subst, w64}
use Rattle.std.proofs.lemmas.Int.{to_z-of_z}
use Rattle.std.specs.Prelude.{IfOk}
use Rattle.lk_types.specs.declared.answer.Answer.{Answer}
use Rattle.lk_exec.specs.Places.{place_after}
use Rattle.lk_exec.specs.Visits.{IsOver, IsWithin}
use Rattle.lk_filter.specs.PlacedModel.{placed_explore}
use Rattle.lk_gather.specs.Gathers.{HasVisited, rows_seen}
use Rattle.lk_gather.proofs.AnswerLaws.{answer_is, seen_are}
use Rattle.lk_gather.proofs.CountedLaws.{always, answer_kept, rows_kept}
use Rattle.lk_gather.proofs.answering.answer.Goals as goal

pub returns-in-Err-clause-many : goal.returns-in-Err-clause-many
returns-in-Err-clause-many c = λ is.
    subst (IsOver c.args.cap) (seen_are c.args.now c.args.explore.now c.args.sources.now c.args.plan.now c.requires.plan) (c.in-Err.ensures.many is)

pub returns-in-Ok-clause-answer : goal.returns-in-Ok-clause-answer
returns-in-Ok-clause-answer c =
    let x = c.args.explore.now in
    let plan = c.args.plan.now in
    let s = c.args.sources.now in
    let done = subst (λ n. HasVisited (placed_explore n x) plan c.args.cap (rows_seen x s plan) c.in-Ok.acc) (to_z-of_z w64 c.args.now c.ranges.now) c.in-Ok.ensures.visited in
    subst (λ (a : Answer). IfOk c.with_rows.result (λ counted. counted.answer ≡ a)) (answer_is c.args.now x s plan c.requires.plan)
    (answer_kept c.finish.result c.with_rows.result _ c.with_rows.ensures.answer
    (c.finish.ensures.answer c.args.now done.count (rows_seen x s plan) done.gathered))

pub returns-in-Ok-clause-rows : goal.returns-in-Ok-clause-rows
returns-in-Ok-clause-rows c =
    rows_kept c.with_rows.result _ _ c.with_rows.ensures.rows (c.in-Ok.ensures.count
    ∙ ap place_after (seen_are c.args.now c.args.explore.now c.args.sources.now c.args.plan.now c.requires.plan))

pub returns-in-Ok-clause-within : goal.returns-in-Ok-clause-within
returns-in-Ok-clause-within c =
    always c.with_rows.result _
    (subst (IsWithin c.args.cap) (seen_are c.args.now c.args.explore.now c.args.sources.now c.args.plan.now c.requires.plan) c.in-Ok.ensures.visited.within)
