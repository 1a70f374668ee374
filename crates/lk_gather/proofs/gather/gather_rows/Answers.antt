use Rattle.std.proofs.Common.{◌≡◌, [], refl, subst}
use Rattle.lk_semantics.specs.Joins.{joined_rows}
use Rattle.lk_exec.specs.Places.{place_after}
use Rattle.lk_exec.specs.Visits.{IsOver, rows_where}
use Rattle.lk_filter.specs.PlacedModel.{placed_explore}
use Rattle.lk_gather.specs.Gathers.{HasGathered, HasVisited}
use Rattle.lk_gather.specs.declared.gather.Gather.{Gather}
use Rattle.lk_gather.proofs.VisitLaws.{none_within, over}
use Rattle.lk_gather.proofs.gather.gather_rows.Goals as goal

pub returns-in-Err-clause-many : goal.returns-in-Err-clause-many
returns-in-Err-clause-many c = λ is.
    let start : Gather = record { alloc = c.args.alloc; asked = c.args.asked; acc = c.args.acc; count = 0 } in
    let x = c.args.asked.now.explore.now in
    let y = placed_explore c.args.asked.now.moment x in
    let plan = c.args.asked.now.plan.now in
    let many : IsOver c.args.cap (rows_where plan.visible (joined_rows x c.args.sources.now c.as_slice.result.now)) =
    over (λ (gather : Gather) seen. (gather.asked.now ≡ start.asked.now) × HasGathered y plan gather.acc gather.count seen) c.args.cap
    (rows_where plan.visible (joined_rows x c.args.sources.now c.as_slice.result.now)) start c.visible_lent.new.visitor c.in-Err.fault is (c.in-Err.ensures start [] refl (none_within c.args.cap)) in
    subst (λ joins. IsOver c.args.cap (rows_where plan.visible (joined_rows x c.args.sources.now joins))) c.as_slice.ensures many

pub returns-in-Ok-clause-visited : goal.returns-in-Ok-clause-visited
returns-in-Ok-clause-visited c =
    let start : Gather = record { alloc = c.args.alloc; asked = c.args.asked; acc = c.args.acc; count = 0 } in
    let x = c.args.asked.now.explore.now in
    let y = placed_explore c.args.asked.now.moment x in
    let plan = c.args.asked.now.plan.now in
    let visit = c.in-Ok.ensures start [] refl (none_within c.args.cap) in
    subst (λ joins. HasVisited y plan c.args.cap (rows_where plan.visible (joined_rows x c.args.sources.now joins)) c.visible_lent.new.visitor.acc)
    c.as_slice.ensures
    (record { count = c.visible_lent.new.visitor.count; gathered = (visit.0 (refl, c.requires.first)).1; within = visit.2 })

pub returns-in-Ok-clause-count : goal.returns-in-Ok-clause-count
returns-in-Ok-clause-count c =
    let start : Gather = record { alloc = c.args.alloc; asked = c.args.asked; acc = c.args.acc; count = 0 } in
    let x = c.args.asked.now.explore.now in
    let plan = c.args.asked.now.plan.now in
    subst (λ joins. c.in-Ok.rows ≡ place_after (rows_where plan.visible (joined_rows x c.args.sources.now joins)))
    c.as_slice.ensures (c.in-Ok.ensures start [] refl (none_within c.args.cap)).1
