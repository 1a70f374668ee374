use Rattle.std.proofs.Common.{◌≡◌, ◌∙◌, ap, length, w64}
use Rattle.std.proofs.lemmas.Int.{to_z-of_z}
use Rattle.std.specs.Prelude.{IfErr, IfOk}
use Rattle.lk_semantics.specs.Answers.{dims_of, ops_of}
use Rattle.lk_exec.specs.Places.{place_after}
use Rattle.lk_exec.specs.Visits.{IsOver}
use Rattle.lk_exec.specs.declared.visit.ExecFault.TheVariants.{Many}
use Rattle.lk_filter.specs.PlacedModel.{placed_explore}
use Rattle.lk_gather.specs.Gathers.{HasVisited, rows_seen}
use Rattle.lk_gather.proofs.VisitLaws.{begun_at, moved}
use Rattle.lk_gather.proofs.gather.gathered.Goals as goal

pub gather_rows-requires-clause-first : goal.gather_rows-requires-clause-first
gather_rows-requires-clause-first c =
    let x = c.args.explore.now in
    let plan = c.args.plan.now in
    begun_at c.in_ok-asked.asked.moment x _ plan _ c.in_ok-new.field-0 c.in_ok-dims_count.field-0 c.in_ok-ops_of.field-0 c.in_ok-new.ensures
    (c.in_ok-dims_count.ensures ∙ ap (λ picks. length (dims_of picks)) c.as_slice.ensures)
    (c.in_ok-ops_of.ensures ∙ ap (ops_of x) (c.as_slice-2.ensures ∙ c.in_ok-components.ensures))
    c.in_ok-asked.ensures.explore c.in_ok-asked.ensures.plan

pub returns-clause-visited : goal.returns-clause-visited
returns-clause-visited c =
    moved (λ n z p. IfOk c.gather_rows.result (λ gathered. HasVisited (placed_explore n z) p c.args.cap (rows_seen z c.args.sources.now p) gathered.0)) _ _ _ _ _ _
    (c.in_ok-asked.ensures.moment ∙ to_z-of_z w64 c.args.now c.ranges.now) c.in_ok-asked.ensures.explore c.in_ok-asked.ensures.plan c.gather_rows.ensures.visited

pub returns-clause-count : goal.returns-clause-count
returns-clause-count c =
    moved (λ n z p. IfOk c.gather_rows.result (λ gathered. gathered.1 ≡ place_after (rows_seen z c.args.sources.now p))) _ _ _ _ _ _
    c.in_ok-asked.ensures.moment c.in_ok-asked.ensures.explore c.in_ok-asked.ensures.plan c.gather_rows.ensures.count

pub returns-clause-many : goal.returns-clause-many
returns-clause-many c =
    moved (λ n z p. IfErr c.gather_rows.result (λ fault. fault ≡ Many → IsOver c.args.cap (rows_seen z c.args.sources.now p))) _ _ _ _ _ _
    c.in_ok-asked.ensures.moment c.in_ok-asked.ensures.explore c.in_ok-asked.ensures.plan c.gather_rows.ensures.many
