use Rattle.std.proofs.Common.{length, subst, w64}
use Rattle.std.proofs.lemmas.Int.{to_z-of_z}
use Rattle.lk_agg.specs.Gathering.{HasTaken}
use Rattle.lk_filter.specs.PlacedModel.{placed_explore}
use Rattle.lk_semantics.specs.Answers.{dims_of, given_rows, ops_of, query_components}
use Rattle.lk_gather.specs.Asked.{given_of}
use Rattle.lk_gather.specs.Gathers.{rows_seen}
use Rattle.lk_gather.proofs.AnswerLaws.{counted_are}
use Rattle.lk_gather.proofs.grouping.all_gathered.Goals as goal

pub returns-in-Ok : goal.returns-in-Ok
returns-in-Ok c =
    let x = c.args.explore.now in
    let s = c.args.sources.now in
    let plan = c.args.plan.now in
    let b = plan.bound in
    let y = placed_explore c.args.now x in
    let components = query_components y b in
    let taken = subst (λ n. HasTaken c.in-Ok.acc (length (dims_of b.picks)) (ops_of (placed_explore n x) (query_components (placed_explore n x) b)) (given_of (placed_explore n x) plan (rows_seen x s plan)))
    (to_z-of_z w64 c.args.now c.ranges.now) c.in-Ok.ensures.visited.gathered.taken in
    subst (λ rows. HasTaken c.in-Ok.acc (length (dims_of b.picks)) (ops_of y components) (given_rows y (dims_of b.picks) components rows))
    (counted_are c.args.now x s plan c.requires.plan) taken
