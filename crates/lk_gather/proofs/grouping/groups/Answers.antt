use Rattle.std.proofs.Common.{◌≡◌, length, subst, sym, true, w64}
use Rattle.std.proofs.lemmas.Int.{to_z-of_z}
use Rattle.std.specs.Option.{is_some}
use Rattle.lk_val.specs.Memory.{Unless}
use Rattle.lk_agg.specs.Gathering.{HasTaken}
use Rattle.lk_filter.specs.PlacedModel.{placed_explore}
use Rattle.lk_semantics.specs.Answers.{dims_of, ops_of, query_components}
use Rattle.lk_gather.specs.Groups.{conflict_over, rows_counted, given_to, is_no_memory}
use Rattle.lk_gather.proofs.AnswerLaws.{conflict_told}
use Rattle.lk_gather.proofs.grouping.groups.Goals as goal

pub returns-in-Ok-clause-ok : goal.returns-in-Ok-clause-ok
returns-in-Ok-clause-ok c =
    let x = c.args.explore.now in
    let y = placed_explore c.args.now x in
    let s = c.args.sources.now in
    let b = c.args.plan.now.bound in
    let dims = dims_of b.picks in
    let components = query_components y b in
    let taken = subst (λ n. HasTaken c.in_ok-all_gathered.field-0 (length dims) (ops_of (placed_explore n x) (query_components (placed_explore n x) b)) (given_to (placed_explore n x) s b))
    (to_z-of_z w64 c.args.now c.ranges.now) c.in_ok-all_gathered.ensures in
    c.in-Ok.ensures.ok (length dims) (ops_of y components) (given_to y s b) taken
    (c.given_rows_are_regular.ensures y dims components (rows_counted y s b))

pub returns-in-Err-clause-conflict : goal.returns-in-Err-clause-conflict
returns-in-Err-clause-conflict c =
    let x = c.args.explore.now in
    let y = placed_explore c.args.now x in
    let s = c.args.sources.now in
    let b = c.args.plan.now.bound in
    let dims = dims_of b.picks in
    let components = query_components y b in
    let taken = subst (λ n. HasTaken c.in_ok-all_gathered.field-0 (length dims) (ops_of (placed_explore n x) (query_components (placed_explore n x) b)) (given_to (placed_explore n x) s b))
    (to_z-of_z w64 c.args.now c.ranges.now) c.in_ok-all_gathered.ensures in
    subst (λ fault. Unless (is_no_memory fault) (is_some (conflict_over y s b) ≡ true)) (sym c.fault_of.ensures)
    (conflict_told c.in-Err.fault (conflict_over y s b)
    (c.in-Err.ensures.conflict (length dims) (ops_of y components) (given_to y s b) taken
    (c.given_rows_are_regular.ensures y dims components (rows_counted y s b))))
