use Rattle.std.proofs.Common.{◌≡◌, w64}
use Rattle.std.specs.Prelude.{Ok}
use Rattle.std.proofs.lemmas.Int.{to_z-of_z}
use Rattle.std.proofs.lemmas.Result.{err_from_is_err_and}
use Rattle.lk_body.specs.Faults.{is_no_memory}
use Rattle.lk_query.specs.Bindings.{IsBoundFrom, checked}
use Rattle.lk_query.proofs.BoundLaws.{request_bound, request_refused}
use Rattle.lk_query.proofs.MemoryLaws.{memory_weaker, unless_weaker}
use Rattle.lk_query.proofs.binding.bind_request.Goals as goal

pub returns : goal.returns
returns c =
    let x = c.args.x.now in
    let q = c.args.q.now in
    let now = to_z-of_z w64 c.args.now c.ranges.now in
    memory_weaker is_no_memory c.checked.result (λ r. r ≡ checked x c.in_ok-bound.bound) (IsBoundFrom x c.args.number q c.args.now (Ok c.args.request))
    (λ r. request_bound x c.args.number q c.args.now _ c.args.request c.in_ok-filters.filters c.in_ok-bound.bound r now c.in_ok-filters.ensures c.in_ok-bound.ensures)
    c.checked.ensures

pub returns-in_err-filters : goal.returns-in_err-filters
returns-in_err-filters c =
    let x = c.args.x.now in
    let q = c.args.q.now in
    let fault = c.in_err-filters.field-0.0 in
    let p = err_from_is_err_and c.from_residual.result c.from_residual.ensures.1 in
    rw (p.1, p.2) (unless_weaker (is_no_memory fault)
    (request_refused x c.args.number q c.args.now _ c.args.request fault (to_z-of_z w64 c.args.now c.ranges.now)) c.in_err-filters.ensures)
