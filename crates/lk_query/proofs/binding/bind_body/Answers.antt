use Rattle.std.proofs.Common.{w64}
use Rattle.std.proofs.lemmas.Int.{to_z-of_z}
use Rattle.std.proofs.lemmas.Result.{err_from_is_err_and}
use Rattle.lk_body.specs.Bodies.{query_of}
use Rattle.lk_query.specs.Callers.{explore_named, user_known}
use Rattle.lk_query.proofs.BoundLaws.{body_bound_over, no_body_number, no_body_user, no_query}
use Rattle.lk_query.proofs.binding.bind_body.Goals as goal

pub returns : goal.returns
returns c =
    let a = c.args in
    body_bound_over a.m.now a.users.now a.user.now a.now (user_known a.users.now a.user.now) (explore_named a.m.now a.explore.now) (query_of a.body.now)
    c.in_ok-number.number c.in_ok-q.q _ c.bind_over.result (to_z-of_z w64 a.now c.ranges.now) c.in_ok-find_user.ensures c.in_ok-number.ensures.number c.in_ok-q.ensures c.bind_over.ensures

pub returns-in_err-find_user : goal.returns-in_err-find_user
returns-in_err-find_user c =
    let a = c.args in
    let p = err_from_is_err_and c.from_residual.result c.from_residual.ensures.1 in
    rw (p.1, p.2) (no_body_user a.m.now a.users.now a.user.now a.now (user_known a.users.now a.user.now) (explore_named a.m.now a.explore.now) (query_of a.body.now) c.in_err-find_user.field-0.0 c.in_err-find_user.ensures)

pub returns-in_err-number : goal.returns-in_err-number
returns-in_err-number c =
    let a = c.args in
    let p = err_from_is_err_and c.from_residual-in_err-number.result c.from_residual-in_err-number.ensures.1 in
    rw (p.1, p.2) (no_body_number a.m.now a.users.now a.user.now a.now (user_known a.users.now a.user.now) (explore_named a.m.now a.explore.now) (query_of a.body.now) c.in_err-number.field-0.0 c.in_ok-find_user.ensures c.in_err-number.ensures.number)

pub returns-in_err-q : goal.returns-in_err-q
returns-in_err-q c =
    let a = c.args in
    let p = err_from_is_err_and c.from_residual-in_err-q.result c.from_residual-in_err-q.ensures.1 in
    rw (p.1, p.2) (no_query a.m.now a.users.now a.user.now a.now (user_known a.users.now a.user.now) (explore_named a.m.now a.explore.now) (query_of a.body.now) c.in_ok-number.number c.in_err-q.field-0.0 c.in_ok-find_user.ensures c.in_ok-number.ensures.number c.in_err-q.ensures)
