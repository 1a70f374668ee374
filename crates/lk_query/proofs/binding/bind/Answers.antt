use Rattle.std.proofs.Common.{w64}
use Rattle.std.proofs.lemmas.Int.{to_z-of_z}
use Rattle.std.proofs.lemmas.Result.{err_from_is_err_and}
use Rattle.lk_query.specs.Callers.{explore_named, user_known}
use Rattle.lk_query.proofs.BoundLaws.{bound_over, no_number, no_user}
use Rattle.lk_query.proofs.binding.bind.Goals as goal

pub returns : goal.returns
returns c =
    let a = c.args in
    bound_over a.m.now a.users.now a.user.now a.q.now a.now (user_known a.users.now a.user.now) (explore_named a.m.now a.explore.now)
    c.in_ok-number.number _ c.bind_over.result (to_z-of_z w64 a.now c.ranges.now) c.in_ok-find_user.ensures c.in_ok-number.ensures.number c.bind_over.ensures

pub returns-in_err-find_user : goal.returns-in_err-find_user
returns-in_err-find_user c =
    let a = c.args in
    let p = err_from_is_err_and c.from_residual.result c.from_residual.ensures.1 in
    rw (p.1, p.2) (no_user a.m.now a.users.now a.user.now a.q.now a.now (user_known a.users.now a.user.now) (explore_named a.m.now a.explore.now) c.in_err-find_user.field-0.0 c.in_err-find_user.ensures)

pub returns-in_err-number : goal.returns-in_err-number
returns-in_err-number c =
    let a = c.args in
    let p = err_from_is_err_and c.from_residual-in_err-number.result c.from_residual-in_err-number.ensures.1 in
    rw (p.1, p.2) (no_number a.m.now a.users.now a.user.now a.q.now a.now (user_known a.users.now a.user.now) (explore_named a.m.now a.explore.now) c.in_err-number.field-0.0 c.in_ok-find_user.ensures c.in_err-number.ensures.number)
