use Rattle.lk_kept.proofs.IdLaws.{steps_leave}
use Rattle.lk_kept.proofs.laws.ids_append_at_most_once.Goals as goal

pub returns-clause-new : goal.returns-clause-new
returns-clause-new c = λ e steps saves last accepted. (steps_leave e steps saves last accepted).new

pub returns-clause-once : goal.returns-clause-once
returns-clause-once c = λ e steps saves last accepted. (steps_leave e steps saves last accepted).once

pub returns-clause-ids : goal.returns-clause-ids
returns-clause-ids c = λ e steps saves last accepted. (steps_leave e steps saves last accepted).ids

pub returns-clause-kept : goal.returns-clause-kept
returns-clause-kept c = λ e steps saves last accepted. (steps_leave e steps saves last accepted).kept

pub returns-clause-number : goal.returns-clause-number
returns-clause-number c = λ e steps saves last accepted. (steps_leave e steps saves last accepted).number

pub returns-clause-same : goal.returns-clause-same
returns-clause-same c = λ e steps saves last accepted.
    let leave = steps_leave e steps saves last accepted in
    (leave.model, leave.users)
