use Rattle.lk_some_reply.proofs.Sessions.{some_run, told_is_recorded}
use Rattle.lk_some_reply.proofs.laws.sessions_run_to_an_end.Goals as goal

pub returns-clause-does : goal.returns-clause-does
returns-clause-does c h h' item reply does = told_is_recorded h item reply h' does

pub returns-clause-runs : goal.returns-clause-runs
returns-clause-runs c h bytes timed = some_run c.bytes_have_a_next_item.ensures c.requests_are_served.ensures h bytes timed
