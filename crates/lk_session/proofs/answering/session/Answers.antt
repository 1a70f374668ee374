use Rattle.std.specs.Prelude.{IfSome}
use Rattle.lk_session.proofs.RecordedLaws.{told_recorded}
use Rattle.lk_session.proofs.answering.session.Goals as goal

pub returns-clause-run : goal.returns-clause-run
returns-clause-run g c = λ past stands.
    told_recorded c.loads_keep_the_history.ensures c.checks_keep_the_history.ensures c.answers_are_of_one_snapshot.ensures
    _ past stands _ _ _ _ _ _ c.converse.ensures.run
