use Rattle.std.proofs.Common.{false}
use Rattle.lk_live.proofs.ListLaws.{grown_along}
use Rattle.lk_live.proofs.PlaceLaws.{told_at}
use Rattle.lk_live.proofs.serve.serve_link.Goals as goal

pub returns-clause-along : goal.returns-clause-along
returns-clause-along g c all chain seen =
    told_at c.editions_in_a_list_stand.ensures (λ e past user explore body now r. c.answers_are_of_one_snapshot.ensures e past user explore body now false r)
    all chain _ _ _ _ _ _ _ seen c.serve_turns.ensures.answers

pub returns-clause-later : goal.returns-clause-later
returns-clause-later g c = grown_along (λ worker. worker.desk.seen) _ _ c.serve_turns.ensures.keeps
