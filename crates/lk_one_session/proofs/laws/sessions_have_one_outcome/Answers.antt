use Rattle.lk_one_session.proofs.Turns.{fronts, outcome, replies, requests, unfailing, written}
use Rattle.lk_one_session.proofs.laws.sessions_have_one_outcome.Goals as goal

pub returns : goal.returns
returns c =
    let one = c.bodies_are_replied_one_thing.ensures in
    record {
      requests = λ h k last end told bytes other rest left sents others how why items same tells p q begin start.
          requests one h k last end told same tells bytes other rest left sents others how why items p q begin start;
      replies = λ h k last end told bytes rest left sents others how why same tells p q.
          replies one h k last end told same tells bytes rest left sents others how why p q;
      fronts = λ h k last end told bytes rest left sents others how why same tells p q alike full.
          fronts one h k last end told same tells bytes rest left sents others how why p q alike full;
      outcome = λ h k last end told bytes rest left sents others how why same tells p q calm.
          outcome one h k last end told same tells bytes rest left sents others how why p q calm;
      written = written one;
      unfailing = unfailing;
    }
