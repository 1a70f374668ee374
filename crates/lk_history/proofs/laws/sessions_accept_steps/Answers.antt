use Rattle.lk_history.proofs.HistoryLaws.{opens_last, run_of}
use Rattle.lk_history.proofs.laws.sessions_accept_steps.Goals as goal

pub returns : goal.returns
returns c = record {
  accepted = λ h last bytes rest sents how run. run_of h last bytes rest sents how run;
  opens_again = λ h last bytes rest sents how kept run told named is.
      opens_last c.stores_hold_the_last_state.ensures h.server last.server kept (run_of h last bytes rest sents how run) told named is;
}
