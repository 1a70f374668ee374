use Rattle.std.proofs.Common.{◌≡◌, Some}
use Rattle.lk_edition.specs.Loads.{kept_load}
use Rattle.lk_session.specs.Recorded.{Recorded, RecordedDoes}
use Rattle.lk_served_laws.specs.Ledgers.{DoesSo, KeepsLedger, Repeats, ledger_of}
use Rattle.lk_served_laws.proofs.LedgerLaws.{entered, keeps_ledger, repeats_load}
use Rattle.lk_served_laws.proofs.TurnLaws.{run_also, turns_also}
use Rattle.lk_served_laws.proofs.laws.sessions_keep_a_ledger.Goals as goal

pub returns-clause-ledger : goal.returns-clause-ledger
returns-clause-ledger c = λ h last bytes rest sents how run.
    (run_also RecordedDoes (DoesSo KeepsLedger) (λ _. Unit {0}) (keeps_ledger c.kept_loads_get_their_reply.ensures) h bytes sents last rest how tt run).0

pub returns-clause-entered : goal.returns-clause-entered
returns-clause-entered c = entered

pub returns-clause-repeated : goal.returns-clause-repeated
returns-clause-repeated c = λ id load before h last bytes rest sents found turns.
    turns_also RecordedDoes (DoesSo (Repeats id load)) (λ (k : Recorded). kept_load (ledger_of k.server) id ≡ Some load)
    (repeats_load c.kept_loads_get_their_reply.ensures id load) before h bytes sents last rest found turns

pub returns-clause-once : goal.returns-clause-once
returns-clause-once c = λ id load h last bytes rest sents how found run.
    run_also RecordedDoes (DoesSo (Repeats id load)) (λ (k : Recorded). kept_load (ledger_of k.server) id ≡ Some load)
    (repeats_load c.kept_loads_get_their_reply.ensures id load) h bytes sents last rest how found run
