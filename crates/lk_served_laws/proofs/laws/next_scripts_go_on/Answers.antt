use Rattle.std.proofs.Common.{◌∙◌, ap, List, sym}
use Rattle.std.specs.Prelude.{Ok}
use Rattle.lk_ledger.specs.declared.kept.KeptId.{KeptId}
use Rattle.lk_edition.specs.Loads.{kept_load}
use Rattle.lk_edition.specs.Standings.{Standing}
use Rattle.lk_session.specs.Recorded.{RecordedDoes}
use Rattle.lk_served_laws.specs.Ledgers.{DoesSo, KeepsLedger}
use Rattle.lk_served_laws.proofs.TurnLaws.{run_also}
use Rattle.lk_served_laws.proofs.laws.next_scripts_go_on.Goals as goal

pub returns-clause-ledger : goal.returns-clause-ledger
returns-clause-ledger c = λ files more kept bytes inputs a b c d status next one two. sym two.before.ids ∙ one.after.ids

pub returns-clause-once : goal.returns-clause-once
returns-clause-once g = λ files more kept bytes inputs a b c d status next one two id load found.
    let run = (run_also (DoesSo KeepsLedger) RecordedDoes (λ _. Unit {0}) (λ h item reply t known does. (does.0, tt))
    two.session.from inputs two.session.sents two.session.to two.session.rest two.session.how tt two.session.run).0 in
    let begins_with = ap (λ (e : Standing). kept_load e.state.ids id) two.session.begins
    ∙ ap (λ (ids : List KeptId). kept_load ids id) (sym two.before.ids ∙ one.after.ids) ∙ found in
    (g.sessions_keep_a_ledger.ensures.once id load two.session.from two.session.to inputs two.session.rest two.session.sents two.session.how begins_with run).0

pub returns-clause-state : goal.returns-clause-state
returns-clause-state g = λ files kept bytes inputs a b c d status next one two none.
    one.again none two.opened.moment (Ok two.e) two.opened.is
