use Rattle.std.proofs.lemmas.Int.{to_z-of_z}
use Rattle.std.proofs.Common.{w64, refl, sym, subst, inr, le_refl}
use Rattle.lk_front.specs.Chains.{EndsIn}
use Rattle.lk_live.proofs.AnswerLaws.{command_of, done, looked, lost, unsaved}
use Rattle.lk_live.proofs.StatusLaws.{told_status}
use Rattle.lk_live.proofs.worker.WorkerAnswererLive.answer.Goals as goal

pub returns-in-Query-clause-served : goal.returns-in-Query-clause-served
returns-in-Query-clause-served g c =
    looked _ _ _ _ _ _ c.args.request _ _ (to_z-of_z w64 c.now-now.result (record { sfits = c.now-now.type_inv })) c.now-now.ensures.years c.now-now.ensures.first c.now-now.ensures.later
    c.current.ensures.later c.in-Query.explore c.deref-in-Query.result.now c.query-reply.result c.in-Query.is
    (subst (λ e. EndsIn c.current.new.self.seen e) (sym c.deref-in-Query.ensures) c.in_ok-edition-in-Query.ensures.last) c.in_ok-edition-in-Query.ensures.look refl c.query-reply.ensures

pub returns-in-Query-clause-forgot : goal.returns-in-Query-clause-forgot
returns-in-Query-clause-forgot g c =
    lost _ _ _ _ _ _ c.args.request _ _ (to_z-of_z w64 c.now-now.result (record { sfits = c.now-now.type_inv })) c.now-now.ensures.years c.now-now.ensures.first c.now-now.ensures.later
    c.current.ensures.later c.in-Query.explore c.query-reply.result c.in-Query.is (inr c.in_ok-edition-in-Query.ensures.look) (le_refl _)

pub returns-in-Done-clause-served : goal.returns-in-Done-clause-served
returns-in-Done-clause-served g c =
    done _ _ _ _ _ _ c.args.request _ _ (to_z-of_z w64 c.now-now.result (record { sfits = c.now-now.type_inv })) c.now-now.ensures.years c.now-now.ensures.first c.now-now.ensures.later
    c.send-sent.ensures.later c.in-Done.reply (c.send-sent.ensures.done c.in-Done.reply c.in-Done.is) (command_of c.args.request.target c.in-Load.is) c.send-sent.ensures.looks
    c.send-sent.ensures.counts

pub returns-in-Done-clause-status : goal.returns-in-Done-clause-status
returns-in-Done-clause-status g c = told_status _ c.args.request _ c.in-Done.reply _ (c.send-sent.ensures.done c.in-Done.reply c.in-Done.is)

pub returns-in-Failed-clause-served : goal.returns-in-Failed-clause-served
returns-in-Failed-clause-served g c =
    unsaved _ _ _ _ _ _ c.args.request _ _ (to_z-of_z w64 c.now-now.result (record { sfits = c.now-now.type_inv })) c.now-now.ensures.years c.now-now.ensures.first c.now-now.ensures.later
    c.send-sent.ensures.later c.reply_unsaved.result c.reply_unsaved.ensures (command_of c.args.request.target c.in-Load.is) c.send-sent.ensures.looks
    (c.send-sent.ensures.cause c.in-Failed.is)
