use Rattle.std.proofs.lemmas.Int.{to_z-of_z}
use Rattle.std.proofs.Common.{w64}
use Rattle.lk_turns.proofs.StepLaws.{served}
use Rattle.lk_session.specs.Servers.{IsForgotten, RequestDoes, by_edition}
use Rattle.lk_session.proofs.AnswerLaws.{answered, forgot, written}
use Rattle.lk_session.proofs.answering.answer_request.Goals as goal

pub send-requires-clause-status : goal.send-requires-clause-status
send-requires-clause-status g c κs within = written _ _ _ _ c.args.request _ c.serve-reply.result c.serve-reply.ensures.served

pub returns-clause-done : goal.returns-clause-done
returns-clause-done g c =
    served (RequestDoes by_edition) IsForgotten c.serve-reply.result
    (answered _ _ _ _ _ _ _ _ _ c.serve-reply.result (to_z-of_z w64 c.now-now.result (record { sfits = c.now-now.type_inv }))
    c.now-now.ensures.years c.now-now.ensures.first c.now-now.ensures.later c.serve-reply.ensures.served)
    (forgot _ _ _ _ _ _ _ c.serve-reply.result c.now-now.ensures.later c.serve-reply.ensures.stays)
    c.send.ensures.sent
