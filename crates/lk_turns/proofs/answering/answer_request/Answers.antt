use Rattle.lk_turns.proofs.StepLaws.{served}
use Rattle.lk_turns.proofs.answering.answer_request.Goals as goal

pub returns-clause-done : goal.returns-clause-done
returns-clause-done g c =
    served g.A.Answerer.serves g.A.Answerer.forgets c.answer-reply.result c.answer-reply.ensures.served c.answer-reply.ensures.forgot c.send.ensures.sent
