use Rattle.std.proofs.Common.{arith, subst}
use Rattle.lk_io.specs.Causes.{Rose}
use Rattle.lk_turns.proofs.StepLaws.{answered, forgot, refused_next}
use Rattle.lk_turns.proofs.WayLaws.{pulled, pulled_and_put}
use Rattle.lk_session.specs.Servers.{IsForgotten, RequestDoes, by_edition}
use Rattle.lk_session.proofs.StayLaws.{untaken}
use Rattle.lk_session.proofs.answering.answer_next.Goals as goal

pub returns-in-Ok-Req-clause-step : goal.returns-in-Ok-Req-clause-step
returns-in-Ok-Req-clause-step g c =
    answered (RequestDoes by_edition) IsForgotten _ _ _ _ _ c.read_request.new.conn _ _ _ _ _ c.in-Ok-Req.field-0 c.in-Ok-Req.request c.in-Ok-Req.field-0-is
    c.in-Ok-Req.ensures.link.same_held c.answer_request.ensures.left c.in-Ok-Req.ensures.next c.answer_request.ensures.done

pub returns-in-Err-NoMemory-clause-step : goal.returns-in-Err-NoMemory-clause-step
returns-in-Err-NoMemory-clause-step g c =
    forgot (RequestDoes by_edition) IsForgotten _ _ _ _ _ c.read_request.new.conn _ _ _ _ c.in-Err-NoMemory.field-0 c.asks_close.result
    (untaken _) c.in-Err-NoMemory.field-0-is
    c.asks_close.ensures c.in-Err-NoMemory.ensures.link.same_held c.forget.ensures.left c.in-Err-NoMemory.ensures.next c.forget.ensures.sent

pub returns-in-Err : goal.returns-in-Err
returns-in-Err g c = record {
  step = refused_next (RequestDoes by_edition) IsForgotten _ _ _ _ _ c.read_request.new.conn _ _ _ _ c.in-Err.fault c.refuse.ensures.some
      c.in-Err.ensures.link.same_held c.refuse.ensures.left c.in-Err.ensures.next c.refuse.ensures.sent;
  ends = c.refuse.ensures.ends;
  read = λ is. absurd (c.refuse.ensures.never is);
  reads = omega (arith, c.in-Err.ensures.link.later, c.refuse.ensures.reads);
  write = λ is. subst (λ n. Rose n (g.L.Sink.faults c.refuse.new.link)) c.in-Err.ensures.link.same_writes (c.refuse.ensures.write is);
  writes = omega (arith, c.in-Err.ensures.link.same_writes, c.refuse.ensures.writes);
  counts = omega arith;
  ways = pulled_and_put g.L.Source.keeps_at_pull g.L.Sink.keeps_at_put _ _ _ c.in-Err.ensures.pulls c.refuse.ensures.puts;
}

pub returns-in-Ok-End-clause-ways : goal.returns-in-Ok-End-clause-ways
returns-in-Ok-End-clause-ways g c = pulled g.L.Source.keeps_at_pull g.L.Sink.keeps_at_put _ _ c.in-Ok-End.ensures.pulls

pub returns-in-Ok-Req-clause-ways : goal.returns-in-Ok-Req-clause-ways
returns-in-Ok-Req-clause-ways g c =
    pulled_and_put g.L.Source.keeps_at_pull g.L.Sink.keeps_at_put _ _ _ c.in-Ok-Req.ensures.pulls c.answer_request.ensures.puts

pub returns-in-Err-Truncated-clause-ways : goal.returns-in-Err-Truncated-clause-ways
returns-in-Err-Truncated-clause-ways g c = pulled g.L.Source.keeps_at_pull g.L.Sink.keeps_at_put _ _ c.in-Err-Truncated.ensures.pulls

pub returns-in-Err-ReadFault-clause-ways : goal.returns-in-Err-ReadFault-clause-ways
returns-in-Err-ReadFault-clause-ways g c = pulled g.L.Source.keeps_at_pull g.L.Sink.keeps_at_put _ _ c.in-Err-ReadFault.ensures.pulls

pub returns-in-Err-NoMemory-clause-ways : goal.returns-in-Err-NoMemory-clause-ways
returns-in-Err-NoMemory-clause-ways g c =
    pulled_and_put g.L.Source.keeps_at_pull g.L.Sink.keeps_at_put _ _ _ c.in-Err-NoMemory.ensures.pulls c.forget.ensures.puts
