-- The head, and then the body.
use Rattle.std.proofs.Common.{◌∙◌, subst}
use Rattle.std.proofs.KnownBytes.{Appends-trans}
use Rattle.std.proofs.lemmas.Result.{on_ok_weaker, on_err_weaker}
use Rattle.std.specs.Io.KnownBytes.{Appends}
use Rattle.lk_io.specs.Streams.{AppendsFront}
use Rattle.lk_http.proofs.ReplyLemmas.{front_of_first, front_after_first, after_any, cause_on}
use Rattle.lk_http.proofs.WayLemmas.{way_more, way_none}
use Rattle.lk_http.proofs.reply.write.Goals as goal

pub returns-in_err-put-clause-err : goal.returns-in_err-put-clause-err
returns-in_err-put-clause-err g c =
    let printed = c.as_slice.ensures.value ∙ c.print_head-head.ensures in
    after_any c.from_residual.result (front_of_first _ _ _ c.args.body.now (subst (AppendsFront _ _) printed c.in_err-put.ensures.err))

pub returns-in_err-put-clause-cause : goal.returns-in_err-put-clause-cause
returns-in_err-put-clause-cause g c = record { later = c.in_err-put.ensures.cause.later; rose = after_any c.from_residual.result c.in_err-put.ensures.cause.rose }

pub returns-clause-ok : goal.returns-clause-ok
returns-clause-ok g c =
    let printed = c.as_slice.ensures.value ∙ c.print_head-head.ensures in
    on_ok_weaker c.put-2.result (λ body. Appends-trans _ _ _ _ _ (subst (Appends _ _) printed c.in_ok-put.ensures.ok) body) c.put-2.ensures.ok

pub returns-clause-err : goal.returns-clause-err
returns-clause-err g c =
    let printed = c.as_slice.ensures.value ∙ c.print_head-head.ensures in
    on_err_weaker c.put-2.result (λ body. front_after_first _ _ _ _ _ (subst (Appends _ _) printed c.in_ok-put.ensures.ok) body) c.put-2.ensures.err

pub returns-clause-cause : goal.returns-clause-cause
returns-clause-cause g c = cause_on (g.L.Sink.faults c.args.link.now) (g.L.Sink.faults c.put.new.self) (g.L.Sink.faults c.put-2.new.self) c.put-2.result c.in_ok-put.ensures.cause.later c.put-2.ensures.cause

pub returns-clause-puts : goal.returns-clause-puts
returns-clause-puts g c =
    way_more g.L.Sink.keeps_at_put c.args.link.now c.put.new.self c.put-2.new.self (way_more g.L.Sink.keeps_at_put c.args.link.now c.args.link.now c.put.new.self (way_none g.L.Sink.keeps_at_put c.args.link.now) c.in_ok-put.ensures.same) c.put-2.ensures.same
