use Rattle.std.proofs.Common.{◌≡◌, [], append-nil, drop, sym, subst, arith}
use Rattle.std.specs.Prelude.{Ok}
use Rattle.std.proofs.lemmas.List.{drop_all}
use Rattle.std.proofs.lemmas.Result.{err_from_is_err_and}
use Rattle.lk_body.specs.Faults.{is_no_memory}
use Rattle.lk_query.specs.Readings.{AreRead, nothing}
use Rattle.lk_query.proofs.MemoryLaws.{unless_weaker}
use Rattle.lk_query.proofs.ReadingLaws.{next_read, next_refused}
use Rattle.lk_query.proofs.readings.read_texts.Goals as goal

pub returns-in_err-read_text : goal.returns-in_err-read_text
returns-in_err-read_text c =
    let l = c.loop-text in
    let fault = c.in_err-read_text.field-0.0 in
    let p = err_from_is_err_and c.from_residual.result c.from_residual.ensures.1 in
    rw (p.1, p.2) (unless_weaker (is_no_memory fault) (λ is. next_refused c.args.texts.now l.text-index l.filters c.text-item.result fault c.loop-text-test.true c.text-item.is is l.invariant) c.in_err-read_text.ensures)

pub loop-text-preserved : goal.loop-text-preserved
loop-text-preserved c =
    let l = c.loop-text in
    next_read c.args.texts.now l.text-index l.filters c.push.new.self c.text-item.result c.in_ok-read_text.field-0
    c.loop-text-test.true c.text-item.is c.in_ok-push.ensures.ok c.in_ok-read_text.ensures l.invariant

pub returns : goal.returns
returns c =
    let l = c.loop-text in
    let none : drop l.text-index c.args.texts.now ≡ [] = drop_all l.text-index c.args.texts.now (omega (arith, c.loop-text-test.false)) in
    subst (λ fs. AreRead c.args.texts.now (Ok fs)) (append-nil l.filters) (l.invariant (Ok []) (subst (λ ts. AreRead ts (Ok [])) (sym none) nothing))
