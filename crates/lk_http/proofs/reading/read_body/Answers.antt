use Rattle.std.proofs.Common.{◌++◌, ◌∙◌, Err, ap, arith, take}
use Rattle.std.proofs.KnownBytes.{Consumes-trans}
use Rattle.std.proofs.lemmas.List.{length-take-le}
use Rattle.std.proofs.lemmas.Result.{err_from_is_err_and}
use Rattle.lk_http.proofs.ReadingLemmas.{body_cut, body_more, body_unread, body_whole, kept_more, only_reads_on}
use Rattle.lk_http.proofs.WayLemmas.{way_behind}
use Rattle.lk_http.proofs.reading.read_body.Goals as goal

pub loop-missing-preserved : goal.loop-missing-preserved
loop-missing-preserved g c =
    let before = c.loop-missing.invariant in
    let got = c.in_ok-got.got in
    let piece = take got c.pull_piece.new.room in
    let within = length-take-le got c.pull_piece.new.room (omega (arith, c.in_ok-got.ensures.bound, c.min-most.ensures, c.pull_piece.auto.room)) in
    record {
      taken = before.taken ++ piece;
      count = body_more c.args.stated before.taken piece c.loop-missing.missing got before.count within (omega (arith, c.in_ok-got.ensures.bound, c.min-most.ensures));
      consumed = Consumes-trans (g.L.Source.left c.args.link.now) (g.L.Source.left c.loop-missing.link) (g.L.Source.left c.pull_piece.new.link) before.taken piece before.consumed c.in_ok-got.ensures.taken;
      kept = kept_more c.loop-missing.body c.append-body.result before.taken piece before.kept c.append-body.ensures.longer c.append-body.ensures.none;
      link = only_reads_on before.link c.in_ok-got.ensures.link;
      pulls = way_behind g.L.Source.keeps_at_pull c.args.link.now c.loop-missing.link c.pull_piece.new.link before.pulls c.in_ok-got.ensures.pulls;
    }

pub returns-in_err-got-clause-pulls : goal.returns-in_err-got-clause-pulls
returns-in_err-got-clause-pulls g c = way_behind g.L.Source.keeps_at_pull c.args.link.now c.loop-missing.link c.pull_piece.new.link c.loop-missing.invariant.pulls c.in_err-got.ensures.pulls

pub returns-then-got-eq0-clause-pulls : goal.returns-then-got-eq0-clause-pulls
returns-then-got-eq0-clause-pulls g c = way_behind g.L.Source.keeps_at_pull c.args.link.now c.loop-missing.link c.pull_piece.new.link c.loop-missing.invariant.pulls c.in_ok-got.ensures.pulls

pub returns-then-got-eq0-clause-read : goal.returns-then-got-eq0-clause-read
returns-then-got-eq0-clause-read g c =
    let before = c.loop-missing.invariant in
    let got = c.in_ok-got.got in
    let piece = take got c.pull_piece.new.room in
    let within = length-take-le got c.pull_piece.new.room (omega (arith, c.in_ok-got.ensures.bound, c.min-most.ensures, c.pull_piece.auto.room)) in
    body_cut (g.L.Source.left c.args.link.now) (g.L.Source.left c.loop-missing.link) (g.L.Source.left c.pull_piece.new.link) c.args.stated before.taken piece c.loop-missing.missing
    before.count (omega (arith, within, c.if-got-eq0.true, c.loop-missing-test.true)) before.consumed c.in_ok-got.ensures.taken (c.in_ok-got.ensures.ended c.if-got-eq0.true)

pub returns-in_err-got-clause-read : goal.returns-in_err-got-clause-read
returns-in_err-got-clause-read g c =
    let before = c.loop-missing.invariant in
    let failed = err_from_is_err_and c.from_residual-in_err-got.result c.from_residual-in_err-got.ensures.1 in
    body_unread (g.L.Source.left c.args.link.now) (g.L.Source.left c.loop-missing.link) (g.L.Source.left c.pull_piece.new.link) c.args.stated before.taken c.loop-missing.missing c.from_residual-in_err-got.result
    before.count (omega (arith, c.loop-missing-test.true)) before.consumed c.in_err-got.ensures.untaken (failed.1 ∙ ap Err (failed.2 ∙ c.in_err-got.ensures.fault))

pub returns-clause-read : goal.returns-clause-read
returns-clause-read g c =
    let before = c.loop-missing.invariant in
    body_whole (g.L.Source.left c.args.link.now) (g.L.Source.left c.loop-missing.link) c.args.stated before.taken c.loop-missing.missing c.loop-missing.body before.count (omega (arith, c.loop-missing-test.false)) before.consumed before.kept

pub returns-then-got-eq0-clause-link : goal.returns-then-got-eq0-clause-link
returns-then-got-eq0-clause-link g c = only_reads_on c.loop-missing.invariant.link c.in_ok-got.ensures.link

pub returns-in_err-got-clause-link : goal.returns-in_err-got-clause-link
returns-in_err-got-clause-link g c = only_reads_on c.loop-missing.invariant.link c.in_err-got.ensures.link
