use Rattle.std.proofs.Common.{◌≡◌, ◌+◌, arith, sym, ◌∙◌}
use Rattle.std.proofs.lemmas.Bool.Decides.{nat_tests}
use Rattle.lk_http.proofs.HeadLemmas.{lines_in, line_more, line_same, lines_uncut}
use Rattle.lk_http.proofs.head.has_field_over.Goals as goal

pub returns-then-lines-gt-FIELD_LIMIT : goal.returns-then-lines-gt-FIELD_LIMIT
returns-then-lines-gt-FIELD_LIMIT c =
    let more : lines_in c.loop-line.rest.now ≡ 1 + lines_in c.in-Some.more.now = line_more c.loop-line.rest.now c.in-Some.line.now c.in-Some.more.now c.in-Some.ensures (sym c.is_empty_line.ensures ∙ c.if-not-is_empty_line.true) in
    let all = c.loop-line.invariant.all in
    grind (arith, nat_tests, more, all)

pub loop-line-preserved-else-lines-gt-FIELD_LIMIT : goal.loop-line-preserved-else-lines-gt-FIELD_LIMIT
loop-line-preserved-else-lines-gt-FIELD_LIMIT c =
    let more : lines_in c.loop-line.rest.now ≡ 1 + lines_in c.in-Some.more.now = line_more c.loop-line.rest.now c.in-Some.line.now c.in-Some.more.now c.in-Some.ensures (sym c.is_empty_line.ensures ∙ c.if-not-is_empty_line.true) in
    record { few = omega arith; all = omega (arith, more, c.loop-line.invariant.all) }

pub loop-line-preserved : goal.loop-line-preserved
loop-line-preserved c =
    let same : lines_in c.loop-line.rest.now ≡ lines_in c.in-Some.more.now = line_same c.loop-line.rest.now c.in-Some.line.now c.in-Some.more.now c.in-Some.ensures (sym c.is_empty_line.ensures ∙ c.if-not-is_empty_line.false) in
    record { few = c.loop-line.invariant.few; all = omega (arith, same, c.loop-line.invariant.all) }

pub returns : goal.returns
returns c =
    let none : lines_in c.loop-line.rest.now ≡ 0 = lines_uncut c.loop-line.rest.now c.in_default.ensures in
    let all = c.loop-line.invariant.all in
    grind (arith, nat_tests, none, all)
