use Rattle.std.proofs.Common.{◌≡◌, ◌∙◌, ◌||◌, Some, true, false, sym, ap, take}
use Rattle.std.specs.BTreeSet.{contains}
use Rattle.lk_schema.specs.Rows.{have_one_mark, is_marked, stands_again}
use Rattle.lk_schema.proofs.RowLaws.{again_known, is_seen, not_false, not_true, seen_more, step_again, step_new}
use Rattle.lk_schema.proofs.again.first_again.Goals as goal

pub returns-then-not-branch : goal.returns-then-not-branch
returns-then-not-branch g c =
    let is_same = g.R.Mark.PartialEq.eq in
    let mark_of = g.R.StandsOnce.mark_of in
    let line_of = g.R.StandsOnce.line_of in
    let rows = c.args.rows.now in
    let i = c.loop-place.place in
    let x = c.index-rows-place.result in
    let known = contains g.R.Mark.Ord.cmp c.loop-place.seen in
    let again : stands_again is_same mark_of line_of (take i rows) x ≡ true =
    again_known is_same mark_of line_of known (take i rows) x c.loop-place.invariant.known
    ∙ ap (is_marked known) (sym c.in_ok-mark.ensures)
    ∙ not_false _ (sym c.if-not-branch.true ∙ c.in_ok-take_up.ensures.fresh) in
    ap Some c.in_ok-line_of.ensures
    ∙ step_again is_same mark_of line_of rows i x c.loop-place-test.true c.index-rows-place.is again
    ∙ c.loop-place.invariant.rest

pub loop-place-preserved : goal.loop-place-preserved
loop-place-preserved g c =
    let is_same = g.R.Mark.PartialEq.eq in
    let mark_of = g.R.StandsOnce.mark_of in
    let line_of = g.R.StandsOnce.line_of in
    let rows = c.args.rows.now in
    let i = c.loop-place.place in
    let x = c.index-rows-place.result in
    let known = contains g.R.Mark.Ord.cmp c.loop-place.seen in
    let new : stands_again is_same mark_of line_of (take i rows) x ≡ false =
    again_known is_same mark_of line_of known (take i rows) x c.loop-place.invariant.known
    ∙ ap (is_marked known) (sym c.in_ok-mark.ensures)
    ∙ not_true _ (sym c.if-not-branch.false ∙ c.in_ok-take_up.ensures.fresh) in
    record {
      known = λ m. c.in_ok-take_up.ensures.seen m
          ∙ ap (λ b. have_one_mark is_same c.in_ok-mark.mark (Some m) || b) (c.loop-place.invariant.known m)
          ∙ ap (λ o. have_one_mark is_same o (Some m) || is_seen is_same mark_of (take i rows) m) c.in_ok-mark.ensures
          ∙ seen_more is_same mark_of rows i x c.loop-place-test.true c.index-rows-place.is m;
      rest = step_new is_same mark_of line_of rows i x c.loop-place-test.true c.index-rows-place.is new
          ∙ c.loop-place.invariant.rest;
    }
