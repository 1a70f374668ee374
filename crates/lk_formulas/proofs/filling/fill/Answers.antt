use Rattle.std.proofs.Common.{◌≡◌, ◌+◌, suc, length, sym, subst, arith}
use Rattle.lk_fields.specs.declared.rows.Rule.TheVariants.{Ends}
use Rattle.lk_fields.specs.Rows.{marks_after, row_at}
use Rattle.lk_formulas.specs.Filling.{AreRight, Covers}
use Rattle.lk_formulas.proofs.FillLaws.{all_filled, covers_on, mapped_length, none_marked, none_right, same_end}
use Rattle.lk_formulas.proofs.filling.fill.Goals as goal

pub loop-round-init : goal.loop-round-init
loop-round-init c =
    let schema = c.args.names.now.schema.now in
    let views = c.args.names.now.views.now in
    let scope = c.args.names.now.scope.now in
    let columns = c.args.columns.now in
    let u = c.args.unknown in
    let places = c.args.names.now.places.now in
    let rows = c.args.rows.now in
    record {
      begun = omega arith;
      right = subst (λ fs. AreRight schema views scope columns u places fs) (sym c.requires.empty)
          (none_right schema views scope columns u places rows (mapped_length (row_at Ends views scope places) places rows c.requires.rows));
      covers = none_marked rows c.args.fields.now;
    }

pub returns-then-not-has_grown : goal.returns-then-not-has_grown
returns-then-not-has_grown c =
    let r = c.in_ok-has_grown.ensures in
    let rows = c.args.rows.now in
    let now = c.fill_round.new.fields in
    let same = r.same c.if-not-has_grown.true in
    all_filled c.args.names.now.schema.now c.args.names.now.views.now c.args.names.now.scope.now c.args.columns.now c.args.unknown c.args.names.now.places.now rows now
    c.requires.places c.requires.rows r.right
    (covers_on rows now (λ k covers. r.covers k (subst (λ fs. Covers (marks_after Ends k rows) fs) same covers)) (length rows))

pub loop-round-preserved : goal.loop-round-preserved
loop-round-preserved c =
    let r = c.in_ok-has_grown.ensures in
    let inv = c.loop-round.invariant in
    let k = c.loop-round._round in
    let within = c.loop-round-test.true in
    let one : suc k ≡ k + 1 = omega arith in
    record {
      begun = omega (arith, within);
      right = r.right;
      covers = subst (λ n. Covers (marks_after Ends n c.args.rows.now) c.fill_round.new.fields) one (r.covers k inv.covers);
    }

pub returns : goal.returns
returns c =
    let inv = c.loop-round.invariant in
    let rows = c.args.rows.now in
    all_filled c.args.names.now.schema.now c.args.names.now.views.now c.args.names.now.scope.now c.args.columns.now c.args.unknown c.args.names.now.places.now rows c.loop-round.fields
    c.requires.places c.requires.rows inv.right
    (subst (λ n. Covers (marks_after Ends n rows) c.loop-round.fields) (same_end _ _ inv.begun c.loop-round-test.false) inv.covers)
