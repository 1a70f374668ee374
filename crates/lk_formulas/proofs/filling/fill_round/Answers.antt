use Rattle.std.proofs.Common.{◌∙◌, sym, subst, arith}
use Rattle.std.proofs.lemmas.Bool.{false≢true}
use Rattle.lk_formulas.proofs.FillLaws.{CoversBelow, below_next, covers_all, same_end}
use Rattle.lk_formulas.proofs.filling.fill_round.Goals as goal
use Rattle.lk_formulas.proofs.filling.fill_round.Goals.{then-has_grown, else-has_grown}

pub loop-number-preserved : goal.loop-number-preserved
loop-number-preserved c =
    let s = c.in_ok-is_new.ensures in
    let inv = c.loop-number.invariant in
    let within = c.loop-number-test.true in
    record {
      begun = omega (arith, within);
      right = s.right;
      stays = λ i h. s.stays i (inv.stays i h);
      below =
          below_next c.args.rows.now c.args.fields.now c.loop-number.fields c.fill_one.new.fields c.loop-number.number c.index-rows-number.result
          within c.index-rows-number.is inv.stays s.stays s.taken inv.below;
      same = elim c.if-has_grown.branch [
        | then-has_grown w ↦ λ e. absurd (false≢true (sym e ∙ w.has_grown-is ∙ w.if-has_grown.true))
        | else-has_grown w ↦ λ e. s.same (sym w.has_grown-is ∙ e) ∙ inv.same w.if-has_grown.false
      ];
    }

pub returns : goal.returns
returns c =
    let inv = c.loop-number.invariant in
    let rows = c.args.rows.now in
    record {
      right = inv.right;
      covers = covers_all rows c.args.fields.now c.loop-number.fields
          (subst (λ n. CoversBelow rows c.args.fields.now c.loop-number.fields n) (same_end _ _ inv.begun c.loop-number-test.false) inv.below);
      same = inv.same;
    }
