use Rattle.std.proofs.Common.{◌∷◌, [], subst, sym}
use Rattle.std.specs.Prelude.{slice_set, true}
use Rattle.lk_fields.specs.Reaching.{IsVisit}
use Rattle.lk_fields.proofs.ReachingLaws.{visit_new}
use Rattle.lk_fields.proofs.reaching.visit.Goals as goal

pub returns : goal.returns
returns c =
    let n = c.args.number in
    let marks = c.args.marks.now in
    subst (λ found. IsVisit (n ∷ []) marks c.args.found.now (slice_set marks n true) found) (sym c.in_ok-push.ensures.ok)
    (visit_new n marks c.args.found.now c.if-number-marks.false c.if-marks-number.false)
