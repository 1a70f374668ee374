use Rattle.std.proofs.Common.{◌∙◌, ap, subst, sym}
use Rattle.lk_fields.specs.Reaching.{IsReached}
use Rattle.lk_fields.specs.Rows.{is_marked}
use Rattle.lk_fields.proofs.reaching.reaches_itself.Goals as goal

pub returns : goal.returns
returns c = (
  c.in_ok-marks.marks,
  subst (λ begun. IsReached c.args.rows.now begun c.in_ok-marks.marks) c.names_at.ensures c.in_ok-marks.ensures,
  c.is_marked.ensures ∙ ap (λ marks. is_marked marks c.args.start) c.as_slice.ensures,
)
