use Rattle.std.proofs.Common.{◌∙◌, Ok, ap, sym, inr}
use Rattle.lk_session.proofs.serving.check.Goals as goal

pub commit-requires : goal.commit-requires
commit-requires g c =
    inr (record { user = c.args.user.now; now = _; is = sym c.in-Ok-New.ensures ∙ ap Ok c.in-Ok-New.field-0-is })
