use Rattle.std.proofs.Common.{sym, ap, ◌∙◌}
use Rattle.lk_types.specs.Fitting.{fit_of}
use Rattle.lk_types.proofs.FittingLaws.{fits, covers}
use Rattle.lk_types.proofs.pattern.matches.Goals as goal

pub returns-in-Whole : goal.returns-in-Whole
returns-in-Whole c = sym (fits c.args.pieces.now c.args.text.now ∙ ap covers (sym c.fit_front.ensures ∙ ap fit_of c.in-Whole.is))

pub returns-in-Not : goal.returns-in-Not
returns-in-Not c = sym (fits c.args.pieces.now c.args.text.now ∙ ap covers (sym c.fit_front.ensures ∙ ap fit_of c.in-Not.is))

pub returns-in-UpTo : goal.returns-in-UpTo
returns-in-UpTo c = c.matches_some_end.ensures ∙ sym (fits c.args.pieces.now c.args.text.now ∙ ap covers (sym c.fit_front.ensures ∙ ap fit_of c.in-UpTo.is))
