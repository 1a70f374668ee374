use Rattle.std.proofs.Common.{sym, ap, ◌∙◌}
use Rattle.std.specs.Prelude.{nat_eq}
use Rattle.lk_include.specs.Patterns.{is_star}
use Rattle.lk_include.specs.Fitting.{name_fit_of}
use Rattle.lk_include.proofs.FittingLaws.{fits, meaning}
use Rattle.lk_include.proofs.patterns.matches_name.Goals as goal

pub returns-in-Whole : goal.returns-in-Whole
returns-in-Whole c =
    sym (fits is_star nat_eq c.args.pattern.now c.args.name.now
    ∙ ap (meaning is_star nat_eq) (sym c.name_fit.ensures ∙ ap name_fit_of c.in-Whole.is))

pub returns-in-Not : goal.returns-in-Not
returns-in-Not c =
    sym (fits is_star nat_eq c.args.pattern.now c.args.name.now
    ∙ ap (meaning is_star nat_eq) (sym c.name_fit.ensures ∙ ap name_fit_of c.in-Not.is))

pub returns-in-UpTo : goal.returns-in-UpTo
returns-in-UpTo c =
    c.matches_end_of_name.ensures
    ∙ sym (fits is_star nat_eq c.args.pattern.now c.args.name.now
    ∙ ap (meaning is_star nat_eq) (sym c.name_fit.ensures ∙ ap name_fit_of c.in-UpTo.is))
