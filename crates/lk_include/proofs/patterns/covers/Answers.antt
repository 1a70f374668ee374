use Rattle.std.proofs.Common.{sym, ap, ◌∙◌}
use Rattle.lk_include.specs.Patterns.{is_any_folders, matches_name}
use Rattle.lk_include.specs.Fitting.{names_fit_of}
use Rattle.lk_include.proofs.FittingLaws.{fits, meaning}
use Rattle.lk_include.proofs.patterns.covers.Goals as goal

pub returns-in-Whole : goal.returns-in-Whole
returns-in-Whole c =
    sym (fits is_any_folders matches_name c.args.pattern.now c.args.names.now
    ∙ ap (meaning is_any_folders matches_name) (sym c.names_fit.ensures ∙ ap names_fit_of c.in-Whole.is))

pub returns-in-Not : goal.returns-in-Not
returns-in-Not c =
    sym (fits is_any_folders matches_name c.args.pattern.now c.args.names.now
    ∙ ap (meaning is_any_folders matches_name) (sym c.names_fit.ensures ∙ ap names_fit_of c.in-Not.is))

pub returns-in-UpTo : goal.returns-in-UpTo
returns-in-UpTo c =
    c.covers_end_of_names.ensures
    ∙ sym (fits is_any_folders matches_name c.args.pattern.now c.args.names.now
    ∙ ap (meaning is_any_folders matches_name) (sym c.names_fit.ensures ∙ ap names_fit_of c.in-UpTo.is))
