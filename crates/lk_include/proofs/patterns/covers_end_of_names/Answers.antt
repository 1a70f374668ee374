use Rattle.std.proofs.Common.{◌≡◌, sym, ap, ◌∙◌}
use Rattle.lk_include.specs.Patterns.{is_any_folders, matches_name}
use Rattle.lk_include.specs.Fitting.{names_fit, names_fit_of, whole, no, up_to}
use Rattle.lk_include.proofs.FittingLaws.{goes_whole, goes_further, goes_nowhere, goes_behind, less_left}
use Rattle.lk_include.proofs.patterns.covers_end_of_names.Goals as goal

pub returns-in-Whole : goal.returns-in-Whole
returns-in-Whole c =
    let all : names_fit c.loop-further.left.now c.loop-further.rest.now ≡ whole = sym c.names_fit.ensures ∙ ap names_fit_of c.in-Whole.is in
    sym (goes_whole is_any_folders matches_name c.loop-further.left.now c.loop-further.rest.now all) ∙ c.loop-further.invariant

pub loop-further-smaller-in-UpTo : goal.loop-further-smaller-in-UpTo
loop-further-smaller-in-UpTo c =
    let further : names_fit c.loop-further.left.now c.loop-further.rest.now ≡ up_to c.in-UpTo.further.now c.in-UpTo.behind.now = sym c.names_fit.ensures ∙ ap names_fit_of c.in-UpTo.is in
    less_left is_any_folders matches_name c.loop-further.left.now c.loop-further.rest.now c.in-UpTo.further.now c.in-UpTo.behind.now further

pub loop-further-preserved-in-UpTo : goal.loop-further-preserved-in-UpTo
loop-further-preserved-in-UpTo c =
    let further : names_fit c.loop-further.left.now c.loop-further.rest.now ≡ up_to c.in-UpTo.further.now c.in-UpTo.behind.now = sym c.names_fit.ensures ∙ ap names_fit_of c.in-UpTo.is in
    sym (goes_further is_any_folders matches_name c.loop-further.left.now c.loop-further.rest.now c.in-UpTo.further.now c.in-UpTo.behind.now further) ∙ c.loop-further.invariant

pub returns-in-None : goal.returns-in-None
returns-in-None c =
    let none : names_fit c.loop-further.left.now c.loop-further.rest.now ≡ no = sym c.names_fit.ensures ∙ ap names_fit_of c.in-Not.is in
    sym (goes_nowhere is_any_folders matches_name c.loop-further.left.now c.loop-further.rest.now c.in-None.ensures.cases none) ∙ c.loop-further.invariant

pub loop-further-preserved : goal.loop-further-preserved
loop-further-preserved c =
    let none : names_fit c.loop-further.left.now c.loop-further.rest.now ≡ no = sym c.names_fit.ensures ∙ ap names_fit_of c.in-Not.is in
    goes_behind is_any_folders matches_name c.loop-further.left.now c.loop-further.rest.now c.in-Some.field-0-0.now c.in-Some.behind.now c.in-Some.ensures.cases.0 none ∙ c.loop-further.invariant
