use Rattle.std.proofs.Common.{◌≡◌, sym, ap, ◌∙◌}
use Rattle.lk_types.specs.Fitting.{fit_front, fit_of, whole, no, up_to}
use Rattle.lk_types.proofs.FittingLaws.{goes_whole, goes_further, goes_nowhere, goes_behind, less_left}
use Rattle.lk_types.proofs.pattern.matches_some_end.Goals as goal

pub returns-in-Whole : goal.returns-in-Whole
returns-in-Whole c =
    let whole : fit_front c.loop-further.left.now c.loop-further.rest.now ≡ whole = sym c.fit_front.ensures ∙ ap fit_of c.in-Whole.is in
    sym (goes_whole c.loop-further.left.now c.loop-further.rest.now whole) ∙ c.loop-further.invariant

pub loop-further-smaller-in-UpTo : goal.loop-further-smaller-in-UpTo
loop-further-smaller-in-UpTo c =
    let further : fit_front c.loop-further.left.now c.loop-further.rest.now ≡ up_to c.in-UpTo.further.now c.in-UpTo.behind.now = sym c.fit_front.ensures ∙ ap fit_of c.in-UpTo.is in
    less_left c.loop-further.left.now c.loop-further.rest.now c.in-UpTo.further.now c.in-UpTo.behind.now further

pub loop-further-preserved-in-UpTo : goal.loop-further-preserved-in-UpTo
loop-further-preserved-in-UpTo c =
    let further : fit_front c.loop-further.left.now c.loop-further.rest.now ≡ up_to c.in-UpTo.further.now c.in-UpTo.behind.now = sym c.fit_front.ensures ∙ ap fit_of c.in-UpTo.is in
    sym (goes_further c.loop-further.left.now c.loop-further.rest.now c.in-UpTo.further.now c.in-UpTo.behind.now further) ∙ c.loop-further.invariant

pub returns-in-None : goal.returns-in-None
returns-in-None c =
    let none : fit_front c.loop-further.left.now c.loop-further.rest.now ≡ no = sym c.fit_front.ensures ∙ ap fit_of c.in-Not.is in
    sym (goes_nowhere c.loop-further.left.now c.loop-further.rest.now c.in-None.ensures.cases none) ∙ c.loop-further.invariant

pub loop-further-preserved : goal.loop-further-preserved
loop-further-preserved c =
    let none : fit_front c.loop-further.left.now c.loop-further.rest.now ≡ no = sym c.fit_front.ensures ∙ ap fit_of c.in-Not.is in
    goes_behind c.loop-further.left.now c.loop-further.rest.now c.in-Some.field-0-0.now c.in-Some.behind.now c.in-Some.ensures.cases.0 none ∙ c.loop-further.invariant
