use Rattle.std.proofs.Common.{sym, ap, ◌∙◌, nat_eq}
use Rattle.std.specs.HashMap.{get}
use Rattle.lk_val.specs.Texts.{is_same_text}
use Rattle.lk_region.proofs.ChainLaws.{left_first, next_smaller, left_next, left_none}
use Rattle.lk_region.proofs.region.Region.find.Goals as goal

pub loop-candidate-init : goal.loop-candidate-init
loop-candidate-init c =
    left_first c.self.inside.texts c.args.text.now c.self.inside.latest c.self.inside.earlier.items c.self.invariant.1
    c.copied-candidate.result
    (c.copied-candidate.ensures ∙ c.get.ensures.value
    ∙ ap (λ hash. get nat_eq c.self.inside.latest hash) c.hash_of.ensures)

pub get-requires-in-Some : goal.get-requires-in-Some
get-requires-in-Some c = (c.loop-candidate.invariant.found c.in-Some.number c.in-Some.is).0

pub loop-candidate-smaller : goal.loop-candidate-smaller
loop-candidate-smaller c =
    next_smaller c.self.inside.texts c.args.text.now c.self.inside.latest c.self.inside.earlier.items c.self.invariant.1
    c.loop-candidate.candidate c.in-Some.number c.in-Some.is c.loop-candidate.invariant c.index-candidate.result.now
    c.index-candidate.ensures

pub loop-candidate-preserved : goal.loop-candidate-preserved
loop-candidate-preserved c =
    left_next c.self.inside.texts c.args.text.now c.self.inside.latest c.self.inside.earlier.items c.self.invariant.1
    c.loop-candidate.candidate c.in-Some.number c.in-Some.is c.loop-candidate.invariant c.index-candidate.result.now
    c.index-candidate.ensures
    (ap (is_same_text c.args.text.now) (sym c.get-in-Some.ensures) ∙ sym c.eq.ensures ∙ c.if-eq.false)

pub returns-clause-absent : goal.returns-clause-absent
returns-clause-absent c =
    rw (sym c.self.view_is)
    (left_none c.args.text.now c.self.inside.texts c.loop-candidate.candidate c.in_default.is c.loop-candidate.invariant)
