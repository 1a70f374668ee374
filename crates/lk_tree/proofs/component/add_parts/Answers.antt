use Rattle.std.proofs.Common.{◌≡◌, ◌<◌, ◌∙◌, ◌++◌, ◌∷◌, [], ◌-◌, ℕ, List, suc, ap, sym, subst, append_assoc, arith}
use Rattle.std.specs.Prelude.{option_map}
use Rattle.lk_tree.proofs.StackedLaws.{more-parts, more-steps, none-parts, none-steps, one-parts, one-steps, parts_left, steps_left}
use Rattle.lk_tree.proofs.component.add_parts.Goals as goal

pub loop-most-smaller-then-most-eq0 : goal.loop-most-smaller-then-most-eq0
loop-most-smaller-then-most-eq0 c = none-steps c.args.x.now c.loop-most.left.items c.pop.new.self.items c.in-Some.most c.in-Some.m c.in-Some.ensures.items c.if-most-eq0.true

pub loop-most-preserved-then-most-eq0 : goal.loop-most-preserved-then-most-eq0
loop-most-preserved-then-most-eq0 c =
    ap (λ (ps : List ℕ). c.loop-most.parts ++ ps) (sym (none-parts c.args.x.now c.loop-most.left.items c.pop.new.self.items c.in-Some.most c.in-Some.m c.in-Some.ensures.items c.if-most-eq0.true))
    ∙ c.loop-most.invariant

pub loop-most-smaller-in_default-calculation_of : goal.loop-most-smaller-in_default-calculation_of
loop-most-smaller-in_default-calculation_of c =
    let n = c.in-Some.most - 1 in
    let further : c.in-Some.most ≡ suc n = omega (arith, c.if-most-eq0.false) in
    one-steps c.args.x.now c.loop-most.left.items c.pop.new.self.items c.in-Some.most c.in-Some.m c.in-Some.ensures.items n further

pub loop-most-preserved-in_default-calculation_of : goal.loop-most-preserved-in_default-calculation_of
loop-most-preserved-in_default-calculation_of c =
    let x = c.args.x.now in
    let rest = c.pop.new.self.items in
    let n = c.in-Some.most - 1 in
    let further : c.in-Some.most ≡ suc n = omega (arith, c.if-most-eq0.false) in
    let is = sym c.calculation_of.ensures ∙ ap (option_map (λ number. number.now)) c.in_default-calculation_of.is in
    ap (λ (ps : List ℕ). ps ++ parts_left x rest) c.in_ok-push-2.ensures.ok
    ∙ append_assoc c.loop-most.parts (c.in-Some.m ∷ []) (parts_left x rest)
    ∙ ap (λ (ps : List ℕ). c.loop-most.parts ++ ps) (sym (one-parts x c.loop-most.left.items rest c.in-Some.most c.in-Some.m c.in-Some.ensures.items n further is))
    ∙ c.loop-most.invariant

pub loop-most-smaller : goal.loop-most-smaller
loop-most-smaller c =
    let x = c.args.x.now in
    let number = c.in-Some-calculation_of.number.now in
    let n = c.in-Some.most - 1 in
    let further : c.in-Some.most ≡ suc n = omega (arith, c.if-most-eq0.false) in
    let is = sym c.calculation_of.ensures ∙ ap (option_map (λ number. number.now)) c.in-Some-calculation_of.is in
    subst (λ (left : List (ℕ × ℕ)). steps_left x left < steps_left x c.loop-most.left.items) (sym c.in_ok-add_named.ensures)
    (more-steps x c.loop-most.left.items c.pop.new.self.items c.in-Some.most c.in-Some.m c.in-Some.ensures.items n further number is)

pub loop-most-preserved : goal.loop-most-preserved
loop-most-preserved c =
    let x = c.args.x.now in
    let number = c.in-Some-calculation_of.number.now in
    let n = c.in-Some.most - 1 in
    let further : c.in-Some.most ≡ suc n = omega (arith, c.if-most-eq0.false) in
    let is = sym c.calculation_of.ensures ∙ ap (option_map (λ number. number.now)) c.in-Some-calculation_of.is in
    ap (λ (left : List (ℕ × ℕ)). c.loop-most.parts ++ parts_left x left) c.in_ok-add_named.ensures
    ∙ ap (λ (ps : List ℕ). c.loop-most.parts ++ ps) (sym (more-parts x c.loop-most.left.items c.pop.new.self.items c.in-Some.most c.in-Some.m c.in-Some.ensures.items n further number is))
    ∙ c.loop-most.invariant
