use Rattle.std.proofs.Common.{◌≡◌, ◌+◌, ◌-◌, ◌∙◌, true, suc, arith, ap, sym}
use Rattle.std.specs.List.{list_any}
use Rattle.lk_scope.specs.Components.{components_within, is_over_at, replaced}
use Rattle.lk_scope.proofs.ComponentLaws.{one_more}
use Rattle.lk_scope.proofs.component.components_within.Goals as goal

pub loop-round-preserved : goal.loop-round-preserved
loop-round-preserved c =
    let views = c.args.views.now in
    let scope = c.args.scope.now in
    let places = c.loop-round.places in
    let rest = c.args.most - (c.loop-round._round + 1) in
    let left : c.args.most - c.loop-round._round ≡ suc rest = omega arith in
    let made : c.in_ok-places.places ≡ replaced views scope places =
    c.in_ok-places.ensures ∙ ap (replaced views scope) c.as_slice-in-loop-round.ensures in
    let has : list_any (is_over_at views scope) places ≡ true =
    ap (list_any (is_over_at views scope)) (sym c.as_slice.ensures) ∙ sym c.if-not-has_number.ensures in
    record {
      begun = omega arith;
      rest = ap (components_within views scope rest) made
          ∙ one_more views scope rest places has
          ∙ ap (λ n. components_within views scope n places) (sym left)
          ∙ c.loop-round.invariant.rest;
    }
