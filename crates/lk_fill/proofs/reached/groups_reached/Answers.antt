use Rattle.std.proofs.Common.{◌≡◌, ◌∙◌, suc, ◌+◌, ap, arith, map}
use Rattle.lk_types.specs.declared.model.Derived.{Derived}
use Rattle.lk_fill.specs.Reached.{groups_next}
use Rattle.lk_fill.proofs.ReachedLaws.{own_within, round_next}
use Rattle.lk_fill.proofs.reached.groups_reached.Goals as goal

pub loop-round-preserved : goal.loop-round-preserved
loop-round-preserved c =
    let k = c.loop-round._round in
    let next : k + 1 ≡ suc k = omega arith in
    c.in_ok-groups-2.ensures
    ∙ (λ i. groups_next (c.as_slice-in-loop-round.ensures i) (c.as_slice-in-loop-round-2.ensures i) (c.as_slice-in-loop-round-3.ensures i))
    ∙ round_next c.args.m.now c.requires k (k + 1) c.loop-round.groups c.in_ok-reads.reads next c.loop-round.invariant c.in_ok-reads.ensures

pub loop-round-init : goal.loop-round-init
loop-round-init c =
    own_within c.args.m.now c.in_ok-groups.groups (c.in_ok-groups.ensures ∙ ap (map (λ (d : Derived). d.datagroup)) c.as_slice.ensures)
