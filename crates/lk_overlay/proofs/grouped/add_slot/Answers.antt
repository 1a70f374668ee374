use Rattle.std.proofs.Common.{◌∙◌, sym, ap}
use Rattle.std.specs.List.{list_any}
use Rattle.lk_overlay.specs.Overlay.{is_same_slot}
use Rattle.lk_overlay.proofs.GroupLaws.{known_by_key, new_by_key}
use Rattle.lk_overlay.proofs.grouped.add_slot.Goals as goal

pub returns-in_ok-push-clause-slots : goal.returns-in_ok-push-clause-slots
returns-in_ok-push-clause-slots c =
    c.in_ok-push.ensures.ok
    ∙ new_by_key c.args.slots.now c.args.slot _ _ c.in_ok-add_key.ensures.further (c.requires c.args.slot) c.if-branch.true

pub returns-in_ok-push-clause-keys : goal.returns-in_ok-push-clause-keys
returns-in_ok-push-clause-keys c = λ q.
    c.in_ok-add_key.ensures.keys c.args.slots.now c.requires q
    ∙ ap (list_any (is_same_slot q)) (sym (returns-in_ok-push-clause-slots c))

pub returns-else-branch-clause-slots : goal.returns-else-branch-clause-slots
returns-else-branch-clause-slots c =
    known_by_key c.args.slots.now c.args.slot _ _ c.in_ok-add_key.ensures.further (c.requires c.args.slot) c.if-branch.false

pub returns-else-branch-clause-keys : goal.returns-else-branch-clause-keys
returns-else-branch-clause-keys c = λ q.
    c.in_ok-add_key.ensures.keys c.args.slots.now c.requires q
    ∙ ap (list_any (is_same_slot q)) (sym (returns-else-branch-clause-slots c))
