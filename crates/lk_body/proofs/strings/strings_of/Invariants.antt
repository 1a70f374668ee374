use Rattle.std.proofs.Common.{◌≡◌, drop}
use Rattle.serde_json.specs.View.{items_view}
use Rattle.lk_body.specs.Bodies.{strings_of}
use Rattle.lk_body.proofs.Fronts.{in_front}
use Rattle.lk_body.proofs.strings.strings_of.Given as goal

abbrev pub invariant-loop-item : goal.invariant-loop-item
invariant-loop-item l = in_front l.texts (strings_of (items_view (drop l.item-index l.items))) ≡ strings_of (items_view l.items)
