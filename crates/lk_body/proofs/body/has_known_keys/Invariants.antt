use Rattle.std.proofs.Common.{◌≡◌}
use Rattle.serde_json.specs.View.{members_view}
use Rattle.lk_body.specs.Bodies.{has_known_keys}
use Rattle.lk_body.proofs.body.has_known_keys.Given as goal

abbrev pub invariant-loop-key : goal.invariant-loop-key
invariant-loop-key l = has_known_keys (members_view l.key-iterator) ≡ has_known_keys (members_view l.members.entries)
