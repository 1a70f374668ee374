use Rattle.std.proofs.Common.{◌≡◌}
use Rattle.serde_json.specs.View.{members_view}
use Rattle.lk_body.specs.Bodies.{pairs_of}
use Rattle.lk_body.proofs.Fronts.{in_front}
use Rattle.lk_body.proofs.strings.pairs_of.Given as goal

abbrev pub invariant-loop-key : goal.invariant-loop-key
invariant-loop-key l = in_front l.pairs (pairs_of (members_view l.key-iterator)) ≡ pairs_of (members_view l.members.entries)
