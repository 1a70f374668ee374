use Rattle.std.proofs.Common.{◌≡◌, ◌++◌, drop, map}
use Rattle.serde_json.specs.Data.{string}
use Rattle.serde_json.specs.View.{view}
use Rattle.lk_reply.specs.Answers.{name_of}
use Rattle.lk_reply.proofs.json_answer.names_of.Given as goal

abbrev pub invariant-loop-pick : goal.invariant-loop-pick
invariant-loop-pick l =
    map view l.names.items ++ map (λ p. string (name_of l.x p)) (drop l.pick-index l.picks) ≡ map (λ p. string (name_of l.x p)) l.picks
