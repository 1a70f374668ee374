use Rattle.std.proofs.Common.{◌∙◌, ap, sym, string_bytes}
use Rattle.serde_json.specs.Find.{as_str}
use Rattle.serde_json.specs.View.{members_view, view}
use Rattle.lk_body.specs.Bodies.{pairs_of}
use Rattle.lk_body.proofs.Fronts.{in_front, pair_in_front}
use Rattle.lk_body.proofs.strings.pairs_of.Goals as goal

pub loop-key-preserved : goal.loop-key-preserved
loop-key-preserved c =
    let l = c.loop-key in
    let left = c.next.new.self in
    pair_in_front l.pairs c.push.new.self (string_bytes c.in-Some.key.now) c.in-Some-as_str.text.now c.in_ok-key-in-Some-as_str.key c.in_ok-from_str-in-Some-as_str.field-0
    (as_str (view c.in-Some.member.now)) (pairs_of (members_view left)) c.in_ok-push-in-Some-as_str.ensures.ok
    (c.in_ok-key-in-Some-as_str.ensures ∙ c.as_str-in-Some-as_str.ensures.value) c.in_ok-from_str-in-Some-as_str.ensures c.in-Some-as_str.ensures
    ∙ ap (λ es. in_front l.pairs (pairs_of (members_view es))) (sym c.in-Some.ensures.steps)
    ∙ l.invariant
