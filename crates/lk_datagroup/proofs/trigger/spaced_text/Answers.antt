use Rattle.std.proofs.Common.{◌≡◌, ◌∙◌, ◌+◌, ◌++◌, [], ap, append-nil, append_assoc, arith, drop, get_or, sym}
use Rattle.std.specs.List.{flat_map}
use Rattle.std.proofs.lemmas.List.{drop_all, drop_more}
use Rattle.lk_datagroup.specs.Triggers.{spaced}
use Rattle.lk_datagroup.proofs.trigger.spaced_text.Goals as goal

pub loop-byte-preserved : goal.loop-byte-preserved
loop-byte-preserved c =
    let text = c.args.text.now in
    let l = c.loop-byte in
    let place = l.byte-index in
    let rest = flat_map spaced (drop (place + 1) text) in
    ap (λ bs. bs ++ rest) c.in_ok-push_spaced.ensures
    ∙ append_assoc l.bytes.items (spaced (get_or text place 0)) rest
    ∙ ap (λ t. l.bytes.items ++ flat_map spaced t) (sym (drop_more text place 0 c.loop-byte-test.true))
    ∙ l.invariant

pub returns : goal.returns
returns c =
    let text = c.args.text.now in
    let l = c.loop-byte in
    let none : drop l.byte-index text ≡ [] = drop_all l.byte-index text (omega (arith, c.loop-byte-test.false)) in
    sym (append-nil l.bytes.items) ∙ ap (λ t. l.bytes.items ++ flat_map spaced t) (sym none) ∙ l.invariant
