use Rattle.std.proofs.Common.{◌∙◌, refl, sym, ap}
use Rattle.std.specs.Prelude.{not}
use Rattle.lk_overlay.specs.Grouped.{has_key, key_of}
use Rattle.lk_overlay.proofs.GroupLaws.{keys_alone, keys_known, keys_more}
use Rattle.lk_overlay.proofs.grouped.add_key.Goals as goal

pub returns-in-None-clause-further : goal.returns-in-None-clause-further
returns-in-None-clause-further c =
    ap (λ key. not (has_key c.args.seen.now key)) (sym c.in-None.is ∙ c.in_ok-key_of.ensures)

pub returns-in-None-clause-keys : goal.returns-in-None-clause-keys
returns-in-None-clause-keys c = λ slots known.
    keys_known slots c.args.slot.now (has_key c.args.seen.now)
    (λ q. keys_alone slots c.args.slot.now q (has_key c.args.seen.now (key_of q)) (sym c.in_ok-key_of.ensures ∙ c.in-None.is) (known q))

pub returns-in_ok-insert-in-Some-clause-further : goal.returns-in_ok-insert-in-Some-clause-further
returns-in_ok-insert-in-Some-clause-further c =
    c.in_ok-insert-in-Some.ensures.added
    ∙ ap (λ key. not (has_key c.args.seen.now key)) (sym c.in-Some.is ∙ c.in_ok-key_of.ensures)

pub returns-in_ok-insert-in-Some-clause-keys : goal.returns-in_ok-insert-in-Some-clause-keys
returns-in_ok-insert-in-Some-clause-keys c = λ slots known.
    keys_known slots c.args.slot.now (has_key c.insert.new.self)
    (keys_more slots c.args.slot.now c.in-Some.key (has_key c.insert.new.self) (has_key c.args.seen.now)
    (sym c.in_ok-key_of.ensures ∙ c.in-Some.is) refl refl (λ key. c.in_ok-insert-in-Some.ensures.updates.0 key) known)
