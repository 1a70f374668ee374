use Rattle.std.proofs.Common.{◌+◌, ◌∷◌, ◌++◌, ◌∙◌, ap, sym, drop}
use Rattle.std.proofs.lemmas.List.{drop_more}
use Rattle.lk_val.specs.Texts.{is_same_text}
use Rattle.lk_params.specs.Picking.{firsts}
use Rattle.lk_params.proofs.FirstLaws.{left}
use Rattle.lk_params.proofs.Steps.{text_step}
use Rattle.lk_params.proofs.overlay.firsts.Goals as goal

pub loop-text-preserved : goal.loop-text-preserved
loop-text-preserved c =
    let texts = c.args.texts.now in
    let i = c.loop-text.text-index in
    let known = c.loop-text.once in
    let x = c.text-item.result in
    ap (λ o. o ++ left is_same_text o (firsts is_same_text (drop (i + 1) texts))) c.in_ok-once.ensures
    ∙ text_step known x (drop (i + 1) texts)
    ∙ ap (λ t. known ++ left is_same_text known (firsts is_same_text t)) (ap (λ y. y ∷ drop (i + 1) texts) c.text-item.is ∙ sym (drop_more texts i x c.loop-text-test.true))
    ∙ c.loop-text.invariant
