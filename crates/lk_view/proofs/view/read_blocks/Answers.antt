use Rattle.std.proofs.Common.{◌≡◌, ◌∙◌, ◌+◌, [], ◌∷◌, ◌++◌, map, take, ap, sym, subst}
use Rattle.std.proofs.lemmas.List.{map-append, take_more}
use Rattle.lk_view.specs.Views.{AreFields}
use Rattle.lk_view.proofs.FieldListLaws.{one_more}
use Rattle.lk_view.proofs.view.read_blocks.Goals as goal

pub loop-block-preserved : goal.loop-block-preserved
loop-block-preserved c =
    let view = c.args.view.now in
    let blocks = c.args.blocks.now in
    let i = c.loop-block.block-index in
    let block = c.block-item.result in
    let read = map (λ b. b.now) (take i blocks) in
    let field = c.in_ok-read_field.field-0 in
    let taken : take (i + 1) blocks ≡ take i blocks ++ block ∷ [] =
    take_more blocks i block c.loop-block-test.true ∙ ap (λ b. take i blocks ++ b ∷ []) (sym c.block-item.is) in
    let more : map (λ b. b.now) (take (i + 1) blocks) ≡ read ++ block.now ∷ [] =
    ap (λ bs. map (λ b. b.now) bs) taken ∙ map-append (λ b. b.now) (take i blocks) (block ∷ []) in
    subst (λ fields. AreFields view (map (λ b. b.now) (take (i + 1) blocks)) fields) (sym c.in_ok-push.ensures.ok)
    (subst (λ items. AreFields view items (c.loop-block.fields ++ field ∷ [])) (sym more)
    (one_more view read c.loop-block.fields block.now field c.loop-block.invariant c.in_ok-read_field.ensures))
