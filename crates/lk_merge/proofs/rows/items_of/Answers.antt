use Rattle.std.proofs.Common.{◌≡◌, ◌∙◌, ◌++◌, map, ap, subst}
use Rattle.std.specs.Prelude.{IfOk, IfSome}
use Rattle.lk_merge.specs.Objects.{kept}
use Rattle.lk_merge.specs.Rows.{row_of}
use Rattle.lk_merge.proofs.SettledLaws.{items_made}
use Rattle.lk_merge.proofs.rows.items_of.Goals as goal

pub returns-in-Some : goal.returns-in-Some
returns-in-Some c =
    let all = c.args.all.now.them.now in
    let k = c.args.kind in
    subst (λ t. IfOk c.merged.result (λ items. items ≡ t))
    (items_made all k c.args.name.now c.as_slice-in-Some-2.result.now c.in-Some.inherited (c.in_ok-kept_by_each-in-Some).field-0 c.as_slice.result.now
    (c.as_slice-in-Some-2.ensures ∙ c.in_ok-blocks-in-Some.ensures ∙ ap (λ rows. rows ++ (c.in_ok-kept_by_each-in-Some).field-0) c.inherited.view_is)
    (subst (λ found. IfSome found (λ blocks. blocks ≡ map (row_of all k) c.as_slice.result.now)) c.in-Some.is
    (c.in_ok-inherited.ensures (row_of all k) c.requires))
    (c.as_slice.ensures ∙ c.in_ok-bases.ensures)
    ((c.in_ok-kept_by_each-in-Some).ensures
    ∙ ap (map kept) (ap (map (λ d. d.now)) c.as_slice-in-Some.ensures.value ∙ c.in_ok-own-in-Some.ensures)))
    c.merged.ensures
