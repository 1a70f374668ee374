use Rattle.std.proofs.Common.{◌≡◌, ◌+◌, ◌∙◌, List, ap, sym, subst}
use Rattle.std.specs.Prelude.{slice_index_or}
use Rattle.lk_types.specs.declared.explore.Join.{Join}
use Rattle.lk_semantics.specs.Joins.{join_at, no_join}
use Rattle.lk_tree.specs.declared.fanning.Views.{Views}
use Rattle.lk_tree.specs.PartSets.{AreBehind, HasParts, fanned_by}
use Rattle.lk_tree.proofs.PartSetLaws.{any_default}
use Rattle.lk_tree.proofs.fanning.after_join.Goals as goal

pub returns : goal.returns
returns c = λ before fanned h.
    let x = c.args.x.now in
    let j = c.args.j in
    let behind : Views = record { before = c.with_part.result; fanned = c.fanned_by.result } in
    let found : Join = c.index-as_slice-j.result in
    let join : found ≡ join_at x j = c.index-as_slice-j.is ∙ ap (λ (joins : List Join). slice_index_or joins j found) c.as_slice.ensures ∙ any_default x.joins j found no_join c.requires.join in
    subst (λ taken. AreBehind taken (join_at x j) j behind before fanned) (sym (sym c.is_taken.ensures ∙ c.if-not-is_taken.false))
    (record {
      earlier = c.with_part.ensures before h.earlier;
      repeated = subst (λ (brings : Join). HasParts c.fanned_by.result (fanned_by brings (j + 1) before fanned)) join (c.fanned_by.ensures before fanned h);
    })
