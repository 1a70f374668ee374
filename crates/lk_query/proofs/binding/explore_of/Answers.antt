use Rattle.std.proofs.Common.{◌∙◌, List, ap}
use Rattle.std.specs.Prelude.{slice_index_or}
use Rattle.std.proofs.lemmas.List.{get_or_default}
use Rattle.lk_types.specs.declared.explore.Explore.{Explore}
use Rattle.lk_semantics.specs.Derived.{no_explore}
use Rattle.lk_query.proofs.binding.explore_of.Goals as goal

pub returns-clause-at : goal.returns-clause-at
returns-clause-at c =
    let m = c.args.m.now in
    let n = c.args.number in
    let x : Explore = c.index-as_slice-number.result in
    c.index-as_slice-number.is ∙ ap (λ (xs : List Explore). slice_index_or xs n x) c.as_slice.ensures ∙ get_or_default m.explores n x no_explore c.requires.within
