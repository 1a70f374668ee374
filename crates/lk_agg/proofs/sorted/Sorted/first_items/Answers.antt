use Rattle.std.proofs.Common.{◌∙◌, sym, ap, take}
use Rattle.lk_val.specs.Sets.{has, with_item}
use Rattle.lk_agg.proofs.SortedLaws.{first_has}
use Rattle.lk_agg.proofs.sorted.Sorted.first_items.Goals as goal

pub returns : goal.returns
returns g c = λ x found.
    let first = ap (λ items. has g.T.Ord.cmp x (take c.min-count.result items)) (sym c.deref.ensures.value) ∙ found in
    ap (with_item g.T.Ord.cmp x) (sym c.self.view_is) ∙ first_has c.requires.exact c.min-count.result c.self.inside.items.items x first ∙ c.self.view_is
