use Rattle.std.proofs.Common.{◌∙◌, ap}
use Rattle.lk_val.specs.Sets.{set_of, with_item}
use Rattle.lk_val.proofs.SetLaws.{set_of-push}
use Rattle.lk_agg.proofs.sorted.Sorted.push.Goals as goal

pub returns : goal.returns
returns g c =
    ap (set_of g.T.Ord.cmp) c.in_ok-push.ensures.items
    ∙ set_of-push c.requires.exact c.self.inside.items.items c.args.item
    ∙ ap (with_item g.T.Ord.cmp c.args.item) (c.self.view_is ∙ c.in_ok-make_room.ensures)
