use Rattle.lk_agg.proofs.SortedLaws.{found_at}
use Rattle.lk_agg.proofs.sorted.is_found.Goals as goal

pub returns-in-Ok : goal.returns-in-Ok
returns-in-Ok g c = λ _. found_at c.requires.exact c.args.item.now c.args.items.now c.in-Ok.field-0 c.args.item.now c.in-Ok.ensures.bound (c.in-Ok.ensures.ok c.args.item.now)
