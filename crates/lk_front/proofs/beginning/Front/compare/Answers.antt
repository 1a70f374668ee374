use Rattle.std.proofs.Common.{◌≤◌, ap, sym, subst, length, List, ◌∙◌}
use mathlib.Core.List.{IsPrefix}
use Rattle.lk_front.proofs.PrefixLaws.{shorter_begins}
use Rattle.lk_front.proofs.beginning.Front.compare.Goals as goal

pub returns : goal.returns
returns g c =
    let own = c.self.inside.seen.log in
    let learnt = c.learn.new.self.log in
    let here : IsPrefix own learnt = subst (λ (values : List g.row.T.Denot). IsPrefix values learnt) (ap (λ seen. seen.log) c.again-both.ensures) c.learn.ensures.2 in
    let there = c.learn.ensures.3 in
    λ (less : length c.args.self.now ≤ length c.args.other.now).
    rw (← c.self.view_is, ← c.other.view_is)
    (shorter_begins own c.other.inside.seen.log here.0 there.0 (here.1 ∙ sym there.1) (rw (c.self.view_is, c.other.view_is) less))
