-- What is placed so far, and what is left when it is placed, are all the items placed.
use Rattle.std.proofs.Common.{◌≡◌, ◌++◌, map, drop}
use Rattle.lk_filter.proofs.model.place_all.Given as goal

abbrev pub invariant-loop-item : goal.invariant-loop-item
invariant-loop-item g l = l.made ++ map (g.T.Placed.at_moment l.now) (drop l.item-index l.items) ≡ map (g.T.Placed.at_moment l.now) l.items
