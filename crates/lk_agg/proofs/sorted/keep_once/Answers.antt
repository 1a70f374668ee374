use Rattle.lk_agg.proofs.SortedLaws.{kept-set, kept-ascends}
use Rattle.lk_agg.proofs.sorted.keep_once.Goals as goal

pub returns-clause-set : goal.returns-clause-set
returns-clause-set g c = kept-set c.requires.exact g.met.T.Ord.matches_eq c.args.items.now.items c.sort_unstable.new.self.items c.dedup.new.self.items c.sort_unstable.ensures.permutation c.dedup.ensures.filtered

pub returns-clause-ascending : goal.returns-clause-ascending
returns-clause-ascending g c = kept-ascends c.requires.exact g.met.T.Ord.matches_eq c.sort_unstable.new.self.items c.dedup.new.self.items c.sort_unstable.ensures.sorted c.dedup.ensures.filtered
