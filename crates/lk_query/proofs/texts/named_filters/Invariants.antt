use Rattle.std.proofs.Common.{◌≡◌, drop, map}
use Rattle.lk_query.specs.Refusals.{each_found, in_front}
use Rattle.lk_query.specs.Names.{named_filter, unknown_filter}
use Rattle.lk_query.proofs.texts.named_filters.Given as goal

abbrev pub invariant-loop-filter : goal.invariant-loop-filter
invariant-loop-filter l = in_front l.texts (each_found unknown_filter (named_filter l.known.x.now) (map (λ f. f.now) (drop l.filter-index l.filters))) ≡ each_found unknown_filter (named_filter l.known.x.now) (map (λ f. f.now) l.filters)
