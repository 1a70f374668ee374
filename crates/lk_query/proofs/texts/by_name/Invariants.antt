use Rattle.std.proofs.Common.{◌≡◌, drop, map}
use Rattle.std.specs.List.{fold}
use Rattle.lk_query.specs.Names.{by_name, put_in}
use Rattle.lk_query.proofs.texts.by_name.Given as goal

abbrev pub invariant-loop-filter : goal.invariant-loop-filter
invariant-loop-filter l = fold put_in (map (λ f. f.now) l.sorted.items) (drop l.filter-index l.filters) ≡ by_name l.filters
