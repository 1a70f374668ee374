use Rattle.std.proofs.Common.{◌≡◌, length}
use Rattle.lk_semantics.specs.Derived.{by_name}
use Rattle.lk_query.proofs.RowLaws.{put_all}
use Rattle.lk_query.proofs.rows.by_name.Given as goal

abbrev pub invariant-loop-filter : goal.invariant-loop-filter
invariant-loop-filter l = put_all l.x l.filters.items l.sorted.items ≡ by_name l.x l.fn.filters.items

abbrev pub decreases-loop-filter : goal.decreases-loop-filter
decreases-loop-filter l = length l.filters.items
