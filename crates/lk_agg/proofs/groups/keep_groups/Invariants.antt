use Rattle.std.proofs.Common.{◌≡◌, ◌++◌, length, map}
use Rattle.lk_agg.specs.Finishing.{conflict_among, kept_row_of}
use Rattle.lk_agg.proofs.groups.keep_groups.Given as goal

abbrev pub invariant-loop-group : goal.invariant-loop-group
invariant-loop-group l = record {
  made : l.rows ++ map kept_row_of l.groups.entries ≡ map kept_row_of l.fn.groups.entries;
  conflict : conflict_among l.groups.entries ≡ conflict_among l.fn.groups.entries;
}

abbrev pub decreases-loop-group : goal.decreases-loop-group
decreases-loop-group l = length l.groups.entries
