use Rattle.std.proofs.Common.{◌≡◌, ◌++◌, drop, map}
use Rattle.lk_rollup.proofs.stored.column_picks.Given as goal

abbrev pub invariant-loop-column : goal.invariant-loop-column
invariant-loop-column l = l.picks ++ map (λ column. column.1) (drop l.column-index l.columns) ≡ map (λ column. column.1) l.columns
