use Rattle.lk_merge.specs.Rows.{HasRows, row_of}
use Rattle.lk_merge.proofs.rows.handed_rows.Given as goal

abbrev pub invariant-loop-place : goal.invariant-loop-place
invariant-loop-place l = HasRows (row_of l.all.them.now l.kind) l.rows
