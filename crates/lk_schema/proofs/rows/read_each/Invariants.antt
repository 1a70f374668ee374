use Rattle.std.proofs.Common.{◌≡◌, ◌+◌, drop}
use Rattle.lk_schema.specs.Rows.{rows_before, rows_from}
use Rattle.lk_schema.proofs.rows.read_each.Given as goal

abbrev pub invariant-loop-place : goal.invariant-loop-place
invariant-loop-place g l =
    rows_before l.rows (rows_from l.code l.path g.R.TableText.is_header g.R.TableText.row_of (l.place + 1) (drop l.place l.records))
    ≡ rows_from l.code l.path g.R.TableText.is_header g.R.TableText.row_of 1 l.records
