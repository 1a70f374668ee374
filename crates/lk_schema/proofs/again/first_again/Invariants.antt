use Rattle.std.proofs.Common.{◌≡◌, [], take, drop}
use Rattle.std.specs.BTreeSet.{contains}
use Rattle.lk_schema.specs.Rows.{first_again}
use Rattle.lk_schema.proofs.RowLaws.{is_seen}
use Rattle.lk_schema.proofs.again.first_again.Given as goal

abbrev pub invariant-loop-place : goal.invariant-loop-place
invariant-loop-place g l = record {
  known : (mark : g.row.R-Mark.Denot) → contains g.R.Mark.Ord.cmp l.seen mark
      ≡ is_seen g.R.Mark.PartialEq.eq g.R.StandsOnce.mark_of (take l.place l.rows) mark;
  rest : first_again g.R.Mark.PartialEq.eq g.R.StandsOnce.mark_of g.R.StandsOnce.line_of (take l.place l.rows) (drop l.place l.rows)
      ≡ first_again g.R.Mark.PartialEq.eq g.R.StandsOnce.mark_of g.R.StandsOnce.line_of [] l.rows;
}
