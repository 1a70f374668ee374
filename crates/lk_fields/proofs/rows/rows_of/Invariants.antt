use Rattle.std.proofs.Common.{◌≡◌, ◌++◌, map, drop}
use Rattle.lk_fields.specs.Rows.{row_at}
use Rattle.lk_fields.proofs.rows.rows_of.Given as goal

abbrev pub invariant-loop-place : goal.invariant-loop-place
invariant-loop-place l =
    l.rows ++ map (row_at l.rule l.views l.scope l.all) (drop l.place-index l.all) ≡ map (row_at l.rule l.views l.scope l.all) l.all
