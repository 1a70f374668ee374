use Rattle.std.proofs.Common.{◌≡◌, ◌++◌, drop}
use Rattle.std.specs.Prelude.{flat_map}
use Rattle.lk_semantics.specs.Derived.{explore_at}
use Rattle.lookd_why.specs.Lines.{line_of, lines_of}
use Rattle.lookd_why.proofs.lines.append_tables.Given as goal

abbrev pub invariant-loop-r : goal.invariant-loop-r
invariant-loop-r l = l.text ++ flat_map (line_of (explore_at l.m l.b.explore) l.b) (drop l.r (explore_at l.m l.b.explore).rollups) ≡ l.fn.text ++ lines_of (explore_at l.m l.b.explore) l.b
