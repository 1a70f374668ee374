use Rattle.std.proofs.Common.{◌≡◌, length}
use Rattle.lk_table.specs.Widening.{wide_from}
use Rattle.lk_table.proofs.WidenLaws.{AreLeft}
use Rattle.lk_table.proofs.block.wide_columns.Given as goal

abbrev pub invariant-loop-i : goal.invariant-loop-i
invariant-loop-i l = record {
  wide : l.wide.items ≡ wide_from l.kinds l.count l.places l.initial.narrow.items l.i;
  long : length l.narrow.items ≡ length l.places;
  left : AreLeft l.places l.initial.narrow.items l.narrow.items l.i;
}
