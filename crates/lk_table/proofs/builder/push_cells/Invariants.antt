use Rattle.std.proofs.Common.{◌≡◌, length, map, take}
use Rattle.std.specs.List.{All}
use Rattle.lk_val.specs.ValueRefs.{value_of_ref}
use Rattle.lk_table.specs.Columns.{AreText, IsMarked, kind_in, pushed, values_in}
use Rattle.lk_table.proofs.builder.push_cells.Given as goal

abbrev pub invariant-loop-i : goal.invariant-loop-i
invariant-loop-i l = record {
  long : length l.columns.items ≡ length l.initial.columns.items;
  values : map (values_in l.region) l.columns.items ≡ pushed (take l.i (map value_of_ref l.cells)) (map (values_in l.initial.region) l.initial.columns.items);
  kinds : map kind_in l.columns.items ≡ map kind_in l.initial.columns.items;
  marked : All (IsMarked (length l.region)) l.columns.items;
  texts : AreText l.region;
}
