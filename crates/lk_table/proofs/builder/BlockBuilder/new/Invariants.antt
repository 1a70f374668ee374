use Rattle.std.proofs.Common.{◌≡◌, [], map, take}
use Rattle.std.specs.List.{All}
use Rattle.lk_table.specs.Columns.{IsMarked, kind_in, values_in}
use Rattle.lk_table.proofs.builder.BlockBuilder.new.Given as goal

abbrev pub invariant-loop-kind : goal.invariant-loop-kind
invariant-loop-kind l = record {
  kinds : map kind_in l.columns.items ≡ take l.kind-index l.kinds;
  empty : All (λ c. values_in [] c ≡ []) l.columns.items;
  marked : All (IsMarked 0) l.columns.items;
}
