use Rattle.std.proofs.Common.{◌≡◌, ◌++◌, drop, take, length, map}
use Rattle.lk_regroup.specs.ComponentParts.{with_parts}
use Rattle.lk_regroup.proofs.component.with_parts.Given as goal

abbrev pub invariant-loop-i : goal.invariant-loop-i
invariant-loop-i l = record {
  all : length l.all.items ≡ l.i-end;
  rest : take l.i l.all.items ++ map (with_parts l.partials) (drop l.i l.all.items) ≡ map (with_parts l.partials) l.fn.has;
}
