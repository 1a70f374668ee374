use Rattle.std.proofs.Common.{◌≡◌, ◌++◌, drop}
use Rattle.std.specs.Prelude.{map}
use Rattle.lk_merge.proofs.contributors.add_waiting.Given as goal

abbrev pub invariant-loop-name : goal.invariant-loop-name
invariant-loop-name l = l.todo.items ++ map (λ name. (l.left, name)) (drop l.name-index l.names) ≡ l.fn.todo.items ++ map (λ name. (l.left, name)) l.names
