use Rattle.std.proofs.Common.{◌≡◌, ◌++◌, ℕ, List, drop}
use Rattle.std.specs.Prelude.{map}
use Rattle.lk_read.specs.declared.tree.Item.{Item}
use Rattle.lk_merge.specs.Rows.{HasRows}
use Rattle.lk_merge.proofs.rows.rows_of.Given as goal

abbrev pub invariant-loop-name : goal.invariant-loop-name
invariant-loop-name l = (row : List ℕ → List Item) → HasRows row l.rows → l.blocks ++ map row (drop l.name-index l.names) ≡ map row l.names
