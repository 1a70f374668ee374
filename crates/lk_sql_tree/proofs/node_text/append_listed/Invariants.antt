use Rattle.std.proofs.Common.{◌≡◌, ◌++◌, take}
use Rattle.lk_sql_tree.specs.NodeTexts.{listed}
use Rattle.lk_sql_tree.proofs.node_text.append_listed.Given as goal

abbrev pub invariant-loop-item : goal.invariant-loop-item
invariant-loop-item l = l.text ≡ l.fn.text ++ listed (take l.item-index l.items)
