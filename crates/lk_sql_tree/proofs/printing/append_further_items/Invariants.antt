use Rattle.std.proofs.Common.{◌≡◌, ◌++◌, take}
use Rattle.lk_sql_tree.specs.ClauseTexts.{further_text, item_text}
use Rattle.lk_sql_tree.proofs.printing.append_further_items.Given as goal

abbrev pub invariant-loop-item : goal.invariant-loop-item
invariant-loop-item l = l.text ≡ l.fn.text ++ further_text item_text (take l.item-index l.items)
