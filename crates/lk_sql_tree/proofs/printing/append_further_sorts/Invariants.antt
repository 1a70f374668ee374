use Rattle.std.proofs.Common.{◌≡◌, ◌++◌, take}
use Rattle.lk_sql_tree.specs.ClauseTexts.{further_text, sort_text}
use Rattle.lk_sql_tree.proofs.printing.append_further_sorts.Given as goal

abbrev pub invariant-loop-sort : goal.invariant-loop-sort
invariant-loop-sort l = l.text ≡ l.fn.text ++ further_text sort_text (take l.sort-index l.sorts)
