use Rattle.std.proofs.Common.{◌≡◌, ◌++◌, take}
use Rattle.lk_sql_tree.specs.ClauseTexts.{joins_text}
use Rattle.lk_sql_tree.proofs.printing.append_joins.Given as goal

abbrev pub invariant-loop-join : goal.invariant-loop-join
invariant-loop-join l = l.text ≡ l.fn.text ++ joins_text (take l.join-index l.joins)
