use Rattle.std.proofs.Common.{◌≡◌, ◌++◌, take}
use Rattle.std.specs.Prelude.{decimal}
use Rattle.lk_sql_tree.specs.ClauseTexts.{further_text}
use Rattle.lk_sql_tree.proofs.printing.append_further_places.Given as goal

abbrev pub invariant-loop-place : goal.invariant-loop-place
invariant-loop-place l = l.text ≡ l.fn.text ++ further_text decimal (take l.place-index l.places)
