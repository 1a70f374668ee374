use Rattle.std.proofs.Common.{ap, List, length}
use Rattle.std.specs.Prelude.{Err, if◌then◌else◌, nat_lt}
use Rattle.lk_types.specs.declared.rows.Joined.{Joined}
use Rattle.lk_semantics.specs.Answers.{answer_over}
use Rattle.lk_semantics.specs.Derived.{explore_at}
use Rattle.lk_semantics.specs.Rows.{passing_rows}
use Rattle.lk_filter.specs.PlacedModel.{placed_model}
use Rattle.lk_ask.specs.Asks.{told_by}
use Rattle.lk_ask.specs.declared.fault.AskFault.TheVariants as fault
use Rattle.lk_ask.proofs.laws.visible_rows_decide_what_is_told.Goals as goal

pub returns : goal.returns
returns c = λ m now s t b same.
    let x = explore_at (placed_model now m) b.explore in
    ap (λ (rows : List Joined). if nat_lt 1000000 (length rows) then Err fault.Q10 else told_by x b (length rows) (answer_over x b (passing_rows x b.rows rows))) same
