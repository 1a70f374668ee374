-- What is to come of an accepted load or check. (lookd)
use Rattle.lk_types.specs.declared.answer.Reply.{Reply}
use Rattle.lk_ledger.specs.Saving.{Save}
use Rattle.lk_edition.specs.Standings.{Standing}

-- the next edition, what the store is told, and the reply
pub record Planned : Type 0 where
  pub standing : Standing
  pub save : Save
  pub reply : Reply
