-- What a connection knows of its own load or check once it has learnt the note of its publish. (lookd)
use Rattle.std.specs.Prelude.{◌≡◌, ℕ, ◌<◌, ℤ, List, [], ◌∷◌, ◌++◌, length}
use Rattle.lk_types.specs.declared.answer.Reply.{Reply}
use Rattle.lk_edition.specs.Standings.{Standing}
use Rattle.lk_http.specs.declared.request.Target.{Target}
use Rattle.lk_bureau.specs.Outcomes.{ComesTo, Outcome}

-- the list that was told ends in the edition that the load or the check came to on the one before it, and it is longer than what the connection had seen
pub record IsTold (least : ℕ) (user : List ℕ) (target : Target) (body : List ℕ) (now : ℤ) (reply : Reply) (note : List Standing) : Type 0 where
  pub front : List Standing
  pub before : Standing
  pub outcome : Outcome
  pub comes : ComesTo before user target body now outcome
  pub answers : reply ≡ outcome.reply
  pub list : note ≡ (front ++ before ∷ []) ++ outcome.standing ∷ []
  pub longer : least < length note
