-- The loads and checks of a session. (lookd)
use Rattle.std.specs.Prelude.{◌≡◌, List}
use Rattle.std.specs.Option.{option_map}
use Rattle.lk_ledger.specs.Saving.{Save, after_saves}
use Rattle.lk_kept.specs.Accepted.{AreAccepted, Step}
use Rattle.lk_session.specs.Servers.{Server}

-- loads and checks that are accepted one after the other lead from the edition of one server to that of another, and the store
-- holds them behind what it held
pub record HasAccepted (s last : Server) : Type 0 where
  pub steps : List Step
  pub saves : List Save
  pub accepted : AreAccepted s.standing steps saves last.standing
  pub held : last.store.held ≡ option_map (λ kept. after_saves kept saves) s.store.held
