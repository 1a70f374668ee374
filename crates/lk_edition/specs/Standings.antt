-- An edition of the server, and what always holds of it. (lookd)
use Rattle.std.specs.Prelude.{◌≡◌, false, List, length}
use Rattle.std.specs.List.{All}
use Rattle.lk_val.specs.Years.{IsMomentInYears}
use Rattle.lk_types.specs.declared.model.Model.{Model}
use Rattle.lk_semantics.specs.Resolved.{IsResolved}
use Rattle.lk_schema.specs.declared.users.Users.{Users}
use Rattle.lk_trigger.specs.declared.build.Build.{Build}
use Rattle.lk_keeps.specs.Keeps.{AreKept, Keeps}
use Rattle.lk_state.specs.Limits.{is_over}
use Rattle.lk_state.specs.States.{AreTables, State}

-- a state of a server of this model and these users, when each datagroup was built last, and what is kept of the builds
pub record Standing : Type 0 where
  pub model : Model
  pub users : Users
  pub state : State
  pub builds : List Build
  pub keeps : Keeps

-- what always holds of an edition
pub record IsStanding (e : Standing) : Type 0 where
  pub model : IsResolved e.model
  pub tables : AreTables e.model.schema.tables e.state.tables
  pub small : is_over e.state ≡ false
  pub each : length e.builds ≡ length e.model.datagroups
  pub years : All (λ build. IsMomentInYears build.moment) e.builds
  pub kept : AreKept e.model e.keeps
