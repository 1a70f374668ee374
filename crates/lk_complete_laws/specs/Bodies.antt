-- What a query's body binds to, or its first refusal; want of memory is neither.
use Rattle.std.specs.Prelude.{◌≡◌, ℕ, ℤ, false, List, Result, Ok, Err}
use Rattle.lk_types.specs.declared.bound.Bound.{Bound}
use Rattle.lk_types.specs.declared.model.Model.{Model}
use Rattle.lk_schema.specs.declared.users.Users.{Users}
use Rattle.lk_body.specs.Faults.{is_no_memory}
use Rattle.lk_body.specs.declared.fault.QueryFault.{QueryFault}
use Rattle.lk_query.specs.Bindings.{IsBodyBound}

-- a value, or a refusal
abbrev pub IsTold : {A : Type 0} → Result A QueryFault → Type 0
IsTold (Ok value) = Unit {0}
IsTold (Err fault) = is_no_memory fault ≡ false

-- a caller's body over an explore binds so at a moment, or this is its first refusal
pub record IsBodyRead (m : Model) (users : Users) (user explore body : List ℕ) (now : ℤ) (result : Result Bound QueryFault) : Type 0 where
  pub bound : IsBodyBound m users user explore body now result
  pub told : IsTold result
