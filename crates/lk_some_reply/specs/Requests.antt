-- What a request does on a server, where memory is not wanting.
use Rattle.std.specs.Prelude.{ℤ, List, [], ◌∷◌, Option, Some, None}
use Rattle.lk_val.specs.Years.{IsMomentInYears}
use Rattle.lk_types.specs.declared.answer.Reply.{Reply}
use Rattle.lk_state.specs.States.{State}
use Rattle.lk_http.specs.declared.request.Request.{Request}
use Rattle.lk_session.specs.Servers.{RequestDoes, Server, by_history}

-- a reply, and the server behind it
pub record Served : Type 0 where
  pub reply : Reply
  pub server : Server

-- the next moment, where the clock tells, is of the years 1 to 9999
abbrev pub HasMoment : Option (List ℤ) → Type 0
HasMoment None = Unit {0}
HasMoment (Some []) = ⊥
HasMoment (Some (now ∷ later)) = IsMomentInYears now

-- a request is replied so on a server with these states before its edition's, and leaves it so
abbrev pub IsServed : List State → Server → Request → Served → Type 0
IsServed past s request served = RequestDoes (by_history past) s request served.reply served.server
