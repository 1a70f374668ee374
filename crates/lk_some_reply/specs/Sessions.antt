-- Sessions in which memory is not wanting, over a link that does not fail.
use Rattle.std.specs.Prelude.{◌≡◌, ℕ, ℤ, List, [], ◌∷◌, Option, Some, None, Ok, Err}
use Rattle.std.specs.List.{AllByRecursion}
use Rattle.lk_val.specs.Years.{IsMomentInYears}
use Rattle.lk_http.specs.declared.request.Got.TheVariants.{End, Req}
use Rattle.lk_turns.specs.Doings.{Doing, Sent, http_reply}
use Rattle.lk_turns.specs.Runs.{IsRun}
use Rattle.lk_turns.specs.declared.ended.Ended.{Ended}
use Rattle.lk_turns.specs.declared.ended.Ended.TheVariants as ended
use Rattle.lk_session.specs.Recorded.{Recorded, past_after}
use Rattle.lk_session.specs.Servers.{RequestDoes, by_history}

-- a request does what its target says, and a refusal has its reply: none is forgotten for want of memory
abbrev pub ToldDoes : Doing Recorded
ToldDoes h (Ok End) reply h' = ⊥
ToldDoes h (Ok (Req request)) reply h' =
    RequestDoes (by_history h.past) h.server request reply h'.server × (h'.past ≡ past_after h.server.standing h'.server.standing h.past)
ToldDoes h (Err fault) reply h' = (http_reply fault ≡ Some reply) × (h' ≡ h)

-- there is a moment, and each is of the years 1 to 9999, where the clock tells
abbrev pub HasMoments : Option (List ℤ) → Type 0
HasMoments None = Unit {0}
HasMoments (Some []) = ⊥
HasMoments (Some (now ∷ later)) = IsMomentInYears now × AllByRecursion IsMomentInYears later

-- how a session ends that nothing from outside has stopped
abbrev pub IsEnd : Ended → Type 0
IsEnd ended.Clean = Unit {0}
IsEnd ended.Truncated = Unit {0}
IsEnd ended.BadHead = Unit {0}
IsEnd ended.Spent = Unit {0}
IsEnd ended.ReadFault = ⊥
IsEnd ended.WriteFault = ⊥
IsEnd ended.NoMemory = ⊥

-- the replies of a session, the server behind it, the bytes that are left, and how it ended
pub record Run : Type 0 where
  pub sents : List Sent
  pub last : Recorded
  pub rest : List ℕ
  pub how : Ended

-- a session of a server over a connection's bytes, to its end
pub record IsWholeRun (h : Recorded) (bytes : List ℕ) (r : Run) : Type 0 where
  pub is : IsRun ToldDoes h bytes r.sents r.last r.rest r.how
  pub ends : IsEnd r.how
