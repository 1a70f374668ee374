-- A connection to live readers between two replies, and what its requests do. (lookd)
use Rattle.std.specs.Prelude.{◌≡◌, ◌⊎◌, ◌≤◌, ℕ, ℤ, List, [], ◌∷◌, ◌++◌, length, Option, Some, IfSome, slice_get}
use Rattle.std.specs.Option.{option_map}
use mathlib.Core.List.{IsPrefix}
use Rattle.lk_val.specs.Years.{IsMomentInYears}
use Rattle.lk_io.specs.Causes.{Rose}
use Rattle.lk_io.specs.Moments.{later}
use Rattle.lk_types.specs.declared.answer.Reply.{Reply}
use Rattle.lk_command_reply.specs.Refusals.{unsaved_reply}
use Rattle.lk_front.specs.Chains.{EndsIn}
use Rattle.lk_shelf.specs.declared.desk.View.{View}
use Rattle.lk_edition.specs.Standings.{Standing}
use Rattle.lk_http.specs.declared.request.Request.{Request}
use Rattle.lk_http.specs.declared.request.Target.{Target}
use Rattle.lk_http.specs.declared.request.Target.TheVariants as target
use Rattle.lk_session.specs.Servers.{IsQueried, by_edition}
use Rattle.lk_bureau.specs.Told.{IsTold}
use Rattle.lk_live.specs.declared.live.Live.{Live}

-- what is known of a connection, from its desk, the count of its request handler and its clock
abbrev pub live : View Standing → ℕ → Option (List ℤ) → Live
live desk failed moments = record { desk = desk; failed = failed; moments = moments }

-- a query takes one look, and its reply is by the edition that was shown last
pub record Looks (s : Live) (now : ℤ) (request : Request) (explore : List ℕ) (reply : Reply) (s' : Live) : Type 0 where
  pub grows : IsPrefix s.desk.seen s'.desk.seen
  pub e : Standing
  pub ends : EndsIn s'.desk.seen e
  pub queried : IsQueried by_edition e request.user explore request.body now reply
  pub look : s'.desk.looks ≡ s.desk.looks ++ length s'.desk.seen ∷ []
  pub failed : s'.failed ≡ s.failed

-- a load or a check is carried out: what it came to is shown behind all that had been seen, and is seen
pub record Acts (s : Live) (now : ℤ) (request : Request) (reply : Reply) (s' : Live) : Type 0 where
  pub grows : IsPrefix s.desk.seen s'.desk.seen
  pub told : IsTold (length s.desk.seen) request.user request.target request.body now reply s'.desk.seen
  pub looks : s'.desk.looks ≡ s.desk.looks
  pub failed : s.failed ≤ s'.failed

-- a load or a check could not be saved (K1)
pub record IsUnsaved (s : Live) (reply : Reply) (s' : Live) : Type 0 where
  pub is : reply ≡ unsaved_reply
  pub grows : IsPrefix s.desk.seen s'.desk.seen
  pub looks : s'.desk.looks ≡ s.desk.looks
  pub rose : Rose s.failed s'.failed

-- what a target does at a moment
abbrev pub TargetDoes : Live → ℤ → Request → Target → Reply → Live → Type 0
TargetDoes s now request (target.Query explore) reply s' = Looks s now request explore reply s'
TargetDoes s now request (target.Load table replace id) reply s' = Acts s now request reply s' ⊎ IsUnsaved s reply s'
TargetDoes s now request target.Check reply s' = Acts s now request reply s' ⊎ IsUnsaved s reply s'

-- a request takes the next moment, and does what its target says
pub record Serves (s : Live) (request : Request) (reply : Reply) (s' : Live) : Type 0 where
  pub now : ℤ
  pub years : IsMomentInYears now
  pub first : IfSome s.moments (λ told. slice_get told 0 ≡ Some now)
  pub moments : s'.moments ≡ option_map later s.moments
  pub does : TargetDoes s now request request.target reply s'

-- the looks behind a request for which memory was refused: only a query may have taken one, of so many
abbrev pub MayLook : Target → List ℕ → ℕ → List ℕ → Type 0
MayLook (target.Query explore) looks seen looks' = (looks' ≡ looks) ⊎ (looks' ≡ looks ++ seen ∷ [])
MayLook (target.Load table replace id) looks seen looks' = looks' ≡ looks
MayLook target.Check looks seen looks' = looks' ≡ looks

-- memory was refused: more may have been seen, and the next moment may have been taken
pub record Forgets (s : Live) (request : Request) (s' : Live) : Type 0 where
  pub grows : IsPrefix s.desk.seen s'.desk.seen
  pub looks : MayLook request.target s.desk.looks (length s'.desk.seen) s'.desk.looks
  pub failed : s.failed ≤ s'.failed
  pub moments : (s'.moments ≡ s.moments) ⊎ (s'.moments ≡ option_map later s.moments)
