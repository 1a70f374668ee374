-- A connection along one list of editions that readers were shown: each reply belongs to a beginning of it, and these never get shorter. (lookd)
use Rattle.std.specs.Prelude.{◌≡◌, ◌⊎◌, ◌<◌, ◌≤◌, ℕ, ℤ, List, [], ◌∷◌, ◌++◌, length, Option, Some, IfSome, slice_get}
use Rattle.std.specs.Option.{option_map}
use mathlib.Core.List.{IsPrefix}
use Rattle.lk_val.specs.Years.{IsMomentInYears}
use Rattle.lk_io.specs.Causes.{Rose}
use Rattle.lk_io.specs.Moments.{later}
use Rattle.lk_types.specs.declared.answer.Reply.{Reply}
use Rattle.lk_command_reply.specs.Refusals.{unsaved_reply}
use Rattle.lk_edition.specs.Histories.{Stands}
use Rattle.lk_edition.specs.Standings.{Standing}
use Rattle.lk_edition.specs.Versions.{past_of}
use Rattle.lk_http.specs.declared.request.Request.{Request}
use Rattle.lk_http.specs.declared.request.Target.{Target}
use Rattle.lk_http.specs.declared.request.Target.TheVariants as target
use Rattle.lk_turns.specs.Doings.{Doing, ItemDoes}
use Rattle.lk_session.specs.Servers.{IsQueried, by_history}
use Rattle.lk_bureau.specs.Outcomes.{ComesTo, Outcome}
use Rattle.lk_live.specs.Lives.{MayLook}
use Rattle.lk_live.specs.declared.live.Live.{Live}

-- how much of the list was seen, how much of it at each look, how many loads and checks could not be saved, and the moments to come, as far as the clock tells
pub record Place : Type 0 where
  pub upto : ℕ
  pub looks : List ℕ
  pub failed : ℕ
  pub moments : Option (List ℤ)

abbrev pub place_of : Live → Place
place_of s = record { upto = length s.desk.seen; looks = s.desk.looks; failed = s.failed; moments = s.moments }

-- an edition ends the list of so many that begins the other one, and it is that of the history in them
pub record IsAt (all : List Standing) (count : ℕ) (front : List Standing) (e : Standing) : Type 0 where
  pub begins : IsPrefix (front ++ e ∷ []) all
  pub many : count ≡ length (front ++ e ∷ [])
  pub stands : Stands e (past_of (front ++ e ∷ []))

module _ (all : List Standing) where
  -- a query takes one look, and its reply is that of the history up to there
  pub record LooksAt (p : Place) (now : ℤ) (request : Request) (explore : List ℕ) (reply : Reply) (p' : Place) : Type 0 where
    pub front : List Standing
    pub e : Standing
    pub at : IsAt all p'.upto front e
    pub queried : IsQueried (by_history (past_of (front ++ e ∷ []))) e request.user explore request.body now reply
    pub back : p.upto ≤ p'.upto
    pub look : p'.looks ≡ p.looks ++ p'.upto ∷ []
    pub failed : p'.failed ≡ p.failed

  -- a load or a check has an edition of its own in the list, past all that had been seen: it came to that, and to its reply, on the edition before it
  pub record ActsAt (p : Place) (now : ℤ) (request : Request) (reply : Reply) (p' : Place) : Type 0 where
    pub front : List Standing
    pub before : Standing
    pub outcome : Outcome
    pub stands : Stands before (past_of (front ++ before ∷ []))
    pub comes : ComesTo before request.user request.target request.body now outcome
    pub answers : reply ≡ outcome.reply
    pub at : IsAt all p'.upto (front ++ before ∷ []) outcome.standing
    pub past : p.upto < p'.upto
    pub looks : p'.looks ≡ p.looks
    pub failed : p.failed ≤ p'.failed

  -- a load or a check could not be saved (K1), which was counted
  pub record IsUnsavedAt (p : Place) (reply : Reply) (p' : Place) : Type 0 where
    pub is : reply ≡ unsaved_reply
    pub back : p.upto ≤ p'.upto
    pub looks : p'.looks ≡ p.looks
    pub rose : Rose p.failed p'.failed

  abbrev pub TargetDoesAt : Place → ℤ → Request → Target → Reply → Place → Type 0
  TargetDoesAt p now request (target.Query explore) reply p' = LooksAt p now request explore reply p'
  TargetDoesAt p now request (target.Load table replace id) reply p' = ActsAt p now request reply p' ⊎ IsUnsavedAt p reply p'
  TargetDoesAt p now request target.Check reply p' = ActsAt p now request reply p' ⊎ IsUnsavedAt p reply p'

  -- a request takes the next moment, and does what its target says
  pub record ServesAt (p : Place) (request : Request) (reply : Reply) (p' : Place) : Type 0 where
    pub now : ℤ
    pub years : IsMomentInYears now
    pub first : IfSome p.moments (λ told. slice_get told 0 ≡ Some now)
    pub moments : p'.moments ≡ option_map later p.moments
    pub does : TargetDoesAt p now request request.target reply p'

  -- memory was refused: more may have been seen, and the next moment may have been taken
  pub record ForgetsAt (p : Place) (request : Request) (p' : Place) : Type 0 where
    pub back : p.upto ≤ p'.upto
    pub looks : MayLook request.target p.looks p'.upto p'.looks
    pub failed : p.failed ≤ p'.failed
    pub moments : (p'.moments ≡ p.moments) ⊎ (p'.moments ≡ option_map later p.moments)

  -- what an item of a connection's bytes does
  abbrev pub DoesAt : Doing Place
  DoesAt = ItemDoes ServesAt ForgetsAt
