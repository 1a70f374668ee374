-- A session by what its desk has seen is one along each list that goes on from there.
use Rattle.std.proofs.Common.{◌≡◌, ◌++◌, ℕ, ℤ, false, List, [], ◌∷◌, length, refl, sym, ap, subst, inl, inr}
use Rattle.std.specs.Prelude.{IfSome, Option, Some, None, Result, Ok, Err}
use mathlib.Core.List.{IsPrefix}
use Rattle.lk_val.specs.Years.{IsMomentInYears}
use Rattle.lk_types.specs.declared.answer.Reply.{Reply}
use Rattle.lk_ask.specs.declared.fault.AskFault.{AskFault}
use Rattle.lk_front.specs.Chains.{EndsIn, IsChain}
use Rattle.lk_state.specs.States.{State}
use Rattle.lk_edition.specs.Histories.{Stands}
use Rattle.lk_edition.specs.Standings.{Standing}
use Rattle.lk_edition.specs.Versions.{Follows, Opens, past_of}
use Rattle.lk_answer.specs.Answers.{IsAnswered}
use Rattle.lk_answer.specs.Replies.{IsReplied}
use Rattle.lk_http.specs.Items.{Item}
use Rattle.lk_http.specs.declared.request.Got.TheVariants.{End, Req}
use Rattle.lk_http.specs.declared.request.Request.{Request}
use Rattle.lk_http.specs.declared.request.Target.{Target}
use Rattle.lk_http.specs.declared.request.Target.TheVariants as target
use Rattle.lk_turns.specs.Doings.{ItemDoes}
use Rattle.lk_turns.specs.Runs.{IsSession}
use Rattle.lk_turns.specs.declared.ended.Ended.{Ended}
use Rattle.lk_live.specs.Lives.{Acts, Forgets, IsUnsaved, Looks, Serves, TargetDoes}
use Rattle.lk_live.specs.Places.{ActsAt, DoesAt, IsAt, IsUnsavedAt, LooksAt, TargetDoesAt, place_of}
use Rattle.lk_live.specs.declared.live.Live.{Live}
use Rattle.lk_live.proofs.ListLaws.{begins_along, begins_shorter, chain_begins}
use Rattle.lk_live.proofs.MapLaws.{session_mapped}

-- given: an edition in a list of editions is that of the history in the list, and what an edition has for a query is what its history has
module _ (stand : (list : List Standing) (e : Standing) → IsChain Opens Follows list → EndsIn list e → Stands e (past_of list))
    (answers : (e : Standing) (past : List State) (user explore body : List ℕ) (now : ℤ) (r : Result Reply AskFault)
    → Stands e past → IsMomentInYears now → IsAnswered e user explore body now false r → IsReplied e past user explore body now false r) where
  -- ---- what had been seen before begins what is seen behind

  target_later : (s : Live) (now : ℤ) (request : Request) (t : Target) (reply : Reply) (s' : Live) → TargetDoes s now request t reply s' → IsPrefix s.desk.seen s'.desk.seen
  target_later s now request (target.Query explore) reply s' did = did.grows
  target_later s now request (target.Load table replace id) reply s' (inl did) = did.grows
  target_later s now request (target.Load table replace id) reply s' (inr did) = did.grows
  target_later s now request target.Check reply s' (inl did) = did.grows
  target_later s now request target.Check reply s' (inr did) = did.grows

  module _ (all : List Standing) where
    back : (s : Live) (item : Item) (reply : Reply) (s' : Live) → ItemDoes Serves Forgets s item reply s' → IsPrefix s'.desk.seen all → IsPrefix s.desk.seen all
    back s (Ok End) reply s' none seen = absurd none
    back s (Ok (Req request)) reply s' (inl did) seen =
        begins_along s.desk.seen s'.desk.seen all (target_later s did.now request request.target reply s' did.does) seen
    back s (Ok (Req request)) reply s' (inr did) seen = begins_along s.desk.seen s'.desk.seen all did.1.grows seen
    back s (Err fault) reply s' did seen = subst (λ (k : Live). IsPrefix k.desk.seen all) did.1 seen

    -- ---- where each reply belongs

    module _ (chain : IsChain Opens Follows all) where
      -- what a beginning of the list ends in
      at : (s : Live) (front : List Standing) (e : Standing) → IsPrefix s.desk.seen all → s.desk.seen ≡ front ++ e ∷ [] → IsAt all (length s.desk.seen) front e
      at s front e seen ends =
          let begins = subst (λ list. IsPrefix list all) ends seen in
          record {
            begins = begins;
            many = ap length ends;
            stands = stand (front ++ e ∷ []) e (chain_begins Opens Follows (front ++ e ∷ []) all chain begins) (front, refl);
          }

      looks_at : (s : Live) (now : ℤ) (request : Request) (explore : List ℕ) (reply : Reply) (s' : Live) → IsPrefix s'.desk.seen all → IsMomentInYears now
          → Looks s now request explore reply s' → LooksAt all (place_of s) now request explore reply (place_of s')
      looks_at s now request explore reply s' seen years did =
          let there = at s' did.ends.0 did.e seen did.ends.1 in
          record {
            front = did.ends.0;
            e = did.e;
            at = there;
            queried = record {
              told = did.queried.told;
              is = answers did.e (past_of (did.ends.0 ++ did.e ∷ [])) request.user explore request.body now did.queried.told there.stands years did.queried.is;
              tells = did.queried.tells;
            };
            back = begins_shorter s.desk.seen s'.desk.seen did.grows;
            look = did.look;
            failed = did.failed;
          }

      acts_at : (s : Live) (now : ℤ) (request : Request) (reply : Reply) (s' : Live) → IsPrefix s'.desk.seen all → Acts s now request reply s'
          → ActsAt all (place_of s) now request reply (place_of s')
      acts_at s now request reply s' seen did =
          let before_begins : IsPrefix (did.told.front ++ did.told.before ∷ []) all =
          begins_along (did.told.front ++ did.told.before ∷ []) s'.desk.seen all (did.told.outcome.standing ∷ [], sym did.told.list) seen in
          record {
            front = did.told.front;
            before = did.told.before;
            outcome = did.told.outcome;
            stands = stand (did.told.front ++ did.told.before ∷ []) did.told.before
                (chain_begins Opens Follows (did.told.front ++ did.told.before ∷ []) all chain before_begins) (did.told.front, refl);
            comes = did.told.comes;
            answers = did.told.answers;
            at = at s' (did.told.front ++ did.told.before ∷ []) did.told.outcome.standing seen did.told.list;
            past = did.told.longer;
            looks = did.looks;
            failed = did.failed;
          }

      unsaved_at : (s : Live) (reply : Reply) (s' : Live) → IsUnsaved s reply s' → IsUnsavedAt all (place_of s) reply (place_of s')
      unsaved_at s reply s' did = record { is = did.is; back = begins_shorter s.desk.seen s'.desk.seen did.grows; looks = did.looks; rose = did.rose }

      target_at : (s : Live) (now : ℤ) (request : Request) (t : Target) (reply : Reply) (s' : Live) → IsPrefix s'.desk.seen all → IsMomentInYears now
          → TargetDoes s now request t reply s' → TargetDoesAt all (place_of s) now request t reply (place_of s')
      target_at s now request (target.Query explore) reply s' seen years did = looks_at s now request explore reply s' seen years did
      target_at s now request (target.Load table replace id) reply s' seen years (inl did) = inl (acts_at s now request reply s' seen did)
      target_at s now request (target.Load table replace id) reply s' seen years (inr did) = inr (unsaved_at s reply s' did)
      target_at s now request target.Check reply s' seen years (inl did) = inl (acts_at s now request reply s' seen did)
      target_at s now request target.Check reply s' seen years (inr did) = inr (unsaved_at s reply s' did)

      item_at : (s : Live) (item : Item) (reply : Reply) (s' : Live) → IsPrefix s'.desk.seen all → ItemDoes Serves Forgets s item reply s'
          → DoesAt all (place_of s) item reply (place_of s')
      item_at s (Ok End) reply s' seen none = none
      item_at s (Ok (Req request)) reply s' seen (inl did) = inl (record {
        now = did.now;
        years = did.years;
        first = did.first;
        moments = did.moments;
        does = target_at s did.now request request.target reply s' seen did.years did.does;
      })
      item_at s (Ok (Req request)) reply s' seen (inr did) = inr (
        did.0,
        record {
          back = begins_shorter s.desk.seen s'.desk.seen did.1.grows;
          looks = did.1.looks;
          failed = did.1.failed;
          moments = did.1.moments;
        },
      )
      item_at s (Err fault) reply s' seen did = (did.0, ap place_of did.1)

      pub session_at : (s : Live) (bytes : List ℕ) (held held' : Option (List ℕ)) (s' : Live) (left' : Option (List ℕ)) (how : Ended) → IsPrefix s'.desk.seen all
          → IsSession (ItemDoes Serves Forgets) s bytes held held' s' left' how → IsSession (DoesAt all) (place_of s) bytes held held' (place_of s') left' how
      session_at = session_mapped (ItemDoes Serves Forgets) (DoesAt all) place_of (λ s. IsPrefix s.desk.seen all) back item_at

      pub told_at : (left : Option (List ℕ)) (s : Live) (held held' : Option (List ℕ)) (s' : Live) (left' : Option (List ℕ)) (how : Ended) → IsPrefix s'.desk.seen all
          → IfSome left (λ bytes. IsSession (ItemDoes Serves Forgets) s bytes held held' s' left' how)
          → IfSome left (λ bytes. IsSession (DoesAt all) (place_of s) bytes held held' (place_of s') left' how)
      told_at None s held held' s' left' how seen session = tt
      told_at (Some bytes) s held held' s' left' how seen session = session_at s bytes held held' s' left' how seen session
