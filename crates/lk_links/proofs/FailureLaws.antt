-- A request of a connection to live readers is answered with 503 only where the count of those that could not be saved rose.
use Rattle.std.proofs.Common.{◌≡◌, ◌∙◌, ◌≤◌, ◌==◌, ◌+◌, ◌-◌, ◌^◌, min, ℕ, false, List, None, ap, arith, inl, inr}
use Rattle.std.specs.Prelude.{ℤ, ◌⊎◌}
use Rattle.lk_io.specs.Causes.{Rose}
use Rattle.lk_types.specs.declared.answer.Reply.{Reply}
use Rattle.lk_edition.specs.Standings.{Standing}
use Rattle.lk_http.specs.declared.request.Request.{Request}
use Rattle.lk_http.specs.declared.request.Target.{Target}
use Rattle.lk_http.specs.declared.request.Target.TheVariants as target
use Rattle.lk_turns.specs.Doings.{ItemDoes, Sent}
use Rattle.lk_turns.specs.Runs.{IsRun, failures}
use Rattle.lk_turns.specs.declared.ended.Ended.{Ended}
use Rattle.lk_turns.proofs.FailureLaws.{item_counts, run_counts}
use Rattle.lk_session.specs.Servers.{IsQueried, Store, by_edition, store_of}
use Rattle.lk_session.proofs.ServingLaws.{IsPlain, IsUnsaved, edition_plain, target_plain}
use Rattle.lk_session.proofs.StayLaws.{stays}
use Rattle.lk_bureau.specs.Told.{IsTold}
use Rattle.lk_live.specs.Lives.{Acts, Forgets, Looks, Serves, TargetDoes}
use Rattle.lk_live.specs.Lives as lives
use Rattle.lk_live.specs.declared.live.Live.{Live}
use Rattle.lk_live.proofs.StatusLaws.{outcome_done}

-- a store that tells nothing, and none of whose calls failed
abbrev silent : Store
silent = store_of None 0

-- no call of it failed, so no reply says so
plain_of : (reply : Reply) → IsPlain reply.status ⊎ IsUnsaved reply silent silent → (reply.status == 503) ≡ false
plain_of reply (inl plain) = plain.1
plain_of reply (inr unsaved) = absurd (omega (arith, unsaved.1))

told_plain : (least : ℕ) (request : Request) (now : ℤ) (reply : Reply) (note : List Standing)
    → IsTold least request.user request.target request.body now reply note → (reply.status == 503) ≡ false
told_plain least request now reply note told =
    ap (λ (r : Reply). r.status == 503) told.answers
    ∙ plain_of told.outcome.reply (target_plain by_edition edition_plain told.before now request request.target told.outcome.reply told.outcome.standing silent silent
    (outcome_done told.before now request request.target told.outcome told.comes))

queried_plain : (e : Standing) (now : ℤ) (request : Request) (explore : List ℕ) (reply : Reply)
    → IsQueried by_edition e request.user explore request.body now reply → (reply.status == 503) ≡ false
queried_plain e now request explore reply queried =
    plain_of reply (target_plain by_edition edition_plain e now request (target.Query explore) reply e silent silent (queried, stays e silent))

-- ---- the count, as far as 64 bits hold it

abbrev held : Live → ℕ
held s = min s.failed (2 ^ 64 - 1)

same_held : (a b : ℕ) → b ≡ a → min a (2 ^ 64 - 1) ≤ min b (2 ^ 64 - 1)
same_held a b is = omega (arith, is)

later_held : (a b : ℕ) → a ≤ b → min a (2 ^ 64 - 1) ≤ min b (2 ^ 64 - 1)
later_held a b later = omega (arith, later)

rose_later : (a b : ℕ) → Rose a b → min a (2 ^ 64 - 1) ≤ min b (2 ^ 64 - 1)
rose_later a b rose = omega (arith, rose)

rose_held : (a b : ℕ) → Rose a b → Rose (min a (2 ^ 64 - 1)) (min b (2 ^ 64 - 1))
rose_held a b rose = omega (arith, rose)

-- ---- a request

command_later : (s : Live) (now : ℤ) (request : Request) (reply : Reply) (s' : Live) → Acts s now request reply s' ⊎ lives.IsUnsaved s reply s' → held s ≤ held s'
command_later s now request reply s' (inl acts) = later_held s.failed s'.failed acts.failed
command_later s now request reply s' (inr unsaved) = rose_later s.failed s'.failed unsaved.rose

command_rose : (s : Live) (now : ℤ) (request : Request) (reply : Reply) (s' : Live) → Acts s now request reply s' ⊎ lives.IsUnsaved s reply s'
    → ((reply.status == 503) ≡ false) ⊎ Rose (held s) (held s')
command_rose s now request reply s' (inl acts) = inl (told_plain _ request now reply _ acts.told)
command_rose s now request reply s' (inr unsaved) = inr (rose_held s.failed s'.failed unsaved.rose)

target_later : (s : Live) (now : ℤ) (request : Request) (t : Target) (reply : Reply) (s' : Live) → TargetDoes s now request t reply s' → held s ≤ held s'
target_later s now request (target.Query explore) reply s' looks = same_held s.failed s'.failed looks.failed
target_later s now request (target.Load table replace id) reply s' does = command_later s now request reply s' does
target_later s now request target.Check reply s' does = command_later s now request reply s' does

target_rose : (s : Live) (now : ℤ) (request : Request) (t : Target) (reply : Reply) (s' : Live) → TargetDoes s now request t reply s'
    → ((reply.status == 503) ≡ false) ⊎ Rose (held s) (held s')
target_rose s now request (target.Query explore) reply s' looks = inl (queried_plain looks.e now request explore reply looks.queried)
target_rose s now request (target.Load table replace id) reply s' does = command_rose s now request reply s' does
target_rose s now request target.Check reply s' does = command_rose s now request reply s' does

-- ---- a run

at_least : (a n b : ℕ) → min (min a (2 ^ 64 - 1) + n) (2 ^ 64 - 1) ≤ min b (2 ^ 64 - 1) → min (a + n) (2 ^ 64 - 1) ≤ b
at_least a n b counts = omega (arith, counts)

pub unsaved_count : (s last : Live) (bytes rest : List ℕ) (sents : List Sent) (how : Ended) → IsRun (ItemDoes Serves Forgets) s bytes sents last rest how
    → min (s.failed + failures sents) (2 ^ 64 - 1) ≤ last.failed
unsaved_count s last bytes rest sents how run =
    at_least s.failed (failures sents) last.failed (run_counts (ItemDoes Serves Forgets) held
    (item_counts Serves Forgets held
    (λ a request reply b does. target_later a does.now request request.target reply b does.does)
    (λ a request reply b does. target_rose a does.now request request.target reply b does.does)
    (λ a request b forgot. later_held a.failed b.failed forgot.failed))
    s last bytes rest sents how run)
