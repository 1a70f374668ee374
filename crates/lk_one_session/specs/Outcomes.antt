-- What two sessions have in common. (lookd)
use Rattle.std.specs.Prelude.{◌≡◌, ℕ, ◌==◌, Bool, true, false, not, ◌||◌, MatchBool, List, [], ◌∷◌, ◌++◌, zip, ⊤}
use Rattle.std.specs.Bool.{beq}
use Rattle.std.specs.List.{list_any}
use Rattle.lk_types.specs.declared.answer.Reply.{Reply}
use Rattle.lk_http.specs.Items.{IsNext, Item}
use Rattle.lk_turns.specs.Doings.{Sent}
use Rattle.lk_turns.specs.declared.ended.Ended.{Ended}
use Rattle.lk_turns.specs.declared.ended.Ended.TheVariants as ended
use Rattle.lk_session.specs.Recorded.{Recorded, recorded}
use Rattle.lk_session.specs.Servers.{server}

-- all of a server and its history but how many calls of its store have failed
abbrev pub uncounted : Recorded → Recorded
uncounted h = recorded (server h.server.standing h.server.store.held 0 h.server.moments) h.past

-- these are the first items of the bytes
abbrev pub BeginWith : List ℕ → List Item → Type 0
BeginWith bytes [] = ⊤
BeginWith bytes (item ∷ items) = (rest : List ℕ) × IsNext bytes (item, rest) × BeginWith rest items

-- ---- what may stand in place of a reply

-- the store failed (RFC 9110, section 15.6.4)
abbrev pub is_unsaved : Reply → Bool
is_unsaved reply = reply.status == 503

-- memory was refused (RFC 4918, section 11.5)
abbrev pub is_forgotten : Reply → Bool
is_forgotten reply = reply.status == 507

-- two replies to one request can differ: memory was refused for one of them, or the store failed for one and not for the other
abbrev pub may_differ : Reply → Reply → Bool
may_differ a b = (is_forgotten a || is_forgotten b) || not (beq (is_unsaved a) (is_unsaved b))

-- the replies of two sessions are the same up to where one of them ends, or two can differ
abbrev pub HaveSameReplies : List Sent → List Sent → Type 0
HaveSameReplies [] others = ⊤
HaveSameReplies (s ∷ sents) [] = ⊤
HaveSameReplies (s ∷ sents) (t ∷ others) = MatchBool (may_differ s.reply t.reply) ⊤ ((s ≡ t) × HaveSameReplies sents others)

-- at some place of both they can differ
abbrev pub some_may_differ : List Sent → List Sent → Bool
some_may_differ sents others = list_any (λ pair. may_differ pair.0.reply pair.1.reply) (zip sents others)

-- the first of these replies, or all
abbrev pub IsFront : List Sent → List Sent → Type 0
IsFront front sents = (more : List Sent) × (sents ≡ front ++ more)

-- memory was refused for some reply, or the store failed
abbrev pub has_failure : List Sent → Bool
has_failure sents = list_any (λ sent. is_forgotten sent.reply || is_unsaved sent.reply) sents

-- ---- what may end a session before its time

-- the link failed, or there was no memory to begin with
abbrev pub is_broken_off : Ended → Bool
is_broken_off ended.Clean = false
is_broken_off ended.Truncated = false
is_broken_off ended.BadHead = false
is_broken_off ended.Spent = false
is_broken_off ended.ReadFault = true
is_broken_off ended.WriteFault = true
is_broken_off ended.NoMemory = true

-- of two sessions no replies at one place can differ, and what ended each were its bytes, a request or the count of its replies
pub record AreUndisturbed (sents others : List Sent) (how why : Ended) : Type 0 where
  pub replies : some_may_differ sents others ≡ false
  pub first_end : is_broken_off how ≡ false
  pub second_end : is_broken_off why ≡ false
