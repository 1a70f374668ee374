-- A session: the items of a connection's bytes answered in order, one reply each, until it ends. (lookd)
use Rattle.std.specs.Prelude.{◌≡◌, ◌⊎◌, ℕ, ◌+◌, ◌==◌, Bool, true, false, ◌||◌, if◌then◌else◌, List, [], ◌∷◌, ◌++◌, length, Option, Some, Ok, Err}
use Rattle.std.specs.Io.KnownBytes.{Appends}
use Rattle.std.specs.List.{flat_map}
use Rattle.lk_io.specs.Streams.{AppendsFront}
use Rattle.lk_http.specs.Items.{IsNext, Item, at_end, ends}
use Rattle.lk_http.specs.Replies.{printed_reply}
use Rattle.lk_http.specs.declared.faults.HttpFault.TheVariants as http
use Rattle.lk_http.specs.declared.request.Got.TheVariants.{End}
use Rattle.lk_turns.specs.Doings.{Doing, Sent}
use Rattle.lk_turns.specs.declared.ended.Ended.{Ended}
use Rattle.lk_turns.specs.declared.ended.Ended.TheVariants as ended

-- the reply after so many is the last one, the 100,000th
abbrev pub is_last : ℕ → Bool
is_last before = before == 99999

-- the next item of the bytes is answered; the connection closes after an item that asks so, and after the last reply
pub record IsTurn {S : Type 0} (Does : Doing S) (s : S) (bytes : List ℕ) (last : Bool) (sent : Sent) (s' : S) (rest : List ℕ) : Type 0 where
  pub item : Item
  pub next : IsNext bytes (item, rest)
  pub does : Does s item sent.reply s'
  pub closes : sent.close ≡ (ends item || last)

-- after so many replies these follow, each to the next item of the bytes, and the connection stays open
abbrev pub AreTurns : {S : Type 0} → Doing S → ℕ → S → List ℕ → List Sent → S → List ℕ → Type 0
AreTurns Does before s bytes [] s' rest = (s ≡ s') × (bytes ≡ rest)
AreTurns {S} Does before s bytes (sent ∷ more) s' rest =
    (m : S) × (left : List ℕ) × IsTurn Does s bytes (is_last before) sent m left × (sent.close ≡ false)
    × AreTurns Does (before + 1) m left more s' rest

-- ---- the end

-- how a session ends without a reply: what came in ended at a border of requests, or inside one
abbrev pub EndsAt : Item → Ended → Type 0
EndsAt (Ok End) how = how ≡ ended.Clean
EndsAt (Err http.Truncated) how = how ≡ ended.Truncated
EndsAt item how = ⊥

-- there was no next item to answer
pub record IsOver (bytes rest : List ℕ) (how : Ended) : Type 0 where
  pub item : Item
  pub next : IsNext bytes (item, rest)
  pub at : EndsAt item how

-- the link could not be read before the next item was whole
pub record IsUnread (bytes rest : List ℕ) (how : Ended) : Type 0 where
  pub taken : List ℕ
  pub all : bytes ≡ taken ++ rest
  pub next : IsNext taken (at_end taken)
  pub fault : how ≡ ended.ReadFault

-- how a session ends after the reply to an item that closes it: it was the last reply, or the item had no head that can be
-- read (H1, H2, H3, H6), or the request asked so
abbrev pub closed_by : Item → Ended
closed_by (Ok got) = ended.Clean
closed_by (Err http.H1) = ended.BadHead
closed_by (Err http.H2) = ended.BadHead
closed_by (Err (http.H3 count)) = ended.BadHead
closed_by (Err http.H6) = ended.BadHead
closed_by (Err other) = ended.Clean

abbrev pub how_ended : Bool → Ended → Ended
how_ended last how = if last then ended.Spent else how

abbrev pub ended_by : Bool → Item → Ended
ended_by last item = how_ended last (closed_by item)

-- a last reply, after which the session ended since its item or the count of replies closed it, or since it could not be written
pub record Closes {S : Type 0} (Does : Doing S) (last : Bool) (s : S) (bytes : List ℕ) (sent : Sent) (s' : S) (rest : List ℕ) (how : Ended) : Type 0 where
  pub turn : IsTurn Does s bytes last sent s' rest
  pub why : ((sent.close ≡ true) × (how ≡ ended_by last turn.item)) ⊎ (how ≡ ended.WriteFault)

-- ---- the whole

-- there was no memory to begin with
pub record NotBegun {S : Type 0} (s : S) (bytes : List ℕ) (sents : List Sent) (s' : S) (rest : List ℕ) (how : Ended) : Type 0 where
  pub none : sents ≡ []
  pub same : s' ≡ s
  pub untaken : rest ≡ bytes
  pub why : how ≡ ended.NoMemory

-- a session that ended without a last reply
pub record Stopped {S : Type 0} (Does : Doing S) (s : S) (bytes : List ℕ) (sents : List Sent) (s' : S) (rest : List ℕ) (how : Ended) : Type 0 where
  pub left : List ℕ
  pub turns : AreTurns Does 0 s bytes sents s' left
  pub stop : IsOver left rest how ⊎ IsUnread left rest how

-- a session that ended with a last reply
pub record Closed {S : Type 0} (Does : Doing S) (s : S) (bytes : List ℕ) (sents : List Sent) (s' : S) (rest : List ℕ) (how : Ended) : Type 0 where
  pub front : List Sent
  pub sent : Sent
  pub m : S
  pub left : List ℕ
  pub all : sents ≡ front ++ sent ∷ []
  pub turns : AreTurns Does 0 s bytes front m left
  pub closes : Closes Does (is_last (length front)) m left sent s' rest how

-- a session over a connection's bytes answers with these replies, leaves what is there and the bytes so, and ends so
abbrev pub IsRun : {S : Type 0} → Doing S → S → List ℕ → List Sent → S → List ℕ → Ended → Type 0
IsRun Does s bytes sents s' rest how =
    NotBegun s bytes sents s' rest how ⊎ (Stopped Does s bytes sents s' rest how ⊎ Closed Does s bytes sents s' rest how)

-- how many replies say that a call failed of what they are answered from (503; RFC 9110, section 15.6.4)
abbrev pub failures : List Sent → ℕ
failures [] = 0
failures (sent ∷ more) = (if sent.reply.status == 503 then 1 else 0) + failures more

-- ---- what goes out

-- the bytes that replies are written as
abbrev pub printed : List Sent → List ℕ
printed sents = flat_map (λ sent. printed_reply sent.reply sent.close) sents

-- after a fault of writing: the replies before the last one went out, and of that a front
pub record IsCutOff (held held' : Option (List ℕ)) (sents : List Sent) : Type 0 where
  pub front : List Sent
  pub sent : Sent
  pub all : sents ≡ front ++ sent ∷ []
  pub between : Option (List ℕ)
  pub whole : Appends held between (printed front)
  pub cut : AppendsFront between held' (printed_reply sent.reply sent.close)

-- all replies went out, but after a fault of writing
abbrev pub GoesOut : Ended → Option (List ℕ) → Option (List ℕ) → List Sent → Type 0
GoesOut ended.WriteFault held held' sents = IsCutOff held held' sents
GoesOut how held held' sents = Appends held held' (printed sents)

-- a session over what comes in: some replies are those of a run, and are what went out
pub record IsSession {S : Type 0} (Does : Doing S) (s : S) (bytes : List ℕ) (held held' : Option (List ℕ)) (s' : S) (left' : Option (List ℕ)) (how : Ended) : Type 0 where
  pub sents : List Sent
  pub rest : List ℕ
  pub left : left' ≡ Some rest
  pub run : IsRun Does s bytes sents s' rest how
  pub out : GoesOut how held held' sents
