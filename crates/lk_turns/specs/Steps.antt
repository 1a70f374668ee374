-- What one turn of a session comes to, and what is known between two turns. (lookd)
use Rattle.std.specs.Prelude.{◌≡◌, ◌⊎◌, ◌≤◌, ℕ, Bool, true, false, ◌||◌, List, length, Option, Some, None, Result, Ok, Err}
use Rattle.std.specs.Io.KnownBytes.{Appends}
use Rattle.lk_io.specs.Streams.{AppendsFront}
use Rattle.lk_types.specs.declared.answer.Reply.{Reply}
use Rattle.lk_http.specs.Items.{IsNext, Item, ends}
use Rattle.lk_http.specs.Replies.{memory_reply, printed_reply}
use Rattle.lk_http.specs.declared.faults.HttpFault.{HttpFault}
use Rattle.lk_turns.specs.Doings.{Doing, IsRefusal, Sent, http_reply}
use Rattle.lk_turns.specs.Runs.{AreTurns, IsOver, IsUnread, ended_by, printed}
use Rattle.lk_turns.specs.declared.ended.Ended.{Ended}
use Rattle.lk_turns.specs.declared.ended.Ended.TheVariants as ended

-- no count of faults falls: of what the replies are answered from, of pulls and of puts
pub record NeverFall (calls calls' reads reads' writes writes' : ℕ) : Type 0 where
  pub call_count : calls ≤ calls'
  pub read_count : reads ≤ reads'
  pub write_count : writes ≤ writes'

abbrev pub sent_of : Item → Bool → Reply → Sent
sent_of item last reply = record { reply = reply; close = ends item || last }

-- a reply went out, and the session goes on where it did not close; or it could not be written
abbrev pub IsSent : Option (List ℕ) → Option (List ℕ) → Reply → Bool → Ended → Option Ended → Type 0
IsSent held held' reply close how None = (close ≡ false) × Appends held held' (printed_reply reply close)
IsSent held held' reply close how (Some result) =
    ((close ≡ true) × (result ≡ how) × Appends held held' (printed_reply reply close))
    ⊎ ((result ≡ ended.WriteFault) × AppendsFront held held' (printed_reply reply close))

abbrev pub reply_or_memory : {E : Type 0} → Result Reply E → Reply
reply_or_memory (Ok reply) = reply
reply_or_memory (Err fault) = memory_reply

-- a request was refused as it is
pub record IsRefused (fault : HttpFault) (last : Bool) (held held' : Option (List ℕ)) (result : Option Ended) : Type 0 where
  pub reply : Reply
  pub is : IsRefusal (http_reply fault) reply
  pub out : IsSent held held' reply (ends (Err fault) || last) (ended_by last (Err fault)) result

-- an item was answered
pub record IsDone {S : Type 0} (Does : Doing S) (s : S) (item : Item) (last : Bool) (held held' : Option (List ℕ)) (s' : S) (result : Option Ended) : Type 0 where
  pub reply : Reply
  pub does : Does s item reply s'
  pub out : IsSent held held' reply (ends item || last) (ended_by last item) result

-- the next item was answered
pub record Answers {S : Type 0} (Does : Doing S) (s : S) (bytes : List ℕ) (last : Bool) (held held' : Option (List ℕ)) (s' : S) (left' : Option (List ℕ)) (result : Option Ended) : Type 0 where
  pub item : Item
  pub rest : List ℕ
  pub next : IsNext bytes (item, rest)
  pub left : left' ≡ Some rest
  pub done : IsDone Does s item last held held' s' result

-- there was nothing to answer
pub record Stops {S : Type 0} (s : S) (bytes : List ℕ) (held held' : Option (List ℕ)) (s' : S) (left' : Option (List ℕ)) (result : Option Ended) : Type 0 where
  pub how : Ended
  pub rest : List ℕ
  pub left : left' ≡ Some rest
  pub same : s' ≡ s
  pub silent : held' ≡ held
  pub is : result ≡ Some how
  pub stop : IsOver bytes rest how ⊎ IsUnread bytes rest how

abbrev pub IsStep : {S : Type 0} → Doing S → S → List ℕ → Bool → Option (List ℕ) → Option (List ℕ) → S → Option (List ℕ) → Option Ended → Type 0
IsStep Does s bytes last held held' s' left' result =
    Answers Does s bytes last held held' s' left' result ⊎ Stops s bytes held held' s' left' result

-- after so many replies, all of which went out, the connection is open
pub record Reached {S : Type 0} (Does : Doing S) (s : S) (bytes : List ℕ) (held held' : Option (List ℕ)) (s' : S) (left' : Option (List ℕ)) (count : ℕ) : Type 0 where
  pub sents : List Sent
  pub rest : List ℕ
  pub left : left' ≡ Some rest
  pub turns : AreTurns Does 0 s bytes sents s' rest
  pub many : length sents ≡ count
  pub out : Appends held held' (printed sents)
