-- How a run ends, and what it leaves outside.
use Rattle.std.specs.Prelude.{◌≡◌, ◌⊎◌, ℕ, ℤ, ◌≤◌, ◌==◌, ◌||◌, Bool, List, Option, IsTrue, slice_get}
use Rattle.std.specs.Option.{option_and_then, option_map}
use Rattle.std.specs.Io.KnownBytes.{Appends}
use Rattle.lk_io.specs.Moments.{later}
use Rattle.lk_io.specs.Streams.{AppendsFront}
use Rattle.lk_io.specs.declared.files.File.{File}
use Rattle.lk_ledger.specs.declared.kept.Kept.{Kept}
use Rattle.lk_serve.specs.Checks.{TellsSome}
use Rattle.lk_serve.specs.Outcomes.{IsReply}
use Rattle.lk_serve.specs.Queries as queries
use Rattle.lk_serve.specs.Replies.{code_of}
use Rattle.lk_serve.specs.declared.replies.Reply.{Reply}

-- the status of a run that something outside stopped: 3 the input, 4 the output, 5 the store at the opening, 6 memory, 7 the files (lookd)
abbrev pub is_stopped : ℕ → Bool
is_stopped status = status == 3 || status == 4 || status == 5 || status == 6 || status == 7

-- the status is one of those that a run has which writes one reply
abbrev pub IsStatus : ℕ → Type 0
IsStatus status = IsTrue (is_stopped status || status == 0 || status == 1 || status == 2 || status == 8)

-- wrong words end with their own status, unless the line on them can't be made or written
abbrev pub IsUsageStatus : ℕ → Type 0
IsUsageStatus status = IsTrue (status == 2 || status == 4 || status == 6)

-- the run stopped before it had a reply
abbrev pub StopsBefore : ℕ → Type 0
StopsBefore status = IsTrue (status == 3 || status == 5 || status == 6 || status == 7)

-- the run ended before it read the input
abbrev pub LeavesInput : ℕ → Type 0
LeavesInput status = IsTrue (status == 1 || status == 2 || status == 5 || status == 7)

-- the reply went out whole, and the run ended with its status
pub record IsWritten (old new : Option (List ℕ)) (reply : Reply) (status : ℕ) : Type 0 where
  pub body : Appends old new reply.body
  pub status_is : status ≡ code_of reply.status

-- no count of faults fell
pub record NeverFall (files files' input input' out out' : ℕ) : Type 0 where
  pub files_count : files ≤ files'
  pub input_count : input ≤ input'
  pub out_count : out ≤ out'

-- the next moment of a clock that tells those to come
abbrev pub next_moment : Option (List ℤ) → Option ℤ
next_moment moments = option_and_then (λ told. slice_get told 0) moments

-- the clock was asked once or not at all
abbrev pub IsAskedOnce : Option (List ℤ) → Option (List ℤ) → Type 0
IsAskedOnce old new = (new ≡ old) ⊎ (new ≡ option_map later old)

-- some reply to the words went out whole, and the run ended with its status
pub record HasWritten (words : List (List ℕ)) (files : Option (List File)) (begins : Kept → Type 0) (input : Option (List ℕ)) (now : Option ℤ) (old new : Option (List ℕ)) (status : ℕ) : Type 0 where
  pub reply : Reply
  pub is_reply : IsReply words files begins input now reply
  pub written : IsWritten old new reply status

-- a front of some reply to the words went out
pub record HasBegun (words : List (List ℕ)) (files : Option (List File)) (begins : Kept → Type 0) (input : Option (List ℕ)) (now : Option ℤ) (old new : Option (List ℕ)) : Type 0 where
  pub reply : Reply
  pub is_reply : IsReply words files begins input now reply
  pub begun : AppendsFront old new reply.body

-- `ok` or the line of some fault went out whole, and the run ended with its status
pub record HasWrittenCheck (old new : Option (List ℕ)) (status : ℕ) : Type 0 where
  pub reply : Reply
  pub tells : TellsSome reply
  pub written : IsWritten old new reply status

-- what a query may write went out whole, and the run ended with its status
pub record HasWrittenQuery (old new : Option (List ℕ)) (status : ℕ) : Type 0 where
  pub reply : Reply
  pub tells : queries.TellsSome reply
  pub written : IsWritten old new reply status
