-- How a run ends, and what it writes.
use Rattle.std.specs.Prelude.{◌≡◌, ℕ, ℤ, ◌==◌, ◌||◌, Bool, List, Option, IsTrue, IfSome}
use Rattle.std.specs.Io.KnownBytes.{Appends}
use Rattle.lk_io.specs.Streams.{AppendsFront}
use Rattle.lk_io.specs.declared.files.File.{File}
use Rattle.lookd_why.specs.Replies.{code_of, usage_reply}
use Rattle.lookd_why.specs.Tellings.{IsAsked}
use Rattle.lookd_why.specs.Words.{Question, asked_by, unknown, query}
use Rattle.lookd_why.specs.declared.reply.Reply.{Reply}

-- a reply to what the words ask, as far as files and input are told
abbrev pub IsReplyTo : Question → Option (List File) → Option (List ℕ) → ℤ → Reply → Type 0
IsReplyTo unknown files input now reply = reply ≡ usage_reply
IsReplyTo (query user explore) files input now reply = IfSome files (λ told. IsAsked told user explore input now reply)

unfoldable pub IsReply : List (List ℕ) → Option (List File) → Option (List ℕ) → ℤ → Reply → Type 0
IsReply words files input now reply = IsReplyTo (asked_by words) files input now reply

-- the status of a run that something outside stopped: 3 the input, 4 the output, 6 memory, 7 the files (lookd)
abbrev pub is_stopped : ℕ → Bool
is_stopped status = status == 3 || status == 4 || status == 6 || status == 7

-- the run stopped before it had a reply
abbrev pub StopsBefore : ℕ → Type 0
StopsBefore status = IsTrue (status == 3 || status == 6 || status == 7)

-- the reply went out whole, and the run ended with its status
pub record IsWritten (old new : Option (List ℕ)) (reply : Reply) (status : ℕ) : Type 0 where
  pub body : Appends old new reply.body
  pub status_is : status ≡ code_of reply.status

-- some reply to the words went out whole, and the run ended with its status
pub record HasWritten (words : List (List ℕ)) (files : Option (List File)) (input : Option (List ℕ)) (now : ℤ) (old new : Option (List ℕ)) (status : ℕ) : Type 0 where
  pub reply : Reply
  pub is_reply : IsReply words files input now reply
  pub written : IsWritten old new reply status

-- a front of some reply to the words went out
pub record HasBegun (words : List (List ℕ)) (files : Option (List File)) (input : Option (List ℕ)) (now : ℤ) (old new : Option (List ℕ)) : Type 0 where
  pub reply : Reply
  pub is_reply : IsReply words files input now reply
  pub begun : AppendsFront old new reply.body
