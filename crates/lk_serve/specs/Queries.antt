-- The reply to `query`: to a caller's query on an explore, over the edition that a folder's project opens over what a store hands over. (lookd)
use Rattle.std.specs.Prelude.{◌≡◌, ◌⊎◌, ℤ, IfSome, nat_le, false, if◌then◌else◌, List, [], length, ℕ, Option, Some, None, Result, Ok, Err, true}
use Rattle.lk_val.specs.declared.fault.FaultLine.{FaultLine}
use Rattle.lk_io.specs.declared.files.File.{File}
use Rattle.lk_val.specs.Years.{IsMomentInYears}
use Rattle.lk_types.specs.declared.answer.Reply as sent
use Rattle.lk_types.specs.declared.model.Model.{Model}
use Rattle.lk_ask.specs.Asks.{is_no_memory}
use Rattle.lk_ask.specs.declared.fault.AskFault.{AskFault}
use Rattle.lk_ask.specs.declared.told.Told.{Told}
use Rattle.lk_ledger.specs.declared.kept.Kept.{Kept}
use Rattle.lk_edition.specs.Standings.{Standing}
use Rattle.lk_answer.specs.Replies.{IsReplied}
use Rattle.lk_serve.specs.Opened.{IsOpened}
use Rattle.lk_serve.specs.Replies.{ComesUnread, answer_reply, fault_reply, long_reply, printed_answer, refused_reply}
use Rattle.lk_serve.specs.declared.replies.Reply.{Reply}

-- ---- over an edition

-- the answer, or the refusal; want of memory is neither
abbrev pub TellsAnswer : Result sent.Reply AskFault → Reply → Type 0
TellsAnswer (Ok answer) reply = reply ≡ printed_answer answer
TellsAnswer (Err fault) reply = (is_no_memory fault ≡ false) × (reply ≡ refused_reply fault)

-- the body asks something of an edition whose history is its state alone, and the reply tells what comes of it, in CSV
pub record IsAnswered (e : Standing) (user explore : List ℕ) (now : ℤ) (body : List ℕ) (reply : Reply) : Type 0 where
  pub told : Result sent.Reply AskFault
  pub is : IsReplied e [] user explore body now true told
  pub tells : TellsAnswer told reply

-- the input, where it has at most 16,777,216 bytes
abbrev pub small_input : List ℕ → Option (List ℕ)
small_input input = if nat_le (length input) 16777216 then Some input else None

-- a longer input is refused as it is; any other is answered at the moment, which is of the years 1 to 9999
abbrev pub OverBody : Standing → List ℕ → List ℕ → ℤ → Option (List ℕ) → Reply → Type 0
OverBody e user explore now None reply = reply ≡ long_reply
OverBody e user explore now (Some body) reply = IsMomentInYears now × IsAnswered e user explore now body reply

-- the same of the input, as far as it is told
pub record OverEdition (e : Standing) (user explore : List ℕ) (input : Option (List ℕ)) (now : ℤ) (reply : Reply) : Type 0 where
  pub read : ComesUnread reply.status → ⊥
  pub is : IfSome input (λ left. OverBody e user explore now (small_input left) reply)

-- ---- over files

-- the project opens with an edition, over which the query is answered or refused, or it does not, with a line
abbrev pub OverOpened : List ℕ → List ℕ → Option (List ℕ) → ℤ → Result Standing Reply → Reply → Type 0
OverOpened user explore input now (Ok e) reply = OverEdition e user explore input now reply
OverOpened user explore input now (Err line) reply = reply ≡ line

-- the files open as something over what the store hands over at a moment, over which the reply is told at that moment; it is the told one where
-- the clock tells
pub record IsQueried (files : List File) (begins : Kept → Type 0) (user explore : List ℕ) (input : Option (List ℕ)) (now : Option ℤ) (reply : Reply) : Type 0 where
  pub moment : ℤ
  pub is_now : IfSome now (λ told. moment ≡ told)
  pub opened : Result Standing Reply
  pub is_opened : IsOpened files begins moment opened
  pub told : OverOpened user explore input moment opened reply

-- ---- whatever the objects show

-- the line of some fault, that the input is too long, a refusal, or an answer that names some snapshot
abbrev pub TellsSome : Reply → Type 0
TellsSome reply =
    ((line : FaultLine) × (reply ≡ fault_reply line))
    ⊎ ((reply ≡ long_reply)
    ⊎ (((fault : AskFault) × (is_no_memory fault ≡ false) × (reply ≡ refused_reply fault))
    ⊎ ((m : Model) × (number : ℕ) × (told : Told) × (reply ≡ answer_reply m number told))))
