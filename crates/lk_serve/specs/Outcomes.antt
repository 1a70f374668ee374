-- The whole meaning of a run that writes one reply: what it writes and how it ends, by its words, its files, what its store hands over, its input
-- and the clock.
use Rattle.std.specs.Prelude.{◌≡◌, ℕ, ℤ, IfSome, List, Option}
use Rattle.lk_io.specs.declared.files.File.{File}
use Rattle.lk_ledger.specs.declared.kept.Kept.{Kept}
use Rattle.lk_serve.specs.Checks.{IsChecked}
use Rattle.lk_serve.specs.Queries.{IsQueried}
use Rattle.lk_serve.specs.Replies.{usage_reply}
use Rattle.lk_serve.specs.Words.{Asked, asked_by, unknown, check, query, script, serve}
use Rattle.lk_serve.specs.declared.replies.Reply.{Reply}

-- a reply to what the words ask for, over a store that begins with something of which `begins` holds, as far as files, input and
-- the next moment are told; where requests are served there is no one reply
abbrev pub IsReplyTo : Asked → Option (List File) → (Kept → Type 0) → Option (List ℕ) → Option ℤ → Reply → Type 0
IsReplyTo unknown files begins input now reply = reply ≡ usage_reply
IsReplyTo check files begins input now reply = IfSome files (λ told. IsChecked told reply)
IsReplyTo (query user explore) files begins input now reply = IfSome files (λ told. IsQueried told begins user explore input now reply)
IsReplyTo script files begins input now reply = ⊥
IsReplyTo (serve workers) files begins input now reply = ⊥

-- a reply to words over files, a store, an input and the next moment, as far as these are told
unfoldable pub IsReply : List (List ℕ) → Option (List File) → (Kept → Type 0) → Option (List ℕ) → Option ℤ → Reply → Type 0
IsReply words files begins input now reply = IsReplyTo (asked_by words) files begins input now reply
