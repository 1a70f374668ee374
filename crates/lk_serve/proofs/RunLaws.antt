-- What a run has written, and what a check has told, with what they were made of.
use Rattle.std.specs.Prelude.{ℕ, ℤ, List, Option, Result}
use Rattle.lk_io.specs.Streams.{AppendsFront}
use Rattle.lk_io.specs.declared.files.File.{File}
use Rattle.lk_include.specs.declared.project.ProjectFault.{ProjectFault}
use Rattle.lk_ledger.specs.declared.kept.Kept.{Kept}
use Rattle.lk_resolve.specs.Loading.{IsLoadOf}
use Rattle.lk_resolve.specs.declared.loading.Loaded.{Loaded}
use Rattle.lk_serve.specs.Checks.{IsChecked, IsToldBy, TellsSome}
use Rattle.lk_serve.specs.Outcomes.{IsReply}
use Rattle.lk_serve.specs.Queries as queries
use Rattle.lk_serve.specs.Runs.{HasBegun, HasWritten, HasWrittenCheck, HasWrittenQuery, IsWritten}
use Rattle.lk_serve.specs.declared.replies.Reply.{Reply}

pub has_written : (words : List (List ℕ)) (files : Option (List File)) (begins : Kept → Type 0) (input : Option (List ℕ)) (now : Option ℤ) (old new : Option (List ℕ)) (status : ℕ) (reply : Reply)
    → IsReply words files begins input now reply → IsWritten old new reply status → HasWritten words files begins input now old new status
has_written words files begins input now old new status reply is written = record { reply = reply; is_reply = is; written = written }

pub has_begun : (words : List (List ℕ)) (files : Option (List File)) (begins : Kept → Type 0) (input : Option (List ℕ)) (now : Option ℤ) (old new : Option (List ℕ)) (reply : Reply)
    → IsReply words files begins input now reply → AppendsFront old new reply.body → HasBegun words files begins input now old new
has_begun words files begins input now old new reply is begun = record { reply = reply; is_reply = is; begun = begun }

pub is_checked : (files : List File) (loaded : Result Loaded ProjectFault) (reply : Reply)
    → IsLoadOf files loaded → IsToldBy loaded reply → IsChecked files reply
is_checked files loaded reply is told = record { loaded = loaded; is_load = is; told = told }

pub tells_some : (loaded : Result Loaded ProjectFault) (reply : Reply) → IsToldBy loaded reply → TellsSome reply
tells_some loaded reply told = record { loaded = loaded; told = told }

pub has_written_check : (old new : Option (List ℕ)) (status : ℕ) (reply : Reply)
    → TellsSome reply → IsWritten old new reply status → HasWrittenCheck old new status
has_written_check old new status reply tells written = record { reply = reply; tells = tells; written = written }

pub has_written_query : (old new : Option (List ℕ)) (status : ℕ) (reply : Reply)
    → queries.TellsSome reply → IsWritten old new reply status → HasWrittenQuery old new status
has_written_query old new status reply tells written = record { reply = reply; tells = tells; written = written }
