-- What a run has written, and what a query is told, with what they were made of.
use Rattle.std.specs.Prelude.{ℕ, ℤ, List, Option, Result}
use Rattle.lk_io.specs.Streams.{AppendsFront}
use Rattle.lk_io.specs.declared.files.File.{File}
use Rattle.lk_include.specs.declared.project.ProjectFault.{ProjectFault}
use Rattle.lk_resolve.specs.Loading.{IsLoadOf}
use Rattle.lk_resolve.specs.declared.loading.Loaded.{Loaded}
use Rattle.lookd_why.specs.Runs.{HasBegun, HasWritten, IsReply, IsWritten}
use Rattle.lookd_why.specs.Tellings.{IsAsked, OverLoaded}
use Rattle.lookd_why.specs.declared.reply.Reply.{Reply}

pub has_written : (words : List (List ℕ)) (files : Option (List File)) (input : Option (List ℕ)) (now : ℤ) (old new : Option (List ℕ)) (status : ℕ) (reply : Reply)
    → IsReply words files input now reply → IsWritten old new reply status → HasWritten words files input now old new status
has_written words files input now old new status reply is written = record { reply = reply; is_reply = is; written = written }

pub has_begun : (words : List (List ℕ)) (files : Option (List File)) (input : Option (List ℕ)) (now : ℤ) (old new : Option (List ℕ)) (reply : Reply)
    → IsReply words files input now reply → AppendsFront old new reply.body → HasBegun words files input now old new
has_begun words files input now old new reply is begun = record { reply = reply; is_reply = is; begun = begun }

pub is_asked : (files : List File) (user explore : List ℕ) (input : Option (List ℕ)) (now : ℤ) (loaded : Result Loaded ProjectFault) (reply : Reply)
    → IsLoadOf files loaded → OverLoaded loaded user explore input now reply → IsAsked files user explore input now reply
is_asked files user explore input now loaded reply is told = record { loaded = loaded; is_load = is; told = told }
