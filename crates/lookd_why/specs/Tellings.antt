-- What a caller's query on an explore is told over a folder's project. (lookd)
use Rattle.std.specs.Prelude.{◌≡◌, ℕ, ℤ, nat_le, false, if◌then◌else◌, List, length, IfSome, Option, Some, None, Result, Ok, Err}
use Rattle.lk_io.specs.declared.files.File.{File}
use Rattle.lk_types.specs.declared.bound.Bound.{Bound}
use Rattle.lk_types.specs.declared.model.Model.{Model}
use Rattle.lk_include.specs.declared.project.ProjectFault.{ProjectFault}
use Rattle.lk_include.specs.declared.project.ProjectFault.TheVariants as project
use Rattle.lk_body.specs.Faults.{is_no_memory}
use Rattle.lk_body.specs.declared.fault.QueryFault.{QueryFault}
use Rattle.lk_query.specs.Bindings.{IsBodyBound}
use Rattle.lk_ask.specs.Asks.{refused}
use Rattle.lk_resolve.specs.Loading.{IsLoadOf}
use Rattle.lk_resolve.specs.declared.loading.Loaded.{Loaded}
use Rattle.lookd_why.specs.Lines.{text_of}
use Rattle.lookd_why.specs.Replies.{fault_reply, long_reply, refused_reply, told_reply}
use Rattle.lookd_why.specs.declared.reply.Reply.{Reply}

-- the lines on the aggregate tables for the bound query, or its refusal; want of memory is neither
abbrev pub TellsBound : Model → Result Bound QueryFault → Reply → Type 0
TellsBound m (Ok b) reply = reply ≡ told_reply (text_of m b)
TellsBound m (Err fault) reply = (is_no_memory fault ≡ false) × (reply ≡ refused_reply (refused fault))

-- the body binds to something over the project, and the reply tells it
pub record IsTold (loaded : Loaded) (user explore body : List ℕ) (now : ℤ) (reply : Reply) : Type 0 where
  pub bound : Result Bound QueryFault
  pub is_bound : IsBodyBound loaded.model loaded.users user explore body now bound
  pub tells : TellsBound loaded.model bound reply

-- the input, where it has at most 16,777,216 bytes
abbrev pub small_input : List ℕ → Option (List ℕ)
small_input input = if nat_le (length input) 16777216 then Some input else None

-- a longer input is refused as it is
abbrev pub OverBody : Loaded → List ℕ → List ℕ → Option (List ℕ) → ℤ → Reply → Type 0
OverBody loaded user explore None now reply = reply ≡ long_reply
OverBody loaded user explore (Some body) now reply = IsTold loaded user explore body now reply

-- the same of the input, as far as it is told
abbrev pub OverInput : Loaded → List ℕ → List ℕ → Option (List ℕ) → ℤ → Reply → Type 0
OverInput loaded user explore input now reply = IfSome input (λ left. OverBody loaded user explore (small_input left) now reply)

-- the line of a project's first fault goes before the query
abbrev pub OverLoaded : Result Loaded ProjectFault → List ℕ → List ℕ → Option (List ℕ) → ℤ → Reply → Type 0
OverLoaded (Ok loaded) user explore input now reply = OverInput loaded user explore input now reply
OverLoaded (Err (project.Model fault)) user explore input now reply = reply ≡ fault_reply fault
OverLoaded (Err project.Failed) user explore input now reply = ⊥
OverLoaded (Err project.NoMemory) user explore input now reply = ⊥

-- the files load as something, over which the query is told
pub record IsAsked (files : List File) (user explore : List ℕ) (input : Option (List ℕ)) (now : ℤ) (reply : Reply) : Type 0 where
  pub loaded : Result Loaded ProjectFault
  pub is_load : IsLoadOf files loaded
  pub told : OverLoaded loaded user explore input now reply
