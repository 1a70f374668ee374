-- The reply to `check`.
use Rattle.std.specs.Prelude.{◌≡◌, List, Result, Ok, Err}
use Rattle.lk_io.specs.declared.files.File.{File}
use Rattle.lk_include.specs.declared.project.ProjectFault.{ProjectFault}
use Rattle.lk_include.specs.declared.project.ProjectFault.TheVariants.{Model, Failed, NoMemory}
use Rattle.lk_resolve.specs.Loading.{IsLoadOf}
use Rattle.lk_resolve.specs.declared.loading.Loaded.{Loaded}
use Rattle.lk_serve.specs.Replies.{fault_reply, ok_reply}
use Rattle.lk_serve.specs.declared.replies.Reply.{Reply}

-- `ok` for a project that loads, and else the line of its first fault
abbrev pub IsToldBy : Result Loaded ProjectFault → Reply → Type 0
IsToldBy (Ok loaded) reply = reply ≡ ok_reply
IsToldBy (Err (Model fault)) reply = reply ≡ fault_reply fault
IsToldBy (Err Failed) reply = ⊥
IsToldBy (Err NoMemory) reply = ⊥

-- the files load as something, and the reply tells it
pub record IsChecked (files : List File) (reply : Reply) : Type 0 where
  pub loaded : Result Loaded ProjectFault
  pub is_load : IsLoadOf files loaded
  pub told : IsToldBy loaded reply

-- the reply tells what some files load as
pub record TellsSome (reply : Reply) : Type 0 where
  pub loaded : Result Loaded ProjectFault
  pub told : IsToldBy loaded reply
