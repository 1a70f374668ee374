-- What the objects in memory hold, and what a call does to them.
use Rattle.std.specs.Prelude.{ℕ, ◌-◌, Bool, ◌||◌, ◌==◌, nat_lt, if◌then◌else◌, List, [], ◌++◌, take, length}
use Rattle.std.specs.List.{list_any}
use Rattle.lk_io.specs.Causes.{next_count}
use Rattle.lk_io.specs.declared.calls.Calls.{Calls}
use Rattle.lk_io.specs.declared.files.File.{File}

-- no call yet, of which those with these numbers are to fail
abbrev pub no_calls : List ℕ → Calls
no_calls failing = record { failing = failing; made = 0; faults = 0 }

-- the next call is one of those that are to fail
abbrev pub is_due : Calls → Bool
is_due calls = list_any (λ number. number == calls.made) calls.failing

-- one call more, and one fault more where it failed
abbrev pub after_call : Bool → Calls → Calls
after_call failed calls = record {
  failing = calls.failing;
  made = next_count calls.made;
  faults = if failed then next_count calls.faults else calls.faults;
}

-- a source: the bytes that are left to pull
pub record Input : Type 0 where
  pub left : List ℕ
  pub calls : Calls

-- a sink: the bytes that were put, and how many it has room for
pub record Output : Type 0 where
  pub held : List ℕ
  pub room : ℕ
  pub calls : Calls

-- a call that is to fail, or more bytes than the room has
abbrev pub put_fails : Output → List ℕ → Bool
put_fails output bytes = is_due output.calls || nat_lt (output.room - length output.held) (length bytes)

-- the bytes that a put adds: those that the room has, and none where the call is to fail
abbrev pub added : Output → List ℕ → List ℕ
added output bytes = if is_due output.calls then [] else take (output.room - length output.held) bytes

-- the sink after a put
abbrev pub after_put : Output → List ℕ → Output
after_put output bytes = record {
  held = output.held ++ added output bytes;
  room = output.room;
  calls = after_call (put_fails output bytes) output.calls;
}

-- a folder's files in order of their paths
pub record Folder : Type 0 where
  pub files : List File
  pub calls : Calls
