-- What `script` does: it opens the server over a folder's project, and serves the requests of the input. (lookd)
use Rattle.std.specs.Prelude.{◌≡◌, ◌⊎◌, ◌≤◌, ◌==◌, ◌||◌, IsTrue, ℕ, ℤ, List, [], Option, IfSome, Err}
use Rattle.std.specs.Io.KnownBytes.{Appends}
use Rattle.std.specs.Option.{option_map}
use Rattle.lk_io.specs.Moments.{later}
use Rattle.lk_io.specs.Streams.{AppendsFront}
use Rattle.lk_io.specs.declared.files.File.{File}
use Rattle.lk_ledger.specs.declared.kept.Kept.{Kept}
use Rattle.lk_edition.specs.Standings.{Standing}
use Rattle.lk_turns.specs.declared.ended.Ended.{Ended}
use Rattle.lk_turns.specs.declared.ended.Ended.TheVariants as ended
use Rattle.lk_session.specs.Recorded.{IsRecorded}
use Rattle.lk_session.specs.Servers.{server}
use Rattle.lk_serve.specs.Opened.{HasOpened, IsOpenedNextBy, TellsLine}
use Rattle.lk_serve.specs.Openings.{HasProjectBy}
use Rattle.lk_serve.specs.Runs.{IsAskedOnce, next_moment}
use Rattle.lk_serve.specs.declared.opening.DataFiles.{DataFiles}
use Rattle.lk_serve.specs.declared.opening.DataFiles.TheVariants as data_files
use Rattle.lk_serve.specs.declared.replies.Reply.{Reply}

-- ---- the end

-- the status of the process after a session
abbrev pub ended_code : Ended → ℕ
ended_code ended.Clean = 0
ended_code ended.ReadFault = 3
ended_code ended.WriteFault = 4
ended_code ended.NoMemory = 6
ended_code ended.Truncated = 9
ended_code ended.BadHead = 9
ended_code ended.Spent = 10

-- ---- the whole

-- what is outside of a run: what the store holds, what is left of the input, what went out, and the moments to come, as far
-- as these tell; and the store's count of faults
pub record Outside : Type 0 where
  pub kept : Option Kept
  pub faults : ℕ
  pub left : Option (List ℕ)
  pub out : Option (List ℕ)
  pub moments : Option (List ℤ)

abbrev pub outside : Option Kept → ℕ → Option (List ℕ) → Option (List ℕ) → Option (List ℤ) → Outside
outside kept faults left out moments = record { kept = kept; faults = faults; left = left; out = out; moments = moments }

-- nothing was read, and the store holds what it held
pub record IsUntouched (a b : Outside) : Type 0 where
  pub kept : b.kept ≡ a.kept
  pub left : b.left ≡ a.left

-- the server did not open, and the line on it went out (1), or a front of it (4)
pub record DidNotOpenBy (which : DataFiles) (files : Option (List File)) (begins : Kept → Type 0) (a b : Outside) (status : ℕ) : Type 0 where
  pub reply : Reply
  pub tells : TellsLine reply
  pub is : IfSome files (λ told. IsOpenedNextBy which told begins (next_moment a.moments) (Err reply))
  pub untouched : IsUntouched a b
  pub asked : IsAskedOnce a.moments b.moments
  pub out : ((status ≡ 1) × Appends a.out b.out reply.body) ⊎ ((status ≡ 4) × AppendsFront a.out b.out reply.body)

-- the run stopped before it had a server or a line: for the store (5), which is read where the files have no line, for memory (6), or for the files (7)
pub record StoppedBy (which : DataFiles) (files : Option (List File)) (a b : Outside) (status : ℕ) : Type 0 where
  pub project : IfSome files (λ told. status ≡ 5 → HasProjectBy which told)
  pub status_is : (status ≡ 5) ⊎ ((status ≡ 6) ⊎ (status ≡ 7))
  pub untouched : IsUntouched a b
  pub asked : IsAskedOnce a.moments b.moments
  pub silent : b.out ≡ a.out

-- a session of a server whose history is its state alone, as far as the input tells
abbrev pub IsServedBy : Standing → Outside → Outside → Ended → Type 0
IsServedBy e a b how = IfSome a.left (λ bytes. (last : Standing)
    × IsRecorded (server e a.kept a.faults a.moments) [] bytes a.out b.out (server last b.kept b.faults b.moments) b.left how)

-- the server opened at the next moment, and the run is a session of it at those behind
pub record Served (files : Option (List File)) (begins : Kept → Type 0) (a b : Outside) (status : ℕ) : Type 0 where
  pub opened : HasOpened files begins (next_moment a.moments)
  pub begun : Outside
  pub untouched : IsUntouched a begun
  pub asked : begun.moments ≡ option_map later a.moments
  pub later : a.faults ≤ begun.faults
  pub silent : begun.out ≡ a.out
  pub how : Ended
  pub served : IsServedBy opened.e begun b how
  pub ended : status ≡ ended_code how

-- what `script` does, over files and what the store hands over
abbrev pub HasServed : Option (List File) → (Kept → Type 0) → Outside → Outside → ℕ → Type 0
HasServed files begins a b status = Served files begins a b status ⊎ (DidNotOpenBy data_files.Read files begins a b status ⊎ StoppedBy data_files.Read files a b status)

-- the run is a session of this server
pub record HasEnded (e : Standing) (a b : Outside) (status : ℕ) : Type 0 where
  pub how : Ended
  pub served : IsServedBy e a b how
  pub ended : status ≡ ended_code how

-- the status of a process whose session ended
abbrev pub IsSessionStatus : ℕ → Type 0
IsSessionStatus status = IsTrue (status == 0 || status == 3 || status == 4 || status == 6 || status == 9 || status == 10)
