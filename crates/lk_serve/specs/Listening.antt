-- What `serve` does: it opens the server over a folder's project and the store, without data files, and has workers serve the
-- connections of a door. (lookd)
use Rattle.std.specs.Prelude.{◌≡◌, ◌⊎◌, ◌≤◌, ◌+◌, ◌*◌, ◌-◌, ◌^◌, ◌==◌, ◌||◌, min, IsTrue, ℕ, Bool, true, List, Option}
use Rattle.std.specs.Option.{option_map}
use Rattle.lk_io.specs.Moments.{later}
use Rattle.lk_io.specs.declared.files.File.{File}
use Rattle.lk_ledger.specs.declared.kept.Kept.{Kept}
use Rattle.lk_door.specs.declared.serving.Served.{Served}
use Rattle.lk_door.specs.declared.serving.Served.TheVariants as served
use Rattle.lk_serve.specs.Opened.{HasOpenedBy}
use Rattle.lk_serve.specs.Runs.{next_moment}
use Rattle.lk_serve.specs.Scripts.{DidNotOpenBy, Outside, StoppedBy}
use Rattle.lk_serve.specs.declared.opening.DataFiles.TheVariants as data_files

-- the status of the process once the workers have ended
abbrev pub served_code : Served → ℕ
served_code served.Ended = 0
served_code served.Broken = 3
served_code served.NoMemory = 6

-- a door's count of faults rose by 1,000 for each worker, as far as 64 bits hold it
abbrev pub RoseForEach : ℕ → ℕ → ℕ → Type 0
RoseForEach workers before now = min (before + 1000 * workers) (2 ^ 64 - 1) ≤ now

-- the door has answered that there are no more connections (0), or failed for each worker so often that it ended (3); or memory was refused (6)
abbrev pub HasShut : ℕ → ℕ → ℕ → Bool → ℕ → Type 0
HasShut workers before now ended status =
    ((status ≡ 0) × (ended ≡ true)) ⊎ (((status ≡ 3) × RoseForEach workers before now) ⊎ (status ≡ 6))

-- the server opened at the next moment, and served until its workers had ended; nothing of the input was taken, and nothing written to the output
pub record Listened (files : Option (List File)) (begins : Kept → Type 0) (a b : Outside) (shut : Type 0) : Type 0 where
  pub opened : HasOpenedBy data_files.Unread files begins (next_moment a.moments)
  pub left : b.left ≡ a.left
  pub silent : b.out ≡ a.out
  pub asked : b.moments ≡ option_map later a.moments
  pub ended : shut

-- what `serve` does, over files and what the store hands over
abbrev pub HasListened : Option (List File) → (Kept → Type 0) → Outside → Outside → ℕ → Type 0 → Type 0
HasListened files begins a b status shut = Listened files begins a b shut ⊎ (DidNotOpenBy data_files.Unread files begins a b status ⊎ StoppedBy data_files.Unread files a b status)

-- the run ended before the door was asked for a connection
abbrev pub LeavesDoor : ℕ → Type 0
LeavesDoor status = IsTrue (status == 1 || status == 2 || status == 4 || status == 5 || status == 7 || status == 8 || status == 9 || status == 10)
