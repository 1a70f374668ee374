-- The store of a run. (lookd)
use Rattle.std.specs.Prelude.{◌≡◌, ℕ, true, false, List, []}
use Rattle.std.specs.Option.{is_some}
use Rattle.lk_io.specs.Memory.{no_calls}
use Rattle.lk_keep.specs.declared.held.Held.{Held}
use Rattle.lk_keep.specs.declared.held.Held.TheVariants as held
use Rattle.lk_ledger.specs.declared.kept.Kept.{Kept}
use Rattle.lk_serve.specs.Words.{asked_by, workers_in}

-- what a store holds before its first save
abbrev pub empty_kept : Kept
empty_kept = record { number = 0; chunks = []; ids = [] }

-- a file exactly for words that ask for a server, and else an empty store in memory, none of whose calls fail
abbrev pub IsKeeperFor : {F : Type 0} → List (List ℕ) → Held F → Type 0
IsKeeperFor words (held.File keeper) = is_some (workers_in (asked_by words)) ≡ true
IsKeeperFor words (held.Memory keeper) = (is_some (workers_in (asked_by words)) ≡ false) × (keeper.kept ≡ empty_kept) × (keeper.calls ≡ no_calls [])
