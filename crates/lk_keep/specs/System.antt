-- What the store of a run tells and counts.
use Rattle.std.specs.Prelude.{◌≡◌, ℕ, Option, Some}
use Rattle.lk_keep.specs.declared.held.Held.{Held}
use Rattle.lk_keep.specs.declared.held.Held.TheVariants.{Memory, File}
use Rattle.lk_ledger.specs.declared.kept.Kept.{Kept}
use Rattle.lk_keep.specs.declared.sql_keeper.SqlKeeper.{SqlKeeper}

-- the calls on a store in a file that failed
abbrev pub sql_faults : {C : Type 0} → SqlKeeper C → ℕ
sql_faults keeper = keeper.faults

-- what is held, which a store in memory tells, and one in a file as it does by itself
abbrev pub told_by : {F : Type 0} → (F → Option Kept) → Held F → Option Kept
told_by told (Memory keeper) = Some keeper.kept
told_by told (File keeper) = told keeper

-- what may be handed over: of a store in memory what it holds, and of one in a file what that one may hand over
abbrev pub handed_by : {F : Type 0} → (F → Kept → Type 0) → Held F → Kept → Type 0
handed_by handed (Memory keeper) kept = kept ≡ keeper.kept
handed_by handed (File keeper) kept = handed keeper kept

-- the calls that failed
abbrev pub faults_of : {F : Type 0} → (F → ℕ) → Held F → ℕ
faults_of count (Memory keeper) = keeper.calls.faults
faults_of count (File keeper) = count keeper
