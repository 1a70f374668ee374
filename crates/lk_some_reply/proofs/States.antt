-- What a store kept and the data files hold open as a state, or have a fault that has a line.
use Rattle.std.proofs.Common.{ℕ, true, false, List, [], ◌∷◌, Option, Some, None, Result, Ok, Err}
use Rattle.lk_val.specs.declared.fault.FaultLine.{FaultLine}
use Rattle.lk_types.specs.declared.schema.TableDef.{TableDef}
use Rattle.lk_table.specs.Batches.{and_then}
use Rattle.lk_table.specs.Contents.{Content}
use Rattle.lk_table.specs.declared.fault.BatchFault.{BatchFault}
use Rattle.lk_table.specs.declared.fault.BatchFault.TheVariants as batch
use Rattle.lk_load.specs.Loading.{LoadedTable, table_loaded}
use Rattle.lk_ledger.specs.declared.kept.Chunk.{Chunk}
use Rattle.lk_ledger.specs.declared.kept.Kept.{Kept}
use Rattle.lk_state.specs.Limits.{is_over}
use Rattle.lk_state.specs.Openings.{Seed, all_appended, all_seeded, appended, appended_to, empty_tables, opened, or_unread, or_unseeded, seeded, state_over, unless_full}
use Rattle.lk_state.specs.States.{State}
use Rattle.lk_state.specs.Tables.{content_at, def_at, table_named}
use Rattle.lk_state.specs.declared.fault.OpenFault.{OpenFault}
use Rattle.lk_state.specs.declared.fault.OpenFault.TheVariants as fault
use Rattle.lk_serve.specs.Opened.{open_line}
use Rattle.lk_some_reply.proofs.Failing.{FailsBy, fails_if, fails_then}
use Rattle.lk_some_reply.proofs.Batches.{IsBatchFault, loaded_faults}

-- the fault has a line
abbrev pub HasLine : Option FaultLine → Type 0
HasLine None = ⊥
HasLine (Some line) = Unit {0}

abbrev pub IsLined : OpenFault → Type 0
IsLined why = HasLine (open_line why)

unread_lines : (name : List ℕ) (why : BatchFault) → IsBatchFault why → IsLined (fault.Unread name why)
unread_lines name (batch.L3 row column) h = tt
unread_lines name (batch.L4 key) h = tt
unread_lines name (batch.L5 row) h = tt
unread_lines name batch.NoMemory h = h

seed_lines : (name : List ℕ) (why : BatchFault) → IsBatchFault why → IsLined (fault.Seed name why)
seed_lines name (batch.L3 row column) h = tt
seed_lines name (batch.L4 key) h = tt
seed_lines name (batch.L5 row) h = tt
seed_lines name batch.NoMemory h = h

or_unread_lines : (tables : List Content) (number : ℕ) (name : List ℕ) (r : Result LoadedTable BatchFault) → FailsBy IsBatchFault r
    → FailsBy IsLined (or_unread tables number name r)
or_unread_lines tables number name (Ok version) h = tt
or_unread_lines tables number name (Err why) h = unread_lines name why h

or_unseeded_lines : (tables : List Content) (number : ℕ) (name : List ℕ) (r : Result LoadedTable BatchFault) → FailsBy IsBatchFault r
    → FailsBy IsLined (or_unseeded tables number name r)
or_unseeded_lines tables number name (Ok version) h = tt
or_unseeded_lines tables number name (Err why) h = seed_lines name why h

module _ (defs : List TableDef) where
  appended_lines : (tables : List Content) (chunk : Chunk) (o : Option ℕ) → FailsBy IsLined (appended_to defs tables chunk o)
  appended_lines tables chunk None = tt
  appended_lines tables chunk (Some number) =
      or_unread_lines tables number chunk.table (table_loaded (def_at defs number) (content_at tables number).rows chunk.body false)
      (loaded_faults (def_at defs number) (content_at tables number).rows chunk.body false)

  all_appended_lines : (tables : List Content) (chunks : List Chunk) → FailsBy IsLined (all_appended defs tables chunks)
  all_appended_lines tables [] = tt
  all_appended_lines tables (chunk ∷ chunks) =
      fails_then IsLined (appended defs tables chunk) (λ next. all_appended defs next chunks) (appended_lines tables chunk (table_named defs chunk.table)) (λ next. all_appended_lines next chunks)

  seeded_lines : (tables : List Content) (seed : Seed) → FailsBy IsLined (seeded defs tables seed)
  seeded_lines tables seed =
      or_unseeded_lines tables seed.0 (def_at defs seed.0).name (table_loaded (def_at defs seed.0) (content_at tables seed.0).rows seed.1 true)
      (loaded_faults (def_at defs seed.0) (content_at tables seed.0).rows seed.1 true)

  all_seeded_lines : (tables : List Content) (given : List Seed) → FailsBy IsLined (all_seeded defs tables given)
  all_seeded_lines tables [] = tt
  all_seeded_lines tables (seed ∷ given) =
      fails_then IsLined (seeded defs tables seed) (λ next. all_seeded defs next given) (seeded_lines tables seed) (λ next. all_seeded_lines next given)

  full_lines : (s : State) → FailsBy IsLined (unless_full s)
  full_lines s = fails_if IsLined (is_over s) (Err fault.Full) (Ok s) tt tt

  pub opened_lines : (kept : Kept) (given : List Seed) → FailsBy IsLined (opened defs kept given)
  opened_lines kept given =
      fails_then IsLined (all_appended defs (empty_tables defs) kept.chunks) (λ tables. and_then (all_seeded defs tables given) (state_over kept))
      (all_appended_lines (empty_tables defs) kept.chunks) (λ tables.
      fails_then IsLined (all_seeded defs tables given) (state_over kept) (all_seeded_lines tables given)
      (λ filled. full_lines (record { number = kept.number; tables = filled; ids = kept.ids })))
