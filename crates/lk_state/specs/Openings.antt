-- The state that a server opens with, or the first fault. (lookd)
use Rattle.std.specs.Prelude.{◌<◌, ℕ, if◌then◌else◌, List, [], ◌∷◌, length, map, slice_set, Option, Some, None, Result, Ok, Err, Bool, true, false}
use Rattle.std.specs.List.{All}
use Rattle.lk_types.specs.declared.schema.TableDef.{TableDef}
use Rattle.lk_table.specs.Batches.{and_then}
use Rattle.lk_table.specs.Contents.{Content, content_of}
use Rattle.lk_table.specs.declared.fault.BatchFault.{BatchFault}
use Rattle.lk_table.specs.declared.fault.BatchFault.TheVariants as batch
use Rattle.lk_load.specs.Loading.{LoadedTable, table_loaded}
use Rattle.lk_ledger.specs.declared.kept.Chunk.{Chunk}
use Rattle.lk_ledger.specs.declared.kept.Kept.{Kept}
use Rattle.lk_state.specs.Limits.{is_over}
use Rattle.lk_state.specs.States.{State}
use Rattle.lk_state.specs.Tables.{content_at, def_at, table_named}
use Rattle.lk_state.specs.declared.fault.OpenFault.{OpenFault}
use Rattle.lk_state.specs.declared.fault.OpenFault.TheVariants as fault

-- the tables without rows
abbrev pub empty_tables : List TableDef → List Content
empty_tables defs = map (λ def. content_of def []) defs

-- ---- kept batches

-- the tables with one of them loaded, or the fault of a kept batch, by the name that it gives its table
abbrev pub or_unread : List Content → ℕ → List ℕ → Result LoadedTable BatchFault → Result (List Content) OpenFault
or_unread tables number name (Err f) = Err (fault.Unread name f)
or_unread tables number name (Ok loaded) = Ok (slice_set tables number loaded.version)

-- a kept batch behind the rows of its table; one of a table that is not there has the fault of a header at once
abbrev pub appended_to : List TableDef → List Content → Chunk → Option ℕ → Result (List Content) OpenFault
appended_to defs tables chunk None = Err (fault.Unread chunk.table (batch.L3 0 []))
appended_to defs tables chunk (Some number) =
    or_unread tables number chunk.table (table_loaded (def_at defs number) (content_at tables number).rows chunk.body false)

abbrev pub appended : List TableDef → List Content → Chunk → Result (List Content) OpenFault
appended defs tables chunk = appended_to defs tables chunk (table_named defs chunk.table)

-- all kept batches, one after the other
abbrev pub all_appended : List TableDef → List Content → List Chunk → Result (List Content) OpenFault
all_appended defs tables [] = Ok tables
all_appended defs tables (chunk ∷ chunks) = and_then (appended defs tables chunk) (λ next. all_appended defs next chunks)

-- ---- seeds

-- the number of a table, and a batch in place of its rows
abbrev pub Seed : Type 0
Seed = ℕ × List ℕ

-- each seed is of a table of the schema
abbrev pub AreSeeds : List TableDef → List Seed → Type 0
AreSeeds defs seeds = All (λ seed. seed.0 < length defs) seeds

abbrev pub or_unseeded : List Content → ℕ → List ℕ → Result LoadedTable BatchFault → Result (List Content) OpenFault
or_unseeded tables number name (Err f) = Err (fault.Seed name f)
or_unseeded tables number name (Ok loaded) = Ok (slice_set tables number loaded.version)

abbrev pub seeded : List TableDef → List Content → Seed → Result (List Content) OpenFault
seeded defs tables seed =
    or_unseeded tables seed.0 (def_at defs seed.0).name
    (table_loaded (def_at defs seed.0) (content_at tables seed.0).rows seed.1 true)

-- all seeds, one after the other
abbrev pub all_seeded : List TableDef → List Content → List Seed → Result (List Content) OpenFault
all_seeded defs tables [] = Ok tables
all_seeded defs tables (seed ∷ seeds) = and_then (seeded defs tables seed) (λ next. all_seeded defs next seeds)

-- ---- the state

-- the state, unless it is over a limit (L6)
abbrev pub unless_full : State → Result State OpenFault
unless_full s = if is_over s then Err fault.Full else Ok s

abbrev pub state_over : Kept → List Content → Result State OpenFault
state_over kept tables = unless_full (record { number = kept.number; tables = tables; ids = kept.ids })

-- the number of the last save and its loads, over the kept batches in order and then the seeds
abbrev pub opened : List TableDef → Kept → List Seed → Result State OpenFault
opened defs kept seeds =
    and_then (all_appended defs (empty_tables defs) kept.chunks)
    (λ tables. and_then (all_seeded defs tables seeds) (state_over kept))

-- want of memory is no fault of what is kept
abbrev pub is_no_memory : OpenFault → Bool
is_no_memory fault.NoMemory = true
is_no_memory other = false
