-- What is loaded opens as something over what a store hands over.
use Rattle.std.proofs.Common.{◌≡◌, ℕ, ℤ, List, [], ◌∷◌, length, Option, Some, None, Result, Ok, Err, refl}
use Rattle.lk_val.specs.declared.fault.FaultLine.{FaultLine}
use Rattle.lk_io.specs.declared.files.File.{File}
use Rattle.lk_types.specs.Tables.{Rows}
use Rattle.lk_types.specs.declared.model.Model.{Model}
use Rattle.lk_types.specs.declared.schema.TableDef.{TableDef}
use Rattle.lk_table.specs.Batches.{in_front}
use Rattle.lk_table.specs.Contents.{rows_of_each}
use Rattle.lk_include.specs.Gathering.{table_at}
use Rattle.lk_include.specs.declared.project.ProjectFault.{ProjectFault}
use Rattle.lk_include.specs.declared.project.ProjectFault.TheVariants as project
use Rattle.lk_schema.specs.declared.users.Users.{Users}
use Rattle.lk_seed.specs.Seeds as seeds
use Rattle.lk_seed.specs.Seeds.{data_path, seeds_of}
use Rattle.lk_ledger.specs.declared.kept.Kept.{Kept}
use Rattle.lk_semantics.specs.Joins.{numbers_below}
use Rattle.lk_keeps.specs.Anew.{all_kept, unless_large}
use Rattle.lk_keeps.specs.Keeps.{Keeps, keeps_of, sources_over}
use Rattle.lk_keeps.specs.Large.{large_builds}
use Rattle.lk_state.specs.Openings.{Seed, opened}
use Rattle.lk_state.specs.States.{State}
use Rattle.lk_state.specs.declared.fault.OpenFault.{OpenFault}
use Rattle.lk_edition.specs.Openings.{standing_built, standing_opened, standing_over}
use Rattle.lk_edition.specs.Standings.{Standing}
use Rattle.lk_resolve.specs.declared.loading.Loaded.{Loaded}
use Rattle.lk_serve.specs.Opened.{IsOpened, OpenedAs, Opens, OverFiles, OverLoaded, OverSeeds, numbered, open_line}
use Rattle.lk_serve.specs.Replies.{fault_reply}
use Rattle.lk_complete_laws.specs.Holding.{HoldsOfSome}
use Rattle.lk_complete_laws.proofs.NotNot.{of_these, of_this}
use Rattle.lk_some_reply.specs.Loads.{IsLoadTold, IsTold}
use Rattle.lk_some_reply.proofs.Failing.{FailsBy, fails_behind, fails_then}
use Rattle.lk_rollup.specs.declared.fault.BuildFault.{BuildFault}
use Rattle.lk_rollup.specs.declared.fault.BuildFault.TheVariants as build
use Rattle.lk_some_reply.proofs.Lines.{IsFileLine, table_lines}
use Rattle.lk_some_reply.proofs.States.{HasLine, IsLined, opened_lines}

-- ---- editions

-- the fault of a build has the name of what would be too large
abbrev IsNamed : BuildFault → Type 0
IsNamed (build.G2 name) = Unit {0}
IsNamed build.NoMemory = ⊥

module _ (model : Model) (users : Users) (now : ℤ) where
  kept_names : (keeps : Keeps) (names : List (List ℕ)) → FailsBy IsNamed (unless_large keeps names)
  kept_names keeps [] = tt
  kept_names keeps (name ∷ names) = tt

  all_names : (stored : List Rows) → FailsBy IsNamed (all_kept model stored)
  all_names stored = kept_names (keeps_of model (λ g. stored)) (large_builds model (numbers_below (length model.datagroups)) (sources_over model stored))

  built_lines : (state : State) (k : Result Keeps BuildFault) → FailsBy IsNamed k → FailsBy IsLined (standing_built model users state now k)
  built_lines state (Ok keeps) h = tt
  built_lines state (Err (build.G2 name)) h = tt
  built_lines state (Err build.NoMemory) h = h

  over_lines : (r : Result State OpenFault) → FailsBy IsLined r → FailsBy IsLined (standing_over model users now r)
  over_lines (Err why) h = h
  over_lines (Ok state) h = built_lines state (all_kept model (rows_of_each state.tables)) (all_names (rows_of_each state.tables))

  standing_lines : (kept : Kept) (given : List Seed) → FailsBy IsLined (standing_opened model users kept given now)
  standing_lines kept given = over_lines (opened model.schema.tables kept given) (opened_lines model.schema.tables kept given)

-- ---- what is told of an opening

line_opens : (line : Option FaultLine) → HasLine line → HoldsOfSome (Opens line)
line_opens None h = absurd h
line_opens (Some line) h = of_this {Holds = Opens (Some line)} (fault_reply line) refl

opened_as : (o : Result Standing OpenFault) → FailsBy IsLined o → HoldsOfSome (OpenedAs o)
opened_as (Ok e) h = of_this {Holds = OpenedAs (Ok e)} (Ok e) refl
opened_as (Err why) h =
    of_these {Holds = Opens (open_line why)} {Fits = OpenedAs (Err why)} (line_opens (open_line why) h) (λ reply opens.
    of_this {Holds = OpenedAs (Err why)} (Err reply) opens)

seeds_lines : (files : List File) (defs : List TableDef) → FailsBy IsFileLine (seeds_of defs files)
seeds_lines files [] = tt
seeds_lines files (def ∷ defs) =
    fails_then IsFileLine (table_at files (data_path def.name)) (λ seed. in_front (seed ∷ []) (seeds_of defs files)) (table_lines files (data_path def.name)) (λ seed.
    fails_behind IsFileLine (seed ∷ []) (seeds_of defs files) (seeds_lines files defs))

module _ (begins : Kept → Type 0) (some_kept : HoldsOfSome begins) (now : ℤ) where
  opened_so : (l : Loaded) (found : List seeds.Seed) (kept : Kept) → begins kept → (o : Result Standing OpenFault)
      → standing_opened l.model l.users kept (numbered 0 found) now ≡ o → FailsBy IsLined o → HoldsOfSome (OverSeeds l begins now found)
  opened_so l found kept handed o is lines =
      of_these {Holds = OpenedAs o} {Fits = OverSeeds l begins now found} (opened_as o lines) (λ result told.
      of_this {Holds = OverSeeds l begins now found} result
      (record { opened = o; is_opening = record { kept = kept; handed = handed; is = is }; told = told }))

  over_seeds : (l : Loaded) (found : List seeds.Seed) → HoldsOfSome (OverSeeds l begins now found)
  over_seeds l found =
      of_these {Holds = begins} {Fits = OverSeeds l begins now found} some_kept (λ kept handed.
      opened_so l found kept handed (standing_opened l.model l.users kept (numbered 0 found) now) refl
      (standing_lines l.model l.users now kept (numbered 0 found)))

  over_files : (l : Loaded) (found : Result (List seeds.Seed) ProjectFault) → FailsBy IsFileLine found → HoldsOfSome (OverFiles l begins now found)
  over_files l (Ok found) h = over_seeds l found
  over_files l (Err (project.Model line)) h = of_this {Holds = OverFiles l begins now (Err (project.Model line))} (Err (fault_reply line)) refl
  over_files l (Err project.Failed) h = absurd h
  over_files l (Err project.NoMemory) h = absurd h

  over_loaded : (files : List File) (l : Result Loaded ProjectFault) → IsTold l → HoldsOfSome (OverLoaded files begins now l)
  over_loaded files (Ok l) h = over_files l (seeds_of l.model.schema.tables files) (seeds_lines files l.model.schema.tables)
  over_loaded files (Err (project.Model line)) h = of_this {Holds = OverLoaded files begins now (Err (project.Model line))} (Err (fault_reply line)) refl
  over_loaded files (Err project.Failed) h = absurd h
  over_loaded files (Err project.NoMemory) h = absurd h

  pub some_opening : (files : List File) → HoldsOfSome (IsLoadTold files) → HoldsOfSome (IsOpened files begins now)
  some_opening files some_load =
      of_these {Holds = IsLoadTold files} {Fits = IsOpened files begins now} some_load (λ l h.
      of_these {Holds = OverLoaded files begins now l} {Fits = IsOpened files begins now} (over_loaded files l h.told) (λ result over.
      of_this {Holds = IsOpened files begins now} result (record { loaded = l; is_load = h.is_load; over = over })))
