-- What files that opened over a store opened with, and what they open with over it later.
use Rattle.std.proofs.Common.{◌≡◌, ◌∙◌, ℕ, Bool, true, false, List, [], Option, Some, None, refl, sym, ap, subst}
use Rattle.std.specs.Prelude.{ℤ, if◌then◌else◌, IfOk, Result, Ok, Err}
use Rattle.std.specs.List.{All}
use Rattle.lk_val.specs.declared.fault.FaultLine.{FaultLine}
use Rattle.lk_val.specs.declared.fault.ModelFault.{ModelFault}
use Rattle.lk_val.specs.declared.fault.ModelFault.TheVariants.{Fault, NoMemory}
use Rattle.lk_io.specs.declared.files.File.{File}
use Rattle.lk_types.specs.declared.model.Model.{Model}
use Rattle.lk_types.specs.declared.schema.Schema.{Schema}
use Rattle.lk_types.specs.declared.schema.TableDef.{TableDef}
use Rattle.lk_include.specs.Gathering.{gathered}
use Rattle.lk_include.specs.declared.project.Project.{Project}
use Rattle.lk_include.specs.declared.project.ProjectFault.{ProjectFault}
use Rattle.lk_include.specs.declared.project.ProjectFault.TheVariants as project
use Rattle.lk_merge.specs.Merging.{fault_of, merged_of}
use Rattle.lk_merge.specs.declared.project.Merged.{Merged}
use Rattle.lk_schema.specs.Schemas.{schema_of}
use Rattle.lk_schema.specs.Users.{users_of}
use Rattle.lk_schema.specs.declared.users.Users.{Users}
use Rattle.lk_resolve.specs.Loading.{AfterGathering, AfterMerging, AfterSchema, AfterUsers, HasLoaded, IsLoadOf, loaded_as, loaded_with}
use Rattle.lk_resolve.specs.declared.loading.Loaded.{Loaded}
use Rattle.lk_model.specs.Models.{model_of}
use Rattle.lk_model.specs.ViewKinds.{kinds_of}
use Rattle.lk_seed.specs.Seeds as seeds
use Rattle.lk_seed.specs.Seeds.{seeds_of}
use Rattle.lk_table.specs.BatchTexts.{HasNamedColumns}
use Rattle.lk_table.specs.Batches.{and_then}
use Rattle.lk_table.specs.Contents.{Content, rows_of_each}
use Rattle.lk_rollup.specs.declared.fault.BuildFault.{BuildFault}
use Rattle.lk_rollup.specs.declared.fault.BuildFault.TheVariants as build
use Rattle.lk_keeps.specs.Anew.{all_kept}
use Rattle.lk_keeps.specs.Keeps.{Keeps}
use Rattle.lk_ledger.specs.declared.kept.Kept.{Kept}
use Rattle.lk_state.specs.Limits.{is_over}
use Rattle.lk_state.specs.Openings.{all_appended, all_seeded, empty_tables, opened, state_over, Seed}
use Rattle.lk_state.specs.States.{State}
use Rattle.lk_state.specs.declared.fault.OpenFault.{OpenFault}
use Rattle.lk_state.specs.declared.fault.OpenFault.TheVariants as fault
use Rattle.lk_edition.specs.Offices.{Begins, IsOpening}
use Rattle.lk_edition.specs.Openings.{all_built, standing_built, standing_opened, standing_over}
use Rattle.lk_edition.specs.Standings.{Standing}
use Rattle.lk_one_reply.specs.Told.{IsTold}
use Rattle.lk_serve.specs.Opened.{IsOpened, Opens, OpenedAs, OverFiles, OverLoaded, OverSeeds, numbered, open_line}
use Rattle.lk_serve.specs.declared.replies.Reply.{Reply}
use Rattle.lk_served_laws.specs.Served.{ComesBack, HasLedger, HasNoData, IsSameState, Just}

-- ---- the state that an opening has

-- a standing that opened, with the state that opened
pub record HasState (m : Model) (users : Users) (o : Result State OpenFault) (e : Standing) : Type 0 where
  pub model : e.model ≡ m
  pub users_are : e.users ≡ users
  pub state : o ≡ Ok e.state

abbrev made_at : Model → Users → State → ℤ → Keeps → Standing
made_at m users s now keeps = record { model = m; users = users; state = s; builds = all_built m s now; keeps = keeps }

built_state : (m : Model) (users : Users) (s : State) (now : ℤ) (r : Result Keeps BuildFault) (e : Standing)
    → standing_built m users s now r ≡ Ok e → HasState m users (Ok s) e
built_state m users s now (Err (build.G2 name)) e is = absurd (cc is)
built_state m users s now (Err build.NoMemory) e is = absurd (cc is)
built_state m users s now (Ok keeps) e is =
    let same : made_at m users s now keeps ≡ e = cc is in record {
      model = ap (λ (k : Standing). k.model) (sym same);
      users_are = ap (λ (k : Standing). k.users) (sym same);
      state = ap (λ (k : Standing). Ok k.state) same;
    }

over_state : (m : Model) (users : Users) (now : ℤ) (o : Result State OpenFault) (e : Standing) → standing_over m users now o ≡ Ok e → HasState m users o e
over_state m users now (Err why) e is = absurd (cc is)
over_state m users now (Ok s) e is = built_state m users s now (all_kept m (rows_of_each s.tables)) e is

-- ---- the ledger that a state begins with

abbrev state_at : Kept → List Content → State
state_at kept tables = record { number = kept.number; tables = tables; ids = kept.ids }

unless_over : (b : Bool) (kept : Kept) (tables : List Content) (s : State) → (if b then Err fault.Full else Ok (state_at kept tables)) ≡ Ok s
    → (kept.number ≡ s.number) × (kept.ids ≡ s.ids)
unless_over true kept tables s is = absurd (cc is)
unless_over false kept tables s is =
    let same : state_at kept tables ≡ s = cc is in
    (ap (λ (t : State). t.number) same, ap (λ (t : State). t.ids) same)

over_tables : (kept : Kept) (r : Result (List Content) OpenFault) (s : State) → and_then r (state_over kept) ≡ Ok s
    → (kept.number ≡ s.number) × (kept.ids ≡ s.ids)
over_tables kept (Err why) s is = absurd (cc is)
over_tables kept (Ok tables) s is = unless_over (is_over (state_at kept tables)) kept tables s is

over_batches : (defs : List TableDef) (kept : Kept) (given : List Seed) (r : Result (List Content) OpenFault) (s : State)
    → and_then r (λ tables. and_then (all_seeded defs tables given) (state_over kept)) ≡ Ok s → (kept.number ≡ s.number) × (kept.ids ≡ s.ids)
over_batches defs kept given (Err why) s is = absurd (cc is)
over_batches defs kept given (Ok tables) s is = over_tables kept (all_seeded defs tables given) s is

opened_ledger : (defs : List TableDef) (kept : Kept) (given : List Seed) (s : State) → opened defs kept given ≡ Ok s
    → (kept.number ≡ s.number) × (kept.ids ≡ s.ids)
opened_ledger defs kept given s is = over_batches defs kept given (all_appended defs (empty_tables defs) kept.chunks) s is

-- ---- what files opened with

-- the project of the files, the batches of its data files, and what the store handed over, of which the edition is opened
pub record HasOpening (files : List File) (begins : Kept → Type 0) (now : ℤ) (e : Standing) : Type 0 where
  pub loaded : Loaded
  pub is_load : IsLoadOf files (Ok loaded)
  pub found : List seeds.Seed
  pub is_found : seeds_of loaded.model.schema.tables files ≡ Ok found
  pub kept : Kept
  pub handed : begins kept
  pub is : standing_opened loaded.model loaded.users kept (numbered 0 found) now ≡ Ok e

module _ (files : List File) (begins : Kept → Type 0) (now : ℤ) (e : Standing) where
  by_opened : (loaded : Loaded) → IsLoadOf files (Ok loaded) → (found : List seeds.Seed) → seeds_of loaded.model.schema.tables files ≡ Ok found
      → (o : Result Standing OpenFault) → IsOpening loaded.model loaded.users begins (numbered 0 found) now o → OpenedAs o (Ok e) → HasOpening files begins now e
  by_opened loaded is_load found is_found (Err why) opening told = absurd told
  by_opened loaded is_load found is_found (Ok k) opening told =
      let same : k ≡ e = cc told in record {
        loaded = loaded;
        is_load = is_load;
        found = found;
        is_found = is_found;
        kept = opening.kept;
        handed = opening.handed;
        is = opening.is ∙ ap (λ (x : Standing). Ok x) same;
      }

  by_files : (loaded : Loaded) → IsLoadOf files (Ok loaded) → (found : Result (List seeds.Seed) ProjectFault) → seeds_of loaded.model.schema.tables files ≡ found
      → OverFiles loaded begins now found (Ok e) → HasOpening files begins now e
  by_files loaded is_load (Ok found) is_found h = by_opened loaded is_load found is_found h.opened h.is_opening h.told
  by_files loaded is_load (Err (project.Model line)) is_found h = absurd (cc h)
  by_files loaded is_load (Err project.Failed) is_found h = absurd h
  by_files loaded is_load (Err project.NoMemory) is_found h = absurd h

  by_loaded : (loaded : Result Loaded ProjectFault) → IsLoadOf files loaded → OverLoaded files begins now loaded (Ok e) → HasOpening files begins now e
  by_loaded (Ok loaded) is_load h = by_files loaded is_load (seeds_of loaded.model.schema.tables files) refl h
  by_loaded (Err (project.Model line)) is_load h = absurd (cc h)
  by_loaded (Err project.Failed) is_load h = absurd h
  by_loaded (Err project.NoMemory) is_load h = absurd h

  pub opening_of : IsOpened files begins now (Ok e) → HasOpening files begins now e
  opening_of h = by_loaded h.loaded h.is_load h.over

  pub state_of : (h : HasOpening files begins now e) → HasState h.loaded.model h.loaded.users (opened h.loaded.model.schema.tables h.kept (numbered 0 h.found)) e
  state_of h = over_state h.loaded.model h.loaded.users now (opened h.loaded.model.schema.tables h.kept (numbered 0 h.found)) e h.is

pub ledger_at : (files : List File) (now : ℤ) (e : Standing) (kept : Kept) → HasOpening files (Just kept) now e → HasLedger kept e
ledger_at files now e kept h =
    let is = opened_ledger h.loaded.model.schema.tables h.kept (numbered 0 h.found) e.state (state_of files (Just kept) now e h).state in
    let same : h.kept ≡ kept = h.handed in
    record { number = ap (λ (k : Kept). k.number) (sym same) ∙ is.0; ids = ap (λ (k : Kept). k.ids) (sym same) ∙ is.1 }

-- what opens over what some say opens over what others say, where each that some say is of those
module _ (some others : Kept → Type 0) (more : (kept : Kept) → some kept → others kept) (now : ℤ) where
  seeds_more : (loaded : Loaded) (found : List seeds.Seed) (result : Result Standing Reply) → OverSeeds loaded some now found result → OverSeeds loaded others now found result
  seeds_more loaded found result h = record {
    opened = h.opened;
    is_opening = record { kept = h.is_opening.kept; handed = more h.is_opening.kept h.is_opening.handed; is = h.is_opening.is };
    told = h.told;
  }

  files_more : (loaded : Loaded) (found : Result (List seeds.Seed) ProjectFault) (result : Result Standing Reply)
      → OverFiles loaded some now found result → OverFiles loaded others now found result
  files_more loaded (Ok found) result h = seeds_more loaded found result h
  files_more loaded (Err (project.Model line)) result h = h
  files_more loaded (Err project.Failed) result h = h
  files_more loaded (Err project.NoMemory) result h = h

  loaded_more : (files : List File) (l : Result Loaded ProjectFault) (result : Result Standing Reply) → OverLoaded files some now l result → OverLoaded files others now l result
  loaded_more files (Ok loaded) result h = files_more loaded (seeds_of loaded.model.schema.tables files) result h
  loaded_more files (Err (project.Model line)) result h = h
  loaded_more files (Err project.Failed) result h = h
  loaded_more files (Err project.NoMemory) result h = h

  pub opened_more : (files : List File) (result : Result Standing Reply) → IsOpened files some now result → IsOpened files others now result
  opened_more files result h = record { loaded = h.loaded; is_load = h.is_load; over = loaded_more files h.loaded result h.over }

-- a store that tells what it holds hands over that
pub just_told : (held : Option Kept) (handed : Kept → Type 0) (kept other : Kept) → held ≡ Some kept → Begins held handed other → Just kept other
just_told None handed kept other is h = absurd (cc is)
just_told (Some holds) handed kept other is h =
    let same : holds ≡ kept = cc is in
    h.told ∙ same

-- ---- the columns of a project that is loaded

module _ (named : (text : List ℕ) (schema : Schema) → schema_of text ≡ Ok schema → All HasNamedColumns schema.tables) where
  of_model : (schema : Schema) (merged : Merged) (users : Users) (l : Loaded) (r : Result Model ModelFault) → Ok l ≡ loaded_with users r
      → (h : HasLoaded schema users merged (Ok l)) → h.model ≡ r → l.model.schema ≡ schema
  of_model schema merged users l (Err why) is h same = absurd (cc is)
  of_model schema merged users l (Ok m) is h same =
      let made : Loaded = record { model = m; users = users } in
      let loaded_is : l ≡ made = cc is in
      ap (λ (k : Loaded). k.model.schema) loaded_is
      ∙ ap (λ (k : Model). k.schema) (subst (λ r. IfOk r (λ k. k ≡ model_of schema h.has_model.declared (kinds_of schema h.has_model.declared))) same h.has_model.is_model.ok)

  of_merging : (schema : Schema) (users : Users) (merged : Merged) (o : Option FaultLine) (l : Loaded) → AfterMerging schema users merged o (Ok l) → l.model.schema ≡ schema
  of_merging schema users merged (Some line) l h = absurd (cc h)
  of_merging schema users merged None l h = of_model schema merged users l h.model h.is h refl

  of_users : (p : Project) (schema : Schema) (u : Result Users ModelFault) (l : Loaded) → AfterUsers p schema u (Ok l) → l.model.schema ≡ schema
  of_users p schema (Err why) l h = absurd (cc h)
  of_users p schema (Ok users) l h = of_merging schema users (merged_of p) (fault_of p) l h

  of_schema : (p : Project) (r : Result Schema ModelFault) (l : Loaded) → schema_of p.schema ≡ r → AfterSchema p r (Ok l) → All HasNamedColumns l.model.schema.tables
  of_schema p (Err why) l is h = absurd (cc h)
  of_schema p (Ok schema) l is h =
      subst (λ (s : Schema). All HasNamedColumns s.tables) (sym (of_users p schema (users_of p.users) l h)) (named p.schema schema is)

  of_load : (p : Project) (r : Result Loaded ModelFault) (l : Loaded) → AfterSchema p (schema_of p.schema) r → Ok l ≡ loaded_as r → All HasNamedColumns l.model.schema.tables
  of_load p (Err (Fault line)) l h is = absurd (cc is)
  of_load p (Err NoMemory) l h is = absurd (cc is)
  of_load p (Ok k) l h is =
      let same : k ≡ l = cc is in
      subst (λ (x : Loaded). All HasNamedColumns x.model.schema.tables) same (of_schema p (schema_of p.schema) k refl h)

  of_gathering : (g : Result Project ProjectFault) (l : Loaded) → AfterGathering g (Ok l) → All HasNamedColumns l.model.schema.tables
  of_gathering (Err why) l h = absurd (cc h)
  of_gathering (Ok p) l h = of_load p h.loaded l h.is_loaded h.is

  pub columns_of : (files : List File) (l : Loaded) → IsLoadOf files (Ok l) → All HasNamedColumns l.model.schema.tables
  columns_of files l h = of_gathering (gathered files) l h

-- ---- what the files open with later

-- the files are loaded as one thing
abbrev pub OneLoad : Type 0
OneLoad = (files : List File) (r s : Result Loaded ProjectFault) → IsTold r → IsTold s → IsLoadOf files r → IsLoadOf files s → r ≡ s

module _ (files : List File) (kept : Kept) (now : ℤ) (last : Standing) (loaded : Loaded) (same_model : last.model ≡ loaded.model) (same_users : last.users ≡ loaded.users) where
  came_back : (keeps : Keeps) (e : Standing) → standing_built loaded.model loaded.users last.state now (Ok keeps) ≡ Ok e → IsSameState last e
  came_back keeps e is =
      let same : made_at loaded.model loaded.users last.state now keeps ≡ e = cc is in record {
        model = ap (λ (k : Standing). k.model) (sym same) ∙ sym same_model;
        users = ap (λ (k : Standing). k.users) (sym same) ∙ sym same_users;
        state = ap (λ (k : Standing). k.state) (sym same);
      }

  built_back : (r : Result Keeps BuildFault) (o : Result Standing OpenFault) (result : Result Standing Reply)
      → standing_built loaded.model loaded.users last.state now r ≡ o → OpenedAs o result → ComesBack last result
  built_back (Ok keeps) (Err why) result is told = absurd (cc is)
  built_back (Ok keeps) (Ok k) (Ok e) is told =
      let same : k ≡ e = cc told in
      came_back keeps e (is ∙ ap (λ (x : Standing). Ok x) same)
  built_back (Ok keeps) (Ok k) (Err line) is told = absurd (cc told)
  built_back (Err (build.G2 name)) (Ok k) result is told = absurd (cc is)
  built_back (Err (build.G2 name)) (Err why) (Ok e) is told = absurd told
  built_back (Err (build.G2 name)) (Err why) (Err line) is told =
      let same : fault.Large name ≡ why = cc is in
      (name, subst (λ w. Opens (open_line w) line) (sym same) told)
  built_back (Err build.NoMemory) (Ok k) result is told = absurd (cc is)
  built_back (Err build.NoMemory) (Err why) (Ok e) is told = absurd told
  built_back (Err build.NoMemory) (Err why) (Err line) is told =
      let same : fault.NoMemory ≡ why = cc is in
      absurd (subst (λ w. Opens (open_line w) line) (sym same) told)

  module _ (opens : opened loaded.model.schema.tables kept [] ≡ Ok last.state) where
    seeds_back : (found : List seeds.Seed) (result : Result Standing Reply) → numbered 0 found ≡ [] → OverSeeds loaded (Just kept) now found result → ComesBack last result
    seeds_back found result none h =
        let handed : h.is_opening.kept ≡ kept = h.is_opening.handed in
        let state : opened loaded.model.schema.tables h.is_opening.kept (numbered 0 found) ≡ Ok last.state =
        ap (λ (k : Kept). opened loaded.model.schema.tables k (numbered 0 found)) handed
        ∙ ap (opened loaded.model.schema.tables kept) none ∙ opens in
        built_back (all_kept loaded.model (rows_of_each last.state.tables)) h.opened result
        (sym (ap (standing_over loaded.model loaded.users now) state) ∙ h.is_opening.is) h.told

    files_back : (found : Result (List seeds.Seed) ProjectFault) (result : Result Standing Reply) → IfOk found (λ given. numbered 0 given ≡ [])
        → (given : List seeds.Seed) → found ≡ Ok given → OverFiles loaded (Just kept) now found result → ComesBack last result
    files_back (Ok found) result none given is h = seeds_back found result none h
    files_back (Err why) result none given is h = absurd (cc is)

    pub loaded_back : (given : List seeds.Seed) → seeds_of loaded.model.schema.tables files ≡ Ok given → HasNoData loaded.model.schema.tables files
        → (result : Result Standing Reply) → OverLoaded files (Just kept) now (Ok loaded) result → ComesBack last result
    loaded_back given is none result h = files_back (seeds_of loaded.model.schema.tables files) result none given is h

told_load : (files : List File) (begins : Kept → Type 0) (now : ℤ) (l : Result Loaded ProjectFault) (result : Result Standing Reply) → OverLoaded files begins now l result → IsTold l
told_load files begins now (Ok loaded) result h = tt
told_load files begins now (Err (project.Model line)) result h = tt
told_load files begins now (Err project.Failed) result h = h
told_load files begins now (Err project.NoMemory) result h = h

pub back : OneLoad → (files : List File) (begins : Kept → Type 0) (now moment : ℤ) (e last : Standing) (kept : Kept) (h : HasOpening files begins now e)
    → opened h.loaded.model.schema.tables kept [] ≡ Ok last.state → last.model ≡ e.model → last.users ≡ e.users
    → HasNoData e.model.schema.tables files → (result : Result Standing Reply) → IsOpened files (Just kept) moment result → ComesBack last result
back one files begins now moment e last kept h opens same_model same_users none result later =
    let state = state_of files begins now e h in
    let same : later.loaded ≡ Ok h.loaded =
    one files later.loaded (Ok h.loaded) (told_load files (Just kept) moment later.loaded result later.over) tt later.is_load h.is_load in
    loaded_back files kept moment last h.loaded (same_model ∙ state.model) (same_users ∙ state.users_are) opens h.found h.is_found
    (subst (λ (m : Model). HasNoData m.schema.tables files) state.model none) result (subst (λ l. OverLoaded files (Just kept) moment l result) same later.over)
