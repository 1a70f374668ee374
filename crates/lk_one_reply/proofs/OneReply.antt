-- There is one reply to words.
use Rattle.std.proofs.Common.{◌≡◌, ◌∙◌, ℕ, ℤ, Bool, List, [], sym, ap, subst}
use Rattle.std.specs.Prelude.{Option, Some, None, Result, Ok, Err, true}
use Rattle.lk_val.specs.declared.fault.FaultLine.{FaultLine}
use Rattle.lk_io.specs.declared.files.File.{File}
use Rattle.lk_types.specs.declared.answer.Reply as sent
use Rattle.lk_types.specs.declared.model.Model.{Model}
use Rattle.lk_include.specs.declared.project.ProjectFault.{ProjectFault}
use Rattle.lk_include.specs.declared.project.ProjectFault.TheVariants as project
use Rattle.lk_schema.specs.declared.users.Users.{Users}
use Rattle.lk_ledger.specs.declared.kept.Kept.{Kept}
use Rattle.lk_resolve.specs.Loading.{IsLoadOf}
use Rattle.lk_resolve.specs.declared.loading.Loaded.{Loaded}
use Rattle.lk_seed.specs.Seeds as seeds
use Rattle.lk_seed.specs.Seeds.{seeds_of}
use Rattle.lk_ask.specs.declared.fault.AskFault.{AskFault}
use Rattle.lk_table.specs.Contents.{rows_of_each}
use Rattle.lk_rollup.specs.declared.fault.BuildFault.{BuildFault}
use Rattle.lk_rollup.specs.declared.fault.BuildFault.TheVariants as build
use Rattle.lk_keeps.specs.Anew.{all_kept}
use Rattle.lk_keeps.specs.Keeps.{Keeps}
use Rattle.lk_state.specs.Openings.{Seed, opened}
use Rattle.lk_state.specs.States.{State}
use Rattle.lk_state.specs.declared.fault.OpenFault.{OpenFault}
use Rattle.lk_edition.specs.Offices.{Begins, IsOpening}
use Rattle.lk_edition.specs.Openings.{standing_built, standing_opened, standing_over}
use Rattle.lk_edition.specs.Standings.{Standing}
use Rattle.lk_answer.specs.Replies.{IsReplied}
use Rattle.lk_serve.specs.Checks.{IsChecked, IsToldBy}
use Rattle.lk_serve.specs.Opened.{IsOpened, Opens, OpenedAs, OverFiles, OverLoaded, OverSeeds, numbered, open_line}
use Rattle.lk_serve.specs.Outcomes.{IsReply, IsReplyTo}
use Rattle.lk_serve.specs.Queries.{IsAnswered, IsQueried, OverBody, OverEdition, OverOpened, TellsAnswer, small_input}
use Rattle.lk_serve.specs.Replies.{usage_reply}
use Rattle.lk_serve.specs.Words.{Asked, asked_by, unknown, check, query, script, serve}
use Rattle.lk_serve.specs.declared.replies.Reply.{Reply}
use Rattle.lk_one_reply.specs.Told.{IsTold, SaysOne}

-- the files are loaded as one thing
abbrev pub OneLoad : Type 0
OneLoad = (files : List File) (r s : Result Loaded ProjectFault) → IsTold r → IsTold s → IsLoadOf files r → IsLoadOf files s → r ≡ s

-- a body is replied one thing on a history
abbrev pub OneReplied : Type 0
OneReplied = (e : Standing) (past : List State) (user explore body : List ℕ) (now : ℤ) (csv : Bool) (r s : Result sent.Reply AskFault)
    → IsReplied e past user explore body now csv r → IsReplied e past user explore body now csv s → r ≡ s

-- a store that tells what it holds hands over at most that
begun_told : (held : Option Kept) (handed : Kept → Type 0) (kept a : Kept) → held ≡ Some kept → Begins held handed a → a ≡ kept
begun_told None handed kept a is h = absurd (cc is)
begun_told (Some holds) handed kept a is h =
    let same : holds ≡ kept = cc is in
    h.told ∙ same

pub told_one : (held : Option Kept) (handed : Kept → Type 0) (kept : Kept) → held ≡ Some kept → SaysOne (Begins held handed)
told_one held handed kept is a b h k = begun_told held handed kept a is h ∙ sym (begun_told held handed kept b is k)

module _ (one_load : OneLoad) (one_told : OneReplied) where
  -- ---- checks

  checked_told : (r : Result Loaded ProjectFault) (a : Reply) → IsToldBy r a → IsTold r
  checked_told (Ok loaded) a h = tt
  checked_told (Err (project.Model line)) a h = tt
  checked_told (Err project.Failed) a h = h
  checked_told (Err project.NoMemory) a h = h

  one_telling : (r : Result Loaded ProjectFault) (a b : Reply) → IsToldBy r a → IsToldBy r b → a ≡ b
  one_telling (Ok loaded) a b h k = h ∙ sym k
  one_telling (Err (project.Model line)) a b h k = h ∙ sym k
  one_telling (Err project.Failed) a b h k = absurd h
  one_telling (Err project.NoMemory) a b h k = absurd h

  one_checked : (files : List File) (a b : Reply) → IsChecked files a → IsChecked files b → a ≡ b
  one_checked files a b h k =
      let same : h.loaded ≡ k.loaded =
      one_load files h.loaded k.loaded (checked_told h.loaded a h.told) (checked_told k.loaded b k.told) h.is_load k.is_load in
      one_telling k.loaded a b (subst (λ r. IsToldBy r a) same h.told) k.told

  -- ---- what opens

  -- a line that a fault has
  one_line : (line : Option FaultLine) (a b : Reply) → Opens line a → Opens line b → a ≡ b
  one_line None a b h k = absurd h
  one_line (Some line) a b h k = h ∙ sym k

  one_opened : (opened : Result Standing OpenFault) (r s : Result Standing Reply) → OpenedAs opened r → OpenedAs opened s → r ≡ s
  one_opened (Ok e) r s h k = h ∙ sym k
  one_opened (Err fault) (Ok e) s h k = absurd h
  one_opened (Err fault) (Err a) (Ok e) h k = absurd k
  one_opened (Err fault) (Err a) (Err b) h k = ap Err (one_line (open_line fault) a b h k)

  module _ (begins : Kept → Type 0) (now : ℤ) (one_kept : SaysOne begins) where
    over_seeds : (loaded : Loaded) (found : List seeds.Seed) (r s : Result Standing Reply)
        → OverSeeds loaded begins now found r → OverSeeds loaded begins now found s → r ≡ s
    over_seeds loaded found r s h k =
        let same : h.opened ≡ k.opened =
        sym h.is_opening.is ∙ ap (λ (held : Kept). standing_opened loaded.model loaded.users held (numbered 0 found) now)
        (one_kept h.is_opening.kept k.is_opening.kept h.is_opening.handed k.is_opening.handed) ∙ k.is_opening.is in
        one_opened k.opened r s (subst (λ opened. OpenedAs opened r) same h.told) k.told

    over_files : (loaded : Loaded) (found : Result (List seeds.Seed) ProjectFault) (r s : Result Standing Reply)
        → OverFiles loaded begins now found r → OverFiles loaded begins now found s → r ≡ s
    over_files loaded (Ok found) r s h k = over_seeds loaded found r s h k
    over_files loaded (Err (project.Model line)) r s h k = h ∙ sym k
    over_files loaded (Err project.Failed) r s h k = absurd h
    over_files loaded (Err project.NoMemory) r s h k = absurd h

    over_loaded : (files : List File) (l : Result Loaded ProjectFault) (r s : Result Standing Reply)
        → OverLoaded files begins now l r → OverLoaded files begins now l s → r ≡ s
    over_loaded files (Ok loaded) r s h k = over_files loaded (seeds_of loaded.model.schema.tables files) r s h k
    over_loaded files (Err (project.Model line)) r s h k = h ∙ sym k
    over_loaded files (Err project.Failed) r s h k = absurd h
    over_loaded files (Err project.NoMemory) r s h k = absurd h

    loaded_told : (files : List File) (l : Result Loaded ProjectFault) (r : Result Standing Reply)
        → OverLoaded files begins now l r → IsTold l
    loaded_told files (Ok loaded) r h = tt
    loaded_told files (Err (project.Model line)) r h = tt
    loaded_told files (Err project.Failed) r h = h
    loaded_told files (Err project.NoMemory) r h = h

    pub one_opening : (files : List File) (r s : Result Standing Reply)
        → IsOpened files begins now r → IsOpened files begins now s → r ≡ s
    one_opening files r s h k =
        let same : h.loaded ≡ k.loaded =
        one_load files h.loaded k.loaded (loaded_told files h.loaded r h.over) (loaded_told files k.loaded s k.over) h.is_load k.is_load in
        over_loaded files k.loaded r s (subst (λ l. OverLoaded files begins now l r) same h.over) k.over

  -- ---- what does not open, opens at no moment

  module _ (begins : Kept → Type 0) (now later : ℤ) where
    kept_then : (model : Model) (users : Users) (state : State) (keeps : Result Keeps BuildFault) (fault : OpenFault)
        → standing_built model users state now keeps ≡ Err fault → standing_built model users state later keeps ≡ Err fault
    kept_then model users state (Err (build.G2 name)) fault is = is
    kept_then model users state (Err build.NoMemory) fault is = is
    kept_then model users state (Ok keeps) fault is = absurd (cc is)

    state_then : (model : Model) (users : Users) (state : Result State OpenFault) (fault : OpenFault)
        → standing_over model users now state ≡ Err fault → standing_over model users later state ≡ Err fault
    state_then model users (Err why) fault is = is
    state_then model users (Ok state) fault is = kept_then model users state (all_kept model (rows_of_each state.tables)) fault is

    opening_then : (model : Model) (users : Users) (given : List Seed) (fault : OpenFault)
        → IsOpening model users begins given now (Err fault) → IsOpening model users begins given later (Err fault)
    opening_then model users given fault h =
        record { kept = h.kept; handed = h.handed; is = state_then model users (opened model.schema.tables h.kept given) fault h.is }

    seeds_then : (loaded : Loaded) (found : List seeds.Seed) (line : Reply) (o : Result Standing OpenFault)
        → IsOpening loaded.model loaded.users begins (numbered 0 found) now o → OpenedAs o (Err line) → OverSeeds loaded begins later found (Err line)
    seeds_then loaded found line (Ok e) h told = absurd (cc told)
    seeds_then loaded found line (Err fault) h told =
        record { opened = Err fault; is_opening = opening_then loaded.model loaded.users (numbered 0 found) fault h; told = told }

    files_then : (loaded : Loaded) (found : Result (List seeds.Seed) ProjectFault) (line : Reply)
        → OverFiles loaded begins now found (Err line) → OverFiles loaded begins later found (Err line)
    files_then loaded (Ok found) line h = seeds_then loaded found line h.opened h.is_opening h.told
    files_then loaded (Err (project.Model fault)) line h = h
    files_then loaded (Err project.Failed) line h = h
    files_then loaded (Err project.NoMemory) line h = h

    loaded_then : (files : List File) (l : Result Loaded ProjectFault) (line : Reply)
        → OverLoaded files begins now l (Err line) → OverLoaded files begins later l (Err line)
    loaded_then files (Ok loaded) line h = files_then loaded (seeds_of loaded.model.schema.tables files) line h
    loaded_then files (Err (project.Model fault)) line h = h
    loaded_then files (Err project.Failed) line h = h
    loaded_then files (Err project.NoMemory) line h = h

    line_then : (files : List File) (line : Reply) → IsOpened files begins now (Err line) → IsOpened files begins later (Err line)
    line_then files line h = record { loaded = h.loaded; is_load = h.is_load; over = loaded_then files h.loaded line h.over }

  -- ---- queries

  one_answer : (told : Result sent.Reply AskFault) (a b : Reply) → TellsAnswer told a → TellsAnswer told b → a ≡ b
  one_answer (Ok answer) a b h k = h ∙ sym k
  one_answer (Err fault) a b h k = h.1 ∙ sym k.1

  one_answered : (e : Standing) (user explore : List ℕ) (now : ℤ) (body : List ℕ) (a b : Reply)
      → IsAnswered e user explore now body a → IsAnswered e user explore now body b → a ≡ b
  one_answered e user explore now body a b h k =
      let same : h.told ≡ k.told = one_told e [] user explore body now true h.told k.told h.is k.is in
      one_answer k.told a b (subst (λ r. TellsAnswer r a) same h.tells) k.tells

  over_body : (e : Standing) (user explore : List ℕ) (now : ℤ) (body : Option (List ℕ)) (a b : Reply)
      → OverBody e user explore now body a → OverBody e user explore now body b → a ≡ b
  over_body e user explore now None a b h k = h ∙ sym k
  over_body e user explore now (Some body) a b h k =
      one_answered e user explore now body a b h.1 k.1

  over_opened : (user explore input : List ℕ) (now : ℤ) (opened : Result Standing Reply) (a b : Reply)
      → OverOpened user explore (Some input) now opened a → OverOpened user explore (Some input) now opened b → a ≡ b
  over_opened user explore input now (Ok e) a b h k = over_body e user explore now (small_input input) a b h.is k.is
  over_opened user explore input now (Err line) a b h k = h ∙ sym k

  one_queried : (files : List File) (begins : Kept → Type 0) (user explore input : List ℕ) (now : ℤ) (a b : Reply) → SaysOne begins
      → IsQueried files begins user explore (Some input) (Some now) a → IsQueried files begins user explore (Some input) (Some now) b → a ≡ b
  one_queried files begins user explore input now a b one_kept h k =
      let h_opened = subst (λ moment. IsOpened files begins moment h.opened) h.is_now h.is_opened in
      let k_opened = subst (λ moment. IsOpened files begins moment k.opened) k.is_now k.is_opened in
      let same : h.opened ≡ k.opened = one_opening begins now one_kept files h.opened k.opened h_opened k_opened in
      over_opened user explore input now k.opened a b
      (subst (λ r. OverOpened user explore (Some input) now r a) same (subst (λ moment. OverOpened user explore (Some input) moment h.opened a) h.is_now h.told))
      (subst (λ moment. OverOpened user explore (Some input) moment k.opened b) k.is_now k.told)

  -- ---- words

  one_by : (asked : Asked) (files : List File) (begins : Kept → Type 0) (input : List ℕ) (now : ℤ) (a b : Reply) → SaysOne begins
      → IsReplyTo asked (Some files) begins (Some input) (Some now) a → IsReplyTo asked (Some files) begins (Some input) (Some now) b → a ≡ b
  one_by unknown files begins input now a b one_kept h k = h ∙ sym k
  one_by check files begins input now a b one_kept h k = one_checked files a b h k
  one_by (query user explore) files begins input now a b one_kept h k = one_queried files begins user explore input now a b one_kept h k
  one_by script files begins input now a b one_kept h k = absurd h
  one_by (serve workers) files begins input now a b one_kept h k = absurd h

  pub one_reply : (words : List (List ℕ)) (files : List File) (begins : Kept → Type 0) (input : List ℕ) (now : ℤ) (a b : Reply) → SaysOne begins
      → IsReply words (Some files) begins (Some input) (Some now) a → IsReply words (Some files) begins (Some input) (Some now) b → a ≡ b
  unfolding IsReply
  one_reply words files begins input now a b one_kept h k = one_by (asked_by words) files begins input now a b one_kept h k

  -- ---- as far as the files alone tell

  -- wrong words have the usage line, whatever is told
  pub usage_told : (words : List (List ℕ)) (files : Option (List File)) (begins : Kept → Type 0) (input : Option (List ℕ)) (now : Option ℤ) (a : Reply)
      → asked_by words ≡ unknown → IsReply words files begins input now a → a ≡ usage_reply
  unfolding IsReply
  usage_told words files begins input now a is h = subst (λ asked. IsReplyTo asked files begins input now a) is h

  -- a folder whose project does not open over a store has its line, whatever is told of the input and the clock
  pub line_told : (files : List File) (begins : Kept → Type 0) (user explore : List ℕ) (input : Option (List ℕ)) (now : Option ℤ) (moment : ℤ) (line a : Reply)
      → SaysOne begins → IsOpened files begins moment (Err line) → IsQueried files begins user explore input now a → a ≡ line
  line_told files begins user explore input now moment line a one_kept opened h =
      let same : h.opened ≡ Err line =
      one_opening begins h.moment one_kept files h.opened (Err line) h.is_opened (line_then begins moment h.moment files line opened) in
      subst (λ r. OverOpened user explore input h.moment r a) same h.told
