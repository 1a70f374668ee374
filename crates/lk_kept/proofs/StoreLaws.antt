-- A store that saved accepted loads and checks opens the last state.
use Rattle.std.proofs.Common.{◌≡◌, ◌∙◌, ◌++◌, ◌∷◌, ◌+◌, ◌<◌, ◌||◌, [], ℕ, Bool, true, false, List, Some, length, map, refl, sym, ap, subst, arith}
use Rattle.std.specs.List.{All}
use Rattle.std.specs.Prelude.{ℤ, if◌then◌else◌, nat_lt, slice_set, Result, Ok, Err}
use Rattle.std.proofs.lemmas.List.{get_or-set_same, length-map, set-set}
use Rattle.lk_types.specs.declared.schema.TableDef.{TableDef}
use Rattle.lk_table.specs.Batches.{and_then, batch_of}
use Rattle.lk_table.specs.BatchTexts.{HasNamedColumns, batch_text}
use Rattle.lk_table.specs.Contents.{Content, content_of}
use Rattle.lk_table.specs.Loads.{kept_rows}
use Rattle.lk_load.specs.Loading.{LoadedTable, table_loaded}
use Rattle.lk_ledger.specs.Saving.{Save, after_check, after_load, after_save, after_saves, load, other_chunks}
use Rattle.lk_ledger.specs.declared.kept.Chunk.{Chunk}
use Rattle.lk_ledger.specs.declared.kept.Kept.{Kept}
use Rattle.lk_ledger.specs.declared.kept.KeptId.{KeptId}
use Rattle.lk_state.specs.Limits.{are_large, is_over}
use Rattle.lk_state.specs.Openings.{all_appended, appended, appended_to, empty_tables, opened, or_unread, state_over}
use Rattle.lk_state.specs.States.{State}
use Rattle.lk_state.specs.Tables.{content_at, def_at, no_table, nothing_held, table_named}
use Rattle.lk_state.specs.declared.fault.OpenFault.{OpenFault}
use Rattle.lk_state.specs.declared.fault.OpenFault.TheVariants as fault
use Rattle.lk_edition.specs.Loads.{command_of, kept_id}
use Rattle.lk_edition.specs.Plans.{Planned}
use Rattle.lk_edition.specs.Standings.{Standing}
use Rattle.lk_edition.specs.declared.call.LoadCall.{LoadCall}
use Rattle.lk_edition.proofs.PlanLaws.{IsBuilt, IsNew, is_built, is_new}
use Rattle.lk_kept.specs.Accepted.{AreAccepted, LeadsTo, Step, by_check, by_load}
use Rattle.lk_kept.proofs.ChunkLaws.{all_long, empty_set, number_below, one_behind, others_kept}
use Rattle.lk_kept.proofs.TextLaws.{text_again}

-- the state of what is kept, over tables
abbrev state_with : Kept → List Content → State
state_with kept tables = record { number = kept.number; tables = tables; ids = kept.ids }

-- ---- opening

-- what is kept opens as that state
record Opens (defs : List TableDef) (kept : Kept) (tables : List Content) : Type 0 where
  appends : all_appended defs (empty_tables defs) kept.chunks ≡ Ok tables
  within : is_over (state_with kept tables) ≡ false

open_again : (defs : List TableDef) (kept : Kept) (tables : List Content) → Opens defs kept tables
    → opened defs kept [] ≡ Ok (state_with kept tables)
open_again defs kept tables opens =
    ap (λ (r : Result (List Content) OpenFault). and_then r (state_over kept)) opens.appends
    ∙ ap (λ (b : Bool). if b then Err fault.Full else Ok (state_with kept tables)) opens.within

within_by : (kept : Kept) (tables : List Content) (s : State) (b : Bool)
    → is_over (state_with kept tables) ≡ b → (if b then Err fault.Full else Ok (state_with kept tables)) ≡ Ok s
    → (is_over (state_with kept tables) ≡ false) × (state_with kept tables ≡ s)
within_by kept tables s true is f = cc f
within_by kept tables s false is f = let same : state_with kept tables ≡ s = cc f in (is, same)

-- it opens, and the state is that one
record HasOpened (defs : List TableDef) (kept : Kept) (s : State) : Type 0 where
  tables : List Content
  opens : Opens defs kept tables
  is : state_with kept tables ≡ s

opened_by : (defs : List TableDef) (kept : Kept) (s : State) (r : Result (List Content) OpenFault)
    → all_appended defs (empty_tables defs) kept.chunks ≡ r → and_then r (state_over kept) ≡ Ok s → HasOpened defs kept s
opened_by defs kept s (Err why) is f = cc f
opened_by defs kept s (Ok tables) is f =
    let those = within_by kept tables s (is_over (state_with kept tables)) refl f in
    record { tables = tables; opens = record { appends = is; within = those.0 }; is = those.1 }

has_opened : (defs : List TableDef) (kept : Kept) (s : State) → opened defs kept [] ≡ Ok s → HasOpened defs kept s
has_opened defs kept s f = opened_by defs kept s (all_appended defs (empty_tables defs) kept.chunks) refl f

-- ---- limits

-- the same tables and loads are within the limits at another number, where that is
still_small : (tables : List Content) (ids : List KeptId) (number next : ℕ) → is_over (record { number = number; tables = tables; ids = ids }) ≡ false
    → nat_lt 9223372036854775807 next ≡ false → is_over (record { number = next; tables = tables; ids = ids }) ≡ false
still_small tables ids number next small within = neither (are_large tables) (nat_lt 100000 (length ids)) (nat_lt 9223372036854775807 number) (nat_lt 9223372036854775807 next) small within
  where
    neither : (a b c d : Bool) → (a || b || c) ≡ false → d ≡ false → (a || b || d) ≡ false
    neither true b c d small within = cc small
    neither false true c d small within = cc small
    neither false false c d small within = within

-- ---- a load

-- reading the canonical text of a batch gives the batch
module _ (back : (def : TableDef) (text : List ℕ) (content : Content) → HasNamedColumns def → batch_of def text ≡ Ok content
    → batch_of def (batch_text def content) ≡ Ok content) where
  -- given a table of the schema, and what a load of a call into it gave
  module _ (defs : List TableDef) (columns : All HasNamedColumns defs) (name : List ℕ) (number : ℕ) (named : table_named defs name ≡ Some number)
      (tables : List Content) (chunks : List Chunk) (appends : all_appended defs (empty_tables defs) chunks ≡ Ok tables)
      (body : List ℕ) (t : LoadedTable) where
    abbrev saved_chunk : Chunk
    saved_chunk = record { table = name; body = t.text }

    has_names : HasNamedColumns (def_at defs number)
    has_names = columns number no_table (number_below defs name number named)

    -- the batch behind rows of which as many stay
    behind : (replace : Bool) (held : List Content)
        → table_loaded (def_at defs number) (content_at tables number).rows body replace ≡ Ok t
        → kept_rows false (content_at held number).rows ≡ kept_rows replace (content_at tables number).rows
        → appended defs held saved_chunk ≡ Ok (slice_set held number t.version)
    behind replace held loads stays =
        ap (appended_to defs held saved_chunk) named
        ∙ ap (or_unread held number name)
        (text_again back (def_at defs number) has_names (content_at tables number).rows (content_at held number).rows body false replace stays t loads)

    saved_appending : table_loaded (def_at defs number) (content_at tables number).rows body false ≡ Ok t
        → all_appended defs (empty_tables defs) (chunks ++ saved_chunk ∷ []) ≡ Ok (slice_set tables number t.version)
    saved_appending loads =
        one_behind defs (empty_tables defs) tables (slice_set tables number t.version) chunks saved_chunk appends
        (behind false tables loads refl)

    saved_replacing : table_loaded (def_at defs number) (content_at tables number).rows body true ≡ Ok t
        → all_appended defs (empty_tables defs) (other_chunks name chunks ++ saved_chunk ∷ []) ≡ Ok (slice_set tables number t.version)
    saved_replacing loads =
        let nothing : Content = content_of (def_at defs number) [] in
        let held : List Content = slice_set tables number nothing in
        let below : number < length defs = number_below defs name number named in
        let long : length tables ≡ length defs = all_long defs (empty_tables defs) tables chunks appends ∙ length-map defs (λ (def : TableDef). content_of def []) in
        let within : number < length tables = omega arith in
        let others : all_appended defs (empty_tables defs) (other_chunks name chunks) ≡ Ok held =
        ap (λ (first : List Content). all_appended defs first (other_chunks name chunks)) (sym (empty_set defs number below))
        ∙ others_kept defs name number named nothing (empty_tables defs) tables chunks appends in
        let empty : (content_at held number).rows ≡ [] = ap (λ (c : Content). c.rows) (get_or-set_same tables number nothing nothing_held within) in
        one_behind defs (empty_tables defs) held (slice_set tables number t.version) (other_chunks name chunks) saved_chunk others
        (behind true held loads empty ∙ ap Ok (set-set tables number nothing t.version))

    saved : (replace : Bool) → table_loaded (def_at defs number) (content_at tables number).rows body replace ≡ Ok t
        → all_appended defs (empty_tables defs) ((if replace then other_chunks name chunks else chunks) ++ saved_chunk ∷ [])
        ≡ Ok (slice_set tables number t.version)
    saved true loads = saved_replacing loads
    saved false loads = saved_appending loads

  -- ---- the steps

  module _ (defs : List TableDef) (columns : All HasNamedColumns defs) where
    saved_load : (kept : Kept) (e : Standing) (call : LoadCall) (p : Planned) → e.model.schema.tables ≡ defs → HasOpened defs kept e.state
        → (is : IsNew e call p) → HasOpened defs (after_load kept (command_of e.state call is.table)) p.standing.state
    saved_load kept e call p same before is =
        let number = is.number in
        let version = is.table.version in
        let loads : table_loaded (def_at defs number) (content_at before.tables number).rows call.body call.replace ≡ Ok is.table =
        ap (λ (s : State). table_loaded (def_at defs number) (content_at s.tables number).rows call.body call.replace) before.is
        ∙ ap (λ (ds : List TableDef). table_loaded (def_at ds number) (content_at e.state.tables number).rows call.body call.replace) (sym same) ∙ is.loads in
        -- the state after the load, by the number of the edition's
        let loaded_from : State → State =
        λ s. record { number = e.state.number + 1; tables = slice_set s.tables number version; ids = s.ids ++ kept_id e.state call is.table ∷ [] } in
        let named : table_named defs call.table ≡ Some number = ap (λ (ds : List TableDef). table_named ds call.table) (sym same) ∙ is.named in
        record {
          tables = slice_set before.tables number version;
          opens = record {
            appends = saved defs columns call.table number named before.tables kept.chunks before.opens.appends call.body is.table call.replace loads;
            within = ap (λ (s : State). is_over (loaded_from s)) before.is ∙ is.within;
          };
          is = ap loaded_from before.is ∙ sym (ap (λ (q : Planned). q.standing.state) is.is);
        }

    saved_check : (kept : Kept) (e : Standing) (p : Planned) → HasOpened defs kept e.state → (now : ℤ) → IsBuilt e now p
        → HasOpened defs (after_check kept (e.state.number + 1)) p.standing.state
    saved_check kept e p before now is = record {
      tables = before.tables;
      opens = record { appends = before.opens.appends; within = still_small before.tables kept.ids kept.number (e.state.number + 1) before.opens.within is.within };
      is = ap (λ (s : State). record { number = e.state.number + 1; tables = s.tables; ids = s.ids }) before.is ∙ sym (ap (λ (q : Planned). q.standing.state) is.is);
    }

    saved_step : (kept : Kept) (e : Standing) (step : Step) (save : Save) (p : Planned) → e.model.schema.tables ≡ defs → HasOpened defs kept e.state
        → LeadsTo e step p → save ≡ p.save → HasOpened defs (after_save kept save) p.standing.state × (p.standing.model.schema.tables ≡ defs)
    saved_step kept e (by_load call) save p same before leads told =
        let is = is_new e call p leads in
        let save_is : load (command_of e.state call is.table) ≡ save = sym (told ∙ ap (λ (q : Planned). q.save) is.is) in (
          subst (λ s. HasOpened defs (after_save kept s) p.standing.state) save_is (saved_load kept e call p same before is),
          ap (λ (q : Planned). q.standing.model.schema.tables) is.is ∙ same,
        )
    saved_step kept e (by_check user now) save p same before leads told =
        let is = is_built e user now p leads in (
          subst (λ s. HasOpened defs (after_save kept s) p.standing.state) (sym (told ∙ ap (λ (q : Planned). q.save) is.is)) (saved_check kept e p before now is),
          ap (λ (q : Planned). q.standing.model.schema.tables) is.is ∙ same,
        )

    saved_all : (steps : List Step) (saves : List Save) (kept : Kept) (e last : Standing) → e.model.schema.tables ≡ defs → HasOpened defs kept e.state
        → AreAccepted e steps saves last → opened defs (after_saves kept saves) [] ≡ Ok last.state
    saved_all [] [] kept e last same before accepted =
        open_again defs kept before.tables before.opens ∙ ap Ok (before.is ∙ sym (ap (λ (s : Standing). s.state) accepted))
    saved_all [] (save ∷ saves) kept e last same before accepted = absurd accepted
    saved_all (step ∷ steps) [] kept e last same before accepted = absurd accepted
    saved_all (step ∷ steps) (save ∷ saves) kept e last same before accepted =
        let next = saved_step kept e step save accepted.0 same before accepted.1 accepted.2 in
        saved_all steps saves (after_save kept save) accepted.0.standing last next.1 next.0 accepted.3

  pub stores_hold : (kept : Kept) (e : Standing) (steps : List Step) (saves : List Save) (last : Standing)
      → All HasNamedColumns e.model.schema.tables → opened e.model.schema.tables kept [] ≡ Ok e.state → AreAccepted e steps saves last
      → opened e.model.schema.tables (after_saves kept saves) [] ≡ Ok last.state
  stores_hold kept e steps saves last columns is accepted =
      saved_all e.model.schema.tables columns steps saves kept e last refl (has_opened e.model.schema.tables kept e.state is) accepted
