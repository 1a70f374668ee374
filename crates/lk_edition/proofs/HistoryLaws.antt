-- What an edition keeps is that of its history: after an opening, after a load and after a check.
use Rattle.std.proofs.Common.{◌≡◌, ◌<◌, ◌≤◌, ◌+◌, ◌&&◌, ◌||◌, ◌∷◌, [], ℕ, zero, suc, ℤ, Bool, true, false, List, Option, Some, None, length, map, refl, sym, ap, ◌∙◌, subst, arith}
use Rattle.std.specs.Prelude.{Result, Ok, Err, if◌then◌else◌, nat_eq, nat_le, nat_lt, slice_index_or, slice_set}
use Rattle.std.specs.List.{list_all}
use Rattle.std.proofs.lemmas.Bool.{false≢true, ltb-false}
use Rattle.std.proofs.lemmas.List.{get_or-map, get_or_past, length-map}
use Rattle.std.proofs.lemmas.List.Elements.{All-cons, All-head, All-nil, All-tail}
use Rattle.std.proofs.lemmas.List.Quantifiers.{position-Some}
use Rattle.lk_val.specs.Texts.{is_same_text}
use Rattle.lk_types.specs.Expressions.{has_number}
use Rattle.lk_types.specs.Tables.{Rows, is_valid_table}
use Rattle.lk_types.specs.declared.explore.Explore.{Explore}
use Rattle.lk_types.specs.declared.explore.Rollup.{Rollup}
use Rattle.lk_types.specs.declared.model.Datagroup.{Datagroup}
use Rattle.lk_types.specs.declared.model.Derived.{Derived}
use Rattle.lk_types.specs.declared.model.Model.{Model}
use Rattle.lk_types.specs.declared.schema.TableDef.{TableDef}
use Rattle.lk_semantics.specs.Derived.{explore_at, no_explore}
use Rattle.lk_semantics.specs.Joins.{numbers_below}
use Rattle.lk_semantics.specs.Resolved.{IsResolved, is_none_or_below}
use Rattle.lk_semantics.specs.Rollups.{derived_at, no_derived, no_rollup, partials_of, rollup_at}
use Rattle.lk_semantics.proofs.EveryLaws.{both, every-append, every-at, every-filter, every-map, first, second}
use Rattle.lk_schema.specs.declared.users.Users.{Users}
use Rattle.lk_table.specs.Batches.{and_then}
use Rattle.lk_table.specs.Contents.{Content, content_of, rows_of_each}
use Rattle.lk_table.specs.declared.fault.BatchFault.{BatchFault}
use Rattle.lk_load.specs.Loading.{IsTable, LoadedTable, table_loaded}
use Rattle.lk_trigger.specs.Builds.{build_at, built_at, datagroup_at, does_trigger, no_build, no_datagroup}
use Rattle.lk_trigger.specs.declared.build.Build.{Build}
use Rattle.lk_fill.proofs.NumberedLaws.{map_numbered}
use Rattle.lk_keeps.specs.Anew.{keeps_anew, unless_large}
use Rattle.lk_keeps.specs.Keeps.{Keeps, keeps_of, persisted_rows, persists, sources_over}
use Rattle.lk_keeps.specs.Large.{large_builds}
use Rattle.lk_keeps.proofs.AnewLaws.{derived_group, rollup_group}
use Rattle.lk_keeps.proofs.ListLaws.{at_below, length_below, map_below, of_test, passes_at}
use Rattle.lk_ledger.specs.declared.kept.Chunk.{Chunk}
use Rattle.lk_ledger.specs.declared.kept.Kept.{Kept}
use Rattle.lk_state.specs.Limits.{is_over}
use Rattle.lk_state.specs.Openings.{AreSeeds, Seed, all_appended, all_seeded, appended, appended_to, empty_tables, opened, or_unread, or_unseeded, seeded, state_over}
use Rattle.lk_state.specs.States.{AreTables, State}
use Rattle.lk_state.specs.Tables.{content_at, def_at, no_table, table_named}
use Rattle.lk_state.specs.declared.fault.OpenFault.{OpenFault}
use Rattle.lk_state.specs.declared.fault.OpenFault.TheVariants as fault
use Rattle.lk_state.proofs.ContentLaws.{empty_are, table_there, tables_set}
use Rattle.lk_edition.specs.Checks.{check_planned, checked, groups_triggered, rebuilt}
use Rattle.lk_edition.specs.Histories.{AreConsecutive, IsState, Stands, is_built_at, no_state, numbered, states_of, tables_built}
use Rattle.lk_edition.specs.Loads.{load_planned, planned}
use Rattle.lk_edition.specs.Openings.{all_built, standing_built, standing_opened, standing_over}
use Rattle.lk_edition.specs.Plans.{Planned}
use Rattle.lk_edition.specs.Standings.{Standing}
use Rattle.lk_edition.specs.declared.call.LoadCall.{LoadCall}
use Rattle.lk_edition.specs.declared.plan.CheckPlan.TheVariants as check_plan
use Rattle.lk_edition.specs.declared.plan.LoadPlan.TheVariants as plan
use Rattle.lk_edition.proofs.PlanLaws.{IsNew, is_built, is_new}
use Rattle.lk_edition.proofs.StandingLaws.{kept_is, small_next}

-- ---- tests

either_first : (a b : Bool) → a ≡ true → (a || b) ≡ true
either_first true b h = refl
either_first false b h = absurd (false≢true h)

either_second : (a b : Bool) → b ≡ true → (a || b) ≡ true
either_second true b h = refl
either_second false b h = h

-- what passes one test passes another
module _ {A : Type 0} (t u : A → Bool) (more : (x : A) → t x ≡ true → u x ≡ true) where
  every_more : (xs : List A) → list_all t xs ≡ true → list_all u xs ≡ true
  every_more [] h = refl
  every_more (x ∷ xs) h = both (u x) (list_all u xs) (more x (first (t x) (list_all t xs) h)) (every_more xs (second (t x) (list_all t xs) h))

-- what is made passes
every_made : {A B : Type 0} (t : B → Bool) (f : A → B) → ((x : A) → t (f x) ≡ true) → (xs : List A) → list_all t (map f xs) ≡ true
every_made t f is [] = refl
every_made t f is (x ∷ xs) = both (t (f x)) (list_all t (map f xs)) (is x) (every_made t f is xs)

-- what is made of each item by two functions that agree on it
map_each : {A B : Type 0} (f g : A → B) (xs : List A) (none : A) → ((i : ℕ) → i < length xs → f (slice_index_or xs i none) ≡ g (slice_index_or xs i none))
    → map f xs ≡ map g xs
map_each f g [] none h = refl
map_each f g (x ∷ xs) none h = λ i. h 0 (omega arith) i ∷ map_each f g xs none (λ n less. h (suc n) (omega (arith, less))) i

-- ---- numbers

equals_itself : (n : ℕ) → nat_eq n n ≡ true
equals_itself n = grind arith

is_up_to_itself : (n : ℕ) → nat_le n n ≡ true
is_up_to_itself n = grind arith

none_up_to : (n : ℕ) → nat_le 0 n ≡ true
none_up_to n = grind arith

next_up_to : (n a b : ℕ) → a ≡ b + 1 → nat_le n b ≡ true → nat_le n a ≡ true
next_up_to n a b e h = grind (arith, e, h)

same_up_to : (a c n : ℕ) → nat_eq a c ≡ true → nat_le a n ≡ true → nat_le c n ≡ true
same_up_to a c n e h = grind (arith, e, h)

past_another : (a c n : ℕ) → a ≡ c + 1 → nat_le n c ≡ true → nat_eq a n ≡ false
past_another a c n e h = grind (arith, e, h)

less_up_to : (g n k : ℕ) → nat_lt g n ≡ true → n ≤ k → nat_lt g k ≡ true
less_up_to g n k less h = grind (arith, less, h)

less_itself : (n k : ℕ) → suc n ≤ k → nat_lt n k ≡ true
less_itself n k h = grind (arith, h)

-- the numbers below one are below it
below_up_to : (n k : ℕ) → n ≤ k → list_all (λ g. nat_lt g k) (numbers_below n) ≡ true
below_up_to zero k h = refl
below_up_to (suc n) k h =
    every-append (λ g. nat_lt g k) (numbers_below n) (n ∷ []) (below_up_to n k (omega (arith, h))) (both (nat_lt n k) true (less_itself n k h) refl)

-- a number among some that pass
passes_among : (t : ℕ → Bool) (g : ℕ) (groups : List ℕ) → list_all t groups ≡ true → has_number g groups ≡ true → t g ≡ true
passes_among t g [] all h = absurd (false≢true h)
passes_among t g (k ∷ groups) all h =
    elim (nat_eq g k) as (λ b. nat_eq g k ≡ b → (b || has_number g groups) ≡ true → t g ≡ true) [
      | true ↦ λ here _. let same : k ≡ g = grind (arith, here) in subst (λ n. t n ≡ true) same (first (t k) (list_all t groups) all)
      | false ↦ λ _ there. passes_among t g groups (second (t k) (list_all t groups) all) there
    ] refl h

-- ---- states by number

-- no state has a number past the newest
up_to_newest : (s : State) (states : List State) → AreConsecutive (s ∷ states) → list_all (λ (t : State). nat_le t.number s.number) (s ∷ states) ≡ true
up_to_newest s [] are = both (nat_le s.number s.number) true (is_up_to_itself s.number) refl
up_to_newest s (t ∷ states) are =
    both (nat_le s.number s.number) (list_all (λ (u : State). nat_le u.number s.number) (t ∷ states)) (is_up_to_itself s.number)
    (every_more (λ (u : State). nat_le u.number t.number) (λ (u : State). nat_le u.number s.number) (λ (u : State). next_up_to u.number s.number t.number are.0)
    (t ∷ states) (up_to_newest t states are.1))

-- a build at one of the states is not past the newest
built_up_to : (n : ℕ) (states : List State) (build : Build) → list_all (λ (t : State). nat_le t.number n) states ≡ true → is_built_at states build ≡ true
    → nat_le build.number n ≡ true
built_up_to n [] build all h = absurd (false≢true h)
built_up_to n (s ∷ states) build all h =
    elim (nat_eq s.number build.number) as (λ b. nat_eq s.number build.number ≡ b → (b || is_built_at states build) ≡ true → nat_le build.number n ≡ true) [
      | true ↦ λ here _. same_up_to s.number build.number n here (first (nat_le s.number n) (list_all (λ (t : State). nat_le t.number n) states) all)
      | false ↦ λ _ there. built_up_to n states build (second (nat_le s.number n) (list_all (λ (t : State). nat_le t.number n) states) all) there
    ] refl h

-- the edition of a history, and one of the next number
module _ (e : Standing) (past : List State) (is : Stands e past) (next : Standing) (number : next.state.number ≡ e.state.number + 1) where
  build_up_to : (g : ℕ) → nat_le (build_at e.builds g).number e.state.number ≡ true
  build_up_to g =
      every-at (λ (build : Build). nat_le build.number e.state.number) e.builds g no_build
      (every_more (is_built_at (states_of e past)) (λ (build : Build). nat_le build.number e.state.number)
      (λ (build : Build). built_up_to e.state.number (states_of e past) build (up_to_newest e.state past is.numbers)) e.builds is.built)
      (none_up_to e.state.number)

  passes_over : (n : ℕ) → nat_le n e.state.number ≡ true → numbered (next.state ∷ states_of e past) n ≡ numbered (states_of e past) n
  passes_over n before =
      ap (λ b. if b then next.state else numbered (states_of e past) n) (past_another next.state.number e.state.number n number before)

  -- a datagroup whose build stays was built at the same state
  stays_built : (g : ℕ) → build_at next.builds g ≡ build_at e.builds g → tables_built next (states_of e past) g ≡ tables_built e past g
  stays_built g same =
      ap (λ (state : State). rows_of_each state.tables)
      (ap (λ (build : Build). numbered (next.state ∷ states_of e past) build.number) same ∙ passes_over (build_at e.builds g).number (build_up_to g))

  -- one that is built at the new state was built at that
  anew_built : (g : ℕ) → (build_at next.builds g).number ≡ next.state.number → tables_built next (states_of e past) g ≡ rows_of_each next.state.tables
  anew_built g same =
      ap (λ (state : State). rows_of_each state.tables)
      (ap (numbered (next.state ∷ states_of e past)) same
      ∙ ap (λ b. if b then next.state else numbered (states_of e past) next.state.number) (equals_itself next.state.number))

  present : IsState e.model e.state
  present = is.states 0 e.state (omega arith)

  still_built : (build : Build) → is_built_at (states_of e past) build ≡ true → is_built_at (next.state ∷ states_of e past) build ≡ true
  still_built build was = either_second (nat_eq next.state.number build.number) (is_built_at (states_of e past) build) was

-- ---- loads

-- the tables of a schema, where what is loaded leaves a table
module _ (defs : List TableDef)
    (loads : (def : TableDef) (rows : Rows) (text : List ℕ) (replace : Bool) (t : LoadedTable) → is_valid_table def rows ≡ true
    → table_loaded def rows text replace ≡ Ok t → IsTable def t.version) where
  loaded_are : (tables : List Content) (number : ℕ) (text : List ℕ) (replace : Bool) (table : LoadedTable) → AreTables defs tables → number < length defs
      → table_loaded (def_at defs number) (content_at tables number).rows text replace ≡ Ok table → AreTables defs (slice_set tables number table.version)
  loaded_are tables number text replace table are below is =
      tables_set defs tables number table.version are
      (loads (def_at defs number) (content_at tables number).rows text replace table (table_there defs tables number are below).valid is)

number_below : (defs : List TableDef) (name : List ℕ) (number : ℕ) → table_named defs name ≡ Some number → number < length defs
number_below defs name number named = (position-Some (λ (def : TableDef). is_same_text def.name name) defs number no_table named).0

-- the edition of a history, and what a new load makes of it
module _ (loads : (def : TableDef) (rows : Rows) (text : List ℕ) (replace : Bool) (t : LoadedTable) → is_valid_table def rows ≡ true
    → table_loaded def rows text replace ≡ Ok t → IsTable def t.version) where
  module _ (e : Standing) (past : List State) (is : Stands e past) (call : LoadCall) (p : Planned) (new : IsNew e call p) where
    abbrev after_load : Standing
    after_load = (planned e call new.number new.table).standing

    state_loaded : IsState e.model after_load.state
    state_loaded = record {
      tables = loaded_are e.model.schema.tables loads e.state.tables new.number call.body call.replace new.table
          (present e past is after_load refl).tables (number_below e.model.schema.tables call.table new.number new.named) new.loads;
      small = new.within;
    }

    load_stands : Stands after_load (states_of e past)
    load_stands = record {
      resolved = is.resolved;
      numbers = (refl, is.numbers);
      states = All-cons (IsState e.model) after_load.state (states_of e past) state_loaded is.states;
      each = is.each;
      built = every_more (is_built_at (states_of e past)) (is_built_at (after_load.state ∷ states_of e past)) (still_built e past is after_load refl) e.builds is.built;
      keeps = is.keeps ∙ (λ i. keeps_of e.model (λ g. sym (stays_built e past is after_load refl g refl) i));
    }

  pub loaded_stands : (e : Standing) (past : List State) (call : LoadCall) (p : Planned) → Stands e past → load_planned e call ≡ Ok (plan.New p)
      → Stands p.standing (states_of e past)
  loaded_stands e past call p is so =
      let new = is_new e call p so in
      subst (λ (q : Planned). Stands q.standing (states_of e past)) (sym new.is) (load_stands e past is call p new)

-- ---- openings

-- what was made in a step before
record Between {A B E : Type 0} (r : Result A E) (f : A → Result B E) (b : B) : Type 0 where
  value : A
  is : r ≡ Ok value
  further : f value ≡ Ok b

between : {A B E : Type 0} (r : Result A E) (f : A → Result B E) (b : B) → and_then r f ≡ Ok b → Between r f b
between (Err why) f b e = cc e
between (Ok a) f b e = record { value = a; is = refl; further = e }

abbrev are : List Content → Result (List Content) OpenFault
are tables = Ok tables

same_tables : (a b : List Content) → are a ≡ are b → a ≡ b
same_tables a b e = cc e

-- the tables of a schema after kept batches, and after seeds
module _ (defs : List TableDef)
    (loads : (def : TableDef) (rows : Rows) (text : List ℕ) (replace : Bool) (t : LoadedTable) → is_valid_table def rows ≡ true
    → table_loaded def rows text replace ≡ Ok t → IsTable def t.version) where
  read_are : (tables next : List Content) (number : ℕ) (name body : List ℕ) (r : Result LoadedTable BatchFault) → AreTables defs tables → number < length defs
      → table_loaded (def_at defs number) (content_at tables number).rows body false ≡ r → or_unread tables number name r ≡ Ok next → AreTables defs next
  read_are tables next number name body (Err why) all below is e = cc e
  read_are tables next number name body (Ok loaded) all below is e =
      subst (AreTables defs) (same_tables (slice_set tables number loaded.version) next e) (loaded_are defs loads tables number body false loaded all below is)

  appended_are : (tables next : List Content) (chunk : Chunk) (o : Option ℕ) → AreTables defs tables → table_named defs chunk.table ≡ o
      → appended_to defs tables chunk o ≡ Ok next → AreTables defs next
  appended_are tables next chunk None all is e = cc e
  appended_are tables next chunk (Some number) all is e =
      read_are tables next number chunk.table chunk.body (table_loaded (def_at defs number) (content_at tables number).rows chunk.body false) all
      (number_below defs chunk.table number is) refl e

  all_appended_are : (tables last : List Content) (chunks : List Chunk) → AreTables defs tables → all_appended defs tables chunks ≡ Ok last → AreTables defs last
  all_appended_are tables last [] all e = subst (AreTables defs) (same_tables tables last e) all
  all_appended_are tables last (chunk ∷ chunks) all e =
      let step = between (appended defs tables chunk) (λ next. all_appended defs next chunks) last e in
      all_appended_are step.value last chunks (appended_are tables step.value chunk (table_named defs chunk.table) all refl step.is) step.further

  seed_are : (tables next : List Content) (number : ℕ) (name body : List ℕ) (r : Result LoadedTable BatchFault) → AreTables defs tables → number < length defs
      → table_loaded (def_at defs number) (content_at tables number).rows body true ≡ r → or_unseeded tables number name r ≡ Ok next → AreTables defs next
  seed_are tables next number name body (Err why) all below is e = cc e
  seed_are tables next number name body (Ok loaded) all below is e =
      subst (AreTables defs) (same_tables (slice_set tables number loaded.version) next e) (loaded_are defs loads tables number body true loaded all below is)

  all_seeded_are : (tables last : List Content) (seeds : List Seed) → AreTables defs tables → AreSeeds defs seeds → all_seeded defs tables seeds ≡ Ok last
      → AreTables defs last
  all_seeded_are tables last [] all within e = subst (AreTables defs) (same_tables tables last e) all
  all_seeded_are tables last (seed ∷ seeds) all within e =
      let step = between (seeded defs tables seed) (λ next. all_seeded defs next seeds) last e in
      all_seeded_are step.value last seeds
      (seed_are tables step.value seed.0 (def_at defs seed.0).name seed.1 (table_loaded (def_at defs seed.0) (content_at tables seed.0).rows seed.1 true) all
      (All-head (λ (seed : Seed). seed.0 < length defs) seed seeds within) refl step.is)
      (All-tail (λ (seed : Seed). seed.0 < length defs) seed seeds within) step.further

-- a state that is opened
small_state : (kept : Kept) (tables : List Content) (state : State) (b : Bool) → is_over (record { number = kept.number; tables = tables; ids = kept.ids }) ≡ b
    → (if b then Err fault.Full else Ok (record { number = kept.number; tables = tables; ids = kept.ids })) ≡ Ok state
    → (is_over state ≡ false) × (tables ≡ state.tables)
small_state kept tables state true is e = cc e
small_state kept tables state false is e =
    let same : record { number = kept.number; tables = tables; ids = kept.ids } ≡ state = cc e in
    (subst (λ (s : State). is_over s ≡ false) same is, ap (λ (s : State). s.tables) same)

state_opened : (m : Model) (kept : Kept) (seeds : List Seed) (state : State)
    → ((def : TableDef) (rows : Rows) (text : List ℕ) (replace : Bool) (t : LoadedTable) → is_valid_table def rows ≡ true
    → table_loaded def rows text replace ≡ Ok t → IsTable def t.version)
    → ((def : TableDef) → IsTable def (content_of def [])) → AreSeeds m.schema.tables seeds → opened m.schema.tables kept seeds ≡ Ok state → IsState m state
state_opened m kept seeds state loads nothing within e =
    let defs = m.schema.tables in
    let appends = between (all_appended defs (empty_tables defs) kept.chunks) (λ tables. and_then (all_seeded defs tables seeds) (state_over kept)) state e in
    let seeds_in = between (all_seeded defs appends.value seeds) (state_over kept) state appends.further in
    let over = small_state kept seeds_in.value state (is_over (record { number = kept.number; tables = seeds_in.value; ids = kept.ids })) refl seeds_in.further in
    record {
      tables = subst (AreTables defs) over.1 (all_seeded_are defs loads appends.value seeds_in.value seeds
          (all_appended_are defs loads (empty_tables defs) appends.value kept.chunks (empty_are defs nothing) appends.is) within seeds_in.is);
      small = over.0;
    }

-- ---- what is kept of a resolved model is made of the builds of its datagroups alone

module _ (m : Model) (resolved : IsResolved m) where
  module _ (some other : ℕ → List Rows) (agree : (g : ℕ) → g < length m.datagroups → some g ≡ other g) where
    abbrev kept_tables : (ℕ → List Rows) → ℕ → List Rows
    kept_tables of g = if persists m g then of g else []

    rollups_agree : (n : ℕ) → n < length m.explores
        → map (λ (r : Rollup). partials_of (explore_at m n) (sources_over m (some r.datagroup)) r) (explore_at m n).rollups
        ≡ map (λ (r : Rollup). partials_of (explore_at m n) (sources_over m (other r.datagroup)) r) (explore_at m n).rollups
    rollups_agree n explore =
        map_each (λ (r : Rollup). partials_of (explore_at m n) (sources_over m (some r.datagroup)) r)
        (λ (r : Rollup). partials_of (explore_at m n) (sources_over m (other r.datagroup)) r) (explore_at m n).rollups no_rollup
        (λ i rollup. ap (λ stored. partials_of (explore_at m n) (sources_over m stored) (rollup_at (explore_at m n) i))
        (agree (rollup_at (explore_at m n) i).datagroup (rollup_group m resolved n i explore rollup)))

    persisted_agree : (d : ℕ) (group : Option ℕ) → is_none_or_below (length m.datagroups) group ≡ true → persisted_rows m some d group ≡ persisted_rows m other d group
    persisted_agree d None below = refl
    persisted_agree d (Some g) below =
        ap (λ stored. slice_index_or (sources_over m stored).derived d []) (agree g (of_test g (length m.datagroups) below))

    keeps_agree : keeps_of m some ≡ keeps_of m other
    keeps_agree = λ i. record {
      tables = map_below (kept_tables some) (kept_tables other) (length m.datagroups) (λ g there. ap (λ stored. if persists m g then stored else []) (agree g there)) i;
      rollups = map_each (λ (x : Explore). map (λ (r : Rollup). partials_of x (sources_over m (some r.datagroup)) r) x.rollups)
          (λ (x : Explore). map (λ (r : Rollup). partials_of x (sources_over m (other r.datagroup)) r) x.rollups) m.explores no_explore rollups_agree i;
      derived = map_numbered (λ (d : ℕ × Derived). persisted_rows m some d.0 d.1.datagroup) (λ (d : ℕ × Derived). persisted_rows m other d.0 d.1.datagroup)
          m.derived no_derived (λ d there. persisted_agree d (derived_at m d).datagroup (derived_group m resolved d there)) i;
    }

-- the edition over a state at which all datagroups are built
module _ (model : Model) (users : Users) (state : State) (now : ℤ) where
  abbrev built_once : Datagroup → Build
  built_once = built_at (rows_of_each state.tables) state.number now

  abbrev opening : Standing
  opening = record {
    model = model;
    users = users;
    state = state;
    builds = all_built model state now;
    keeps = keeps_of model (λ g. rows_of_each state.tables);
  }

  tables_once : (g : ℕ) → g < length model.datagroups → rows_of_each state.tables ≡ tables_built opening [] g
  tables_once g there =
      ap (λ (s : State). rows_of_each s.tables)
      (sym (ap (λ (build : Build). numbered (state ∷ []) build.number) (get_or-map built_once model.datagroups g no_datagroup no_build there)
      ∙ ap (λ b. if b then state else no_state) (equals_itself state.number)))

  opening_stands : IsResolved model → IsState model state → Stands opening []
  opening_stands resolved is = record {
    resolved = resolved;
    numbers = tt;
    states = All-cons (IsState model) state [] is (All-nil (IsState model));
    each = length-map model.datagroups built_once;
    built = every_made (is_built_at (state ∷ [])) built_once (λ (datagroup : Datagroup). either_first (nat_eq state.number state.number) false (equals_itself state.number))
        model.datagroups;
    keeps = keeps_agree model resolved (λ g. rows_of_each state.tables) (tables_built opening []) tables_once;
  }

  -- unless a build is too large
  whole_is : (whole : Keeps) (names : List (List ℕ)) (e : Standing) → standing_built model users state now (unless_large whole names) ≡ Ok e
      → record { model = model; users = users; state = state; builds = all_built model state now; keeps = whole } ≡ e
  whole_is whole [] e so = cc so
  whole_is whole (name ∷ names) e so = cc so

opened_by : (model : Model) (users : Users) (now : ℤ) (r : Result State OpenFault) (e : Standing) → IsResolved model
    → ((state : State) → r ≡ Ok state → IsState model state) → standing_over model users now r ≡ Ok e → Stands e []
opened_by model users now (Err why) e resolved are so = cc so
opened_by model users now (Ok state) e resolved are so =
    let stored = rows_of_each state.tables in
    subst (λ (e : Standing). Stands e [])
    (whole_is model users state now (keeps_of model (λ g. stored)) (large_builds model (numbers_below (length model.datagroups)) (sources_over model stored)) e so)
    (opening_stands model users state now resolved (are state refl))

module _ (loads : (def : TableDef) (rows : Rows) (text : List ℕ) (replace : Bool) (t : LoadedTable) → is_valid_table def rows ≡ true
    → table_loaded def rows text replace ≡ Ok t → IsTable def t.version) (nothing : (def : TableDef) → IsTable def (content_of def [])) where
  pub opened_stands : (model : Model) (users : Users) (kept : Kept) (seeds : List Seed) (now : ℤ) (e : Standing) → IsResolved model
      → AreSeeds model.schema.tables seeds → standing_opened model users kept seeds now ≡ Ok e → Stands e []
  opened_stands model users kept seeds now e resolved within so =
      opened_by model users now (opened model.schema.tables kept seeds) e resolved
      (λ state is. state_opened model kept seeds state loads nothing within is) so

-- ---- checks

-- the edition of a history, and some of its datagroups built at the next number over its tables
module _ (e : Standing) (past : List State) (is : Stands e past) (groups : List ℕ) (now : ℤ) (keeps : Keeps)
    (below : list_all (λ g. nat_lt g (length e.model.datagroups)) groups ≡ true) where
  abbrev stored : List Rows
  stored = rows_of_each e.state.tables

  abbrev after_check : Standing
  after_check = checked e groups now keeps

  abbrev built_anew : ℕ → Build
  built_anew g = built_at stored (e.state.number + 1) now (datagroup_at e.model.datagroups g)

  abbrev rebuilt_at : ℕ → Build
  rebuilt_at g = if has_number g groups then built_anew g else build_at e.builds g

  abbrev all : List ℕ
  all = numbers_below (length e.model.datagroups)

  rebuilt_long : length (rebuilt e groups now) ≡ length e.model.datagroups
  rebuilt_long = length-map all rebuilt_at ∙ length_below (length e.model.datagroups)

  -- each of the builds is at one of the states
  old_built : (g : ℕ) → nat_lt g (length e.model.datagroups) ≡ true → is_built_at (after_check.state ∷ states_of e past) (build_at e.builds g) ≡ true
  old_built g less =
      let within : g < length e.model.datagroups = of_test g (length e.model.datagroups) less in
      still_built e past is after_check refl (build_at e.builds g)
      (passes_at (is_built_at (states_of e past)) e.builds g no_build is.built (omega (arith, within, is.each)))

  rebuilt_built : (g : ℕ) → nat_lt g (length e.model.datagroups) ≡ true → is_built_at (after_check.state ∷ states_of e past) (rebuilt_at g) ≡ true
  rebuilt_built g less =
      elim (has_number g groups) as (λ b. is_built_at (after_check.state ∷ states_of e past) (if b then built_anew g else build_at e.builds g) ≡ true) [
        | true ↦ either_first (nat_eq (e.state.number + 1) (e.state.number + 1)) (is_built_at (states_of e past) (built_anew g)) (equals_itself (e.state.number + 1))
        | false ↦ old_built g less
      ]

  all_rebuilt : list_all (is_built_at (after_check.state ∷ states_of e past)) (rebuilt e groups now) ≡ true
  all_rebuilt =
      every-map (is_built_at (after_check.state ∷ states_of e past)) (λ g. nat_lt g (length e.model.datagroups)) rebuilt_at rebuilt_built all
      (below_up_to (length e.model.datagroups) (length e.model.datagroups) (omega arith))

  -- the build of a datagroup that was built anew, and of one that was not, also past the last
  build_anew : (g : ℕ) → has_number g groups ≡ true → build_at (rebuilt e groups now) g ≡ built_anew g
  build_anew g anew =
      let within : g < length e.model.datagroups =
      of_test g (length e.model.datagroups) (passes_among (λ k. nat_lt k (length e.model.datagroups)) g groups below anew) in
      at_below rebuilt_at (length e.model.datagroups) g no_build within ∙ ap (λ b. if b then built_anew g else build_at e.builds g) anew

  build_past : (g : ℕ) → length e.model.datagroups ≤ g → build_at (rebuilt e groups now) g ≡ build_at e.builds g
  build_past g more =
      get_or_past (rebuilt e groups now) g no_build (omega (arith, more, rebuilt_long))
      ∙ sym (get_or_past e.builds g no_build (omega (arith, more, is.each)))

  build_stays : (g : ℕ) → has_number g groups ≡ false → build_at (rebuilt e groups now) g ≡ build_at e.builds g
  build_stays g stays =
      elim (nat_lt g (length e.model.datagroups)) as (λ b. nat_lt g (length e.model.datagroups) ≡ b → build_at (rebuilt e groups now) g ≡ build_at e.builds g) [
        | true ↦ λ less. at_below rebuilt_at (length e.model.datagroups) g no_build (of_test g (length e.model.datagroups) less)
            ∙ ap (λ b. if b then built_anew g else build_at e.builds g) stays
        | false ↦ λ more. build_past g (ltb-false g (length e.model.datagroups) more)
      ] refl

  -- the tables that each was built over then
  tables_then : (g : ℕ) → (if has_number g groups then stored else tables_built e past g) ≡ tables_built after_check (states_of e past) g
  tables_then g =
      elim (has_number g groups) as (λ b. has_number g groups ≡ b → (if b then stored else tables_built e past g) ≡ tables_built after_check (states_of e past) g) [
        | true ↦ λ anew. sym (anew_built e past is after_check refl g (ap (λ (build : Build). build.number) (build_anew g anew)))
        | false ↦ λ stays. sym (stays_built e past is after_check refl g (build_stays g stays))
      ] refl

  check_stands : nat_lt 9223372036854775807 (e.state.number + 1) ≡ false → keeps ≡ keeps_anew e.model groups stored e.keeps
      → keeps_anew e.model groups stored (keeps_of e.model (tables_built e past)) ≡ keeps_of e.model (λ g. if has_number g groups then stored else tables_built e past g)
      → Stands after_check (states_of e past)
  check_stands within kept law =
      let here = present e past is after_check refl in
      record {
        resolved = is.resolved;
        numbers = (refl, is.numbers);
        states = All-cons (IsState e.model) after_check.state (states_of e past)
            (record { tables = here.tables; small = small_next e.state here.small (ltb-false 9223372036854775807 (e.state.number + 1) within) }) is.states;
        each = rebuilt_long;
        built = all_rebuilt;
        keeps = kept ∙ ap (keeps_anew e.model groups stored) is.keeps ∙ law ∙ (λ i. keeps_of e.model (λ g. tables_then g i));
      }

-- only datagroups of the model trigger
triggered_below : (e : Standing) (now : ℤ) → list_all (λ g. nat_lt g (length e.model.datagroups)) (groups_triggered e now) ≡ true
triggered_below e now =
    every-filter (λ g. nat_lt g (length e.model.datagroups))
    (λ g. does_trigger (rows_of_each e.state.tables) now (build_at e.builds g) (datagroup_at e.model.datagroups g)) (numbers_below (length e.model.datagroups))
    (below_up_to (length e.model.datagroups) (length e.model.datagroups) (omega arith))

module _ (anew : (m : Model) (groups : List ℕ) (stored : List Rows) (built : ℕ → List Rows)
    → keeps_anew m groups stored (keeps_of m built) ≡ keeps_of m (λ g. if has_number g groups then stored else built g)) where
  pub checked_stands : (e : Standing) (past : List State) (user : List ℕ) (now : ℤ) (p : Planned) → Stands e past
      → check_planned e user now ≡ Ok (check_plan.New p) → Stands p.standing (states_of e past)
  checked_stands e past user now p is so =
      let plan = is_built e user now p so in
      let stored = rows_of_each e.state.tables in
      subst (λ (q : Planned). Stands q.standing (states_of e past)) (sym plan.is)
      (check_stands e past is plan.groups now plan.keeps
      (subst (λ groups. list_all (λ g. nat_lt g (length e.model.datagroups)) groups ≡ true) plan.triggered (triggered_below e now)) plan.within
      (kept_is (keeps_anew e.model plan.groups stored e.keeps) (large_builds e.model plan.groups (sources_over e.model stored)) plan.keeps (sym plan.kept))
      (anew e.model plan.groups stored (tables_built e past)))
