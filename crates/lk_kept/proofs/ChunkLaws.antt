-- Kept batches: what one more does, and what dropping those of a table does.
use Rattle.std.proofs.Common.{◌≡◌, ◌∙◌, ◌++◌, ◌∷◌, ◌<◌, [], ℕ, Bool, true, false, List, Option, Some, None, length, refl, sym, ap}
use Rattle.std.specs.Prelude.{not, if◌then◌else◌, slice_set, Result, Ok, Err}
use Rattle.std.proofs.lemmas.Bool.{true≢false}
use Rattle.std.proofs.lemmas.List.{get_or-map, get_or-set_other, length-set, set-get_or, set-set, set_comm}
use Rattle.std.proofs.lemmas.List.Quantifiers.{position-Some}
use Rattle.std.proofs.lemmas.Slice.Eq.{bytes_eq-Decides}
use Rattle.lk_val.specs.Texts.{is_same_text}
use Rattle.lk_types.specs.declared.schema.TableDef.{TableDef}
use Rattle.lk_table.specs.Batches.{and_then}
use Rattle.lk_table.specs.Contents.{Content, content_of}
use Rattle.lk_table.specs.declared.fault.BatchFault.{BatchFault}
use Rattle.lk_load.specs.Loading.{LoadedTable, table_loaded}
use Rattle.lk_ledger.specs.Saving.{other_chunks}
use Rattle.lk_ledger.specs.declared.kept.Chunk.{Chunk}
use Rattle.lk_state.specs.Openings.{all_appended, appended, appended_to, empty_tables, or_unread}
use Rattle.lk_state.specs.Tables.{content_at, def_at, no_table, nothing_held, table_named}
use Rattle.lk_state.specs.declared.fault.OpenFault.{OpenFault}

-- ---- steps

pub then_by : {A B E : Type 0} (r : Result A E) (f g : A → Result B E) (u w : B) → ((a : A) → r ≡ Ok a → f a ≡ Ok u → g a ≡ Ok w)
    → and_then r f ≡ Ok u → and_then r g ≡ Ok w
then_by (Err why) f g u w each e = cc e
then_by (Ok a) f g u w each e = each a refl e

abbrev are : List Content → Result (List Content) OpenFault
are tables = Ok tables

ok_is : (a b : List Content) → are a ≡ are b → a ≡ b
ok_is a b e = cc e

-- one more batch behind those
pub one_behind : (defs : List TableDef) (first middle last : List Content) (chunks : List Chunk) (chunk : Chunk)
    → all_appended defs first chunks ≡ Ok middle → appended defs middle chunk ≡ Ok last
    → all_appended defs first (chunks ++ chunk ∷ []) ≡ Ok last
one_behind defs first middle last [] chunk before here =
    let same : first ≡ middle = cc before in
    ap (λ (r : Result (List Content) OpenFault). and_then r (λ next. Ok next)) (ap (λ (tables : List Content). appended defs tables chunk) same ∙ here)
one_behind defs first middle last (other ∷ chunks) chunk before here =
    then_by (appended defs first other) (λ next. all_appended defs next chunks) (λ next. all_appended defs next (chunks ++ chunk ∷ [])) middle last
    (λ next is rest. one_behind defs next middle last chunks chunk rest here) before

-- ---- how many tables there are

set_by : (tables next : List Content) (number : ℕ) (name : List ℕ) (r : Result LoadedTable BatchFault) → or_unread tables number name r ≡ Ok next
    → length next ≡ length tables
set_by tables next number name (Err why) e = cc e
set_by tables next number name (Ok loaded) e =
    ap length (sym (ok_is (slice_set tables number loaded.version) next e)) ∙ length-set tables number loaded.version

to_long : (defs : List TableDef) (tables next : List Content) (chunk : Chunk) (o : Option ℕ) → appended_to defs tables chunk o ≡ Ok next
    → length next ≡ length tables
to_long defs tables next chunk None e = cc e
to_long defs tables next chunk (Some number) e =
    set_by tables next number chunk.table
    (table_loaded (def_at defs number) (content_at tables number).rows chunk.body false) e

all_long_by : (defs : List TableDef) (tables last : List Content) (chunk : Chunk) (chunks : List Chunk) (r : Result (List Content) OpenFault)
    → appended defs tables chunk ≡ r → ((next : List Content) → all_appended defs next chunks ≡ Ok last → length last ≡ length next)
    → and_then r (λ next. all_appended defs next chunks) ≡ Ok last → length last ≡ length tables
all_long_by defs tables last chunk chunks (Err why) is rest e = cc e
all_long_by defs tables last chunk chunks (Ok next) is rest e =
    rest next e ∙ to_long defs tables next chunk (table_named defs chunk.table) is

pub all_long : (defs : List TableDef) (tables last : List Content) (chunks : List Chunk) → all_appended defs tables chunks ≡ Ok last
    → length last ≡ length tables
all_long defs tables last [] e = ap length (sym (ok_is tables last e))
all_long defs tables last (chunk ∷ chunks) e =
    all_long_by defs tables last chunk chunks (appended defs tables chunk) refl (λ next f. all_long defs next last chunks f) e

-- ---- the batches of the other tables

named_same : (defs : List TableDef) (name other : List ℕ) (number : ℕ) → table_named defs name ≡ Some number
    → table_named defs other ≡ Some number → is_same_text other name ≡ true
named_same defs name other number here there =
    let one = position-Some (λ (def : TableDef). is_same_text def.name name) defs number no_table here in
    let two = position-Some (λ (def : TableDef). is_same_text def.name other) defs number no_table there in
    let first = (bytes_eq-Decides (def_at defs number).name name).0 one.1 in
    let second = (bytes_eq-Decides (def_at defs number).name other).0 two.1 in
    (bytes_eq-Decides other name).1 (sym second ∙ first)

-- given a table by its name, and what stands in place of what it holds
module _ (defs : List TableDef) (name : List ℕ) (number : ℕ) (named : table_named defs name ≡ Some number) (held : Content) where
  abbrev without : List Content → List Content
  without tables = slice_set tables number held

  -- a batch of the table
  here_by : (tables next : List Content) (chunk : Chunk) (r : Result LoadedTable BatchFault)
      → or_unread tables number chunk.table r ≡ Ok next → without tables ≡ without next
  here_by tables next chunk (Err why) e = cc e
  here_by tables next chunk (Ok loaded) e =
      sym (set-set tables number loaded.version held) ∙ ap without (ok_is (slice_set tables number loaded.version) next e)

  here_drops : (tables next : List Content) (chunk : Chunk) → is_same_text chunk.table name ≡ true → appended defs tables chunk ≡ Ok next
      → without tables ≡ without next
  here_drops tables next chunk same e =
      let is_named : table_named defs chunk.table ≡ Some number = ap (table_named defs) ((bytes_eq-Decides chunk.table name).0 same) ∙ named in
      here_by tables next chunk (table_loaded (def_at defs number) (content_at tables number).rows chunk.body false)
      (ap (appended_to defs tables chunk) (sym is_named) ∙ e)

  -- a batch of another table
  there_by : (tables next : List Content) (chunk : Chunk) (other : ℕ) (r : Result LoadedTable BatchFault) → (number ≡ other → ⊥)
      → or_unread tables other chunk.table r ≡ Ok next → or_unread (without tables) other chunk.table r ≡ Ok (without next)
  there_by tables next chunk other (Err why) apart e = cc e
  there_by tables next chunk other (Ok loaded) apart e =
      ap Ok (set_comm tables number other held loaded.version apart ∙ ap without (ok_is (slice_set tables other loaded.version) next e))

  there_to : (tables next : List Content) (chunk : Chunk) (o : Option ℕ) → is_same_text chunk.table name ≡ false
      → table_named defs chunk.table ≡ o → appended_to defs tables chunk o ≡ Ok next → appended_to defs (without tables) chunk o ≡ Ok (without next)
  there_to tables next chunk None differs is e = cc e
  there_to tables next chunk (Some other) differs is e =
      let apart : number ≡ other → ⊥ =
      λ same. true≢false (sym (named_same defs name chunk.table number named (is ∙ ap Some (sym same))) ∙ differs) in
      let content : content_at (without tables) other ≡ content_at tables other =
      get_or-set_other tables number other held nothing_held (λ same. apart (sym same)) in
      ap (λ (c : Content). or_unread (without tables) other chunk.table (table_loaded (def_at defs other) c.rows chunk.body false)) content
      ∙ there_by tables next chunk other (table_loaded (def_at defs other) (content_at tables other).rows chunk.body false) apart e

  there_stays : (tables next : List Content) (chunk : Chunk) → is_same_text chunk.table name ≡ false → appended defs tables chunk ≡ Ok next
      → appended defs (without tables) chunk ≡ Ok (without next)
  there_stays tables next chunk differs e = there_to tables next chunk (table_named defs chunk.table) differs refl e

  others_by : (tables last : List Content) (chunk : Chunk) (chunks : List Chunk) (b : Bool) (next : List Content)
      → is_same_text chunk.table name ≡ b → appended defs tables chunk ≡ Ok next
      → all_appended defs (without next) (other_chunks name chunks) ≡ Ok (without last)
      → all_appended defs (without tables) (if not b then chunk ∷ other_chunks name chunks else other_chunks name chunks) ≡ Ok (without last)
  others_by tables last chunk chunks true next same e rest =
      ap (λ (ts : List Content). all_appended defs ts (other_chunks name chunks)) (here_drops tables next chunk same e) ∙ rest
  others_by tables last chunk chunks false next same e rest =
      ap (λ (r : Result (List Content) OpenFault). and_then r (λ ts. all_appended defs ts (other_chunks name chunks))) (there_stays tables next chunk same e) ∙ rest

  others_then : (tables last : List Content) (chunk : Chunk) (chunks : List Chunk) (r : Result (List Content) OpenFault)
      → appended defs tables chunk ≡ r
      → ((next : List Content) → all_appended defs next chunks ≡ Ok last → all_appended defs (without next) (other_chunks name chunks) ≡ Ok (without last))
      → and_then r (λ next. all_appended defs next chunks) ≡ Ok last
      → all_appended defs (without tables) (other_chunks name (chunk ∷ chunks)) ≡ Ok (without last)
  others_then tables last chunk chunks (Err why) is rest e = cc e
  others_then tables last chunk chunks (Ok next) is rest e =
      others_by tables last chunk chunks (is_same_text chunk.table name) next refl is (rest next e)

  pub others_kept : (tables last : List Content) (chunks : List Chunk) → all_appended defs tables chunks ≡ Ok last
      → all_appended defs (without tables) (other_chunks name chunks) ≡ Ok (without last)
  others_kept tables last [] e = ap Ok (ap without (ok_is tables last e))
  others_kept tables last (chunk ∷ chunks) e =
      others_then tables last chunk chunks (appended defs tables chunk) refl (λ next f. others_kept next last chunks f) e

-- the table of a name is one of the schema's
pub number_below : (defs : List TableDef) (name : List ℕ) (number : ℕ) → table_named defs name ≡ Some number → number < length defs
number_below defs name number named = (position-Some (λ (def : TableDef). is_same_text def.name name) defs number no_table named).0

-- the tables without rows, of which one has none
pub empty_set : (defs : List TableDef) (number : ℕ) → number < length defs
    → slice_set (empty_tables defs) number (content_of (def_at defs number) []) ≡ empty_tables defs
empty_set defs number below =
    let here : content_at (empty_tables defs) number ≡ content_of (def_at defs number) [] =
    get_or-map (λ (def : TableDef). content_of def []) defs number no_table nothing_held below in
    ap (slice_set (empty_tables defs) number) (sym here) ∙ set-get_or (empty_tables defs) number nothing_held
