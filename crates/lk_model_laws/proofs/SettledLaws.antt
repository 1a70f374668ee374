-- Where no derived table reads itself, the kinds of the columns of each view are known after all rounds, and they are those of the model.
use Rattle.std.proofs.Common.{◌≡◌, ◌∙◌, ◌<◌, ◌≤◌, ℕ, zero, suc, ◌+◌, Bool, true, false, cond, List, [], ◌∷◌, ◌++◌, map, length, take, refl, ap, sym, subst, ⊎_elim, Option, Some, None, arith, eq-eqb, eqb-true}
use Rattle.std.specs.Prelude.{flat_map, nat_eq, not, slice_get}
use Rattle.std.specs.List.{AllByRecursion, count_by, list_all, list_any}
use Rattle.std.specs.Option.{option_and_then}
use Rattle.std.proofs.lemmas.Bool.{false≢true}
use Rattle.std.proofs.lemmas.List.{length-append, length-map}
use Rattle.lk_types.specs.Expressions.{has_number}
use Rattle.lk_types.specs.declared.explore.Explore.{Explore}
use Rattle.lk_types.specs.declared.explore.Origin.TheVariants as origin
use Rattle.lk_types.specs.declared.explore.Part.{Part}
use Rattle.lk_types.specs.declared.model.Derived.{Derived}
use Rattle.lk_types.specs.declared.model.Model.{Model}
use Rattle.lk_types.specs.declared.schema.Kind.{Kind}
use Rattle.lk_types.specs.declared.schema.Schema.{Schema}
use Rattle.lk_objects.specs.declared.explore.DeclaredExplore.{DeclaredExplore}
use Rattle.lk_objects.specs.declared.view.Declared.{Declared}
use Rattle.lk_objects.specs.declared.view.DeclaredView.{DeclaredView}
use Rattle.lk_objects.specs.declared.view.DerivedTable.{DerivedTable}
use Rattle.lk_objects.specs.declared.view.Rows.{Rows}
use Rattle.lk_objects.specs.declared.view.Rows.TheVariants as rows
use Rattle.lk_fields.specs.declared.scope.Scope.{Scope}
use Rattle.lk_fields.specs.declared.scope.ScopePart.{ScopePart}
use Rattle.lk_fields.specs.Scopes.{is_dot}
use Rattle.lk_formulas.specs.Columns.{column_in_rows, column_named, known_kind}
use Rattle.lk_scope.specs.Scopes.{part_of_join, scope_of}
use Rattle.lk_view.specs.ViewFindings.{derived_at as derived_place}
use Rattle.lk_semantics.specs.Derived.{derived_query, explore_at}
use Rattle.lk_semantics.specs.Joins.{no_part, numbers_below, part_at}
use Rattle.lk_semantics.specs.Reading.{derived_in as tables_in, origin_kinds, pick_kind, read_by, reads_itself}
use Rattle.lk_semantics.specs.Rollups.{derived_at, no_derived, origins_of}
use Rattle.lk_semantics.proofs.EveryLaws.{first, second}
use Rattle.lk_resolved.specs.DerivedTables.{derived_over}
use Rattle.lk_resolved.specs.Explores.{datagroup_number, derived_number, explore_of, is_derived, is_derived_rows, origin_if, origin_of, origin_with}
use Rattle.lk_model.specs.Models.{derived_in, derived_of, derived_with, explore_number, model_of, names_of, resolved, source_scope}
use Rattle.lk_model.specs.ViewKinds.{columns_in, kinds_of, row_kinds, source_named}
use Rattle.lk_model.specs.declared.view_kinds.ViewKinds.{ViewKinds}
use Rattle.lk_field_faults.specs.MadeNames.{names_made}
use Rattle.lk_model_laws.proofs.AskedLaws.{columns_asked, parts_asked, table_read}
use Rattle.lk_model_laws.proofs.ColumnLaws.{HasColumns}
use Rattle.lk_model_laws.proofs.CountLaws.{length-joins}
use Rattle.lk_model_laws.proofs.ExtremeTypedLaws.{HasCode}
use Rattle.lk_model_laws.proofs.FaultlessLaws.{IsClear}
use Rattle.lk_model_laws.proofs.FixedModelLaws.{IsFixedRows}
use Rattle.lk_model_laws.proofs.FoundLaws.{got_at}
use Rattle.lk_model_laws.proofs.GroundedLaws.{below_there}
use Rattle.lk_model_laws.proofs.KnownKindLaws.{IsSettled, IsSettledPart, IsStored, column_known_at, derived_row, got_part, kind_of_part, kinds_after, known_at, part_columns, row_is, stored_settled}
use Rattle.lk_model_laws.proofs.KnownTypeLaws.{HasShownCode, HasType}
use Rattle.lk_model_laws.proofs.ListLaws.{all_at, got_or, got_within}
use Rattle.lk_model_laws.proofs.MadeNameLaws.{parts_apart}
use Rattle.lk_model_laws.proofs.ModelNumberLaws.{IsKnownSource, count_cons, scope_is, source_at, source_explore}
use Rattle.lk_model_laws.proofs.OwnNameLaws.{AreApart}
use Rattle.lk_model_laws.proofs.PartLaws.{AreKnownRows, IsKnownPart}
use Rattle.lk_model_laws.proofs.PickLaws.{columns_taken}
use Rattle.lk_model_laws.proofs.PlaceLaws.{one_of, or_left}
use Rattle.lk_model_laws.proofs.PieceLaws.{some_none}
use Rattle.lk_model_laws.proofs.RankLaws.{rank, rank_falls, rank_less}
use Rattle.lk_model_laws.proofs.ViewObjectLaws.{IsRightView}
use Rattle.lk_model_laws.proofs.WholeExploreLaws.{placed_field}

-- ---- stored rows

pub rows_stored : (schema : Schema) (number : Option ℕ) → AreKnownRows schema (rows.Stored number) → IsStored schema (rows.Stored number)
rows_stored schema (Some n) known = let table = got_at schema.tables n known in record { number = n; rows_are = refl; table = table.0; at = table.1 }
rows_stored schema None known = absurd known

-- ---- numbers of lists

own_number : (n : ℕ) → has_number n (n ∷ []) ≡ true
own_number n = or_left (nat_eq n n) false (eq-eqb n n refl)

every_number : (test : ℕ → Bool) (ns : List ℕ) → list_all test ns ≡ true → (n : ℕ) → has_number n ns ≡ true → test n ≡ true
every_number test [] h n there = absurd (false≢true there)
every_number test (k ∷ ns) h n there =
    ⊎_elim (λ same. ap test (eqb-true n k same) ∙ first (test k) (list_all test ns) h) (λ later. every_number test ns (second (test k) (list_all test ns) h) n later)
    (one_of (nat_eq n k) (has_number n ns) there)

-- ---- the derived tables of a model stand in the order of their views

module _ (declared : Declared) where
  abbrev table_of : List ℕ → DerivedTable → Derived
  table_of name table = derived_in declared name table (source_scope declared.views (source_named declared.explores table.explore))

  numbered_at : (vs : List DeclaredView) (k : ℕ) (v : DeclaredView) (table : DerivedTable) → slice_get vs k ≡ Some v → v.rows ≡ rows.Derived table
      → slice_get (flat_map (derived_of declared) vs) (count_by is_derived (take k vs)) ≡ Some (table_of v.name table)
  numbered_at [] k v table at is = absurd (some_none (sym at))
  numbered_at (w ∷ vs) zero v table at is =
      let same : w ≡ v = cc in
      ap (λ (u : DeclaredView). slice_get (derived_with declared u.name u.rows ++ flat_map (derived_of declared) vs) zero) same
      ∙ ap (λ from. slice_get (derived_with declared v.name from ++ flat_map (derived_of declared) vs) zero) is
  numbered_at (w ∷ vs) (suc k) v table at is = of_rows w.rows (numbered_at vs k v table at is) (count_cons is_derived w (take k vs))
    where
      of_rows : (from : Rows) → slice_get (flat_map (derived_of declared) vs) (count_by is_derived (take k vs)) ≡ Some (table_of v.name table)
          → count_by is_derived (w ∷ take k vs) ≡ cond (is_derived_rows from) 1 0 + count_by is_derived (take k vs)
          → slice_get (derived_with declared w.name from ++ flat_map (derived_of declared) vs) (count_by is_derived (w ∷ take k vs)) ≡ Some (table_of v.name table)
      of_rows (rows.Stored number) later count =
          let same : count_by is_derived (w ∷ take k vs) ≡ count_by is_derived (take k vs) = omega arith in
          ap (slice_get (flat_map (derived_of declared) vs)) same ∙ later
      of_rows (rows.Derived other) later count =
          let same : count_by is_derived (w ∷ take k vs) ≡ suc (count_by is_derived (take k vs)) = omega arith in
          ap (slice_get (table_of w.name other ∷ flat_map (derived_of declared) vs)) same ∙ later

  -- there are no more of them than views
  few_tables : (vs : List DeclaredView) → length (flat_map (derived_of declared) vs) ≤ length vs
  few_tables [] = omega arith
  few_tables (v ∷ vs) =
      let rest = few_tables vs in
      let count = length-append (derived_of declared v) (flat_map (derived_of declared) vs) in
      let one = at_most_one v.name v.rows in
      omega arith
    where
      at_most_one : (name : List ℕ) (from : Rows) → length (derived_with declared name from) ≤ 1
      at_most_one name (rows.Stored number) = omega arith
      at_most_one name (rows.Derived table) = omega arith

-- ---- a project

-- an explore whose views have names of their own, and whose fields have no fault
pub record IsSource (schema : Schema) (declared : Declared) (x : DeclaredExplore) : Type 0 where
  pub clear : IsClear schema declared (kinds_of schema declared) x
  pub parts : (k : ℕ) (part : ScopePart) → slice_get (scope_of declared.views x).parts k ≡ Some part → IsKnownPart schema declared.views part
  pub apart : AreApart (map (λ (part : ScopePart). part.name) (scope_of declared.views x).parts)
  pub plain : (k : ℕ) (part : ScopePart) → slice_get (scope_of declared.views x).parts k ≡ Some part → list_any is_dot part.name ≡ false

module _ (schema : Schema) (declared : Declared)
    (right : AllByRecursion (IsRightView schema declared) declared.views) (fixed : AllByRecursion (λ v. IsFixedRows schema declared (kinds_of schema declared) v.name v.rows) declared.views)
    (sources : AllByRecursion (IsSource schema declared) declared.explores)
    (shown : AllByRecursion (λ v. AllByRecursion HasShownCode v.fields) declared.views) (have : AllByRecursion (λ v. AllByRecursion (HasColumns schema v) v.fields) declared.views)
    (coded : AllByRecursion (λ v. AllByRecursion HasCode v.fields) declared.views) (types : AllByRecursion (λ v. AllByRecursion HasType v.fields) declared.views)
    (once : AllByRecursion (λ v. AreApart (names_made v.fields)) declared.views)
    (acyclic : list_all (λ d. not (reads_itself (model_of schema declared (kinds_of schema declared)) d)) (numbers_below (length (model_of schema declared (kinds_of schema declared)).derived)) ≡ true) where
  abbrev kinds : ViewKinds
  kinds = kinds_of schema declared

  abbrev m : Model
  m = model_of schema declared kinds

  abbrev views : List DeclaredView
  views = declared.views

  abbrev table_number : ℕ → ℕ
  table_number number = derived_number views number

  -- a view that is a derived table
  module _ (number : ℕ) (v : DeclaredView) (table : DerivedTable) (at : slice_get views number ≡ Some v) (rows_are : v.rows ≡ rows.Derived table) where
    number_there : slice_get m.derived (table_number number) ≡ Some (table_of declared v.name table)
    number_there = numbered_at declared views number v table at rows_are

    number_below : has_number (table_number number) (numbers_below (length m.derived)) ≡ true
    number_below = below_there (length m.derived) (table_number number) (got_within m.derived (table_number number) (table_of declared v.name table) number_there)

    not_itself : reads_itself m (table_number number) ≡ false
    not_itself = of_all (numbers_below (length m.derived)) acyclic number_below
      where
        unread : (b : Bool) → not b ≡ true → b ≡ false
        unread true h = sym h
        unread false h = refl

        of_all : (ns : List ℕ) → list_all (λ d. not (reads_itself m d)) ns ≡ true → has_number (table_number number) ns ≡ true → reads_itself m (table_number number) ≡ false
        of_all ns h there = unread (reads_itself m (table_number number)) (every_number (λ d. not (reads_itself m d)) ns h (table_number number) there)

    fixed_rows : IsFixedRows schema declared kinds v.name (rows.Derived table)
    fixed_rows = subst (λ from. IsFixedRows schema declared kinds v.name from) rows_are (all_at (λ (w : DeclaredView). IsFixedRows schema declared kinds w.name w.rows) views fixed number v at)

    abbrev known : IsKnownSource declared table
    known = fixed_rows.0

    abbrev scope : Scope
    scope = scope_of views known.source

    abbrev d : Derived
    d = derived_over views scope (names_of declared.datagroups) v.name table (explore_number declared.explores table.explore)

    abbrev datagroup : Option (List ℕ) → ℕ
    datagroup = datagroup_number (names_of declared.datagroups)

    abbrev y : Explore
    y = explore_of schema views scope (columns_in kinds scope) datagroup known.source

    source : IsSource schema declared known.source
    source = let place = source_at schema declared kinds table known in all_at (IsSource schema declared) declared.explores sources place.0 known.source place.2

    table_is : derived_at m (table_number number) ≡ d
    table_is =
        got_or m.derived (table_number number) no_derived (table_of declared v.name table) number_there
        ∙ ap (λ s. derived_in declared v.name table s) (scope_is schema declared kinds table known)

    explore_is : explore_at m d.explore ≡ y
    unfolding resolved
    explore_is = source_explore schema declared kinds table known

    reads : (e : ℕ) → has_number e (flat_map tables_in (origins_of y (derived_query y d).joins)) ≡ true → has_number e (read_by m (table_number number)) ≡ true
    reads e h =
        subst (λ (z : Derived). has_number e (flat_map tables_in (origins_of (explore_at m z.explore) (derived_query (explore_at m z.explore) z).joins)) ≡ true) (sym table_is)
        (subst (λ z. has_number e (flat_map tables_in (origins_of z (derived_query z d).joins)) ≡ true) (sym explore_is) h)

    abbrev t : ℕ → Bool
    t p = has_number p (parts_asked y d)

    -- the derived table whose rows an asked part has is read
    module _ (p : ℕ) (part : ScopePart) (part_is : slice_get scope.parts p ≡ Some part) (asked : t p ≡ true) where
      origin_is : (part_at y p).origin ≡ origin_of views part.view
      origin_is =
          let got = got_part schema views scope (columns_in kinds scope) 0 p scope.parts part part_is in
          ap (λ (q : Part). q.origin) (got_or y.parts p no_part _ got.1)

      join_below : (j : ℕ) → p ≡ j + 1 → has_number j (numbers_below (length y.joins)) ≡ true
      join_below j is =
          let within = got_within scope.parts p part part_is in
          let joins = length-joins schema views scope (columns_in kinds scope) known.source.joins 1 known.source.joins in
          let parts = length-map known.source.joins (part_of_join views) in
          below_there (length y.joins) j (omega arith)

      part_read : (e : ℕ) → has_number e (tables_in (origin_of views part.view)) ≡ true → has_number e (read_by m (table_number number)) ≡ true
      part_read e h = reads e (table_read y d e p (subst (λ o. has_number e (tables_in o) ≡ true) (sym origin_is) h) asked join_below)

    -- what is known of the parts that the query asks for
    module _ (i : ℕ) (settled : (p : ℕ) (part : ScopePart) → slice_get scope.parts p ≡ Some part → t p ≡ true → IsSettledPart schema declared m i part)
        (last : (p : ℕ) (part : ScopePart) → slice_get scope.parts p ≡ Some part → t p ≡ true → IsSettledPart schema declared m (length views) part) where
      same : (p c : ℕ) → t p ≡ true → known_kind (columns_in (kinds_after schema declared (suc i)) scope) p c ≡ known_kind (columns_in kinds scope) p c
      same p c asked = of_part (slice_get scope.parts p) refl
        where
          of_part : (o : Option ScopePart) → slice_get scope.parts p ≡ o → known_kind (columns_in (kinds_after schema declared (suc i)) scope) p c ≡ known_kind (columns_in kinds scope) p c
          of_part None none =
              kind_of_part schema declared m i scope p c ∙ ap (λ o. part_columns schema declared m i scope o c) none
              ∙ sym (kind_of_part schema declared m (length views) scope p c ∙ ap (λ o. part_columns schema declared m (length views) scope o c) none)
          of_part (Some part) there = known_at schema declared m i scope p part there (settled p part there asked) c ∙ sym (known_at schema declared m (length views) scope p part there (last p part there asked) c)

      known_columns : (p : ℕ) → t p ≡ true → (name : List ℕ) (c : ℕ) → column_named schema views scope p name ≡ Some c → (k : Kind) × (known_kind (columns_in kinds scope) p c ≡ Some k)
      known_columns p asked name c h = of_part (slice_get scope.parts p) refl
        where
          of_part : (o : Option ScopePart) → slice_get scope.parts p ≡ o → (k : Kind) × (known_kind (columns_in kinds scope) p c ≡ Some k)
          of_part None none =
              absurd (some_none (sym (sym (ap (λ o. option_and_then (λ (view : DeclaredView). column_in_rows schema name view.rows)
              (option_and_then (λ (part : ScopePart). option_and_then (slice_get views) part.view) o)) none) ∙ h)))
          of_part (Some part) there = column_known_at schema declared m (length views) scope p part there (last p part there asked) name c h

      -- then the rows of the table are settled in the next round
      table_settled : IsSettled schema declared m (suc (suc i)) number
      table_settled =
          let from = kinds_after schema declared (suc i) in
          row_is schema declared (suc i) number v at ∙ ap (row_kinds schema declared from) rows_are ∙ derived_row schema declared from table known
          ∙ columns_taken schema views scope (columns_in kinds scope) source.clear.fields
          (λ place field field_is. placed_field HasShownCode views shown scope place field field_is) have coded types source.apart source.plain (parts_apart views once scope) datagroup known.source d
          (columns_in from scope) same known_columns v.name derived_place table.columns fixed_rows.1.columns_clear (columns_asked y d)
          ∙ sym (ap (λ o. map Some (origin_kinds m o)) (ap (origin_if views number) at ∙ ap (origin_with views number) rows_are)
          ∙ ap (λ (z : Derived). map Some (map (λ c. pick_kind (explore_at m z.explore) c.1) z.columns)) table_is
          ∙ ap (λ z. map Some (map (λ c. pick_kind z c.1) d.columns)) explore_is)

  -- ---- round by round

  -- the derived tables that read fewer others are settled from a round on
  abbrev Holds : ℕ → Type 0
  Holds r =
      (number : ℕ) (v : DeclaredView) (table : DerivedTable) → slice_get views number ≡ Some v → v.rows ≡ rows.Derived table → rank m (table_number number) < r
      → (n : ℕ) → r ≤ n → IsSettled schema declared m (suc n) number

  module _ (r : ℕ) (h : Holds r) (number : ℕ) (v : DeclaredView) (table : DerivedTable) (at : slice_get views number ≡ Some v) (rows_are : v.rows ≡ rows.Derived table) (less : rank m (table_number number) < suc r) where
    abbrev from : Scope
    from = scope number v table at rows_are

    part_settled : (i : ℕ) → r ≤ i → (p : ℕ) (part : ScopePart) → slice_get from.parts p ≡ Some part → t number v table at rows_are p ≡ true → IsSettledPart schema declared m i part
    part_settled i later p part part_is asked =
        let is = (source number v table at rows_are).parts p part part_is in
        let is_right = all_at (IsRightView schema declared) views right is.number is.view is.at in
        record { number = is.number; view = is.view; named = is.named; at = is.at; source = is_right.source; settled = of_rows is.number is.view is.at is.named is.view.rows refl is_right.known }
      where
        of_rows : (other : ℕ) (w : DeclaredView) → slice_get views other ≡ Some w → part.view ≡ Some other → (rs : Rows) → w.rows ≡ rs → AreKnownRows schema w.rows → IsSettled schema declared m (suc i) other
        of_rows other w there named (rows.Stored table_at) rs_are known_rows =
            stored_settled schema declared m refl i other w there (subst (IsStored schema) (sym rs_are) (rows_stored schema table_at (subst (AreKnownRows schema) rs_are known_rows)))
        of_rows other w there named (rows.Derived inner) rs_are known_rows =
            let e = table_number other in
            let origin_is : origin_of views part.view ≡ origin.Derived e =
            ap (origin_of views) named ∙ ap (origin_if views other) there ∙ ap (origin_with views other) rs_are in
            let read = part_read number v table at rows_are p part part_is asked e (subst (λ o. has_number e (tables_in o) ≡ true) (sym origin_is) (own_number e)) in
            let falls = rank_falls m (table_number number) e (number_below other w inner there rs_are) read (not_itself other w inner there rs_are) in
            h other w inner there rs_are (omega arith) i later

    table_next : r ≤ length views → (n : ℕ) → suc r ≤ n → IsSettled schema declared m (suc n) number
    table_next few zero later = absurd (omega arith)
    table_next few (suc i) later =
        table_settled number v table at rows_are i (part_settled i (omega arith)) (part_settled (length views) few)

  holds : (r : ℕ) → r ≤ suc (length views) → Holds r
  holds zero few = λ number v table at rows_are less n later. absurd (omega arith)
  holds (suc r) few = λ number v table at rows_are less n later. table_next r (holds r (omega arith)) number v table at rows_are less (omega arith) n later

  -- each view
  pub view_settled : (number : ℕ) (v : DeclaredView) → slice_get views number ≡ Some v → IsSettled schema declared m (suc (length views)) number
  view_settled number v at = of_rows v.rows refl
    where
      of_rows : (rs : Rows) → v.rows ≡ rs → IsSettled schema declared m (suc (length views)) number
      of_rows (rows.Stored table_at) rs_are =
          stored_settled schema declared m refl (length views) number v at
          (subst (IsStored schema) (sym rs_are) (rows_stored schema table_at (subst (AreKnownRows schema) rs_are (all_at (IsRightView schema declared) views right number v at).known)))
      of_rows (rows.Derived table) rs_are =
          let few = few_tables declared views in
          let below = rank_less m (table_number number) (number_below number v table at rs_are) (not_itself number v table at rs_are) in
          holds (length views) (omega arith) number v table at rs_are (omega arith) (length views) (omega arith)
