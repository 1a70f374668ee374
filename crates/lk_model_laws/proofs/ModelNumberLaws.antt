-- Each number in a model is that of something.
use Rattle.std.proofs.Common.{◌≡◌, ◌∙◌, ◌<◌, ℕ, zero, suc, ◌+◌, Bool, true, false, cond, ◌&&◌, ◌||◌, List, [], ◌∷◌, map, length, take, refl, ap, sym, subst, Option, Some, None, arith}
use Rattle.std.specs.Prelude.{flat_map, nat_lt, slice_get}
use Rattle.std.specs.Option.{option_map}
use Rattle.std.specs.List.{AllByRecursion, count_by, find, list_all, list_any, position, position_from}
use Rattle.std.proofs.lemmas.Iterator.Adapters.{position_from-zero}
use Rattle.std.proofs.lemmas.List.{length-append, length-map}
use Rattle.std.proofs.lemmas.List.Sums.{sum_by-cons}
use Rattle.lk_val.specs.Texts.{is_same_text}
use Rattle.lk_types.specs.declared.explore.Explore.{Explore}
use Rattle.lk_types.specs.declared.explore.Part.{Part}
use Rattle.lk_types.specs.declared.model.Model.{Model}
use Rattle.lk_types.specs.declared.model.Pick.{Pick}
use Rattle.lk_types.specs.declared.schema.Schema.{Schema}
use Rattle.lk_objects.specs.declared.datagroup.DeclaredDatagroup.{DeclaredDatagroup}
use Rattle.lk_objects.specs.declared.explore.DeclaredExplore.{DeclaredExplore}
use Rattle.lk_objects.specs.declared.view.Declared.{Declared}
use Rattle.lk_objects.specs.declared.view.DeclaredColumn.{DeclaredColumn}
use Rattle.lk_objects.specs.declared.view.DeclaredView.{DeclaredView}
use Rattle.lk_objects.specs.declared.view.DerivedTable.{DerivedTable}
use Rattle.lk_objects.specs.declared.view.Rows.{Rows}
use Rattle.lk_objects.specs.declared.view.Rows.TheVariants as rows
use Rattle.lk_fields.specs.declared.scope.Scope.{Scope}
use Rattle.lk_fields.specs.declared.scope.ScopePart.{ScopePart}
use Rattle.lk_formulas.specs.declared.columns.ColumnKinds.{ColumnKinds}
use Rattle.lk_scope.specs.Scopes.{explore_named, scope_of}
use Rattle.lk_semantics.specs.Answers.{filtered}
use Rattle.lk_semantics.specs.Derived.{explore_at, no_explore}
use Rattle.lk_semantics.specs.Resolved.{are_below, are_fields, is_none_or_below, is_numbered_derived, is_origin, is_pick}
use Rattle.lk_semantics.proofs.EveryLaws.{Every, both}
use Rattle.lk_resolved.specs.DerivedTables.{column_of, column_with, datagroup_of, derived_over}
use Rattle.lk_resolved.specs.Explores.{datagroup_number, derived_number, is_derived, is_derived_rows, measure_numbers, origin_if, origin_of, origin_with, parts_from}
use Rattle.lk_resolved.specs.Fields.{field_with}
use Rattle.lk_resolved.specs.Filters.{dimension_numbers}
use Rattle.lk_resolved.specs.Names.{dimensions, measures, or_zero}
use Rattle.lk_model.specs.Models.{datagroup_with, derived_in, derived_of, derived_with, explore_number, model_of, name_of, names_of, resolved, source_scope}
use Rattle.lk_model.specs.ViewKinds.{columns_in, source_named}
use Rattle.lk_model.specs.declared.view_kinds.ViewKinds.{ViewKinds}
use Rattle.lk_model_laws.proofs.ListLaws.{all_every, all_flat, all_true, got_map, got_or, got_within, position_found, position_within}
use Rattle.lk_model_laws.proofs.NumberLaws.{AreBelow, filters_below, measure_numbers_below, measures_of_fields, numbers_below_bound, same_measures, test_below, tested_filters}
use Rattle.lk_model_laws.proofs.PartLaws.{AreKnownRows, IsKnownPart}
use Rattle.lk_model_laws.proofs.PieceLaws.{some_none}

-- ---- the numbers of derived tables

pub count_cons : {A : Type 0} (p : A → Bool) (x : A) (xs : List A) → count_by p (x ∷ xs) ≡ cond (p x) 1 0 + count_by p xs
count_cons p x xs = sum_by-cons (λ y. cond (p y) 1 0) x xs

one_of : (b : Bool) → b ≡ true → cond {A = ℕ} b 1 0 ≡ 1
one_of b h = ap (λ t. cond t 1 0) h

positive : (a b n : ℕ) → a ≡ 1 → n ≡ a + b → zero < n
positive a b n p q = omega arith

counted_before : {A : Type 0} (p : A → Bool) (xs : List A) (k : ℕ) (x : A) → slice_get xs k ≡ Some x → p x ≡ true → count_by p (take k xs) < count_by p xs
counted_before p [] k x at h = absurd (some_none (sym at))
counted_before p (y ∷ xs) zero x at h =
    let same : y ≡ x = cc in
    let one = one_of (p y) (ap p same ∙ h) in
    let sum = count_cons p y xs in
    positive (cond (p y) 1 0) (count_by p xs) (count_by p (y ∷ xs)) one sum
counted_before p (y ∷ xs) (suc k) x at h =
    let later = counted_before p xs k x at h in
    let sum = count_cons p y xs in
    let front = count_cons p y (take k xs) in
    omega arith

module _ (declared : Declared) where
  derived_count : (views : List DeclaredView) → length (flat_map (derived_of declared) views) ≡ count_by is_derived views
  derived_count [] = refl
  derived_count (view ∷ views) =
      length-append (derived_of declared view) (flat_map (derived_of declared) views)
      ∙ (λ i. one_each view.name view.rows i + derived_count views i) ∙ sym (count_cons is_derived view views)
    where
      one_each : (name : List ℕ) (from : Rows) → length (derived_with declared name from) ≡ cond (is_derived_rows from) 1 0
      one_each name (rows.Stored table) = refl
      one_each name (rows.Derived table) = refl

-- ---- where views come from

module _ (schema : Schema) (declared : Declared) (kinds : ViewKinds) where
  abbrev m : Model
  m = model_of schema declared kinds

  origin_known : (number : ℕ) (view : DeclaredView) (from : Rows) → slice_get declared.views number ≡ Some view → view.rows ≡ from → AreKnownRows schema from
      → is_origin m (origin_with declared.views number from) ≡ true
  origin_known number view (rows.Stored None) at is known = absurd known
  origin_known number view (rows.Stored (Some table)) at is known = test_below table (length schema.tables) known
  origin_known number view (rows.Derived table) at is known =
      test_below (derived_number declared.views number) (length m.derived)
      (subst (λ n. derived_number declared.views number < n) (sym (derived_count declared declared.views))
      (counted_before is_derived declared.views number view at (ap is_derived_rows is)))

  part_origin : (part : ScopePart) → IsKnownPart schema declared.views part → is_origin m (origin_of declared.views part.view) ≡ true
  part_origin part known =
      ap (λ o. is_origin m (origin_of declared.views o)) known.named
      ∙ ap (λ o. is_origin m (origin_if declared.views known.number o)) known.at
      ∙ origin_known known.number known.view known.view.rows known.at refl known.rows_are

  pub origins_numbered : (scope : Scope) (columns : ColumnKinds) (n : ℕ) (parts : List ScopePart) → ((k : ℕ) (part : ScopePart) → slice_get parts k ≡ Some part → IsKnownPart schema declared.views part)
      → Every (λ part. is_origin m part.origin) (parts_from schema declared.views scope columns n parts)
  origins_numbered scope columns n [] known = refl
  origins_numbered scope columns n (part ∷ parts) known =
      both (is_origin m (origin_of declared.views part.view)) (list_all (λ (p : Part). is_origin m p.origin) (parts_from schema declared.views scope columns (n + 1) parts))
      (part_origin part (known zero part refl)) (origins_numbered scope columns (n + 1) parts (λ k other at. known (suc k) other at))

  -- ---- datagroups

  any_named : (name : List ℕ) (groups : List DeclaredDatagroup) → list_any (λ g. is_same_text g.name name) groups ≡ list_any (λ datagroup. is_same_text datagroup name) (names_of groups)
  any_named name [] = refl
  any_named name (g ∷ groups) = ap (λ b. is_same_text g.name name || b) (any_named name groups)

  -- a datagroup that is declared has a number
  pub datagroup_below : (name : List ℕ) → list_any (λ g. is_same_text g.name name) declared.datagroups ≡ true → datagroup_number (names_of declared.datagroups) (Some name) < length m.datagroups
  datagroup_below name h =
      let test : List ℕ → Bool = λ datagroup. is_same_text datagroup name in
      let at = position_found test (names_of declared.datagroups) (sym (any_named name declared.datagroups) ∙ h) in
      let within = position_within test (names_of declared.datagroups) at.0 at.1 in
      let names = length-map declared.datagroups name_of in
      let groups = length-map declared.datagroups datagroup_with in
      subst (λ o. or_zero o < length m.datagroups) (sym at.1) (omega arith)

-- ---- sources

module _ (test : DeclaredExplore → Bool) where
  found_from : (j : ℕ) (explores : List DeclaredExplore) (x : DeclaredExplore) → find test explores ≡ Some x → (k : ℕ) × (position_from test j explores ≡ Some (j + k)) × (slice_get explores k ≡ Some x)
  found_from j [] x h = absurd (some_none (sym h))
  found_from j (y ∷ explores) x h =
      elim (test y) as (λ b. cond b (Some y) (find test explores) ≡ Some x → (k : ℕ) × (cond b (Some j) (position_from test (j + 1) explores) ≡ Some (j + k)) × (slice_get (y ∷ explores) k ≡ Some x)) [
        | true ↦ λ e. (zero, ap (λ n. Some n) (no_more_of j), e)
        | false ↦ λ e. let rest = found_from (j + 1) explores x e in (suc rest.0, rest.1 ∙ ap (λ n. Some n) (one_less j rest.0), rest.2)
      ] h
    where
      no_more_of : (n : ℕ) → n ≡ n + zero
      no_more_of n = omega arith

      one_less : (n k : ℕ) → n + 1 + k ≡ n + suc k
      one_less n k = omega arith

  -- what is found stands at its number
  pub find_at : (explores : List DeclaredExplore) (x : DeclaredExplore) → find test explores ≡ Some x → (k : ℕ) × (position test explores ≡ Some k) × (slice_get explores k ≡ Some x)
  find_at explores x h =
      let found = found_from zero explores x h in
      (found.0, position_from-zero test explores ∙ found.1 ∙ ap (λ n. Some n) (from_zero found.0), found.2)
    where
      from_zero : (n : ℕ) → zero + n ≡ n
      from_zero n = omega arith

-- ---- derived tables

-- a derived table is made from an explore that there is
pub record IsKnownSource (declared : Declared) (table : DerivedTable) : Type 0 where
  pub name : List ℕ
  pub named : table.explore ≡ Some name
  pub source : DeclaredExplore
  pub found : explore_named declared.explores name ≡ Some source

abbrev pub HaveKnownSource : Declared → Rows → Type 0
HaveKnownSource declared (rows.Stored table) = Unit {0}
HaveKnownSource declared (rows.Derived table) = IsKnownSource declared table

module _ (schema : Schema) (declared : Declared) (kinds : ViewKinds) where
  abbrev model : Model
  model = model_of schema declared kinds

  module _ (table : DerivedTable) (known : IsKnownSource declared table) where
    abbrev scope : Scope
    scope = scope_of declared.views known.source

    -- the source's number is that of its explore
    pub source_at : (k : ℕ) × (position (λ x. is_same_text x.name known.name) declared.explores ≡ Some k) × (slice_get declared.explores k ≡ Some known.source)
    source_at = find_at (λ x. is_same_text x.name known.name) declared.explores known.source known.found

    abbrev number : ℕ
    number = explore_number declared.explores table.explore

    pub source_number : number ≡ source_at.0
    source_number = ap (explore_number declared.explores) known.named ∙ ap or_zero source_at.1

    pub source_explore : explore_at model number ≡ resolved schema declared kinds known.source
    source_explore =
        ap (explore_at model) source_number
        ∙ got_or (map (resolved schema declared kinds) declared.explores) source_at.0 no_explore (resolved schema declared kinds known.source)
        (got_map (resolved schema declared kinds) declared.explores source_at.0 ∙ ap (λ o. option_map (resolved schema declared kinds) o) source_at.2)

    source_below : number < length model.explores
    source_below =
        let within = got_within declared.explores source_at.0 known.source source_at.2 in
        let same = source_number in
        let count = length-map declared.explores (resolved schema declared kinds) in
        omega arith

    fields_of : length (resolved schema declared kinds known.source).fields ≡ length (dimensions declared.views scope)
    unfolding resolved
    fields_of = length-map (dimensions declared.views scope) (field_with schema declared.views scope (columns_in kinds scope))

    measures_of : length (resolved schema declared kinds known.source).measures ≡ length (measures declared.views scope)
    unfolding resolved
    measures_of = same_measures schema declared.views scope (columns_in kinds scope) (measures declared.views scope) (measures_of_fields declared.views scope)

    abbrev source : Explore
    source = resolved schema declared kinds known.source

    picks_numbered : (name : List ℕ) (ds ms : List ℕ) → AreBelow (length (dimensions declared.views scope)) ds → AreBelow (length (measures declared.views scope)) ms
        → AllByRecursion (λ c. is_pick source c.1 ≡ true) (column_with name ds ms)
    picks_numbered name (d ∷ ds) ms h k = (test_below d (length source.fields) (subst (λ n. d < n) (sym fields_of) h.0), tt)
    picks_numbered name [] (n ∷ ms) h k = (test_below n (length source.measures) (subst (λ c. n < c) (sym measures_of) k.0), tt)
    picks_numbered name [] [] h k = tt

    columns_numbered : Every (λ c. is_pick source c.1) (flat_map (column_of declared.views scope) table.columns)
    columns_numbered =
        all_every (λ (c : List ℕ × Pick). is_pick source c.1 ≡ true) (λ c. is_pick source c.1) (λ c h. h) (flat_map (column_of declared.views scope) table.columns)
        (all_flat (λ (c : List ℕ × Pick). is_pick source c.1 ≡ true) (λ column. Unit {0}) (column_of declared.views scope)
        (λ column is. picks_numbered column.name (dimension_numbers declared.views scope (dimensions declared.views scope) column.field) (measure_numbers declared.views scope column.field)
        (numbers_below_bound declared.views scope column.field) (measure_numbers_below declared.views scope column.field))
        table.columns (all_true (λ (column : DeclaredColumn). Unit {0}) (λ column. tt) table.columns))

    group_numbered : (o : Option (List ℕ)) → is_none_or_below (length model.datagroups) (datagroup_of (names_of declared.datagroups) o) ≡ true
    group_numbered None = refl
    group_numbered (Some name) = of_position (position (λ datagroup. is_same_text datagroup name) (names_of declared.datagroups)) refl
      where
        of_position : (o : Option ℕ) → position (λ datagroup. is_same_text datagroup name) (names_of declared.datagroups) ≡ o → is_none_or_below (length model.datagroups) o ≡ true
        of_position None at = refl
        of_position (Some n) at =
            let within = position_within (λ (datagroup : List ℕ). is_same_text datagroup name) (names_of declared.datagroups) n at in
            let names = length-map declared.datagroups name_of in
            let groups = length-map declared.datagroups datagroup_with in
            test_below n (length model.datagroups) (omega arith)

    over_source : (name : List ℕ) → is_numbered_derived model (derived_over declared.views scope (names_of declared.datagroups) name table number) ≡ true
    over_source name =
        let d = derived_over declared.views scope (names_of declared.datagroups) name table number in
        let a = nat_lt number (length model.explores) in
        let b = list_all (λ (c : List ℕ × Pick). is_pick (explore_at model number) c.1) d.columns in
        let c = are_fields (explore_at model number) (filtered d.filters) in
        both (a && b && c) (is_none_or_below (length model.datagroups) d.datagroup)
        (both (a && b) c
        (both a b (test_below number (length model.explores) source_below)
        (subst (λ x. list_all (λ (column : List ℕ × Pick). is_pick x column.1) d.columns ≡ true) (sym source_explore) columns_numbered))
        (subst (λ x. are_fields x (filtered d.filters) ≡ true) (sym source_explore)
        (subst (λ n. are_below n (filtered d.filters) ≡ true) (sym fields_of)
        (tested_filters (length (dimensions declared.views scope)) d.filters (filters_below declared.views scope table.filters)))))
        (group_numbered table.datagroup)

    -- the scope of its source
    pub scope_is : source_scope declared.views (source_named declared.explores table.explore) ≡ scope
    scope_is = ap (λ o. source_scope declared.views (source_named declared.explores o)) known.named ∙ ap (source_scope declared.views) known.found

    pub derived_numbered : (name : List ℕ) → is_numbered_derived model (derived_in declared name table (source_scope declared.views (source_named declared.explores table.explore))) ≡ true
    derived_numbered name = subst (λ s. is_numbered_derived model (derived_in declared name table s) ≡ true) (sym scope_is) (over_source name)

  rows_numbered : (name : List ℕ) (from : Rows) → HaveKnownSource declared from → AllByRecursion (λ d. is_numbered_derived model d ≡ true) (derived_with declared name from)
  rows_numbered name (rows.Stored table) known = tt
  rows_numbered name (rows.Derived table) known = (derived_numbered table known name, tt)

  -- all of them
  pub tables_numbered : AllByRecursion (λ view. HaveKnownSource declared view.rows) declared.views → Every (is_numbered_derived model) model.derived
  tables_numbered known =
      all_every (λ d. is_numbered_derived model d ≡ true) (is_numbered_derived model) (λ d h. h) model.derived
      (all_flat (λ d. is_numbered_derived model d ≡ true) (λ view. HaveKnownSource declared view.rows) (derived_of declared) (λ view is. rows_numbered view.name view.rows is) declared.views known)
