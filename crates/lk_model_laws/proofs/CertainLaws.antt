-- All that stands in an expression is known, where each dimension has one and each column a kind.
use Rattle.std.proofs.Common.{◌≡◌, ◌∙◌, ◌≤◌, ℕ, zero, suc, Bool, true, false, ◌||◌, List, [], ◌∷◌, length, refl, ap, sym, ⊎_elim, Option, Some, None, arith}
use Rattle.std.specs.Prelude.{flat_map, is_none, is_some, slice_get}
use Rattle.std.specs.List.{AllByRecursion, list_all}
use Rattle.std.specs.Option.{option_and_then}
use Rattle.std.proofs.lemmas.Bool.{false≢true}
use Rattle.lk_val.specs.Least.{grown_times, is_in}
use Rattle.lk_types.specs.declared.schema.Kind.{Kind}
use Rattle.lk_types.specs.declared.schema.Schema.{Schema}
use Rattle.lk_objects.specs.declared.code.Code.{Code}
use Rattle.lk_objects.specs.declared.code.Code.TheVariants as code
use Rattle.lk_objects.specs.declared.code.Reference.{Reference}
use Rattle.lk_objects.specs.declared.code.Reference.TheVariants as reference
use Rattle.lk_objects.specs.declared.field.DeclaredField.{DeclaredField}
use Rattle.lk_objects.specs.declared.field.FieldSort.{FieldSort}
use Rattle.lk_objects.specs.declared.field.FieldSort.TheVariants as field_sort
use Rattle.lk_objects.specs.declared.view.DeclaredView.{DeclaredView}
use Rattle.lk_fields.specs.declared.scope.Found.{Found}
use Rattle.lk_fields.specs.declared.scope.Place.{Place}
use Rattle.lk_fields.specs.declared.scope.Scope.{Scope}
use Rattle.lk_fields.specs.declared.scope.Sort.TheVariants as sort
use Rattle.lk_fields.specs.declared.scope.Writer.TheVariants as writer
use Rattle.lk_fields.specs.Existing as existing
use Rattle.lk_fields.specs.Existing.{all_places, ends_after, exists, field_at, is_same_place, meant, places_of, targets}
use Rattle.lk_fields.specs.Scopes.{has_sort, view_at}
use Rattle.lk_fields.proofs.LostLaws.{passing}
use Rattle.lk_formulas.specs.declared.columns.ColumnKinds.{ColumnKinds}
use Rattle.lk_formulas.specs.declared.columns.UnknownColumn.{UnknownColumn}
use Rattle.lk_formulas.specs.Columns.{column_in_rows, column_named, known_kind}
use Rattle.lk_formulas.specs.Formulas.{certain_within, ends, field_named, is_certain, is_known, knows, knows_all, knows_field, knows_through}
use Rattle.lk_formulas.proofs.RoundLaws.{all_in}
use Rattle.lk_semantics.proofs.EveryLaws.{both, first}
use Rattle.lk_model_laws.specs.Typed.{is_expression, takes_expression}
use Rattle.lk_model_laws.proofs.ColumnLaws.{AreColumns, HasColumns, IsColumn, placed_columns}
use Rattle.lk_model_laws.proofs.ExistingLaws.{IsKnownName, sql_known}
use Rattle.lk_model_laws.proofs.GroundedLaws.{place_referred, target_of_sql}
use Rattle.lk_model_laws.proofs.ListLaws.{all_behind, all_front}
use Rattle.lk_model_laws.proofs.NameLaws.{IsMeant, meant_in}
use Rattle.lk_model_laws.proofs.PlaceLaws.{one_of}
use Rattle.lk_model_laws.proofs.WholeExploreLaws.{placed_field}

-- a field that takes an expression has one
abbrev pub IsWritten : DeclaredField → Type 0
IsWritten f = takes_expression f.sort ≡ true → is_expression f.sql ≡ true

dimension_takes : (s : FieldSort) → has_sort sort.Dimension s ≡ true → takes_expression s ≡ true
dimension_takes (field_sort.Dimension t) h = refl
dimension_takes field_sort.Group h = refl
dimension_takes (field_sort.Measure o) h = absurd (false≢true h)

some_of_none : {A : Type 0} (o : Option A) → is_none o ≡ false → (x : A) × (o ≡ Some x)
some_of_none None h = absurd (false≢true (sym h))
some_of_none (Some x) h = (x, refl)

module _ (schema : Schema) (views : List DeclaredView) (scope : Scope) (columns : ColumnKinds) (u : UnknownColumn)
    (known : (p : ℕ) (name : List ℕ) (c : ℕ) → column_named schema views scope p name ≡ Some c → (k : Kind) × (known_kind columns p c ≡ Some k))
    (have : AllByRecursion (λ v. AllByRecursion (HasColumns schema v) v.fields) views) (written : AllByRecursion (λ v. AllByRecursion IsWritten v.fields) views)
    (end : (place : Place) → exists views scope place ≡ true → ends views scope place ≡ true) where
  -- the fields that take an expression are certain from a round on
  abbrev HoldsFrom : ℕ → Place → Type 0
  HoldsFrom n place = (field : DeclaredField) → field_at views scope place ≡ Some field → takes_expression field.sort ≡ true → exists views scope place ≡ true → (m : ℕ) → n ≤ m
      → certain_within schema views scope columns u m place ≡ true

  abbrev round : ℕ → List Place
  round n = grown_times is_same_place (all_places views scope) (ends_after views scope) n

  column_known : (part : ℕ) (v : DeclaredView) → view_at views scope part ≡ Some v → (name : List ℕ) → is_none (column_in_rows schema name v.rows) ≡ false → is_known columns part (column_named schema views scope part name) ≡ true
  column_known part v seen name there =
      let c = some_of_none (column_in_rows schema name v.rows) there in
      let named : column_named schema views scope part name ≡ Some c.0 = ap (option_and_then (λ (view : DeclaredView). column_in_rows schema name view.rows)) seen ∙ c.1 in
      ap (is_known columns part) named ∙ ap is_some (known part name c.0 named).1

  module _ (n m part : ℕ) (later : n ≤ m) (v : DeclaredView) (seen : view_at views scope part ≡ Some v) where
    abbrev g : Place → Bool
    g place = certain_within schema views scope columns u m place

    abbrev Holds : Reference → Type 0
    Holds r = (found : Found) → field_named views scope (writer.Field part) sort.Dimension r ≡ Some found → HoldsFrom n found.place

    named_known : (view : Option (List ℕ)) (name : List ℕ) (o : Option Found) → Rattle.lk_fields.specs.Scopes.found_in views scope (writer.Field part) view name sort.Dimension ≡ o → IsKnownName views scope o → ((found : Found) → o ≡ Some found → HoldsFrom n found.place)
        → knows_through schema views scope columns u g o ≡ true
    named_known view name o is known_name hold =
        let found = known_name.0 in
        let meaning : IsMeant views scope sort.Dimension name found = meant_in views scope (writer.Field part) view name sort.Dimension found (is ∙ known_name.1) in
        ap (knows_through schema views scope columns u g) known_name.1
        ∙ both (ends views scope found.place) (g found.place) (end found.place known_name.2)
        (hold found known_name.1 meaning.field meaning.at (dimension_takes meaning.field.sort meaning.making.sort_is) known_name.2 m later)

    one_known : (r : Reference) → AllByRecursion (IsKnownName views scope) (meant views scope part sort.Dimension r) → Holds r → IsColumn schema v r → knows schema views scope columns u g (writer.Field part) r ≡ true
    one_known (reference.Column name) names hold column = column_known part v seen name column
    one_known (reference.Own name) names hold column = named_known None name (field_named views scope (writer.Field part) sort.Dimension (reference.Own name)) refl names.0 hold
    one_known (reference.Of view name) names hold column = named_known (Some view) name (field_named views scope (writer.Field part) sort.Dimension (reference.Of view name)) refl names.0 hold

    all_known : (rs : List Reference) → AllByRecursion (IsKnownName views scope) (flat_map (meant views scope part sort.Dimension) rs) → ((i : ℕ) (r : Reference) → slice_get rs i ≡ Some r → Holds r)
        → AllByRecursion (IsColumn schema v) rs → list_all (knows schema views scope columns u g (writer.Field part)) rs ≡ true
    all_known [] names hold cs = refl
    all_known (r ∷ rs) names hold cs =
        both (knows schema views scope columns u g (writer.Field part) r) (list_all (knows schema views scope columns u g (writer.Field part)) rs)
        (one_known r (all_front (IsKnownName views scope) (meant views scope part sort.Dimension r) (flat_map (meant views scope part sort.Dimension) rs) names) (hold zero r refl) cs.0)
        (all_known rs (all_behind (IsKnownName views scope) (meant views scope part sort.Dimension r) (flat_map (meant views scope part sort.Dimension) rs) names) (λ i q at. hold (suc i) q at) cs.1)

  code_known : (n m : ℕ) → n ≤ m → (place : Place) (v : DeclaredView) → view_at views scope place.part ≡ Some v → (c : Code) → is_expression c ≡ true → AllByRecursion (IsKnownName views scope) (existing.meant_in views scope place.part c)
      → ((t : Place) → is_in is_same_place t (places_of (existing.meant_in views scope place.part c)) ≡ true → HoldsFrom n t) → AreColumns schema v c
      → knows_all schema views scope columns u (certain_within schema views scope columns u m) (writer.Field place.part) c ≡ true
  code_known n m later place v seen (code.Expr text) is names hold cs =
      both (is_none text.unknown_call) (list_all (knows schema views scope columns u (certain_within schema views scope columns u m) (writer.Field place.part)) text.references) is
      (all_known n m place.part later v seen text.references names (λ i r at found e. hold found.place (place_referred views scope place.part sort.Dimension text.references i r found at e)) cs)
  code_known n m later place v seen (code.Number text) is names hold cs = absurd (false≢true is)
  code_known n m later place v seen code.Absent is names hold cs = absurd (false≢true is)
  code_known n m later place v seen code.Liquid is names hold cs = absurd (false≢true is)
  code_known n m later place v seen (code.Syntax p) is names hold cs = absurd (false≢true is)

  place_known : (n : ℕ) (place : Place) → ((t : Place) → is_in is_same_place t (targets views scope place) ≡ true → HoldsFrom n t) → HoldsFrom (suc n) place
  place_known n place hold field at takes there zero later = absurd (omega arith)
  place_known n place hold field at takes there (suc m) later =
      let cs = placed_columns schema views have scope place field at in
      ap (knows_field schema views scope columns u (certain_within schema views scope columns u m) place.part) at
      ∙ code_known n m (omega arith) place cs.0 cs.1 field.sql (placed_field IsWritten views written scope place field at takes) (sql_known views scope place field at there)
      (λ t inside. hold t (target_of_sql views scope place field at t inside)) cs.2

  round_known : (n : ℕ) (place : Place) → is_in is_same_place place (round n) ≡ true → HoldsFrom n place
  round_known zero place inside = absurd (false≢true inside)
  round_known (suc n) place inside =
      let grown = first (is_in is_same_place place (round n) || ends_after views scope (round n) place) (is_in is_same_place place (all_places views scope))
      (sym (passing (λ p. is_in is_same_place p (round n) || ends_after views scope (round n) p) place (all_places views scope)) ∙ inside) in
      ⊎_elim (λ before. λ field at takes there m later. round_known n place before field at takes there m (omega arith))
      (λ added. place_known n place (λ t named. round_known n t (all_in (round n) (targets views scope place) added t named)))
      (one_of (is_in is_same_place place (round n)) (ends_after views scope (round n) place) grown)

  pub certain : (place : Place) (field : DeclaredField) → field_at views scope place ≡ Some field → takes_expression field.sort ≡ true → exists views scope place ≡ true → is_certain schema views scope columns u place ≡ true
  certain place field at takes there = round_known (length (all_places views scope)) place (end place there) field at takes there (length (all_places views scope)) (omega arith)
