-- The kind that a column of a derived table takes is that of its field or measure in the model, where the kinds are known of all columns that its query reads.
use Rattle.std.proofs.Common.{◌≡◌, ◌∙◌, ◌<◌, ℕ, zero, suc, Bool, true, false, List, [], ◌∷◌, ◌++◌, map, length, refl, ap, sym, subst, Option, Some, None, arith}
use Rattle.std.specs.Prelude.{flat_map, if◌then◌else◌, slice_get}
use Rattle.std.specs.List.{AllByRecursion, list_all, list_any}
use Rattle.std.specs.Option.{option_and_then, option_map}
use Rattle.std.proofs.lemmas.Bool.{false≢true}
use Rattle.lk_types.specs.Expressions.{has_number}
use Rattle.lk_types.specs.Formula.{Formula}
use Rattle.lk_types.specs.Kinds.{is_empty}
use Rattle.lk_types.specs.declared.explore.Explore.{Explore}
use Rattle.lk_types.specs.declared.explore.Field.{Field}
use Rattle.lk_types.specs.declared.explore.Measure.{Measure}
use Rattle.lk_types.specs.declared.explore.Op.{Op}
use Rattle.lk_types.specs.declared.explore.Op.TheVariants as op
use Rattle.lk_types.specs.declared.model.Derived.{Derived}
use Rattle.lk_types.specs.declared.model.Pick.{Pick}
use Rattle.lk_types.specs.declared.model.Pick.TheVariants.{Dim, Mea}
use Rattle.lk_types.specs.declared.schema.Frame.{Frame}
use Rattle.lk_types.specs.declared.schema.Frame.TheVariants as frame
use Rattle.lk_types.specs.declared.schema.Kind.{Kind}
use Rattle.lk_types.specs.declared.schema.Kind.TheVariants as kind
use Rattle.lk_types.specs.declared.schema.Schema.{Schema}
use Rattle.lk_objects.specs.declared.code.Code.{Code}
use Rattle.lk_objects.specs.declared.code.Code.TheVariants as code
use Rattle.lk_objects.specs.declared.explore.DeclaredExplore.{DeclaredExplore}
use Rattle.lk_objects.specs.declared.field.DeclaredField.{DeclaredField}
use Rattle.lk_objects.specs.declared.field.DimensionType.TheVariants as type
use Rattle.lk_objects.specs.declared.field.FieldSort.{FieldSort}
use Rattle.lk_objects.specs.declared.field.FieldSort.TheVariants as field_sort
use Rattle.lk_objects.specs.declared.view.DeclaredColumn.{DeclaredColumn}
use Rattle.lk_objects.specs.declared.view.DeclaredView.{DeclaredView}
use Rattle.lk_fields.specs.declared.scope.Found.{Found}
use Rattle.lk_fields.specs.declared.scope.Place.{Place}
use Rattle.lk_fields.specs.declared.scope.Scope.{Scope}
use Rattle.lk_fields.specs.declared.scope.ScopePart.{ScopePart}
use Rattle.lk_fields.specs.declared.scope.Sort.TheVariants as sort
use Rattle.lk_fields.specs.declared.scope.Writer.TheVariants as writer
use Rattle.lk_fields.specs.Existing.{exists, field_at, fields_at, is_same_place}
use Rattle.lk_fields.specs.Scopes.{found_by, is_dot, split_name}
use Rattle.lk_fields.proofs.LostLaws.{same_exact}
use Rattle.lk_formulas.specs.declared.columns.ColumnKinds.{ColumnKinds}
use Rattle.lk_formulas.specs.declared.columns.UnknownColumn.TheVariants.{Kept, Null}
use Rattle.lk_formulas.specs.Columns.{known_kind}
use Rattle.lk_formulas.specs.FieldKinds as kinds
use Rattle.lk_formulas.specs.FieldKinds.{dimension_kind, extreme_kind, field_kind, group_kind, is_number, measure_kind, or_text}
use Rattle.lk_formulas.specs.FormulaKinds.{kinds_in}
use Rattle.lk_formulas.specs.Formulas.{dated_of, is_certain}
use Rattle.lk_scope.specs.ExploreNames.{dimension_named, measure_named}
use Rattle.lk_field_faults.specs.ExploreFields.{explore_fields_fault}
use Rattle.lk_field_faults.specs.MadeNames.{names_made}
use Rattle.lk_explore_faults.specs.StoredQueries.{column_findings, measure_findings}
use Rattle.lk_semantics.specs.Answers.{measure_at, no_measure, or_parts, parts_of_measure, takes_value, value_taken}
use Rattle.lk_semantics.specs.Joins.{mentions_of}
use Rattle.lk_semantics.specs.Reading.{pick_kind}
use Rattle.lk_semantics.specs.Rows as rows_of
use Rattle.lk_semantics.specs.Rows.{no_field}
use Rattle.lk_resolved.specs.DerivedTables.{column_of, column_with}
use Rattle.lk_resolved.specs.Explores as explores
use Rattle.lk_resolved.specs.Explores.{explore_of, measure_numbers}
use Rattle.lk_resolved.specs.Fields.{field_with, fields, measure_with, number_with, op_with, or_number, value_if}
use Rattle.lk_resolved.specs.Filters.{number_if, number_of_found}
use Rattle.lk_resolved.specs.Formulas.{field_formula}
use Rattle.lk_resolved.specs.Names.{dimensions, measure_number, measures, or_zero}
use Rattle.lk_model.specs.ViewKinds.{kind_of_dimension, kind_of_measure, taken_kind}
use Rattle.lk_model_laws.specs.Typed.{has_code, is_expression, takes_expression}
use Rattle.lk_model_laws.proofs.AllKnownLaws.{all_known, are_all_known}
use Rattle.lk_model_laws.proofs.AskedLaws.{IsAsked, parts_asked}
use Rattle.lk_model_laws.proofs.CertainLaws.{certain}
use Rattle.lk_model_laws.proofs.ColumnLaws.{HasColumns}
use Rattle.lk_model_laws.proofs.CycleLaws.{fields_end}
use Rattle.lk_model_laws.proofs.DependLaws.{HasKnown, IsShownCode}
use Rattle.lk_model_laws.proofs.ExtremeTypedLaws.{HasCode, all_written}
use Rattle.lk_model_laws.proofs.FieldTypedLaws.{IsFramed, IsSorted, dimensions_sorted}
use Rattle.lk_model_laws.proofs.FoundLaws.{dimension_at}
use Rattle.lk_model_laws.proofs.GroundedLaws.{aligned}
use Rattle.lk_model_laws.proofs.KeyTypedLaws.{not_missed}
use Rattle.lk_model_laws.proofs.KnownTypeLaws.{HasType, has_type}
use Rattle.lk_model_laws.proofs.ListLaws.{all_at, all_behind, all_front, got_map, got_or, got_within, position_at, position_found}
use Rattle.lk_model_laws.proofs.MentionedLaws.{IsOver}
use Rattle.lk_model_laws.proofs.NamedTypes.{NamedDimension, NamedMeasure}
use Rattle.lk_model_laws.proofs.NameLaws.{meant_by, named_exists, some_measure}
use Rattle.lk_model_laws.proofs.NumberLaws.{IsOfField, measures_of_fields}
use Rattle.lk_model_laws.proofs.OwnNameLaws.{AreApart}
use Rattle.lk_model_laws.proofs.TakenKindLaws.{extreme_taken, group_taken, tested_kinds}
use Rattle.lk_model_laws.proofs.TestedFieldLaws.{ended, formula_is, tested}
use Rattle.lk_model_laws.proofs.WholeExploreLaws.{placed_field}
use Rattle.lk_model_laws.proofs.ViewObjectLaws.{nil_no}

-- ---- kinds by sorts

-- two readings find one kind
abbrev IsOneKind : Option Kind → Option Kind → Type 0
IsOneKind a b = (k : Kind) × (a ≡ Some k) × (b ≡ Some k)

frame_taken : (fr : Frame) (a b : Option Kind) → IsOneKind a b → IsOneKind (kinds.framed_kind (Some fr) a) (kinds.framed_kind (Some fr) b)
frame_taken frame.Raw a b is = is
frame_taken frame.Time a b is = (kind.Moment, refl, refl)
frame_taken frame.Date a b is = (kind.Day, refl, refl)
frame_taken frame.Week a b is = (kind.Day, refl, refl)
frame_taken frame.Month a b is = (kind.Day, refl, refl)
frame_taken frame.Quarter a b is = (kind.Day, refl, refl)
frame_taken frame.Year a b is = (kind.Day, refl, refl)
frame_taken frame.HourOfDay a b is = (kind.Number, refl, refl)
frame_taken frame.DayOfWeek a b is = (kind.Text, refl, refl)
frame_taken frame.DayOfMonth a b is = (kind.Number, refl, refl)
frame_taken frame.MonthNum a b is = (kind.Number, refl, refl)

sort_taken : (s : FieldSort) (fr : Option Frame) (a b : Option Kind) → IsFramed s fr → has_type s ≡ true → (s ≡ field_sort.Group → IsOneKind a b) → IsOneKind (dimension_kind s fr a) (dimension_kind s fr b)
sort_taken (field_sort.Dimension None) fr a b framed typed group = absurd (false≢true typed)
sort_taken (field_sort.Dimension (Some type.Text)) fr a b framed typed group = (kind.Text, refl, refl)
sort_taken (field_sort.Dimension (Some type.Number)) fr a b framed typed group = (kind.Number, refl, refl)
sort_taken (field_sort.Dimension (Some type.Tier)) fr a b framed typed group = (kind.Number, refl, refl)
sort_taken (field_sort.Dimension (Some type.Truth)) fr a b framed typed group = (kind.Truth, refl, refl)
sort_taken field_sort.Group (Some fr) a b framed typed group = frame_taken fr a b (group refl)
sort_taken field_sort.Group None a b framed typed group = absurd framed
sort_taken (field_sort.Measure o) fr a b framed typed group = absurd framed

measure_taken : (s : FieldSort) (a b : Option Kind) → (s ≡ field_sort.Measure (Some op.Min) → IsOneKind a b) → (s ≡ field_sort.Measure (Some op.Max) → IsOneKind a b) → IsOneKind (kinds.kind_of_measure s a) (kinds.kind_of_measure s b)
measure_taken (field_sort.Measure (Some op.Min)) a b least greatest = least refl
measure_taken (field_sort.Measure (Some op.Max)) a b least greatest = greatest refl
measure_taken (field_sort.Measure None) a b least greatest = (kind.Number, refl, refl)
measure_taken (field_sort.Measure (Some op.Count)) a b least greatest = (kind.Number, refl, refl)
measure_taken (field_sort.Measure (Some op.CountDistinct)) a b least greatest = (kind.Number, refl, refl)
measure_taken (field_sort.Measure (Some op.Sum)) a b least greatest = (kind.Number, refl, refl)
measure_taken (field_sort.Measure (Some op.Average)) a b least greatest = (kind.Number, refl, refl)
measure_taken (field_sort.Measure (Some op.SumDistinct)) a b least greatest = (kind.Number, refl, refl)
measure_taken (field_sort.Measure (Some op.AverageDistinct)) a b least greatest = (kind.Number, refl, refl)
measure_taken (field_sort.Measure (Some op.Number)) a b least greatest = (kind.Number, refl, refl)
measure_taken (field_sort.Dimension t) a b least greatest = (kind.Number, refl, refl)
measure_taken field_sort.Group a b least greatest = (kind.Number, refl, refl)

-- an expression is no calculation
no_number : (views : List DeclaredView) (scope : Scope) (part : ℕ) (c : Code) → is_expression c ≡ true → number_with views scope part c ≡ None
no_number views scope part (code.Expr written) h = refl
no_number views scope part (code.Number written) h = absurd (false≢true h)
no_number views scope part code.Absent h = absurd (false≢true h)
no_number views scope part code.Liquid h = absurd (false≢true h)
no_number views scope part (code.Syntax place) h = absurd (false≢true h)

-- a measure without a calculation is its own part
own_part : (y : Explore) (P : ℕ → Type 0) (n count : ℕ) → n < count → (measure_at y n).number ≡ None → AllByRecursion P (parts_of_measure y count n) → P n
own_part y P n zero less none h = absurd (omega arith)
own_part y P n (suc count) less none h = (subst (λ o. AllByRecursion P (or_parts n (parts_of_measure y count) o)) none h).0

module _ (schema : Schema) (views : List DeclaredView) (scope : Scope) (k : ColumnKinds) (clear : explore_fields_fault schema views scope k ≡ None)
    (shown : (place : Place) (field : DeclaredField) → field_at views scope place ≡ Some field → IsShownCode field.sql)
    (have : AllByRecursion (λ v. AllByRecursion (HasColumns schema v) v.fields) views) (coded : AllByRecursion (λ v. AllByRecursion HasCode v.fields) views) (types : AllByRecursion (λ v. AllByRecursion HasType v.fields) views)
    (apart : AreApart (map (λ (part : ScopePart). part.name) scope.parts)) (plain : (k : ℕ) (part : ScopePart) → slice_get scope.parts k ≡ Some part → list_any is_dot part.name ≡ false)
    (once : (part : ℕ) → AreApart (names_made (fields_at views scope part)))
    (datagroup : Option (List ℕ) → ℕ) (x : DeclaredExplore) (d : Derived) where
  abbrev pub y : Explore
  y = explore_of schema views scope k datagroup x

  -- a part that the query of the derived table asks for
  abbrev pub t : ℕ → Bool
  t p = has_number p (parts_asked y d)

  sure : (place : Place) (field : DeclaredField) → field_at views scope place ≡ Some field → exists views scope place ≡ true → takes_expression field.sort ≡ true → is_certain schema views scope (all_known schema views scope) Kept place ≡ true
  sure place field at there takes =
      certain schema views scope (all_known schema views scope) Kept (are_all_known schema views scope) have (all_written views coded) (fields_end schema views scope k clear) place field at takes there

  module _ (j : ColumnKinds) (same : (p c : ℕ) → t p ≡ true → known_kind j p c ≡ known_kind k p c) (known : HasKnown schema views scope t shown k) where
    module _ (place : Place) (field : DeclaredField) (at : field_at views scope place ≡ Some field) (there : exists views scope place ≡ true) (over : IsOver t (field_formula schema views scope k place)) where
      dated_over : IsOver t (dated_of schema views scope k Kept place)
      dated_over = subst (IsOver t) (formula_is schema views scope k clear place field at there) over

      some_kind : (s : FieldSort) → field.sort ≡ s → is_number s ≡ false → is_empty (kinds_in k (dated_of schema views scope k Kept place)) ≡ false
      some_kind s is other =
          ap is_empty (sym (tested_kinds schema views scope t shown j k same known (all_known schema views scope) place (ended schema views scope k clear place field at there) dated_over))
          ∙ not_missed s (kinds_in k (dated_of schema views scope k Null place)) (tested schema views scope k clear place field at there s is other)

      of_group : field.sort ≡ field_sort.Group → IsOneKind (group_kind schema views scope j Null place) (group_kind schema views scope k Kept place)
      of_group is =
          group_taken schema views scope t shown j k same known (all_known schema views scope) place (ended schema views scope k clear place field at there) dated_over
          (sure place field at there (subst (λ s. takes_expression s ≡ true) (sym is) refl)) (some_kind field_sort.Group is refl)

      of_extreme : (s : FieldSort) → field.sort ≡ s → is_number s ≡ false → takes_expression s ≡ true → IsOneKind (extreme_kind schema views scope j Null place) (extreme_kind schema views scope k Kept place)
      of_extreme s is other takes =
          extreme_taken schema views scope t shown j k same known (all_known schema views scope) place (ended schema views scope k clear place field at there) dated_over
          (sure place field at there (subst (λ z. takes_expression z ≡ true) (sym is) takes)) (some_kind s is other)

    -- ---- a dimension

    made_kind : (e : NamedDimension) → IsSorted views scope e → IsOver t (field_formula schema views scope k e.found.place) → IsOneKind (field_kind schema views scope j Null e.found) (field_kind schema views scope k Kept e.found)
    made_kind e is over =
        let one = sort_taken is.field.sort e.found.frame (group_kind schema views scope j Null e.found.place) (group_kind schema views scope k Kept e.found.place) is.framed
        (placed_field HasType views types scope e.found.place is.field is.at) (of_group e.found.place is.field is.at is.there over) in (
          one.0,
          ap (option_and_then (λ (field : DeclaredField). dimension_kind field.sort e.found.frame (group_kind schema views scope j Null e.found.place))) is.at ∙ one.1,
          ap (option_and_then (λ (field : DeclaredField). dimension_kind field.sort e.found.frame (group_kind schema views scope k Kept e.found.place))) is.at ∙ one.2,
        )

    dimension_picked : (name : List ℕ) (found : Found) → dimension_named views scope name ≡ Some found → IsAsked y d (Dim (number_of_found views scope (dimensions views scope) found name))
        → (kd : Kind) × (field_kind schema views scope j Null found ≡ Some kd) × (pick_kind y (Dim (number_of_found views scope (dimensions views scope) found name)) ≡ kd)
    dimension_picked name found named asked =
        let n = number_of_found views scope (dimensions views scope) found name in
        let is = named_exists views scope (found_by views scope writer.Explore name sort.Dimension) found named in
        let got = dimension_at views scope apart plain once name found (meant_by views scope writer.Explore name sort.Dimension found is.0) is.1 in
        let sorted = all_at (IsSorted views scope) (dimensions views scope) (dimensions_sorted views scope) n got.0 got.1 in
        let field_is : rows_of.field_at y n ≡ field_with schema views scope k got.0 =
        got_or (fields schema views scope k) n no_field (field_with schema views scope k got.0)
        (got_map (field_with schema views scope k) (dimensions views scope) n ∙ ap (option_map (field_with schema views scope k)) got.1) in
        let over : IsOver t (field_formula schema views scope k got.0.found.place) = subst (λ (f : Field). IsOver t f.expr) field_is asked in
        let one = made_kind got.0 sorted over in (
          one.0,
          ap (field_kind schema views scope j Null) (sym got.2) ∙ one.1,
          ap (λ (f : Field). f.kind) field_is ∙ ap or_text one.2,
        )

    -- ---- a measure

    module _ (m : NamedMeasure) (of : IsOfField views scope m) (n : ℕ) (made_at : measure_at y n ≡ measure_with schema views scope k m of.field) (less : n < length y.measures) (asked : IsAsked y d (Mea n)) where
      value_over : (o : Op) → of.field.sort ≡ field_sort.Measure (Some o) → has_code (field_sort.Measure (Some o)) of.field.sql ≡ is_expression of.field.sql
          → ((e : Formula) → (if takes_value o then value_if o e else None) ≡ Some e) → IsOver t (field_formula schema views scope k m.place)
      value_over o is written taken =
          let expression : is_expression of.field.sql ≡ true = sym written ∙ ap (λ s. has_code s of.field.sql) (sym is) ∙ placed_field HasCode views coded scope m.place of.field of.at in
          let none : (measure_at y n).number ≡ None = ap (λ (z : Measure). z.number) made_at ∙ no_number views scope m.place.part of.field.sql expression in
          let own = own_part y (λ c. list_all t (mentions_of (value_taken (measure_at y c))) ≡ true) n (length y.measures) less none asked in
          let value : value_taken (measure_at y n) ≡ Some (field_formula schema views scope k m.place) =
          ap value_taken made_at ∙ ap (λ s. if takes_value (op_with s) then value_if (op_with s) (field_formula schema views scope k m.place) else None) is
          ∙ taken (field_formula schema views scope k m.place) in
          subst (λ v. list_all t (mentions_of v) ≡ true) value own

      measure_kind_taken : IsOneKind (measure_kind schema views scope j Null m.place) (measure_kind schema views scope k Kept m.place)
      measure_kind_taken =
          let least = field_sort.Measure (Some op.Min) in
          let greatest = field_sort.Measure (Some op.Max) in
          let one = measure_taken of.field.sort (extreme_kind schema views scope j Null m.place) (extreme_kind schema views scope k Kept m.place)
          (λ is. of_extreme m.place of.field of.at of.there (value_over op.Min is refl (λ e. refl)) least is refl refl)
          (λ is. of_extreme m.place of.field of.at of.there (value_over op.Max is refl (λ e. refl)) greatest is refl refl) in (
            one.0,
            ap (option_and_then (λ (field : DeclaredField). kinds.kind_of_measure field.sort (extreme_kind schema views scope j Null m.place))) of.at ∙ one.1,
            ap (option_and_then (λ (field : DeclaredField). kinds.kind_of_measure field.sort (extreme_kind schema views scope k Kept m.place))) of.at ∙ one.2,
          )

      picked_kind : (measure_at y n).kind ≡ measure_kind_taken.0
      picked_kind = ap (λ (z : Measure). z.kind) made_at ∙ ap or_number measure_kind_taken.2

      picked_at : (place : Place) (i : ℕ) → m.place ≡ place → i ≡ n → (kd : Kind) × (measure_kind schema views scope j Null place ≡ Some kd) × (pick_kind y (Mea i) ≡ kd)
      picked_at place i same_place number =
          (measure_kind_taken.0, ap (measure_kind schema views scope j Null) (sym same_place) ∙ measure_kind_taken.1, ap (λ i. (measure_at y i).kind) number ∙ picked_kind)

    measure_picked : (name : List ℕ) (found : Found) → measure_named views scope name ≡ Some found → IsAsked y d (Mea (measure_number (measures views scope) found.place))
        → (kd : Kind) × (measure_kind schema views scope j Null found.place ≡ Some kd) × (pick_kind y (Mea (measure_number (measures views scope) found.place)) ≡ kd)
    measure_picked name found named asked =
        let is = named_exists views scope (found_by views scope writer.Explore name sort.Measure) found named in
        let there = position_found (λ (m : NamedMeasure). is_same_place m.place found.place) (measures views scope)
        (some_measure views scope ((split_name name).1) found (meant_by views scope writer.Explore name sort.Measure found is.0) is.1) in
        let at = position_at (λ (m : NamedMeasure). is_same_place m.place found.place) (measures views scope) there.0 there.1 in
        let number : measure_number (measures views scope) found.place ≡ there.0 = ap or_zero there.1 in
        let of = aligned views scope schema k (measures views scope) (measures_of_fields views scope) there.0 at.0 at.1 in
        let made = measure_with schema views scope k at.0 of.0.field in
        let made_at : measure_at y there.0 ≡ made = got_or y.measures there.0 no_measure made of.1 in
        picked_at at.0 of.0 there.0 made_at (got_within y.measures there.0 made of.1) (subst (λ n. IsAsked y d (Mea n)) number asked) found.place (measure_number (measures views scope) found.place)
        (same_exact at.0.place found.place at.2) number

    -- ---- a column

    column_taken : (object at : List ℕ) (column : DeclaredColumn) → column_findings views scope object at column.field (dimension_named views scope column.field) ≡ []
        → AllByRecursion (λ c. IsAsked y d c.1) (column_of views scope column)
        → (kd : Kind) × (taken_kind schema views scope j column ≡ Some kd) × (map (λ (c : List ℕ × Pick). pick_kind y c.1) (column_of views scope column) ≡ kd ∷ [])
    column_taken object at column h asked = of_dimension (dimension_named views scope column.field) refl h asked
      where
        of_measure : (o : Option Found) → measure_named views scope column.field ≡ o → column_findings views scope object at column.field None ≡ []
            → AllByRecursion (λ c. IsAsked y d c.1) (column_with column.name [] (explores.measure_if views scope o))
            → (kd : Kind) × (kind_of_measure schema views scope j o ≡ Some kd) × (map (λ (c : List ℕ × Pick). pick_kind y c.1) (column_with column.name [] (explores.measure_if views scope o)) ≡ kd ∷ [])
        of_measure None is h asked = absurd (nil_no _ [] (subst (λ o. measure_findings views scope object at column.field o ≡ []) is h))
        of_measure (Some found) is h asked =
            let picked = measure_picked column.field found is asked.0 in (picked.0, picked.1, ap (λ kd. kd ∷ []) picked.2)

        of_dimension : (o : Option Found) → dimension_named views scope column.field ≡ o → column_findings views scope object at column.field o ≡ []
            → AllByRecursion (λ c. IsAsked y d c.1) (column_with column.name (number_if views scope (dimensions views scope) column.field o) (measure_numbers views scope column.field))
            → (kd : Kind) × (kind_of_dimension schema views scope j o (measure_named views scope column.field) ≡ Some kd)
            × (map (λ (c : List ℕ × Pick). pick_kind y c.1) (column_with column.name (number_if views scope (dimensions views scope) column.field o) (measure_numbers views scope column.field)) ≡ kd ∷ [])
        of_dimension None is h asked = of_measure (measure_named views scope column.field) refl h asked
        of_dimension (Some found) is h asked =
            let picked = dimension_picked column.field found is asked.0 in (picked.0, picked.1, ap (λ kd. kd ∷ []) picked.2)

    map_append : (f : List ℕ × Pick → Kind) (us vs : List (List ℕ × Pick)) → map f (us ++ vs) ≡ map f us ++ map f vs
    map_append f [] vs = refl
    map_append f (u ∷ us) vs = ap (λ rest. f u ∷ rest) (map_append f us vs)

    -- all columns
    pub columns_taken : (object at : List ℕ) (columns : List DeclaredColumn) → AllByRecursion (λ column. column_findings views scope object at column.field (dimension_named views scope column.field) ≡ []) columns
        → AllByRecursion (λ c. IsAsked y d c.1) (flat_map (column_of views scope) columns)
        → map (taken_kind schema views scope j) columns ≡ map Some (map (λ (c : List ℕ × Pick). pick_kind y c.1) (flat_map (column_of views scope) columns))
    columns_taken object at [] h asked = refl
    columns_taken object at (column ∷ columns) h asked =
        let rest = flat_map (column_of views scope) columns in
        let one = column_taken object at column h.0 (all_front (λ c. IsAsked y d c.1) (column_of views scope column) rest asked) in
        let later = columns_taken object at columns h.1 (all_behind (λ c. IsAsked y d c.1) (column_of views scope column) rest asked) in
        (λ i. one.1 i ∷ later i)
        ∙ sym (ap (map Some) (map_append (λ (c : List ℕ × Pick). pick_kind y c.1) (column_of views scope column) rest) ∙ ap (λ us. map Some (us ++ map (λ (c : List ℕ × Pick). pick_kind y c.1) rest)) one.2)
