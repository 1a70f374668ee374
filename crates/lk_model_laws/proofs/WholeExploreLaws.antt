-- All expressions of an explore are whole, where the codes of its objects are.
use Rattle.std.proofs.Common.{◌≡◌, ◌∙◌, ℕ, zero, suc, ◌+◌, Bool, true, false, ◌&&◌, List, [], ◌∷◌, map, length, refl, ap, sym, Option, Some, None}
use Rattle.std.specs.Prelude.{flat_map, if◌then◌else◌, nat_lt, slice_get}
use Rattle.std.specs.List.{AllByRecursion, list_all}
use Rattle.std.specs.Option.{option_and_then, option_map}
use Rattle.lk_val.specs.declared.value.Value.TheVariants as value
use Rattle.lk_types.specs.Calculation as calculation
use Rattle.lk_types.specs.Calculation.{Calculation, Calculations}
use Rattle.lk_types.specs.Formula.{Formula, Literal}
use Rattle.lk_types.specs.WholeForms.{has_argument, is_whole_calculation, is_whole_form}
use Rattle.lk_types.specs.declared.explore.JoinKind.{JoinKind}
use Rattle.lk_types.specs.declared.explore.JoinKind.TheVariants as join_kind
use Rattle.lk_types.specs.declared.explore.Join.{Join}
use Rattle.lk_types.specs.declared.explore.Field.{Field}
use Rattle.lk_types.specs.declared.explore.Measure.{Measure}
use Rattle.lk_types.specs.declared.explore.Op.{Op}
use Rattle.lk_types.specs.declared.explore.Op.TheVariants as op
use Rattle.lk_types.specs.declared.explore.Part.{Part}
use Rattle.lk_types.specs.declared.schema.Frame.{Frame}
use Rattle.lk_types.specs.declared.schema.Kind.{Kind}
use Rattle.lk_types.specs.declared.schema.Schema.{Schema}
use Rattle.lk_objects.specs.declared.code.Code.{Code}
use Rattle.lk_objects.specs.declared.code.Code.TheVariants as code
use Rattle.lk_objects.specs.declared.code.Reference.{Reference}
use Rattle.lk_objects.specs.declared.code.Reference.TheVariants as reference
use Rattle.lk_objects.specs.declared.explore.DeclaredExplore.{DeclaredExplore}
use Rattle.lk_objects.specs.declared.explore.DeclaredJoin.{DeclaredJoin}
use Rattle.lk_objects.specs.declared.explore.ExploreFilter.{ExploreFilter}
use Rattle.lk_objects.specs.declared.explore.ExploreFilter.TheVariants as explore_filter
use Rattle.lk_objects.specs.declared.field.DeclaredField.{DeclaredField}
use Rattle.lk_objects.specs.declared.view.DeclaredView.{DeclaredView}
use Rattle.lk_fields.specs.declared.scope.Found.{Found}
use Rattle.lk_fields.specs.declared.scope.Place.{Place}
use Rattle.lk_fields.specs.declared.scope.Scope.{Scope}
use Rattle.lk_fields.specs.declared.scope.ScopePart.{ScopePart}
use Rattle.lk_fields.specs.declared.scope.Sort.TheVariants as sort
use Rattle.lk_fields.specs.declared.scope.Writer.{Writer}
use Rattle.lk_fields.specs.declared.scope.Writer.TheVariants as writer
use Rattle.lk_fields.specs.Existing.{all_places, field_at, fields_with}
use Rattle.lk_fields.specs.Scopes.{view_at}
use Rattle.lk_dated.specs.Dated.{stands_at}
use Rattle.lk_formulas.specs.declared.columns.ColumnKinds.{ColumnKinds}
use Rattle.lk_formulas.specs.declared.columns.UnknownColumn.{UnknownColumn}
use Rattle.lk_formulas.specs.declared.columns.UnknownColumn.TheVariants as unknown_column
use Rattle.lk_formulas.specs.Columns.{column_named, known_kind}
use Rattle.lk_formulas.specs.FormulaKinds.{kinds_in}
use Rattle.lk_formulas.specs.Formulas.{as_read, column_at, column_formula, dated_in, dated_of, ends, expanded, expanded_field, field_named, formula_in, formula_of, formula_within, framed, meaning, null, part_of, read_in, through, where_known}
use Rattle.lk_formulas.specs.Resolved.{kept, most_nodes, resolved_field}
use Rattle.lk_fields.specs.Substituted.{nodes_in}
use Rattle.lk_scope.specs.ExploreNames.{dimension_named}
use Rattle.lk_scope.specs.Keys.{key_of}
use Rattle.lk_semantics.specs.Resolved.{has_whole_forms, is_none_or_whole, is_none_or_whole_calculation}
use Rattle.lk_semantics.proofs.EveryLaws.{Every, both, every-append, every-at}
use Rattle.lk_model_laws.proofs.NamedTypes.{NamedDimension}
use Rattle.lk_model_laws.proofs.NamedTypes.{NamedMeasure}
use Rattle.lk_resolved.specs.Explores.{condition_by_key, condition_with, explore_of, first_where, found_formula, join_with, joins_from, key_condition, key_formula, on_with, parts_from, where_with}
use Rattle.lk_resolved.specs.Fields.{all_measures, field_with, fields, key_if, measure_at, measure_if, measure_with, number_with, renumbered, renumbered_all, value_if}
use Rattle.lk_resolved.specs.Formulas.{code_formula, expr_in, field_formula, or_null}
use Rattle.lk_resolved.specs.Names.{dimensions, measures}
use Rattle.lk_model_laws.proofs.ListLaws.{all_at}
use Rattle.lk_model_laws.proofs.PieceLaws.{some_none}
use Rattle.lk_model_laws.proofs.WholeLaws.{compared_whole, dated_whole}

-- ---- calculations

-- each of the calculations is whole
abbrev pub are_whole_numbers : Calculations → Bool
are_whole_numbers calculation.no_more = true
are_whole_numbers (calculation.more a xs) = is_whole_calculation a && are_whole_numbers xs

pub numbers_form : (xs : Calculations) → is_whole_calculation (calculation.Coalesce xs) ≡ (has_argument xs && are_whole_numbers xs)
numbers_form calculation.no_more = refl
numbers_form (calculation.more a calculation.no_more) = refl
numbers_form (calculation.more a (calculation.more b xs)) = ap (λ t. is_whole_calculation a && t) (numbers_form (calculation.more b xs))

same_arguments : (s : ℕ → ℕ) (xs : Calculations) → has_argument (renumbered_all s xs) ≡ has_argument xs
same_arguments s calculation.no_more = refl
same_arguments s (calculation.more a xs) = refl

mutual
  pub renumbered_whole : (s : ℕ → ℕ) (e : Calculation) → is_whole_calculation (renumbered s e) ≡ is_whole_calculation e
  renumbered_whole s (calculation.OfMeasure m) = refl
  renumbered_whole s (calculation.Number n) = refl
  renumbered_whole s (calculation.Apply o a b) = λ i. renumbered_whole s a i && renumbered_whole s b i
  renumbered_whole s (calculation.Negate a) = renumbered_whole s a
  renumbered_whole s (calculation.Coalesce xs) =
      numbers_form (renumbered_all s xs) ∙ (λ i. same_arguments s xs i && all_renumbered s xs i) ∙ sym (numbers_form xs)
  renumbered_whole s (calculation.NullIf a b) = λ i. renumbered_whole s a i && renumbered_whole s b i

  all_renumbered : (s : ℕ → ℕ) (xs : Calculations) → are_whole_numbers (renumbered_all s xs) ≡ are_whole_numbers xs
  all_renumbered s calculation.no_more = refl
  all_renumbered s (calculation.more a xs) = λ i. renumbered_whole s a i && all_renumbered s xs i

-- ---- codes

-- the expression of a code, if it is one, is whole
abbrev pub IsWholeCode : Code → Type 0
IsWholeCode (code.Expr written) = is_whole_form written.expr ≡ true
IsWholeCode (code.Number written) = is_whole_calculation written.expr ≡ true
IsWholeCode c = Unit {0}

abbrev pub IsWholeField : DeclaredField → Type 0
IsWholeField field = IsWholeCode field.sql × IsWholeCode field.key

abbrev pub AreWholeViews : List DeclaredView → Type 0
AreWholeViews views = AllByRecursion (λ view. AllByRecursion IsWholeField view.fields) views

abbrev pub IsWholeFilter : ExploreFilter → Type 0
IsWholeFilter (explore_filter.Where c first) = IsWholeCode c
IsWholeFilter (explore_filter.Always f) = Unit {0}
IsWholeFilter (explore_filter.Access f) = Unit {0}

abbrev pub IsWholeExplore : DeclaredExplore → Type 0
IsWholeExplore x = AllByRecursion (λ join. IsWholeCode join.on) x.joins × AllByRecursion IsWholeFilter x.filters

-- ---- fields at places

module _ (P : DeclaredField → Type 0) (views : List DeclaredView) (each : AllByRecursion (λ view. AllByRecursion P view.fields) views) where
  of_view : (o : Option DeclaredView) (k : ℕ) (field : DeclaredField) → ((view : DeclaredView) → o ≡ Some view → AllByRecursion P view.fields) → slice_get (fields_with o) k ≡ Some field → P field
  of_view None k field known at = absurd (some_none (sym at))
  of_view (Some view) k field known at = all_at P view.fields (known view refl) k field at

  of_number : (o : Option ℕ) (view : DeclaredView) → option_and_then (slice_get views) o ≡ Some view → AllByRecursion P view.fields
  of_number None view at = absurd (some_none (sym at))
  of_number (Some n) view at = all_at (λ v. AllByRecursion P v.fields) views each n view at

  of_part : (o : Option ScopePart) (view : DeclaredView) → option_and_then (λ part. option_and_then (slice_get views) part.view) o ≡ Some view → AllByRecursion P view.fields
  of_part None view at = absurd (some_none (sym at))
  of_part (Some part) view at = of_number part.view view at

  -- what holds of the fields of all views holds of the one at a place
  pub placed_field : (scope : Scope) (place : Place) (field : DeclaredField) → field_at views scope place ≡ Some field → P field
  placed_field scope place field at =
      of_view (view_at views scope place.part) place.field field (λ view is. of_part (slice_get scope.parts place.part) view is) at

-- ---- formulas

module _ (schema : Schema) (views : List DeclaredView) (scope : Scope) (columns : ColumnKinds) (whole : AreWholeViews views) where
  framed_whole : (f : Option Frame) (e : Formula) → is_whole_form e ≡ true → is_whole_form (framed f e) ≡ true
  framed_whole None e h = h
  framed_whole (Some f) e h = h

  known_whole : (unknown : Option ℕ) (e : Formula) → is_whole_form e ≡ true → is_whole_form (where_known unknown e) ≡ true
  known_whole None e h = h
  known_whole (Some place) e h = refl

  module _ (u : UnknownColumn) where
    column_whole : (v : UnknownColumn) (k : Option Kind) (part column : ℕ) → is_whole_form (column_formula v k part column) ≡ true
    column_whole unknown_column.Null None part column = refl
    column_whole unknown_column.Null (Some k) part column = refl
    column_whole unknown_column.Kept None part column = refl
    column_whole unknown_column.Kept (Some k) part column = refl

    column_at_whole : (part : ℕ) (o : Option ℕ) → is_whole_form (column_at columns u part o) ≡ true
    column_at_whole part None = refl
    column_at_whole part (Some column) = column_whole u (known_kind columns part column) part column

    module _ (further : Place → Formula) (known : (place : Place) → is_whole_form (further place) ≡ true) where
      through_whole : (o : Option Found) → is_whole_form (through schema views scope columns u further o) ≡ true
      through_whole None = refl
      through_whole (Some found) =
          elim (ends views scope found.place) as (λ b. is_whole_form (if b then framed found.frame (further found.place) else null) ≡ true) [
            | true ↦ framed_whole found.frame (further found.place) (known found.place)
            | false ↦ refl
          ]

      meaning_whole : (w : Writer) (r : Reference) → is_whole_form (meaning schema views scope columns u further w r) ≡ true
      meaning_whole w (reference.Column name) = column_at_whole (part_of w) (column_named schema views scope (part_of w) name)
      meaning_whole w (reference.Own name) = through_whole (field_named views scope w sort.Dimension (reference.Own name))
      meaning_whole w (reference.Of view name) = through_whole (field_named views scope w sort.Dimension (reference.Of view name))

      meanings_whole : (w : Writer) (rs : List Reference) → Every is_whole_form (map (meaning schema views scope columns u further w) rs)
      meanings_whole w [] = refl
      meanings_whole w (r ∷ rs) =
          both (is_whole_form (meaning schema views scope columns u further w r)) (list_all is_whole_form (map (meaning schema views scope columns u further w) rs)) (meaning_whole w r) (meanings_whole w rs)

      expanded_whole : (w : Writer) (c : Code) → IsWholeCode c → is_whole_form (expanded schema views scope columns u (as_read columns) further w c) ≡ true
      expanded_whole w (code.Expr written) h =
          let by = map (meaning schema views scope columns u further w) written.references in
          known_whole written.unknown_call (read_in columns by written.expr)
          (dated_whole (kinds_in columns) (stands_at by) (λ p column. every-at is_whole_form by column (Literal value.Null) (meanings_whole w written.references) refl) written.expr h)
      expanded_whole w (code.Number written) h = refl
      expanded_whole w code.Absent h = refl
      expanded_whole w code.Liquid h = refl
      expanded_whole w (code.Syntax place) h = refl

      expanded_at : (place : Place) (o : Option DeclaredField) → field_at views scope place ≡ o → is_whole_form (expanded_field schema views scope columns u (as_read columns) further place.part o) ≡ true
      expanded_at place None is = refl
      expanded_at place (Some field) is = expanded_whole (writer.Field place.part) field.sql (placed_field IsWholeField views whole scope place field is).0

    within_whole : (n : ℕ) (place : Place) → is_whole_form (formula_within schema views scope columns u (as_read columns) n place) ≡ true
    within_whole zero place = refl
    within_whole (suc n) place = expanded_at (formula_within schema views scope columns u (as_read columns) n) (within_whole n) place (field_at views scope place) refl

    dated_of_whole : (place : Place) → is_whole_form (dated_of schema views scope columns u place) ≡ true
    dated_of_whole place = within_whole (length (all_places views scope)) place

    dated_in_whole : (w : Writer) (c : Code) → IsWholeCode c → is_whole_form (dated_in schema views scope columns u w c) ≡ true
    dated_in_whole w c h = expanded_whole (dated_of schema views scope columns u) dated_of_whole w c h

  kept_whole : (e read : Formula) → is_whole_form read ≡ true → is_whole_form (or_null (kept e read)) ≡ true
  kept_whole e read h =
      elim (nat_lt most_nodes (nodes_in e)) as (λ b. is_whole_form (or_null (if b then None else Some read)) ≡ true) [ true ↦ refl | false ↦ h ]

  pub field_formula_whole : (place : Place) → is_whole_form (field_formula schema views scope columns place) ≡ true
  field_formula_whole place =
      elim (ends views scope place) as (λ b. is_whole_form (or_null (expr_in (if b then Some (resolved_field schema views scope columns unknown_column.Kept place) else None))) ≡ true) [
        | true ↦ kept_whole (formula_of schema views scope columns unknown_column.Kept place) (dated_of schema views scope columns unknown_column.Kept place) (dated_of_whole unknown_column.Kept place)
        | false ↦ refl
      ]

  pub code_formula_whole : (w : Writer) (c : Code) → IsWholeCode c → is_whole_form (code_formula schema views scope columns w c) ≡ true
  code_formula_whole w c h =
      kept_whole (formula_in schema views scope columns unknown_column.Kept w c) (dated_in schema views scope columns unknown_column.Kept w c) (dated_in_whole unknown_column.Kept w c h)

  -- ---- the parts of the explore

  key_whole : (o : Option Place) → is_none_or_whole (option_map (field_formula schema views scope columns) o) ≡ true
  key_whole None = refl
  key_whole (Some place) = field_formula_whole place

  parts_whole : (n : ℕ) (parts : List ScopePart) → Every (λ part. is_none_or_whole part.key) (parts_from schema views scope columns n parts)
  parts_whole n [] = refl
  parts_whole n (part ∷ parts) =
      both (is_none_or_whole (key_formula schema views scope columns n)) (list_all (λ p. is_none_or_whole p.key) (parts_from schema views scope columns (n + 1) parts))
      (key_whole (key_of views scope n)) (parts_whole (n + 1) parts)

  found_whole : (found : Found) → is_whole_form (found_formula schema views scope columns found) ≡ true
  found_whole found = framed_whole found.frame (field_formula schema views scope columns found.place) (field_formula_whole found.place)

  key_condition_whole : (o : Option Found) (key : Option Place) → is_none_or_whole (key_condition schema views scope columns o key) ≡ true
  key_condition_whole None key = refl
  key_condition_whole (Some found) None = refl
  key_condition_whole (Some found) (Some key) =
      compared_whole (kinds_in columns) (found_formula schema views scope columns found) (field_formula schema views scope columns key) (found_whole found) (field_formula_whole key)

  by_key_whole : (part : ℕ) (o : Option (List ℕ)) → is_none_or_whole (condition_by_key schema views scope columns part o) ≡ true
  by_key_whole part None = refl
  by_key_whole part (Some name) = key_condition_whole (dimension_named views scope name) (key_of views scope part)

  condition_whole : (part : ℕ) (key : Option (List ℕ)) (c : Code) → IsWholeCode c → is_none_or_whole (condition_with schema views scope columns part key c) ≡ true
  condition_whole part key (code.Expr written) h = code_formula_whole writer.Explore (code.Expr written) h
  condition_whole part key (code.Number written) h = by_key_whole part key
  condition_whole part key code.Absent h = by_key_whole part key
  condition_whole part key code.Liquid h = by_key_whole part key
  condition_whole part key (code.Syntax place) h = by_key_whole part key

  on_whole : (k : JoinKind) (o : Option Formula) → is_none_or_whole o ≡ true → is_none_or_whole (on_with k o) ≡ true
  on_whole join_kind.Cross o h = refl
  on_whole join_kind.Left o h = h
  on_whole join_kind.Full o h = h
  on_whole join_kind.Inner o h = h

  joins_whole : (joins : List DeclaredJoin) (part : ℕ) (more : List DeclaredJoin) → AllByRecursion (λ join. IsWholeCode join.on) more
      → Every (λ join. is_none_or_whole join.on) (joins_from schema views scope columns joins part more)
  joins_whole joins part [] h = refl
  joins_whole joins part (join ∷ more) h =
      both (is_none_or_whole (join_with schema views scope columns joins part join).on) (list_all (λ j. is_none_or_whole j.on) (joins_from schema views scope columns joins (part + 1) more))
      (on_whole join.kind (condition_with schema views scope columns part join.foreign_key join.on) (condition_whole part join.foreign_key join.on h.0)) (joins_whole joins (part + 1) more h.1)

  fields_whole : (named : List NamedDimension) → Every (λ f. is_whole_form f.expr) (map (field_with schema views scope columns) named)
  fields_whole [] = refl
  fields_whole (d ∷ named) =
      both (is_whole_form (field_formula schema views scope columns d.found.place)) (list_all (λ f. is_whole_form f.expr) (map (field_with schema views scope columns) named))
      (field_formula_whole d.found.place) (fields_whole named)

  value_whole : (o : Op) (e : Formula) → is_whole_form e ≡ true → is_none_or_whole (value_if o e) ≡ true
  value_whole op.Count e h = refl
  value_whole op.Number e h = refl
  value_whole op.CountDistinct e h = h
  value_whole op.Min e h = h
  value_whole op.Max e h = h
  value_whole op.Sum e h = h
  value_whole op.Average e h = h
  value_whole op.SumDistinct e h = h
  value_whole op.AverageDistinct e h = h

  own_key_whole : (o : Op) (e : Formula) → is_whole_form e ≡ true → is_none_or_whole (key_if o e) ≡ true
  own_key_whole op.SumDistinct e h = h
  own_key_whole op.AverageDistinct e h = h
  own_key_whole op.Count e h = refl
  own_key_whole op.Number e h = refl
  own_key_whole op.CountDistinct e h = refl
  own_key_whole op.Min e h = refl
  own_key_whole op.Max e h = refl
  own_key_whole op.Sum e h = refl
  own_key_whole op.Average e h = refl

  number_whole : (part : ℕ) (c : Code) → IsWholeCode c → is_none_or_whole_calculation (number_with views scope part c) ≡ true
  number_whole part (code.Number written) h = renumbered_whole _ written.expr ∙ h
  number_whole part (code.Expr written) h = refl
  number_whole part code.Absent h = refl
  number_whole part code.Liquid h = refl
  number_whole part (code.Syntax place) h = refl

  abbrev is_whole_measure : Measure → Bool
  is_whole_measure m = is_none_or_whole m.value && is_none_or_whole m.key && is_none_or_whole_calculation m.number

  measure_whole : (m : NamedMeasure) (field : DeclaredField) → IsWholeField field → is_whole_measure (measure_with schema views scope columns m field) ≡ true
  measure_whole m field h =
      let made = measure_with schema views scope columns m field in
      both (is_none_or_whole made.value && is_none_or_whole made.key) (is_none_or_whole_calculation made.number)
      (both (is_none_or_whole made.value) (is_none_or_whole made.key)
      (value_whole made.op (field_formula schema views scope columns m.place) (field_formula_whole m.place))
      (own_key_whole made.op (code_formula schema views scope columns (writer.Field m.place.part) field.key) (code_formula_whole (writer.Field m.place.part) field.key h.1)))
      (number_whole m.place.part field.sql h.0)

  measure_if_whole : (m : NamedMeasure) (o : Option DeclaredField) → field_at views scope m.place ≡ o → Every is_whole_measure (measure_if schema views scope columns m o)
  measure_if_whole m None is = refl
  measure_if_whole m (Some field) is =
      both (is_whole_measure (measure_with schema views scope columns m field)) true (measure_whole m field (placed_field IsWholeField views whole scope m.place field is)) refl

  measures_whole : (named : List NamedMeasure) → Every is_whole_measure (flat_map (measure_at schema views scope columns) named)
  measures_whole [] = refl
  measures_whole (m ∷ named) =
      every-append is_whole_measure (measure_at schema views scope columns m) (flat_map (measure_at schema views scope columns) named)
      (measure_if_whole m (field_at views scope m.place) refl) (measures_whole named)

  where_whole : (filters : List ExploreFilter) → AllByRecursion IsWholeFilter filters → is_none_or_whole (where_with schema views scope columns (first_where filters)) ≡ true
  where_whole [] h = refl
  where_whole (explore_filter.Where c first ∷ filters) h = of_code c h.0
    where
      of_code : (d : Code) → IsWholeCode d → is_none_or_whole (where_with schema views scope columns (Some d)) ≡ true
      of_code (code.Expr written) k = code_formula_whole writer.Explore (code.Expr written) k
      of_code (code.Number written) k = refl
      of_code code.Absent k = refl
      of_code code.Liquid k = refl
      of_code (code.Syntax place) k = refl
  where_whole (explore_filter.Always f ∷ filters) h = where_whole filters h.1
  where_whole (explore_filter.Access f ∷ filters) h = where_whole filters h.1

  -- all of it
  pub explore_whole : (datagroup : Option (List ℕ) → ℕ) (x : DeclaredExplore) → IsWholeExplore x → has_whole_forms (explore_of schema views scope columns datagroup x) ≡ true
  explore_whole datagroup x h =
      let keys = list_all (λ (part : Part). is_none_or_whole part.key) (parts_from schema views scope columns 0 scope.parts) in
      let joins = list_all (λ (join : Join). is_none_or_whole join.on) (joins_from schema views scope columns x.joins 1 x.joins) in
      let all_fields = list_all (λ (f : Field). is_whole_form f.expr) (fields schema views scope columns) in
      let all = list_all is_whole_measure (all_measures schema views scope columns) in
      both (keys && joins && all_fields && all) (is_none_or_whole (where_with schema views scope columns (first_where x.filters)))
      (both (keys && joins && all_fields) all
      (both (keys && joins) all_fields (both keys joins (parts_whole 0 scope.parts) (joins_whole x.joins 1 x.joins h.0)) (fields_whole (dimensions views scope)))
      (measures_whole (measures views scope)))
      (where_whole x.filters h.1)
