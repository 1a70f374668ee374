-- Where each column that a name means has its kind in the model, expressions have the kinds that were tested.
use Rattle.std.proofs.Common.{◌≡◌, ◌∙◌, ℕ, zero, suc, Bool, true, false, List, [], ◌∷◌, map, length, refl, ap, sym, subst, Option, Some, None}
use Rattle.std.specs.Prelude.{if◌then◌else◌, nat_lt, not}
use Rattle.std.specs.List.{AllByRecursion, list_all, list_any}
use Rattle.lk_val.specs.declared.value.Value.TheVariants as value
use Rattle.lk_types.specs.Dates.{are_literals_dated}
use Rattle.lk_types.specs.Formula.{Formula, Literal}
use Rattle.lk_types.specs.Kinds.{every_kind, has_kind, kind_at, kinds_of, kinds_of_column}
use Rattle.lk_types.specs.declared.kind_set.Leaves.{Leaves}
use Rattle.lk_types.specs.declared.schema.Frame.{Frame}
use Rattle.lk_types.specs.declared.schema.Kind.{Kind}
use Rattle.lk_types.specs.declared.schema.Kind.TheVariants as kind
use Rattle.lk_types.specs.declared.schema.Schema.{Schema}
use Rattle.lk_objects.specs.declared.code.Code.{Code}
use Rattle.lk_objects.specs.declared.code.Code.TheVariants as code
use Rattle.lk_objects.specs.declared.code.Reference.{Reference}
use Rattle.lk_objects.specs.declared.code.Reference.TheVariants as reference
use Rattle.lk_objects.specs.declared.explore.ExploreFilter.{ExploreFilter}
use Rattle.lk_objects.specs.declared.explore.ExploreFilter.TheVariants as explore_filter
use Rattle.lk_objects.specs.declared.field.DeclaredField.{DeclaredField}
use Rattle.lk_objects.specs.declared.field.DimensionType.{DimensionType}
use Rattle.lk_objects.specs.declared.field.FieldSort.TheVariants as field_sort
use Rattle.lk_objects.specs.declared.view.DeclaredView.{DeclaredView}
use Rattle.lk_params.specs.declared.number.Number.TheVariants.{N15, E3}
use Rattle.lk_dated.specs.Dated.{stands_at}
use Rattle.lk_dated.specs.FormulaKinds.{kinds_by}
use Rattle.lk_dated.proofs.KindLaws.{as_known}
use Rattle.lk_fields.specs.declared.scope.Found.{Found}
use Rattle.lk_fields.specs.declared.scope.Place.{Place}
use Rattle.lk_fields.specs.declared.scope.Scope.{Scope}
use Rattle.lk_fields.specs.declared.scope.Sort.TheVariants as sort
use Rattle.lk_fields.specs.declared.scope.Writer.{Writer}
use Rattle.lk_fields.specs.declared.scope.Writer.TheVariants as writer
use Rattle.lk_fields.specs.Existing.{all_places, exists, field_at, referred}
use Rattle.lk_fields.specs.Substituted.{nodes_in}
use Rattle.lk_formulas.specs.declared.columns.ColumnKinds.{ColumnKinds}
use Rattle.lk_formulas.specs.declared.columns.UnknownColumn.{UnknownColumn}
use Rattle.lk_formulas.specs.declared.columns.UnknownColumn.TheVariants.{Kept, Null}
use Rattle.lk_formulas.specs.Columns.{column_named, known_kind}
use Rattle.lk_formulas.specs.FieldKinds.{field_clashes, field_kinds, key_clashes, is_number, kind_of_type, misses_kind, or_text, sort_clashes, takes_no_number}
use Rattle.lk_formulas.specs.FormulaKinds.{kinds_in}
use Rattle.lk_formulas.specs.Formulas.{as_read, column_at, column_formula, dated_in, dated_of, ends, expanded, expanded_field, field_named, formula_in, formula_of, formula_within, framed, meaning, part_of, read_in, through, where_known}
use Rattle.lk_formulas.specs.Resolved.{kept, most_nodes, resolved_field, resolved_in}
use Rattle.lk_field_faults.specs.Expressions.{expression_line, is_large, is_over, number_with}
use Rattle.lk_field_faults.specs.ExploreFields.{explore_fields_fault}
use Rattle.lk_explore_faults.specs.Conditions.{condition_number, filter_condition_line, where_number}
use Rattle.lk_semantics.specs.Resolved.{is_none_or_typed, is_typed}
use Rattle.lk_semantics.proofs.EveryLaws.{Every, both, first, second}
use Rattle.lk_resolved.specs.Explores.{first_where, where_with}
use Rattle.lk_resolved.specs.Formulas.{code_formula, expr_in, field_formula, or_null}
use Rattle.lk_model_laws.proofs.CycleLaws.{expression_clear, fields_end}
use Rattle.lk_model_laws.proofs.DatedCodeLaws.{HasDatedCodes, IsDatedCode}
use Rattle.lk_model_laws.proofs.DatedLiteralLaws.{read_dated}
use Rattle.lk_model_laws.proofs.PieceLaws.{none_map, some_none}
use Rattle.lk_model_laws.proofs.SameFormulaLaws.{same_dated, same_dated_in}
use Rattle.lk_model_laws.proofs.TierLaws.{or_first}
use Rattle.lk_model_laws.proofs.ViewObjectLaws.{not_false}
use Rattle.lk_model_laws.proofs.WholeExploreLaws.{placed_field}

-- ---- what has no number of a fault

pub truth_given : (nodes : ℕ) (is_truth : Bool) → condition_number nodes is_truth ≡ None → is_truth ≡ true
truth_given nodes is_truth h = of_over (is_over nodes) is_truth h
  where
    of_over : (over t : Bool) → (if over then Some N15 else if t then None else Some E3) ≡ None → t ≡ true
    of_over true t h = absurd (some_none h)
    of_over false true h = refl
    of_over false false h = absurd (some_none h)

pub no_clash : (large clash : Bool) → (if large then Some N15 else if clash then Some E3 else None) ≡ None → clash ≡ false
no_clash true clash h = absurd (some_none h)
no_clash false true h = absurd (some_none h)
no_clash false false h = refl

null_typed : (leaves : Leaves) (k : Kind) → is_typed leaves k (Literal value.Null) ≡ true
null_typed leaves kind.Text = refl
null_typed leaves kind.Number = refl
null_typed leaves kind.Truth = refl
null_typed leaves kind.Day = refl
null_typed leaves kind.Moment = refl

listed_dated : (by : List Formula) → Every are_literals_dated by → (p c : ℕ) → are_literals_dated (stands_at by p c) ≡ true
listed_dated [] h p c = refl
listed_dated (e ∷ by) h p zero = first (are_literals_dated e) (list_all are_literals_dated by) h
listed_dated (e ∷ by) h p (suc c) = listed_dated by (second (are_literals_dated e) (list_all are_literals_dated by) h) p c

abbrev pub IsDatedFilter : ExploreFilter → Type 0
IsDatedFilter (explore_filter.Where c fault) = IsDatedCode c
IsDatedFilter (explore_filter.Always f) = Unit {0}
IsDatedFilter (explore_filter.Access f) = Unit {0}

-- ---- literals of formulas

module _ (schema : Schema) (views : List DeclaredView) (scope : Scope) (columns : ColumnKinds) (codes : AllByRecursion (λ v. AllByRecursion HasDatedCodes v.fields) views) (u : UnknownColumn) where
  column_dated : (v : UnknownColumn) (k : Option Kind) (part column : ℕ) → are_literals_dated (column_formula v k part column) ≡ true
  column_dated Null None part column = refl
  column_dated Null (Some k) part column = refl
  column_dated Kept None part column = refl
  column_dated Kept (Some k) part column = refl

  column_at_dated : (part : ℕ) (o : Option ℕ) → are_literals_dated (column_at columns u part o) ≡ true
  column_at_dated part None = refl
  column_at_dated part (Some column) = column_dated u (known_kind columns part column) part column

  framed_dated : (f : Option Frame) (e : Formula) → are_literals_dated e ≡ true → are_literals_dated (framed f e) ≡ true
  framed_dated None e h = h
  framed_dated (Some f) e h = h

  known_dated : (unknown : Option ℕ) (e : Formula) → are_literals_dated e ≡ true → are_literals_dated (where_known unknown e) ≡ true
  known_dated None e h = h
  known_dated (Some place) e h = refl

  module _ (further : Place → Formula) (dated : (place : Place) → are_literals_dated (further place) ≡ true) where
    through_dated : (o : Option Found) → are_literals_dated (through schema views scope columns u further o) ≡ true
    through_dated None = refl
    through_dated (Some found) =
        elim (ends views scope found.place) as (λ b. are_literals_dated (if b then framed found.frame (further found.place) else Literal value.Null) ≡ true) [
          | true ↦ framed_dated found.frame (further found.place) (dated found.place)
          | false ↦ refl
        ]

    meaning_dated : (w : Writer) (r : Reference) → are_literals_dated (meaning schema views scope columns u further w r) ≡ true
    meaning_dated w (reference.Column name) = column_at_dated (part_of w) (column_named schema views scope (part_of w) name)
    meaning_dated w (reference.Own name) = through_dated (field_named views scope w sort.Dimension (reference.Own name))
    meaning_dated w (reference.Of view name) = through_dated (field_named views scope w sort.Dimension (reference.Of view name))

    meanings_dated : (w : Writer) (rs : List Reference) → Every are_literals_dated (map (meaning schema views scope columns u further w) rs)
    meanings_dated w [] = refl
    meanings_dated w (r ∷ rs) =
        both (are_literals_dated (meaning schema views scope columns u further w r)) (list_all are_literals_dated (map (meaning schema views scope columns u further w) rs)) (meaning_dated w r) (meanings_dated w rs)

    expanded_dated : (w : Writer) (c : Code) → IsDatedCode c → are_literals_dated (expanded schema views scope columns u (as_read columns) further w c) ≡ true
    expanded_dated w (code.Expr written) h =
        let by = map (meaning schema views scope columns u further w) written.references in
        known_dated written.unknown_call (read_in columns by written.expr) (read_dated (kinds_in columns) (stands_at by) (listed_dated by (meanings_dated w written.references)) written.expr h)
    expanded_dated w (code.Number written) h = refl
    expanded_dated w code.Absent h = refl
    expanded_dated w code.Liquid h = refl
    expanded_dated w (code.Syntax place) h = refl

    field_dated : (place : Place) (o : Option DeclaredField) → field_at views scope place ≡ o → are_literals_dated (expanded_field schema views scope columns u (as_read columns) further place.part o) ≡ true
    field_dated place None at = refl
    field_dated place (Some field) at = expanded_dated (writer.Field place.part) field.sql (placed_field HasDatedCodes views codes scope place field at).0

  within_dated : (n : ℕ) (place : Place) → are_literals_dated (formula_within schema views scope columns u (as_read columns) n place) ≡ true
  within_dated zero place = refl
  within_dated (suc n) place = field_dated (formula_within schema views scope columns u (as_read columns) n) (within_dated n) place (field_at views scope place) refl

  pub of_field_dated : (place : Place) → are_literals_dated (dated_of schema views scope columns u place) ≡ true
  of_field_dated place = within_dated (length (all_places views scope)) place

  pub of_code_dated : (w : Writer) (c : Code) → IsDatedCode c → are_literals_dated (dated_in schema views scope columns u w c) ≡ true
  of_code_dated w c h = expanded_dated (dated_of schema views scope columns u) of_field_dated w c h

-- ---- kinds

module _ (schema : Schema) (views : List DeclaredView) (scope : Scope) (columns : ColumnKinds) (leaves : Leaves)
    (known : (p : ℕ) (name : List ℕ) (c : ℕ) → column_named schema views scope p name ≡ Some c → (k : Kind) × (known_kind columns p c ≡ Some k))
    (same : (p c : ℕ) → known_kind columns p c ≡ kind_at leaves p c)
    (codes : AllByRecursion (λ v. AllByRecursion HasDatedCodes v.fields) views) where
  -- the kinds of an expression are those of the model
  pub kinds_agree : (e : Formula) → kinds_in columns e ≡ kinds_of leaves e
  kinds_agree e = (λ i. kinds_by (λ p c. kinds_of_column (same p c i)) e) ∙ as_known leaves e

  kept_typed : (k : Kind) (e read : Formula) → has_kind k (kinds_of leaves read) ≡ true → are_literals_dated read ≡ true → is_typed leaves k (or_null (kept e read)) ≡ true
  kept_typed k e read h d =
      elim (nat_lt most_nodes (nodes_in e)) as (λ b. is_typed leaves k (or_null (if b then None else Some read)) ≡ true) [
        | true ↦ null_typed leaves k
        | false ↦ both (has_kind k (kinds_of leaves read)) (are_literals_dated read) h d
      ]

  -- a code of the tested kind
  pub code_typed : (k : Kind) (w : Writer) (c : Code) → IsDatedCode c → has_kind k (kinds_in columns (dated_in schema views scope columns Null w c)) ≡ true
      → is_typed leaves k (code_formula schema views scope columns w c) ≡ true
  code_typed k w c d h =
      kept_typed k (formula_in schema views scope columns Kept w c) (dated_in schema views scope columns Kept w c)
      (ap (has_kind k) (sym (kinds_agree (dated_in schema views scope columns Kept w c))) ∙ ap (λ e. has_kind k (kinds_in columns e)) (sym (same_dated_in schema views scope columns known w c)) ∙ h)
      (of_code_dated schema views scope columns codes Kept w c d)

  -- a field of the tested kind
  pub field_typed : (k : Kind) (place : Place) → ends views scope place ≡ true → has_kind k (kinds_in columns (dated_of schema views scope columns Null place)) ≡ true
      → is_typed leaves k (field_formula schema views scope columns place) ≡ true
  field_typed k place end h =
      ap (λ b. is_typed leaves k (or_null (expr_in (if b then Some (resolved_field schema views scope columns Kept place) else None)))) end
      ∙ kept_typed k (formula_of schema views scope columns Kept place) (dated_of schema views scope columns Kept place)
      (ap (has_kind k) (sym (kinds_agree (dated_of schema views scope columns Kept place))) ∙ ap (λ e. has_kind k (kinds_in columns e)) (sym (same_dated schema views scope columns known place)) ∙ h)
      (of_field_dated schema views scope columns codes Kept place)

  -- the default condition is a truth value
  pub where_typed : (name : List ℕ) (filters : List ExploreFilter) → AllByRecursion IsDatedFilter filters → AllByRecursion (λ f. filter_condition_line schema views scope columns name f ≡ None) filters
      → is_none_or_typed leaves kind.Truth (where_with schema views scope columns (first_where filters)) ≡ true
  where_typed name [] d h = refl
  where_typed name (explore_filter.Always f ∷ filters) d h = where_typed name filters d.1 h.1
  where_typed name (explore_filter.Access f ∷ filters) d h = where_typed name filters d.1 h.1
  where_typed name (explore_filter.Where c fault ∷ filters) d h = of_code c d.0 (none_map (expression_line name) (where_number schema views scope columns c) h.0)
    where
      of_code : (c : Code) → IsDatedCode c → where_number schema views scope columns c ≡ None → is_none_or_typed leaves kind.Truth (where_with schema views scope columns (Some c)) ≡ true
      of_code (code.Expr written) d none =
          let told = resolved_in schema views scope columns Null writer.Explore (code.Expr written) in
          code_typed kind.Truth writer.Explore (code.Expr written) d (truth_given told.size told.kinds.truth none)
      of_code (code.Number written) d none = refl
      of_code code.Absent d none = refl
      of_code code.Liquid d none = refl
      of_code (code.Syntax place) d none = refl

  -- a dimension is of the kind of its type
  module _ (clear : explore_fields_fault schema views scope columns ≡ None) where
    pub unclashing : (place : Place) (field : DeclaredField) → field_at views scope place ≡ Some field → exists views scope place ≡ true → sort_clashes schema views scope columns Null place field ≡ false
    unclashing place field at there =
        let told = resolved_field schema views scope columns Null place in
        let number : number_with schema views scope columns place field (Some told) ≡ None =
        ap (λ b. number_with schema views scope columns place field (if b then Some told else None)) (sym (fields_end schema views scope columns clear place there)) ∙ expression_clear schema views scope columns clear place field at there in
        or_first (sort_clashes schema views scope columns Null place field) (key_clashes schema views scope columns Null place.part field.key)
        (no_clash (is_large schema views scope columns place field told.size) (field_clashes schema views scope columns Null place field) number)

    pub dimension_typed : (place : Place) (field : DeclaredField) (t : Option DimensionType) → field_at views scope place ≡ Some field → exists views scope place ≡ true → field.sort ≡ field_sort.Dimension t
        → is_typed leaves (or_text (kind_of_type t)) (field_formula schema views scope columns place) ≡ true
    dimension_typed place field t at there is =
        let end = fields_end schema views scope columns clear place there in
        let kinds = kinds_in columns (dated_of schema views scope columns Null place) in
        let k = or_text (kind_of_type t) in
        let missed : misses_kind (field_sort.Dimension t) (field_kinds schema views scope columns Null place) ≡ false =
        subst (λ z. (if is_number z then list_any (takes_no_number schema views scope columns Null) (referred views scope place.part field) else misses_kind z (field_kinds schema views scope columns Null place)) ≡ false) is (unclashing place field at there) in
        field_typed k place end (not_false (has_kind k kinds) (sym (ap (λ b. not (has_kind k (if b then kinds else every_kind))) end) ∙ missed))
