-- What is told of referents is what is told of the formulas that they stand for.
use Rattle.std.proofs.Common.{◌≡◌, ℕ, ◌+◌, ◌-◌, ◌^◌, ◌<◌, ◌≤◌, Bool, true, false, ◌&&◌, List, [], ◌∷◌, length, map, min, Option, Some, None, refl, sym, ap, ◌∙◌, inl, inr, subst, arith}
use Rattle.std.specs.Prelude.{◌⊎◌, if◌then◌else◌, nat_lt, option_map, zero, suc}
use Rattle.std.specs.List.{list_all}
use Rattle.std.specs.Option.{option_and_then}
use Rattle.lk_types.specs.Formula.{Formula}
use Rattle.lk_types.specs.Kinds.{every_kind, is_empty, kinds_of_column}
use Rattle.lk_types.specs.declared.schema.Frame.{Frame}
use Rattle.lk_types.specs.declared.schema.Kind.{Kind}
use Rattle.lk_types.specs.declared.schema.Schema.{Schema}
use Rattle.lk_objects.specs.declared.code.Code.{Code}
use Rattle.lk_objects.specs.declared.code.Code.TheVariants as code
use Rattle.lk_objects.specs.declared.code.Reference.{Reference}
use Rattle.lk_objects.specs.declared.code.Reference.TheVariants as reference
use Rattle.lk_objects.specs.declared.code.Written.{Written}
use Rattle.lk_objects.specs.declared.code.WrittenNumber.{WrittenNumber}
use Rattle.lk_objects.specs.declared.view.DeclaredView.{DeclaredView}
use Rattle.lk_fields.specs.declared.scope.Found.{Found}
use Rattle.lk_fields.specs.declared.scope.Place.{Place}
use Rattle.lk_fields.specs.declared.scope.Scope.{Scope}
use Rattle.lk_fields.specs.declared.scope.Sort.{Sort}
use Rattle.lk_fields.specs.declared.scope.Sort.TheVariants as sort
use Rattle.lk_fields.specs.declared.scope.Writer.{Writer}
use Rattle.lk_fields.specs.declared.scope.Writer.TheVariants as writer
use Rattle.lk_fields.specs.Existing.{all_places, field_at}
use Rattle.lk_fields.specs.Rows.{number_of}
use Rattle.lk_fields.specs.Substituted.{nodes_in, replacement, told_nodes}
use Rattle.lk_dated.specs.Dated.{stands_at, text_of}
use Rattle.lk_dated.specs.Sides.{no_literal, readings_of, readings_of_text, side_of}
use Rattle.lk_formulas.specs.declared.columns.ColumnKinds.{ColumnKinds}
use Rattle.lk_formulas.specs.declared.columns.UnknownColumn.{UnknownColumn}
use Rattle.lk_formulas.specs.declared.columns.UnknownColumn.TheVariants as unknown_column
use Rattle.lk_formulas.specs.declared.referent.Referent.{Referent}
use Rattle.lk_formulas.specs.declared.resolved.ResolvedCode.{ResolvedCode}
use Rattle.lk_formulas.specs.declared.resolved.ResolvedField.{ResolvedField}
use Rattle.lk_formulas.specs.Columns.{column_named, known_kind}
use Rattle.lk_formulas.specs.FieldKinds.{field_kinds, is_sure, key_clashes}
use Rattle.lk_formulas.specs.FormulaKinds.{kinds_at, kinds_in}
use Rattle.lk_formulas.specs.Formulas.{column_at, column_formula, dated_of, ends, field_named, formula_of, framed, is_certain, is_known, knows, knows_through, meaning, null, part_of, put_in, read_in, through}
use Rattle.lk_formulas.specs.NumberSizes.{nodes_meant, nodes_of_code, nodes_of_field, nodes_through, number_nodes, number_nodes_within, told}
use Rattle.lk_formulas.specs.Referents.{AreTold, column_kinds, column_referent, field_numbered, field_referent, formula_framed, formula_of_referent, formula_through, is_certain_referent, is_certain_through, kept_side_of, kept_side_through, number_size_of, number_size_through, numbered_referent, referent_of, side_framed, side_if, side_of_referent, side_through, size_of, size_through}
use Rattle.lk_formulas.specs.Resolved.{code_told, field_kept, field_told, kept, most_nodes, resolved, resolved_field, resolved_in}
use Rattle.lk_formulas.specs.Told.{AreAllTold, IsTold, is_sure_kept, kinds_kept}
use Rattle.lk_formulas.proofs.LargeLaws.{same}
use Rattle.lk_formulas.proofs.LiteralLaws.{IsSmall, formula_small}

-- ---- an expression with formulas put in

told_test : (k n m : ℕ) → k < m → nat_lt k (min n m) ≡ nat_lt k n
told_test k n m h = grind arith

at_most : (k n : ℕ) → nat_lt k n ≡ false → n ≤ k
at_most k n h = grind arith

pub expr_told : (columns : ColumnKinds) (by read xs : List Formula) (e : Formula) (size : ℕ) → size ≡ told_nodes (put_in by e)
    → ((i : ℕ) → (replacement read i ≡ replacement xs i) ⊎ (most_nodes < nodes_in (replacement by i)))
    → (if nat_lt most_nodes size then None else Some (read_in columns xs e)) ≡ kept (put_in by e) (read_in columns read e)
expr_told columns by read xs e size is near =
    let n = nodes_in (put_in by e) in
    ap (λ m. if nat_lt most_nodes m then None else Some (read_in columns xs e)) is
    ∙ ap (λ b. if b then None else Some (read_in columns xs e)) (told_test most_nodes n (2 ^ 64 - 1) (omega arith))
    ∙ elim (nat_lt most_nodes n) as (λ b. nat_lt most_nodes n ≡ b → (if b then None else Some (read_in columns xs e)) ≡ (if b then None else Some (read_in columns read e))) [
      | true ↦ λ h. refl
      | false ↦ λ h. ap (λ x. Some x) (sym (same (kinds_in columns) (replacement by) (stands_at read) (stands_at xs) most_nodes (λ p i. near i) e (at_most most_nodes n h)))
    ] refl

-- null in place of an expression
pub null_told : (e : Formula) (size : ℕ) → size ≡ told_nodes e → (if nat_lt most_nodes size then None else Some null) ≡ kept e null
null_told e size is =
    ap (λ m. if nat_lt most_nodes m then None else Some null) is
    ∙ ap (λ b. if b then None else Some null) (told_test most_nodes (nodes_in e) (2 ^ 64 - 1) (omega arith))

-- ---- a column

module _ (columns : ColumnKinds) (u : UnknownColumn) (fields : List (Option ResolvedField)) (part : ℕ) where
  column_size : (v : UnknownColumn) (k : Option Kind) (column : ℕ) → 1 ≡ told_nodes (column_formula v k part column)
  column_size unknown_column.Null None column = refl
  column_size unknown_column.Null (Some k) column = refl
  column_size unknown_column.Kept k column = refl

  pub size_column : (c : Option ℕ) → size_of fields (column_referent part c) ≡ told_nodes (column_at columns u part c)
  size_column None = refl
  size_column (Some column) = column_size u (known_kind columns part column) column

  column_side : (v : UnknownColumn) (k : Option Kind) (column : ℕ) → known_kind columns part column ≡ k → no_literal (column_kinds v k) ≡ side_of (kinds_at columns) (column_formula v k part column)
  column_side unknown_column.Null None column is = refl
  column_side unknown_column.Null (Some k) column is = ap (λ o. no_literal (kinds_of_column o)) (sym is)
  column_side unknown_column.Kept None column is = ap (λ o. no_literal (kinds_of_column o)) (sym is)
  column_side unknown_column.Kept (Some k) column is = ap (λ o. no_literal (kinds_of_column o)) (sym is)

  pub side_column : (c : Option ℕ) → side_of_referent columns u fields (column_referent part c) ≡ side_of (kinds_at columns) (column_at columns u part c)
  side_column None = refl
  side_column (Some column) = column_side u (known_kind columns part column) column refl

  pub kept_side_column : (c : Option ℕ)
      → kept_side_of columns u fields (column_referent part c) ≡ side_of (kinds_at columns) (formula_of_referent columns u fields (column_referent part c))
  kept_side_column None = refl
  kept_side_column (Some column) = column_side u (known_kind columns part column) column refl

  pub certain_column : (c : Option ℕ) → is_certain_referent columns fields (column_referent part c) ≡ is_known columns part c
  certain_column None = refl
  certain_column (Some column) = refl

  pub formula_column : (c : Option ℕ) → column_at columns u part c ≡ formula_of_referent columns u fields (column_referent part c)
  formula_column None = refl
  formula_column (Some column) = refl

  pub number_column : (c : Option ℕ) → number_size_of fields (column_referent part c) ≡ 1
  number_column None = refl
  number_column (Some column) = refl

-- ---- a field: what is kept at its number, and what is told of it

abbrev pub code_of : ResolvedField → ResolvedCode
code_of field = field.code

module _ (columns : ColumnKinds) (u : UnknownColumn) (fields : List (Option ResolvedField)) (f : Option Frame) where
  size_at : (k : Option ℕ) → size_of fields (numbered_referent f k) ≡ size_through f (option_map code_of (option_and_then (field_numbered fields) k))
  size_at None = refl
  size_at (Some n) = refl

  side_at : (k : Option ℕ) → side_of_referent columns u fields (numbered_referent f k) ≡ side_through f (option_map code_of (option_and_then (field_numbered fields) k))
  side_at None = refl
  side_at (Some n) = refl

  kept_side_at : (k : Option ℕ) → kept_side_of columns u fields (numbered_referent f k) ≡ kept_side_through f (option_map code_of (option_and_then (field_numbered fields) k))
  kept_side_at None = refl
  kept_side_at (Some n) = refl

  certain_at : (k : Option ℕ) → is_certain_referent columns fields (numbered_referent f k) ≡ is_certain_through (option_map code_of (option_and_then (field_numbered fields) k))
  certain_at None = refl
  certain_at (Some n) = refl

  formula_at : (k : Option ℕ) → formula_of_referent columns u fields (numbered_referent f k) ≡ formula_through f (option_map code_of (option_and_then (field_numbered fields) k))
  formula_at None = refl
  formula_at (Some n) = refl

  number_at : (k : Option ℕ) → number_size_of fields (numbered_referent f k) ≡ number_size_through (option_and_then (field_numbered fields) k)
  number_at None = refl
  number_at (Some n) = refl

told_more : (n m : ℕ) → min (min n m + 1) m ≡ min (1 + n) m
told_more n m = grind arith

too_small : (n : ℕ) → nat_lt most_nodes n ≡ true → n ≤ 1 → ⊥
too_small n h small = grind arith

-- what a formula writes, which is no text literal where it is too large
kept_readings : (form read : Formula) → IsSmall form read → option_and_then readings_of (kept form read) ≡ readings_of read
kept_readings form read small =
    elim (nat_lt most_nodes (nodes_in form)) as (λ b. nat_lt most_nodes (nodes_in form) ≡ b → option_and_then readings_of (if b then None else Some read) ≡ readings_of read) [
      | true ↦ λ h.
          elim (text_of read) as (λ o. text_of read ≡ o → None ≡ option_map readings_of_text o) [
            | None ↦ λ _. refl
            | Some text ↦ λ e. absurd (too_small (nodes_in form) h (small text e))
          ] refl
      | false ↦ λ h. refl
    ] refl

module _ (columns : ColumnKinds) (form read : Formula) (certain : Bool) (number : ℕ) where
  abbrev told_if : Bool → Option ResolvedField
  told_if e = if e then Some (record { code = resolved columns form read certain; number_size = number }) else None

  size_if : (f : Option Frame) (e : Bool) → size_through f (option_map code_of (told_if e)) ≡ told_nodes (if e then framed f form else null)
  size_if None true = refl
  size_if (Some f) true = told_more (nodes_in form) (2 ^ 64 - 1)
  size_if None false = refl
  size_if (Some f) false = refl

  side_if_told : (f : Option Frame) (e : Bool) → IsSmall form read → side_through f (option_map code_of (told_if e)) ≡ side_of (kinds_at columns) (if e then framed f read else null)
  side_if_told None true small = λ i. record { kinds = kinds_in columns read; literal = kept_readings form read small i }
  side_if_told (Some f) true small = refl
  side_if_told None false small = refl
  side_if_told (Some f) false small = refl

  framed_side : (f : Option Frame) → side_framed f (side_of (kinds_at columns) read) ≡ side_of (kinds_at columns) (framed f read)
  framed_side None = refl
  framed_side (Some f) = refl

  kept_if_told : (f : Option Frame) (e : Bool) → kept_side_through f (option_map code_of (told_if e)) ≡ side_of (kinds_at columns) (formula_through f (option_map code_of (told_if e)))
  kept_if_told f true =
      elim (nat_lt most_nodes (nodes_in form)) as (λ b. side_if (if b then None else Some read) (side_framed f (record { kinds = kinds_in columns read; literal = option_and_then readings_of (if b then None else Some read) })) ≡ side_of (kinds_at columns) (formula_framed f (if b then None else Some read))) [
        | true ↦ refl
        | false ↦ framed_side f
      ]
  kept_if_told f false = refl

  certain_if : (e : Bool) → is_certain_through (option_map code_of (told_if e)) ≡ (e && certain)
  certain_if true = refl
  certain_if false = refl

  larger : (f : Option Frame) → nat_lt most_nodes (nodes_in form) ≡ true → most_nodes < nodes_in (framed f form)
  larger None h = grind arith
  larger (Some f) h = grind arith

  formula_if : (f : Option Frame) (e : Bool)
      → ((if e then framed f read else null) ≡ formula_through f (option_map code_of (told_if e))) ⊎ (most_nodes < nodes_in (if e then framed f form else null))
  formula_if f true =
      elim (nat_lt most_nodes (nodes_in form)) as (λ b. nat_lt most_nodes (nodes_in form) ≡ b → (framed f read ≡ formula_framed f (if b then None else Some read)) ⊎ (most_nodes < nodes_in (framed f form))) [
        | true ↦ λ h. inr (larger f h)
        | false ↦ λ h. inl refl
      ] refl
  formula_if f false = inl refl

number_if_told : (code : ResolvedCode) (e : Bool) (n : ℕ) → (e ≡ false → n ≡ 1)
    → number_size_through (if e then Some (record { code = code; number_size = told n }) else None) ≡ told n
number_if_told code true n one = refl
number_if_told code false n one = ap told (sym (one refl))

-- ---- the references of a text

module _ (schema : Schema) (views : List DeclaredView) (scope : Scope) (columns : ColumnKinds) (u : UnknownColumn) (places : List Place) (fields : List (Option ResolvedField)) where
  abbrev formulas : Place → Formula
  formulas place = formula_of schema views scope columns u place

  abbrev reads : Place → Formula
  reads place = dated_of schema views scope columns u place

  abbrev certain : Place → Bool
  certain place = is_certain schema views scope columns u place

  abbrev numbers : Place → ℕ
  numbers place = number_nodes views scope place

  abbrev told_of : Place → Option ResolvedField
  told_of place = field_told schema views scope columns u place

  abbrev Told : Option Found → Type 0
  Told found = IsTold schema views scope columns u places fields found

  abbrev reached : Option Found → Formula
  reached found = through schema views scope columns u formulas found

  abbrev reached_read : Option Found → Formula
  reached_read found = through schema views scope columns u reads found

  size_found : (found : Option Found) → Told found → size_of fields (field_referent places found) ≡ told_nodes (reached found)
  size_found None h = refl
  size_found (Some fd) h =
      size_at columns u fields fd.frame (number_of places fd.place)
      ∙ ap (λ o. size_through fd.frame (option_map code_of o)) h
      ∙ size_if columns (formulas fd.place) (reads fd.place) (certain fd.place) (told (numbers fd.place)) fd.frame (ends views scope fd.place)

  side_found : (found : Option Found) → Told found → side_of_referent columns u fields (field_referent places found) ≡ side_of (kinds_at columns) (reached_read found)
  side_found None h = refl
  side_found (Some fd) h =
      side_at columns u fields fd.frame (number_of places fd.place)
      ∙ ap (λ o. side_through fd.frame (option_map code_of o)) h
      ∙ side_if_told columns (formulas fd.place) (reads fd.place) (certain fd.place) (told (numbers fd.place)) fd.frame (ends views scope fd.place) (formula_small schema views scope columns u fd.place)

  kept_side_found : (found : Option Found) → Told found
      → kept_side_of columns u fields (field_referent places found) ≡ side_of (kinds_at columns) (formula_of_referent columns u fields (field_referent places found))
  kept_side_found None h = refl
  kept_side_found (Some fd) h =
      kept_side_at columns u fields fd.frame (number_of places fd.place)
      ∙ ap (λ o. kept_side_through fd.frame (option_map code_of o)) h
      ∙ kept_if_told columns (formulas fd.place) (reads fd.place) (certain fd.place) (told (numbers fd.place)) fd.frame (ends views scope fd.place)
      ∙ ap (λ o. side_of (kinds_at columns) (formula_through fd.frame (option_map code_of o))) (sym h)
      ∙ ap (side_of (kinds_at columns)) (sym (formula_at columns u fields fd.frame (number_of places fd.place)))

  certain_found : (found : Option Found) → Told found → is_certain_referent columns fields (field_referent places found) ≡ knows_through schema views scope columns u certain found
  certain_found None h = refl
  certain_found (Some fd) h =
      certain_at columns u fields fd.frame (number_of places fd.place)
      ∙ ap (λ o. is_certain_through (option_map code_of o)) h
      ∙ certain_if columns (formulas fd.place) (reads fd.place) (certain fd.place) (told (numbers fd.place)) (ends views scope fd.place)

  formula_found : (found : Option Found) → Told found
      → (reached_read found ≡ formula_of_referent columns u fields (field_referent places found)) ⊎ (most_nodes < nodes_in (reached found))
  formula_found None h = inl refl
  formula_found (Some fd) h =
      let same = formula_at columns u fields fd.frame (number_of places fd.place) ∙ ap (λ o. formula_through fd.frame (option_map code_of o)) h in
      subst (λ t. (reached_read (Some fd) ≡ t) ⊎ (most_nodes < nodes_in (reached (Some fd)))) (sym same)
      (formula_if columns (formulas fd.place) (reads fd.place) (certain fd.place) (told (numbers fd.place)) fd.frame (ends views scope fd.place))

  one_within : (p : Place) → ends views scope p ≡ false → (n : ℕ) → number_nodes_within views scope n p ≡ 1
  one_within p h zero = refl
  one_within p h (suc n) = ap (λ b. if b then nodes_of_field views scope (number_nodes_within views scope n) p.part (field_at views scope p) else 1) h

  number_found : (found : Option Found) → Told found → number_size_of fields (field_referent places found) ≡ told (nodes_through views scope numbers found)
  number_found None h = refl
  number_found (Some fd) h =
      number_at columns u fields fd.frame (number_of places fd.place)
      ∙ ap number_size_through h
      ∙ number_if_told (resolved columns (formulas fd.place) (reads fd.place) (certain fd.place)) (ends views scope fd.place) (numbers fd.place)
      (λ e. one_within fd.place e (length (all_places views scope)))

  module _ (w : Writer) where
    abbrev referents : Sort → List Reference → List Referent
    referents s rs = map (referent_of schema views scope places w s) rs

    abbrev meanings : List Reference → List Formula
    meanings rs = map (meaning schema views scope columns u formulas w) rs

    abbrev meanings_read : List Reference → List Formula
    meanings_read rs = map (meaning schema views scope columns u reads w) rs

    abbrev AllTold : Sort → List Reference → Type 0
    AllTold s rs = AreAllTold schema views scope columns u places fields w s rs

    abbrev named : List ℕ → Option ℕ
    named name = column_named schema views scope (part_of w) name

    one_size : (r : Reference) → Told (field_named views scope w sort.Dimension r) → size_of fields (referent_of schema views scope places w sort.Dimension r) ≡ told_nodes (meaning schema views scope columns u formulas w r)
    one_size (reference.Column name) h = size_column columns u fields (part_of w) (named name)
    one_size (reference.Own name) h = size_found (field_named views scope w sort.Dimension (reference.Own name)) h
    one_size (reference.Of view name) h = size_found (field_named views scope w sort.Dimension (reference.Of view name)) h

    one_side : (r : Reference) → Told (field_named views scope w sort.Dimension r)
        → side_of_referent columns u fields (referent_of schema views scope places w sort.Dimension r) ≡ side_of (kinds_at columns) (meaning schema views scope columns u reads w r)
    one_side (reference.Column name) h = side_column columns u fields (part_of w) (named name)
    one_side (reference.Own name) h = side_found (field_named views scope w sort.Dimension (reference.Own name)) h
    one_side (reference.Of view name) h = side_found (field_named views scope w sort.Dimension (reference.Of view name)) h

    one_kept_side : (r : Reference) → Told (field_named views scope w sort.Dimension r)
        → kept_side_of columns u fields (referent_of schema views scope places w sort.Dimension r) ≡ side_of (kinds_at columns) (formula_of_referent columns u fields (referent_of schema views scope places w sort.Dimension r))
    one_kept_side (reference.Column name) h = kept_side_column columns u fields (part_of w) (named name)
    one_kept_side (reference.Own name) h = kept_side_found (field_named views scope w sort.Dimension (reference.Own name)) h
    one_kept_side (reference.Of view name) h = kept_side_found (field_named views scope w sort.Dimension (reference.Of view name)) h

    one_certain : (r : Reference) → Told (field_named views scope w sort.Dimension r) → is_certain_referent columns fields (referent_of schema views scope places w sort.Dimension r) ≡ knows schema views scope columns u certain w r
    one_certain (reference.Column name) h = certain_column columns u fields (part_of w) (named name)
    one_certain (reference.Own name) h = certain_found (field_named views scope w sort.Dimension (reference.Own name)) h
    one_certain (reference.Of view name) h = certain_found (field_named views scope w sort.Dimension (reference.Of view name)) h

    one_formula : (r : Reference) → Told (field_named views scope w sort.Dimension r)
        → (meaning schema views scope columns u reads w r ≡ formula_of_referent columns u fields (referent_of schema views scope places w sort.Dimension r))
        ⊎ (most_nodes < nodes_in (meaning schema views scope columns u formulas w r))
    one_formula (reference.Column name) h = inl (formula_column columns u fields (part_of w) (named name))
    one_formula (reference.Own name) h = formula_found (field_named views scope w sort.Dimension (reference.Own name)) h
    one_formula (reference.Of view name) h = formula_found (field_named views scope w sort.Dimension (reference.Of view name)) h

    all_sizes : (rs : List Reference) → AllTold sort.Dimension rs → map (size_of fields) (referents sort.Dimension rs) ≡ map told_nodes (meanings rs)
    all_sizes [] h = refl
    all_sizes (r ∷ rs) h = let p = one_size r h.0 in let q = all_sizes rs h.1 in λ i. p i ∷ q i

    all_sides : (rs : List Reference) → AllTold sort.Dimension rs → map (side_of_referent columns u fields) (referents sort.Dimension rs) ≡ map (side_of (kinds_at columns)) (meanings_read rs)
    all_sides [] h = refl
    all_sides (r ∷ rs) h = let p = one_side r h.0 in let q = all_sides rs h.1 in λ i. p i ∷ q i

    all_kept_sides : (rs : List Reference) → AllTold sort.Dimension rs
        → map (kept_side_of columns u fields) (referents sort.Dimension rs) ≡ map (side_of (kinds_at columns)) (map (formula_of_referent columns u fields) (referents sort.Dimension rs))
    all_kept_sides [] h = refl
    all_kept_sides (r ∷ rs) h = let p = one_kept_side r h.0 in let q = all_kept_sides rs h.1 in λ i. p i ∷ q i

    all_formulas : (rs : List Reference) → AllTold sort.Dimension rs → (i : ℕ)
        → (replacement (meanings_read rs) i ≡ replacement (map (formula_of_referent columns u fields) (referents sort.Dimension rs)) i) ⊎ (most_nodes < nodes_in (replacement (meanings rs) i))
    all_formulas [] h i = inl refl
    all_formulas (r ∷ rs) h zero = one_formula r h.0
    all_formulas (r ∷ rs) h (suc i) = all_formulas rs h.1 i

    pub are_told : (rs : List Reference) → AllTold sort.Dimension rs → AreTold columns u fields (referents sort.Dimension rs) (meanings rs) (meanings_read rs)
    are_told rs h = record { sizes = all_sizes rs h; sides = all_sides rs h; kept_sides = all_kept_sides rs h; formulas = all_formulas rs h }

    pub certain_told : (rs : List Reference) → AllTold sort.Dimension rs
        → list_all (is_certain_referent columns fields) (referents sort.Dimension rs) ≡ list_all (knows schema views scope columns u certain w) rs
    certain_told [] h = refl
    certain_told (r ∷ rs) h = let p = one_certain r h.0 in let q = certain_told rs h.1 in λ i. p i && q i

  module _ (part : ℕ) where
    one_number : (r : Reference) → Told (field_named views scope (writer.Field part) sort.Measure r)
        → number_size_of fields (referent_of schema views scope places (writer.Field part) sort.Measure r) ≡ told (nodes_meant views scope numbers part r)
    one_number (reference.Column name) h = number_column columns u fields part (column_named schema views scope part name)
    one_number (reference.Own name) h = number_found (field_named views scope (writer.Field part) sort.Measure (reference.Own name)) h
    one_number (reference.Of view name) h = number_found (field_named views scope (writer.Field part) sort.Measure (reference.Of view name)) h

    pub numbers_told : (rs : List Reference) → AreAllTold schema views scope columns u places fields (writer.Field part) sort.Measure rs
        → map (number_size_of fields) (map (referent_of schema views scope places (writer.Field part) sort.Measure) rs) ≡ map told (map (nodes_meant views scope numbers part) rs)
    numbers_told [] h = refl
    numbers_told (r ∷ rs) h = let p = one_number r h.0 in let q = numbers_told rs h.1 in λ i. p i ∷ q i

-- ---- what is no expression

pub other_resolved : (schema : Schema) (views : List DeclaredView) (scope : Scope) (columns : ColumnKinds) (u : UnknownColumn) (w : Writer) (c : Code)
    → ((written : Written) → c ≡ code.Expr written → ⊥) → resolved columns null null false ≡ resolved_in schema views scope columns u w c
other_resolved schema views scope columns u w (code.Expr written) h = absurd (h written refl)
other_resolved schema views scope columns u w code.Absent h = refl
other_resolved schema views scope columns u w code.Liquid h = refl
other_resolved schema views scope columns u w (code.Number written) h = refl
other_resolved schema views scope columns u w (code.Syntax place) h = refl

pub other_number : (views : List DeclaredView) (scope : Scope) (part : ℕ) (c : Code)
    → ((written : WrittenNumber) → c ≡ code.Number written → ⊥) → 1 ≡ told (nodes_of_code views scope (number_nodes views scope) part c)
other_number views scope part (code.Expr written) h = refl
other_number views scope part code.Absent h = refl
other_number views scope part code.Liquid h = refl
other_number views scope part (code.Number written) h = absurd (h written refl)
other_number views scope part (code.Syntax place) h = refl

-- ---- what is told of a field

module _ (schema : Schema) (views : List DeclaredView) (scope : Scope) (columns : ColumnKinds) (u : UnknownColumn) (p : Place) where
  abbrev entry : Bool → Option ResolvedField
  entry e = if e then Some (field_kept schema views scope columns u p) else None

  pub code_of_told : option_map code_of (field_told schema views scope columns u p) ≡ code_told schema views scope columns u p
  code_of_told = elim (ends views scope p) as (λ b. option_map code_of (entry b) ≡ (if b then Some (resolved_field schema views scope columns u p) else None)) [ true ↦ refl | false ↦ refl ]

  never : (h : ends views scope p ≡ false) (n : ℕ) → number_nodes_within views scope n p ≡ 1
  never h zero = refl
  never h (suc n) = ap (λ b. if b then nodes_of_field views scope (number_nodes_within views scope n) p.part (field_at views scope p) else 1) h

  pub number_of_told : number_size_through (field_told schema views scope columns u p) ≡ told (number_nodes views scope p)
  number_of_told =
      number_if_told (resolved_field schema views scope columns u p) (ends views scope p) (number_nodes views scope p) (λ e. never e (length (all_places views scope)))

  pub kinds_of_told : kinds_kept (field_told schema views scope columns u p) ≡ field_kinds schema views scope columns u p
  kinds_of_told = elim (ends views scope p) as (λ b. kinds_kept (entry b) ≡ (if b then kinds_in columns (dated_of schema views scope columns u p) else every_kind)) [ true ↦ refl | false ↦ refl ]

  pub sure_of_told : is_sure_kept (field_told schema views scope columns u p) ≡ is_sure schema views scope columns u p
  sure_of_told = elim (ends views scope p) as (λ b. is_sure_kept (entry b) ≡ (b && is_certain schema views scope columns u p)) [ true ↦ refl | false ↦ refl ]

  -- a key
  pub key_of_expr : (c : Code) (written : Written) → c ≡ code.Expr written → is_empty (resolved_in schema views scope columns u (writer.Field p.part) c).kinds ≡ key_clashes schema views scope columns u p.part c
  key_of_expr c written e =
      subst (λ (x : Code). is_empty (resolved_in schema views scope columns u (writer.Field p.part) x).kinds ≡ key_clashes schema views scope columns u p.part x) (sym e) refl

  pub key_of_other : (c : Code) → ((written : Written) → c ≡ code.Expr written → ⊥) → false ≡ key_clashes schema views scope columns u p.part c
  key_of_other (code.Expr written) h = absurd (h written refl)
  key_of_other code.Absent h = refl
  key_of_other code.Liquid h = refl
  key_of_other (code.Number written) h = refl
  key_of_other (code.Syntax place) h = refl
