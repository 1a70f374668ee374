-- After so many rounds the kinds of the columns of a view's rows are known, and they are those of the model.
use Rattle.std.proofs.Common.{◌≡◌, ◌∙◌, ◌<◌, ℕ, zero, suc, ◌+◌, List, [], ◌∷◌, map, length, refl, ap, sym, subst, Option, Some, None, arith}
use Rattle.std.specs.Prelude.{slice_get, slice_index_or}
use Rattle.std.specs.Option.{option_and_then, option_map}
use Rattle.std.proofs.lemmas.List.{length-map}
use Rattle.lk_val.specs.Texts.{is_same_text}
use Rattle.lk_types.specs.Kinds.{kind_among, kind_at}
use Rattle.lk_types.specs.declared.explore.Part.{Part}
use Rattle.lk_types.specs.declared.model.Model.{Model}
use Rattle.lk_types.specs.declared.schema.ColumnDef.{ColumnDef}
use Rattle.lk_types.specs.declared.schema.Kind.{Kind}
use Rattle.lk_types.specs.declared.schema.Schema.{Schema}
use Rattle.lk_types.specs.declared.schema.TableDef.{TableDef}
use Rattle.lk_objects.specs.declared.explore.DeclaredExplore.{DeclaredExplore}
use Rattle.lk_objects.specs.declared.view.Declared.{Declared}
use Rattle.lk_objects.specs.declared.view.DeclaredColumn.{DeclaredColumn}
use Rattle.lk_objects.specs.declared.view.DeclaredView.{DeclaredView}
use Rattle.lk_objects.specs.declared.view.DerivedTable.{DerivedTable}
use Rattle.lk_objects.specs.declared.view.Rows.{Rows}
use Rattle.lk_objects.specs.declared.view.Rows.TheVariants as rows
use Rattle.lk_fields.specs.declared.scope.Scope.{Scope}
use Rattle.lk_fields.specs.declared.scope.ScopePart.{ScopePart}
use Rattle.lk_formulas.specs.declared.columns.ColumnKinds.{ColumnKinds}
use Rattle.lk_formulas.specs.Columns.{column_in_rows, column_in_table, column_named, known_kind}
use Rattle.lk_scope.specs.Scopes.{scope_of}
use Rattle.lk_semantics.specs.Reading.{leaves_of, no_table, origin_kinds}
use Rattle.lk_resolved.specs.Explores.{explore_of, origin_if, origin_of, origin_with, part_with, parts_from}
use Rattle.lk_model.specs.ViewKinds.{column_kind, columns_in, derived_kinds, kinds_at, kinds_of, part_kinds, round, row_kinds, rounds, source_named, table_kinds, taken_kind, view_kinds}
use Rattle.lk_model.specs.declared.view_kinds.ViewKinds.{ViewKinds}
use Rattle.lk_model_laws.proofs.FoundLaws.{got_at}
use Rattle.lk_model_laws.proofs.ListLaws.{got_map, got_or, position_within}
use Rattle.lk_model_laws.proofs.ModelNumberLaws.{HaveKnownSource, IsKnownSource}
use Rattle.lk_model_laws.proofs.PieceLaws.{some_none}

-- ---- lists

some_listed : (ks : List Kind) (c : ℕ) → slice_index_or (map Some ks) c None ≡ slice_get ks c
some_listed [] c = refl
some_listed (k ∷ ks) zero = refl
some_listed (k ∷ ks) (suc c) = some_listed ks c

columns_listed : (columns : List ColumnDef) → map column_kind columns ≡ map Some (map (λ (column : ColumnDef). column.kind) columns)
columns_listed [] = refl
columns_listed (column ∷ columns) = ap (λ rest. Some column.kind ∷ rest) (columns_listed columns)

-- ---- the parts of the model's explore

module _ (schema : Schema) (views : List DeclaredView) (scope : Scope) (columns : ColumnKinds) where
  pub got_part : (n k : ℕ) (ps : List ScopePart) (part : ScopePart) → slice_get ps k ≡ Some part → (j : ℕ) × (slice_get (parts_from schema views scope columns n ps) k ≡ Some (part_with schema views scope columns j part))
  got_part n k [] part at = absurd (some_none (sym at))
  got_part n zero (p ∷ ps) part at = let same : p ≡ part = cc in (n, ap (λ q. Some (part_with schema views scope columns n q)) same)
  got_part n (suc k) (p ∷ ps) part at = got_part (n + 1) k ps part at

  no_part : (n k : ℕ) (ps : List ScopePart) → slice_get ps k ≡ None → slice_get (parts_from schema views scope columns n ps) k ≡ None
  no_part n k [] at = refl
  no_part n zero (p ∷ ps) at = absurd (some_none at)
  no_part n (suc k) (p ∷ ps) at = no_part (n + 1) k ps at

-- ---- rounds

-- the rows are those of a table of the schema
pub record IsStored (schema : Schema) (from : Rows) : Type 0 where
  pub number : ℕ
  pub rows_are : from ≡ rows.Stored (Some number)
  pub table : TableDef
  pub at : slice_get schema.tables number ≡ Some table

module _ (schema : Schema) (declared : Declared) where
  -- what is known after n rounds
  abbrev pub kinds_after : ℕ → ViewKinds
  kinds_after n = rounds schema declared n (record { views = [] })

  round_last : (n : ℕ) (k : ViewKinds) → rounds schema declared (suc n) k ≡ round schema declared (rounds schema declared n k)
  round_last zero k = refl
  round_last (suc n) k = round_last n (round schema declared k)

  -- the kinds of the columns of a view's rows then
  abbrev pub row_after : ℕ → ℕ → List (Option Kind)
  row_after n number = slice_index_or (kinds_after n).views number []

  pub row_is : (n number : ℕ) (v : DeclaredView) → slice_get declared.views number ≡ Some v → row_after (suc n) number ≡ row_kinds schema declared (kinds_after n) v.rows
  row_is n number v at =
      ap (λ (k : ViewKinds). slice_index_or k.views number []) (round_last n (record { views = [] }))
      ∙ got_or (map (view_kinds schema declared (kinds_after n)) declared.views) number [] (view_kinds schema declared (kinds_after n) v)
      (got_map (view_kinds schema declared (kinds_after n)) declared.views number ∙ ap (option_map (view_kinds schema declared (kinds_after n))) at)

  -- those of a derived table
  pub derived_row : (kinds : ViewKinds) (table : DerivedTable) (known : IsKnownSource declared table)
      → row_kinds schema declared kinds (rows.Derived table) ≡ map (taken_kind schema declared.views (scope_of declared.views known.source) (columns_in kinds (scope_of declared.views known.source))) table.columns
  derived_row kinds table known =
      ap (λ o. derived_kinds schema declared.views kinds table.columns (source_named declared.explores o)) known.named
      ∙ ap (derived_kinds schema declared.views kinds table.columns) known.found

  -- there are as many as a name can mean
  column_within : (kinds : ViewKinds) (from : Rows) → HaveKnownSource declared from → (name : List ℕ) (c : ℕ) → column_in_rows schema name from ≡ Some c → c < length (row_kinds schema declared kinds from)
  column_within kinds (rows.Stored table) known name c h = of_table (option_and_then (slice_get schema.tables) table) h
    where
      of_table : (o : Option TableDef) → column_in_table name o ≡ Some c → c < length (table_kinds o)
      of_table None h = absurd (some_none (sym h))
      of_table (Some table) h =
          let within = position_within (λ (column : ColumnDef). is_same_text column.name name) table.columns c h in
          let count = length-map table.columns column_kind in
          omega arith
  column_within kinds (rows.Derived table) known name c h =
      let within = position_within (λ (column : DeclaredColumn). is_same_text column.name name) table.columns c h in
      let scope = scope_of declared.views known.source in
      let count = length-map table.columns (taken_kind schema declared.views scope (columns_in kinds scope)) in
      subst (λ ks. c < length ks) (sym (derived_row kinds table known)) (omega arith)

  module _ (m : Model) where
    -- the kinds of a view's columns are known after n rounds, and they are those of the model
    abbrev pub IsSettled : ℕ → ℕ → Type 0
    IsSettled n number = row_after n number ≡ map Some (origin_kinds m (origin_of declared.views (Some number)))

    pub stored_settled : m.schema ≡ schema → (n number : ℕ) (v : DeclaredView) → slice_get declared.views number ≡ Some v → IsStored schema v.rows → IsSettled (suc n) number
    stored_settled schema_is n number v at stored =
        let origin : origin_kinds m (origin_of declared.views (Some number)) ≡ map (λ (column : ColumnDef). column.kind) stored.table.columns =
        ap (λ o. origin_kinds m (origin_if declared.views number o)) at
        ∙ (ap (λ r. origin_kinds m (origin_with declared.views number r)) stored.rows_are
        ∙ ap (λ (table : TableDef). map (λ (column : ColumnDef). column.kind) table.columns)
        (got_or m.schema.tables stored.number no_table stored.table (ap (λ (s : Schema). slice_get s.tables stored.number) schema_is ∙ stored.at))) in
        row_is n number v at ∙ (ap (row_kinds schema declared (kinds_after n)) stored.rows_are ∙ (ap table_kinds stored.at ∙ (columns_listed stored.table.columns ∙ sym (ap (map Some) origin))))

    -- ---- the parts of an explore

    -- a part with a view whose columns are settled after n rounds and one more
    pub record IsSettledPart (n : ℕ) (part : ScopePart) : Type 0 where
      pub number : ℕ
      pub view : DeclaredView
      pub named : part.view ≡ Some number
      pub at : slice_get declared.views number ≡ Some view
      pub source : HaveKnownSource declared view.rows
      pub settled : IsSettled (suc n) number

    module _ (n : ℕ) (scope : Scope) where
      abbrev columns : ColumnKinds
      columns = columns_in (kinds_after (suc n)) scope

      abbrev pub part_columns : Option ScopePart → ℕ → Option Kind
      part_columns o c = option_and_then (λ (ks : List (Option Kind)). slice_index_or ks c None) (option_map (part_kinds (kinds_after (suc n))) o)

      pub kind_of_part : (p c : ℕ) → known_kind columns p c ≡ part_columns (slice_get scope.parts p) c
      kind_of_part p c = ap (option_and_then (λ (ks : List (Option Kind)). slice_index_or ks c None)) (got_map (part_kinds (kinds_after (suc n))) scope.parts p)

      module _ (p : ℕ) (part : ScopePart) (at : slice_get scope.parts p ≡ Some part) (is : IsSettledPart n part) where
        part_row : part_kinds (kinds_after (suc n)) part ≡ map Some (origin_kinds m (origin_of declared.views part.view))
        part_row = ap (kinds_at (kinds_after (suc n)).views) is.named ∙ is.settled ∙ ap (λ o. map Some (origin_kinds m (origin_of declared.views o))) (sym is.named)

        pub known_at : (c : ℕ) → known_kind columns p c ≡ slice_get (origin_kinds m (origin_of declared.views part.view)) c
        known_at c =
            kind_of_part p c ∙ ap (λ o. part_columns o c) at ∙ ap (λ ks. slice_index_or ks c None) part_row ∙ some_listed (origin_kinds m (origin_of declared.views part.view)) c

        -- a column that a name means has a known kind
        pub column_known_at : (name : List ℕ) (c : ℕ) → column_named schema declared.views scope p name ≡ Some c → (k : Kind) × (known_kind columns p c ≡ Some k)
        column_known_at name c h =
            let ks = origin_kinds m (origin_of declared.views part.view) in
            let view_is : option_and_then (λ (q : ScopePart). option_and_then (slice_get declared.views) q.view) (slice_get scope.parts p) ≡ Some is.view =
            ap (option_and_then (λ (q : ScopePart). option_and_then (slice_get declared.views) q.view)) at ∙ (ap (option_and_then (slice_get declared.views)) is.named ∙ is.at) in
            let found : column_in_rows schema name is.view.rows ≡ Some c = sym (ap (option_and_then (λ (view : DeclaredView). column_in_rows schema name view.rows)) view_is) ∙ h in
            let within = column_within (kinds_after n) is.view.rows is.source name c found in
            let row : row_kinds schema declared (kinds_after n) is.view.rows ≡ map Some ks =
            sym (row_is n is.number is.view is.at) ∙ (is.settled ∙ ap (λ o. map Some (origin_kinds m (origin_of declared.views o))) (sym is.named)) in
            let same_length : length (row_kinds schema declared (kinds_after n) is.view.rows) ≡ length (map Some ks) = ap length row in
            let count = length-map ks (λ (k : Kind). Some k) in
            let kind = got_at ks c (omega arith) in
            (kind.0, known_at c ∙ kind.1)

  -- ---- all parts of an explore, after all rounds

  module _ (m : Model) (scope : Scope) (parts : (p : ℕ) (part : ScopePart) → slice_get scope.parts p ≡ Some part → IsSettledPart m (length declared.views) part) where
    abbrev known_columns : ColumnKinds
    known_columns = columns_in (kinds_of schema declared) scope

    pub column_known : (p : ℕ) (name : List ℕ) (c : ℕ) → column_named schema declared.views scope p name ≡ Some c → (k : Kind) × (known_kind known_columns p c ≡ Some k)
    column_known p name c h = of_part (slice_get scope.parts p) refl
      where
        of_part : (o : Option ScopePart) → slice_get scope.parts p ≡ o → (k : Kind) × (known_kind known_columns p c ≡ Some k)
        of_part None at =
            absurd (some_none (sym (sym (ap (λ o. option_and_then (λ (view : DeclaredView). column_in_rows schema name view.rows) (option_and_then (λ (part : ScopePart). option_and_then (slice_get declared.views) part.view) o)) at) ∙ h)))
        of_part (Some part) at = column_known_at m (length declared.views) scope p part at (parts p part at) name c h

    -- the kind of each column is the same in the model
    module _ (datagroup : Option (List ℕ) → ℕ) (x : DeclaredExplore) where
      abbrev given : List Part
      given = parts_from schema declared.views scope known_columns 0 scope.parts

      pub same_kinds : (p c : ℕ) → known_kind known_columns p c ≡ kind_at (leaves_of m (explore_of schema declared.views scope known_columns datagroup x)) p c
      same_kinds p c = of_part (slice_get scope.parts p) refl
        where
          of_part : (o : Option ScopePart) → slice_get scope.parts p ≡ o → known_kind known_columns p c ≡ kind_at (leaves_of m (explore_of schema declared.views scope known_columns datagroup x)) p c
          of_part None at =
              kind_of_part m (length declared.views) scope p c ∙ ap (λ o. part_columns m (length declared.views) scope o c) at
              ∙ sym (ap (λ o. kind_among o c) (got_map (λ (part : Part). origin_kinds m part.origin) given p ∙ ap (option_map (λ (part : Part). origin_kinds m part.origin)) (no_part schema declared.views scope known_columns 0 p scope.parts at)))
          of_part (Some part) at =
              let got = got_part schema declared.views scope known_columns 0 p scope.parts part at in
              known_at m (length declared.views) scope p part at (parts p part at) c
              ∙ sym (ap (λ o. kind_among o c) (got_map (λ (q : Part). origin_kinds m q.origin) given p ∙ ap (option_map (λ (q : Part). origin_kinds m q.origin)) got.1))
