-- What a stored query names stands among its entries: each of its filters, measures and columns.
use Rattle.std.proofs.Common.{◌≡◌, ◌∙◌, ◌<◌, ℕ, zero, suc, ◌+◌, Bool, true, false, List, [], ◌∷◌, ◌++◌, map, length, refl, ap, sym, subst, inl, inr, ⊎_elim, Option, Some, None, arith}
use Rattle.std.specs.Prelude.{◌⊎◌, codes, if◌then◌else◌, not, slice_get}
use Rattle.std.specs.List.{AllByRecursion, filter, list_any}
use Rattle.std.proofs.lemmas.Bool.{false≢true}
use Rattle.std.proofs.lemmas.List.{append_assoc, length-append}
use Rattle.lk_val.specs.Texts.{is_same_text}
use Rattle.lk_read.specs.declared.tree.Item.{Item}
use Rattle.lk_params.specs.Known.{along}
use Rattle.lk_params.specs.Parameters.{last_named}
use Rattle.lk_params.specs.Picking.{firsts}
use Rattle.lk_objects.specs.declared.filter_text.FilterText.{FilterText}
use Rattle.lk_objects.specs.declared.view.DeclaredColumn.{DeclaredColumn}
use Rattle.lk_objects.specs.declared.view.Entry.{Entry}
use Rattle.lk_objects.specs.declared.view.Entry.TheVariants as entry
use Rattle.lk_written.specs.Blocks.{block_name}
use Rattle.lk_written.specs.Entries.{filter_entries}
use Rattle.lk_written.specs.ReadFilters.{AreFilters}
use Rattle.lk_written.specs.Values.{filters_at, filters_in}
use Rattle.lk_view.specs.DerivedTables as tables
use Rattle.lk_view.specs.DerivedTables.{column_entries, column_of, columns_in, entries_from, field_of, is_column, is_column_of}
use Rattle.lk_explore.specs.Rollups as rollups
use Rattle.lk_explore.specs.Values.{words_at, words_in}
use Rattle.lk_semantics.proofs.EveryLaws.{first, second}
use Rattle.lk_model_laws.proofs.ListLaws.{all_append, all_behind, all_filter, all_front, all_map}
use Rattle.lk_model_laws.proofs.PlaceLaws.{one_of}
use Rattle.lk_model_laws.proofs.TextLaws.{same_exact}
use Rattle.lk_model_laws.proofs.ViewObjectLaws.{last_holds}

-- ---- lists

pub filters_count : (pairs : List (List ℕ × List ℕ)) (filters : List FilterText) → AreFilters pairs filters → length pairs ≡ length filters
filters_count [] [] h = refl
filters_count [] (f ∷ filters) h = absurd h
filters_count (pair ∷ pairs) [] h = absurd h
filters_count (pair ∷ pairs) (f ∷ filters) h = ap suc (filters_count pairs filters h.1)

pub all_of_places : {A : Type 0} (P : A → Type 0) (xs : List A) → ((k : ℕ) (x : A) → k < length xs → slice_get xs k ≡ Some x → P x) → AllByRecursion P xs
all_of_places P [] h = tt
all_of_places P (x ∷ xs) h = (h zero x (omega arith) refl, all_of_places P xs (λ k y less at. h (suc k) y (omega arith) at))

filters_append : (xs ys : List Item) → filters_at (xs ++ ys) ≡ filters_at xs ++ filters_at ys
filters_append [] ys = refl
filters_append (item ∷ xs) ys =
    ap (λ rest. (if is_same_text item.name (codes "filters") then filters_in item.value else []) ++ rest) (filters_append xs ys)
    ∙ sym (append_assoc (if is_same_text item.name (codes "filters") then filters_in item.value else []) (filters_at xs) (filters_at ys))

filters_first : (item : Item) (items : List Item) → filters_at (item ∷ items) ≡ filters_at (item ∷ []) ++ filters_at items
filters_first item items = filters_append (item ∷ []) items

-- ---- filters

module _ (P : Entry → Type 0) where
  numbered_entries : (start n j : ℕ) → AllByRecursion P (filter_entries start n) → j < n → P (entry.Filter (start + j))
  numbered_entries start zero j h less = absurd (omega arith)
  numbered_entries start (suc n) zero h less = subst (λ k. P (entry.Filter k)) (none start) h.0
    where
      none : (k : ℕ) → k ≡ k + zero
      none k = omega arith
  numbered_entries start (suc n) (suc j) h less = subst (λ k. P (entry.Filter k)) (one_less start j) (numbered_entries (start + 1) n j h.1 (omega arith))
    where
      one_less : (k i : ℕ) → k + 1 + i ≡ k + suc i
      one_less k i = omega arith

  module _ (at : List Item → Item → List Entry)
      (step : (before : List Item) (item : Item) → AllByRecursion P (at before item) → (j : ℕ) → j < length (filters_at (item ∷ [])) → P (entry.Filter (length (filters_at before) + j))) where
    filters_from : (before items : List Item) → AllByRecursion P (along at before items) → (k : ℕ) → k < length (filters_at items) → P (entry.Filter (length (filters_at before) + k))
    filters_from before [] h k less = absurd (omega arith)
    filters_from before (item ∷ items) h k less =
        let own = length (filters_at (item ∷ [])) in
        let rest = length (filters_at items) in
        let sum : length (filters_at (item ∷ items)) ≡ own + rest = ap length (filters_first item items) ∙ length-append (filters_at (item ∷ [])) (filters_at items) in
        let front : length (filters_at (before ++ item ∷ [])) ≡ length (filters_at before) + own =
        ap length (filters_append before (item ∷ [])) ∙ length-append (filters_at before) (filters_at (item ∷ [])) in
        ⊎_elim
        (λ here. step before item (all_front P (at before item) (along at (before ++ item ∷ []) items) h) k here)
        (λ later.
        let number = moved own (length (filters_at before)) (length (filters_at (before ++ item ∷ []))) k later.0 front later.1 in
        subst (λ n. P (entry.Filter n)) number
        (filters_from (before ++ item ∷ []) items (all_behind P (at before item) (along at (before ++ item ∷ []) items) h) later.0 (within own rest k later.0 (length (filters_at (item ∷ items))) less sum later.1)))
        (split k own)
      where
        split : (k own : ℕ) → (k < own) ⊎ ((j : ℕ) × (k ≡ own + j))
        split k zero = inr (k, plus k)
          where
            plus : (n : ℕ) → n ≡ zero + n
            plus n = omega arith
        split zero (suc own) = inl (omega arith)
        split (suc k) (suc own) =
            ⊎_elim (λ less. inl (omega arith)) (λ more. inr (more.0, up k own more.0 more.1)) (split k own)
          where
            up : (m n j : ℕ) → m ≡ n + j → suc m ≡ suc n + j
            up m n j e = omega arith

        moved : (own before both_counts k j : ℕ) → both_counts ≡ before + own → k ≡ own + j → both_counts + j ≡ before + k
        moved own before both_counts k j p q = omega arith

        within : (own rest k j all : ℕ) → k < all → all ≡ own + rest → k ≡ own + j → j < rest
        within own rest k j all less p q = omega arith

  from_zero : (n : ℕ) → zero + n ≡ n
  from_zero n = omega arith

  none_below : (n : ℕ) → n < zero → ⊥
  none_below n h = omega arith

  rollup_step : (before : List Item) (item : Item) → AllByRecursion P (rollups.entries_at before item) → (j : ℕ) → j < length (filters_at (item ∷ [])) → P (entry.Filter (length (filters_at before) + j))
  rollup_step before item h j less = of_dimensions (is_same_text item.name (codes "dimensions")) refl (is_same_text item.name (codes "measures")) refl h
    where
      no_dimensions : item.name ≡ codes "dimensions" → filters_at (item ∷ []) ≡ []
      no_dimensions is = rw is refl

      no_measures : item.name ≡ codes "measures" → filters_at (item ∷ []) ≡ []
      no_measures is = rw is refl

      of_dimensions : (a : Bool) → is_same_text item.name (codes "dimensions") ≡ a → (b : Bool) → is_same_text item.name (codes "measures") ≡ b
          → AllByRecursion P (if a then map entry.Dimension (words_in item.value) else if b then map entry.Measure (words_in item.value) else filter_entries (length (filters_at before)) (length (filters_at (item ∷ []))))
          → P (entry.Filter (length (filters_at before) + j))
      of_dimensions true is b other h = absurd (none_below j (subst (λ fs. j < length fs) (no_dimensions (same_exact item.name (codes "dimensions") is)) less))
      of_dimensions false is true other h = absurd (none_below j (subst (λ fs. j < length fs) (no_measures (same_exact item.name (codes "measures") other)) less))
      of_dimensions false is false other h = numbered_entries (length (filters_at before)) (length (filters_at (item ∷ []))) j h less

  -- each filter of an aggregate table's query
  pub rollup_filters : (query : List Item) → AllByRecursion P (rollups.entries_in query) → (k : ℕ) → k < length (filters_at query) → P (entry.Filter k)
  rollup_filters query h k less = subst (λ n. P (entry.Filter n)) (from_zero k) (filters_from rollups.entries_at rollup_step [] query h k less)

  source_step : (source before : List Item) (item : Item) → AllByRecursion P (tables.entries_at source before item) → (j : ℕ) → j < length (filters_at (item ∷ [])) → P (entry.Filter (length (filters_at before) + j))
  source_step source before item h j less = of_column (is_column item) refl h
    where
      no_column : item.name ≡ codes "column" → filters_at (item ∷ []) ≡ []
      no_column is = rw is refl

      of_column : (a : Bool) → is_column item ≡ a → AllByRecursion P (if a then column_entries source before item else filter_entries (length (filters_at before)) (length (filters_at (item ∷ []))))
          → P (entry.Filter (length (filters_at before) + j))
      of_column true is h = absurd (none_below j (subst (λ fs. j < length fs) (no_column (same_exact item.name (codes "column") (first (is_same_text item.name (codes "column")) _ is))) less))
      of_column false is h = numbered_entries (length (filters_at before)) (length (filters_at (item ∷ []))) j h less

  as_along : (source before items : List Item) → entries_from source before items ≡ along (tables.entries_at source) before items
  as_along source before [] = refl
  as_along source before (item ∷ items) = ap (λ rest. tables.entries_at source before item ++ rest) (as_along source (before ++ item ∷ []) items)

  -- each filter of a derived table's source
  pub source_filters : (source : List Item) → AllByRecursion P (tables.entries_in source) → (k : ℕ) → k < length (filters_at source) → P (entry.Filter k)
  source_filters source h k less =
      subst (λ n. P (entry.Filter n)) (from_zero k) (filters_from (tables.entries_at source) (source_step source) [] source (subst (AllByRecursion P) (as_along source [] source) h) k less)

  -- ---- measures of an aggregate table

  each_along : {A : Type 0} (at : List A → A → List Entry) (before items : List A) → AllByRecursion P (along at before items) → AllByRecursion (λ item. (front : List A) × AllByRecursion P (at front item)) items
  each_along at before [] h = tt
  each_along at before (item ∷ items) h =
      ((before, all_front P (at before item) (along at (before ++ item ∷ []) items) h), each_along at (before ++ item ∷ []) items (all_behind P (at before item) (along at (before ++ item ∷ []) items) h))

  unmapped : (names : List (List ℕ)) → AllByRecursion P (map entry.Measure names) → AllByRecursion (λ name. P (entry.Measure name)) names
  unmapped [] h = tt
  unmapped (name ∷ names) h = (h.0, unmapped names h.1)

  pub rollup_measures : (query : List Item) → AllByRecursion P (rollups.entries_in query) → AllByRecursion (λ name. P (entry.Measure name)) (words_at (codes "measures") query)
  rollup_measures query h = of_item (last_named (codes "measures") query) refl
    where
      entries_are : (front : List Item) (item : Item) → item.name ≡ codes "measures" → rollups.entries_at front item ≡ map entry.Measure (words_in item.value)
      entries_are front item is = rw is refl

      none_listed : last_named (codes "measures") query ≡ None → words_at (codes "measures") query ≡ []
      none_listed at = rw at refl

      some_listed : (item : Item) → last_named (codes "measures") query ≡ Some item → words_at (codes "measures") query ≡ words_in item.value
      some_listed item at = rw at refl

      of_item : (o : Option Item) → last_named (codes "measures") query ≡ o → AllByRecursion (λ name. P (entry.Measure name)) (words_at (codes "measures") query)
      of_item None at = subst (AllByRecursion (λ name. P (entry.Measure name))) (sym (none_listed at)) tt
      of_item (Some item) at =
          let found = last_holds (λ i. (front : List Item) × AllByRecursion P (rollups.entries_at front i)) (codes "measures") query item (each_along rollups.entries_at [] query h) at in
          subst (AllByRecursion (λ name. P (entry.Measure name))) (sym (some_listed item at))
          (unmapped (words_in item.value) (subst (AllByRecursion P) (entries_are found.0.0 item found.1) found.0.1))

  -- ---- columns of a derived table

  abbrev IsNamed : List Item → List ℕ → Type 0
  IsNamed source name = P (entry.Column (field_of source name))

  named_before : (source : List Item) (name : List ℕ) (before : List Item) → AllByRecursion (λ item. is_column item ≡ true → IsNamed source (block_name item)) before → list_any (is_column_of name) before ≡ true
      → IsNamed source name
  named_before source name [] h is = absurd (false≢true is)
  named_before source name (item ∷ before) h is =
      ⊎_elim (λ here. subst (IsNamed source) (same_exact (block_name item) name (second (is_column item) (is_same_text (block_name item) name) here)) (h.0 (first (is_column item) (is_same_text (block_name item) name) here)))
      (λ later. named_before source name before h.1 later) (one_of (is_column_of name item) (list_any (is_column_of name) before) is)

  all_columns : (source before items : List Item) → AllByRecursion (λ item. is_column item ≡ true → IsNamed source (block_name item)) before → AllByRecursion P (along (tables.entries_at source) before items)
      → AllByRecursion (λ item. is_column item ≡ true → IsNamed source (block_name item)) items
  all_columns source before [] known h = tt
  all_columns source before (item ∷ items) known h =
      let own = all_front P (tables.entries_at source before item) (along (tables.entries_at source) (before ++ item ∷ []) items) h in
      let here = of_item own in (
        here,
        all_columns source (before ++ item ∷ []) items
            (all_append (λ i. is_column i ≡ true → IsNamed source (block_name i)) before (item ∷ []) known (here, tt))
            (all_behind P (tables.entries_at source before item) (along (tables.entries_at source) (before ++ item ∷ []) items) h),
      )
    where
      of_twin : (b : Bool) → list_any (is_column_of (block_name item)) before ≡ b → AllByRecursion P (if b then [] else entry.Column (field_of source (block_name item)) ∷ []) → IsNamed source (block_name item)
      of_twin true is h = named_before source (block_name item) before known is
      of_twin false is h = h.0

      of_item : AllByRecursion P (tables.entries_at source before item) → is_column item ≡ true → IsNamed source (block_name item)
      of_item own is =
          of_twin (list_any (is_column_of (block_name item)) before) refl
          (subst (λ b. AllByRecursion P (if b then column_entries source before item else filter_entries (length (filters_at before)) (length (filters_at (item ∷ []))))) is own)

  columns_named : (source items : List Item) → AllByRecursion (λ item. is_column item ≡ true → IsNamed source (block_name item)) items → AllByRecursion (IsNamed source) (map block_name (filter is_column items))
  columns_named source [] h = tt
  columns_named source (item ∷ items) h =
      elim (is_column item) as (λ b. is_column item ≡ b → AllByRecursion (IsNamed source) (map block_name (if b then item ∷ filter is_column items else filter is_column items))) [
        | true ↦ λ is. (h.0 is, columns_named source items h.1)
        | false ↦ λ _. columns_named source items h.1
      ] refl

  firsts_named : (Q : List ℕ → Type 0) (names : List (List ℕ)) → AllByRecursion Q names → AllByRecursion Q (firsts is_same_text names)
  firsts_named Q [] h = tt
  firsts_named Q (name ∷ names) h = (h.0, all_filter Q (λ y. not (is_same_text y name)) (firsts is_same_text names) (firsts_named Q names h.1))

  -- each column of a derived table
  pub source_columns : (source : List Item) → AllByRecursion P (tables.entries_in source) → AllByRecursion (λ column. P (entry.Column column.field)) (columns_in source)
  source_columns source h =
      all_map (λ (column : DeclaredColumn). P (entry.Column column.field)) (IsNamed source) (column_of source) (λ name is. is) (firsts is_same_text (map block_name (filter is_column source)))
      (firsts_named (IsNamed source) (map block_name (filter is_column source))
      (columns_named source source (all_columns source [] source tt (subst (AllByRecursion P) (as_along source [] source) h))))
