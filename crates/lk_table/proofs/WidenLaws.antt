-- The columns of a table hold the rows that the columns named by a header hold.
use Rattle.std.proofs.Common.{◌≡◌, ◌≢◌, ◌<◌, ◌≤◌, ◌+◌, ◌++◌, ◌∷◌, ◌==◌, [], ℕ, zero, suc, Bool, true, false, List, Option, Some, None, length, take, refl, sym, ap, ap₂, arith, ◌∙◌, get_or, if◌then◌else◌}
use Rattle.std.specs.List.{All, position, position_or_len, range_with_len, sum_by}
use Rattle.std.specs.Option.{option_map}
use Rattle.std.specs.Prelude.{map, replicate, slice_index_or}
use Rattle.std.proofs.lemmas.Bool.{eqb-false, eqb-true, lt-ltb, ltb-true, ne_eqb}
use Rattle.std.proofs.Math.Dec.{ltb}
use Rattle.std.proofs.lemmas.List.{get_or-map, get_or-set_other, length-map, length-replicate, length-set, map-append, take_more}
use Rattle.std.proofs.lemmas.List.Elements.{All-push, All-replicate}
use Rattle.std.proofs.lemmas.List.FromFn.{fill_by_all, get_or-map-range_with_len, length-map-range_with_len, map-range_with_len_more}
use Rattle.std.proofs.lemmas.List.Quantifiers.{position-Some}
use Rattle.std.proofs.lemmas.List.Sums.{sum_by-cons}
use Rattle.std.proofs.lemmas.Simd.{map-map}
use Rattle.lk_val.specs.declared.value.Value.{Value}
use Rattle.lk_val.specs.declared.value.Value.TheVariants as value
use Rattle.lk_types.specs.Tables.{Cells, Rows}
use Rattle.lk_types.specs.declared.schema.Kind.{Kind}
use Rattle.lk_types.specs.declared.schema.Kind.TheVariants as kind
use Rattle.lk_table.specs.declared.column.Column.{Column}
use Rattle.lk_table.specs.Contents.{cell_at, text_bytes, text_length}
use Rattle.lk_table.specs.Batches.{row_from, sources_of, value_from}
use Rattle.lk_table.specs.Columns.{IsHeld, IsMark, IsMarked, kind_in, rows_in, text_value, values_in}
use Rattle.lk_table.specs.Widening.{IsOnce, column_from, kind_at_place, left_from, nulls_of, wide_from}
use Rattle.lk_table.proofs.ColumnLaws.{all_behind, all_first}
use Rattle.lk_table.proofs.ReadLaws.{first_place}
use Rattle.lk_table.proofs.RowLaws.{map_range_same}

all_range : {A : Type 0} (P : A → Type 0) (f : ℕ → A) (width : ℕ) → ((j : ℕ) → P (f j)) → All P (map f (range_with_len 0 width))
all_range P f width each k d below =
    rw (get_or-map-range_with_len f 0 width k k d (omega (arith, below, length-map-range_with_len f 0 width)) (omega arith)) (each k)

-- ---- a value by its column

-- the value that stands at the place of a column
abbrev value_of : List ℕ → Cells → ℕ → Value
value_of (place ∷ places) (v ∷ values) column = if place == column then v else value_of places values column
value_of places values column = value.Null

position_more : (m n : ℕ) → (if ltb (1 + m) (suc n) then Some (1 + m) else None) ≡ option_map suc (if ltb m n then Some m else None)
position_more m n = by (ltb m n) refl
  where
    by : (b : Bool) → ltb m n ≡ b → (if ltb (1 + m) (suc n) then Some (1 + m) else None) ≡ option_map suc (if b then Some m else None)
    by true e = rw (lt-ltb (1 + m) (suc n) (omega (arith, ltb-true m n e))) (ap Some (let same : 1 + m ≡ suc m = omega arith in same))
    by false e = by_order (ltb (1 + m) (suc n)) refl
      where
        by_order : (b : Bool) → ltb (1 + m) (suc n) ≡ b → (if b then Some (1 + m) else None) ≡ None
        by_order true f = let less : m < n = omega (arith, ltb-true (1 + m) (suc n) f) in let is : ltb m n ≡ true = lt-ltb m n less in cc
        by_order false f = refl

position_hit : (p : ℕ → Bool) (x : ℕ) (xs : List ℕ) → p x ≡ true → position p (x ∷ xs) ≡ Some 0
position_hit p x xs e = sym (first_place p (x ∷ xs) 0 0 (omega arith) (λ k below. absurd (omega (arith, below))) e)

position_miss : (p : ℕ → Bool) (x : ℕ) (xs : List ℕ) → p x ≡ false → position p (x ∷ xs) ≡ option_map suc (position p xs)
position_miss p x xs e = rw e (position_more (position_or_len p xs) (length xs))

value_behind : (v : Value) (values : Cells) (o : Option ℕ) → value_from (v ∷ values) (option_map suc o) ≡ value_from values o
value_behind v values None = refl
value_behind v values (Some i) = refl

value_there : (column : ℕ) (places : List ℕ) (values : Cells) → length values ≡ length places
    → value_from values (position (λ place. place == column) places) ≡ value_of places values column
value_there column [] [] long = refl
value_there column [] (v ∷ values) long = absurd (omega (arith, long))
value_there column (place ∷ places) [] long = absurd (omega (arith, long))
value_there column (place ∷ places) (v ∷ values) long = by (place == column) refl (value_there column places values (omega (arith, long)))
  where
    by : (b : Bool) → (place == column) ≡ b
        → value_from values (position (λ other. other == column) places) ≡ value_of places values column
        → value_from (v ∷ values) (position (λ other. other == column) (place ∷ places)) ≡ (if b then v else value_of places values column)
    by true e rest = ap (value_from (v ∷ values)) (position_hit (λ other. other == column) place places e)
    by false e rest =
        ap (value_from (v ∷ values)) (position_miss (λ other. other == column) place places e)
        ∙ value_behind v values (position (λ other. other == column) places)
        ∙ rest

no_value : (column : ℕ) (places : List ℕ) (values : Cells) → ((k : ℕ) → k < length places → get_or places k 0 ≡ column → ⊥)
    → text_length (value_of places values column) ≡ 0
no_value column [] values apart = refl
no_value column (place ∷ places) [] apart = refl
no_value column (place ∷ places) (v ∷ values) apart =
    rw (ne_eqb place column (apart 0 (omega arith))) (no_value column places values (λ k below. apart (suc k) (omega (arith, below))))

-- ---- bytes of texts

abbrev spotted : ℕ → Value → (ℕ → Value) → ℕ → Value
spotted place v f column = if place == column then v else f column

sum_behind : (f : ℕ → Value) (place : ℕ) (v : Value) (a n : ℕ) → place < a
    → sum_by text_length (map (spotted place v f) (range_with_len a n)) ≡ sum_by text_length (map f (range_with_len a n))
sum_behind f place v a zero before = refl
sum_behind f place v a (suc n) before =
    sum_by-cons text_length (spotted place v f a) (map (spotted place v f) (range_with_len (a + 1) n))
    ∙ ap₂ (λ (x y : ℕ). x + y)
    (rw (ne_eqb place a (λ same. absurd (omega (arith, before, same)))) refl)
    (sum_behind f place v (a + 1) n (omega (arith, before)))
    ∙ sym (sum_by-cons text_length (f a) (map f (range_with_len (a + 1) n)))

-- the bytes of so many values from a column on
abbrev bytes_from : (ℕ → Value) → ℕ → ℕ → ℕ
bytes_from f a n = sum_by text_length (map f (range_with_len a n))

sum_spotted : (f : ℕ → Value) (place : ℕ) (v : Value) (a n : ℕ) → text_length (f place) ≡ 0 → a ≤ place → place < a + n
    → sum_by text_length (map (spotted place v f) (range_with_len a n)) ≡ text_length v + sum_by text_length (map f (range_with_len a n))
sum_spotted f place v a zero none from below = absurd (omega (arith, from, below))
sum_spotted f place v a (suc n) none from below =
    sum_by-cons text_length (spotted place v f a) (map (spotted place v f) (range_with_len (a + 1) n))
    ∙ by (place == a) refl (λ after. sum_spotted f place v (a + 1) n none (omega (arith, after)) (omega (arith, below)))
    ∙ ap (λ (m : ℕ). text_length v + m) (sym (sum_by-cons text_length (f a) (map f (range_with_len (a + 1) n))))
  where
    by : (b : Bool) → (place == a) ≡ b → (a < place → bytes_from (spotted place v f) (a + 1) n ≡ text_length v + bytes_from f (a + 1) n)
        → text_length (if b then v else f a) + bytes_from (spotted place v f) (a + 1) n ≡ text_length v + (text_length (f a) + bytes_from f (a + 1) n)
    by true e rest =
        let same = eqb-true place a e in
        let nothing : text_length (f a) ≡ 0 = rw (← same) none in
        omega (arith, nothing, sum_behind f place v (a + 1) n (omega (arith, same)))
    by false e rest =
        let apart = eqb-false place a e in
        let other : place ≢ a = apart in
        omega (arith, rest (omega (arith, from, other)))

nothing_summed : (a n : ℕ) → sum_by text_length (map (λ column. value.Null) (range_with_len a n)) ≡ 0
nothing_summed a zero = refl
nothing_summed a (suc n) =
    omega (arith, sum_by-cons text_length value.Null (map (λ column. value.Null) (range_with_len (a + 1) n)), nothing_summed (a + 1) n)

values_summed : (width : ℕ) (places : List ℕ) (values : Cells) → length values ≡ length places → IsOnce places
    → All (λ place. place < width) places
    → sum_by text_length (map (value_of places values) (range_with_len 0 width)) ≡ sum_by text_length values
values_summed width [] [] long once within = nothing_summed 0 width
values_summed width [] (v ∷ values) long once within = absurd (omega (arith, long))
values_summed width (place ∷ places) [] long once within = absurd (omega (arith, long))
values_summed width (place ∷ places) (v ∷ values) long once within =
    let inside = all_first (λ p. p < width) place places within in
    let apart = no_value place places values
    (λ k below same. let is : suc k ≡ 0 = once (suc k) 0 (omega (arith, below)) (omega arith) same in omega (arith, is)) in
    sum_spotted (value_of places values) place v 0 width apart (omega arith) (omega (arith, inside))
    ∙ ap (λ (m : ℕ). text_length v + m)
    (values_summed width places values (omega (arith, long))
    (λ i j in_i in_j same. let is : suc i ≡ suc j = once (suc i) (suc j) (omega (arith, in_i)) (omega (arith, in_j)) same in omega (arith, is))
    (all_behind (λ p. p < width) place places within))
    ∙ sym (sum_by-cons text_length v values)

row_summed : (width : ℕ) (places : List ℕ) (values : Cells) → length values ≡ length places → IsOnce places
    → All (λ place. place < width) places → sum_by text_length (row_from (sources_of width places) values) ≡ sum_by text_length values
row_summed width places values long once within =
    ap (λ (row : Cells). sum_by text_length row)
    (map-map (value_from values) (λ column. position (λ place. place == column) places) (range_with_len 0 width)
    ∙ map_range_same (λ column. value_from values (position (λ place. place == column) places)) (value_of places values) 0 width
    (λ column below. value_there column places values long))
    ∙ values_summed width places values long once within

bytes_same : (f : Cells → Cells) (rows : Rows) → All (λ row. sum_by text_length (f row) ≡ sum_by text_length row) rows
    → text_bytes (map f rows) ≡ text_bytes rows
unfolding text_bytes
bytes_same f [] each = refl
bytes_same f (row ∷ rows) each =
    sum_by-cons (λ (cells : Cells). sum_by text_length cells) (f row) (map f rows)
    ∙ ap₂ (λ (x y : ℕ). x + y)
    (all_first (λ r. sum_by text_length (f r) ≡ sum_by text_length r) row rows each)
    (bytes_same f rows (all_behind (λ r. sum_by text_length (f r) ≡ sum_by text_length r) row rows each))
    ∙ sym (sum_by-cons (λ (cells : Cells). sum_by text_length cells) row rows)

-- ---- nulls

map_nulls : {X : Type 0} (f : Option X → Value) (count : ℕ) → f None ≡ value.Null → map f (replicate count None) ≡ replicate count value.Null
map_nulls f zero is = refl
map_nulls f (suc count) is = ap₂ (λ (v : Value) (rest : Cells). v ∷ rest) is (map_nulls f count is)

nulls_values : (texts : List (List ℕ)) (k : Kind) (count : ℕ) → values_in texts (nulls_of k count) ≡ replicate count value.Null
nulls_values texts kind.Text count = map_nulls (text_value texts) count refl
nulls_values texts kind.Number count = map_nulls _ count refl
nulls_values texts kind.Truth count = map_nulls _ count refl
nulls_values texts kind.Day count = map_nulls _ count refl
nulls_values texts kind.Moment count = map_nulls _ count refl

nulls_kind : (k : Kind) (count : ℕ) → kind_in (nulls_of k count) ≡ k
nulls_kind kind.Text count = refl
nulls_kind kind.Number count = refl
nulls_kind kind.Truth count = refl
nulls_kind kind.Day count = refl
nulls_kind kind.Moment count = refl

nulls_marked : (marks : ℕ) (k : Kind) (count : ℕ) → IsMarked marks (nulls_of k count)
nulls_marked marks kind.Text count = All-replicate (IsMark marks) count None tt
nulls_marked marks kind.Number count = tt
nulls_marked marks kind.Truth count = tt
nulls_marked marks kind.Day count = tt
nulls_marked marks kind.Moment count = tt

-- a column without cells behind others
module _ (kinds : List Kind) (i : ℕ) (columns more : List Column) (within : i < length kinds)
    (is : more ≡ columns ++ nulls_of (slice_index_or kinds i kind.Text) 0 ∷ []) where
  pub none_kinds : map kind_in columns ≡ take i kinds → map kind_in more ≡ take (i + 1) kinds
  none_kinds front =
      ap (λ (all : List Column). map kind_in all) is
      ∙ map-append kind_in columns (nulls_of (slice_index_or kinds i kind.Text) 0 ∷ [])
      ∙ ap₂ (λ (all : List Kind) (k : Kind). all ++ k ∷ []) front (nulls_kind (slice_index_or kinds i kind.Text) 0)
      ∙ sym (take_more kinds i kind.Text within)

  pub none_empty : All (λ c. values_in [] c ≡ []) columns → All (λ c. values_in [] c ≡ []) more
  none_empty front =
      rw is (All-push (λ c. values_in [] c ≡ []) columns (nulls_of (slice_index_or kinds i kind.Text) 0) front
      (nulls_values [] (slice_index_or kinds i kind.Text) 0))

  pub none_marked : All (IsMarked 0) columns → All (IsMarked 0) more
  none_marked front =
      rw is (All-push (IsMarked 0) columns (nulls_of (slice_index_or kinds i kind.Text) 0) front
      (nulls_marked 0 (slice_index_or kinds i kind.Text) 0))

cell_of_nulls : (count row : ℕ) → cell_at (replicate count value.Null) row ≡ value.Null
cell_of_nulls zero row = refl
cell_of_nulls (suc count) zero = refl
cell_of_nulls (suc count) (suc row) = cell_of_nulls count row

-- ---- a column

column_has : (P : Column → Type 0) (narrow : List Column) (count : ℕ) (k : Kind) (o : Option ℕ) → P (nulls_of k count) → All P narrow
    → P (column_from narrow count k o)
column_has P narrow count k None nulls all = nulls
column_has P [] count k (Some i) nulls all = nulls
column_has P (c ∷ narrow) count k (Some zero) nulls all = all_first P c narrow all
column_has P (c ∷ narrow) count k (Some (suc i)) nulls all = column_has P narrow count k (Some i) nulls (all_behind P c narrow all)

module _ (texts : List (List ℕ)) (count : ℕ) (k : Kind) (row : ℕ) where
  null_there : cell_at (values_in texts (nulls_of k count)) row ≡ value.Null
  null_there = rw (nulls_values texts k count) (cell_of_nulls count row)

  cell_from : (narrow : List Column) (o : Option ℕ)
      → cell_at (values_in texts (column_from narrow count k o)) row ≡ value_from (map (λ cells. cell_at cells row) (map (values_in texts) narrow)) o
  cell_from narrow None = null_there
  cell_from [] (Some i) = null_there
  cell_from (c ∷ narrow) (Some zero) = refl
  cell_from (c ∷ narrow) (Some (suc i)) = cell_from narrow (Some i)

-- ---- all columns

module _ (kinds : List Kind) (count : ℕ) (places : List ℕ) (narrow : List Column)
    (kinds_are : map kind_in narrow ≡ map (kind_at_place kinds) places) where
  abbrev the_source : ℕ → Option ℕ
  the_source j = position (λ place. place == j) places

  abbrev the_column : ℕ → Column
  the_column j = column_from narrow count (kind_at_place kinds j) (the_source j)

  pub narrow_long : length narrow ≡ length places
  narrow_long =
      sym (length-map narrow kind_in) ∙ ap (λ (all : List Kind). length all) kinds_are ∙ length-map places (kind_at_place kinds)

  kind_by : (j : ℕ) (o : Option ℕ) → the_source j ≡ o → kind_in (column_from narrow count (kind_at_place kinds j) o) ≡ kind_at_place kinds j
  kind_by j None is = nulls_kind (kind_at_place kinds j) count
  kind_by j (Some i) is =
      let found = position-Some (λ place. place == j) places i 0 is in
      let same = eqb-true (get_or places i 0) j found.1 in
      sym (get_or-map kind_in narrow i (nulls_of (kind_at_place kinds j) count) kind.Text (omega (arith, found.0, narrow_long)))
      ∙ ap (λ (all : List Kind). slice_index_or all i kind.Text) kinds_are
      ∙ get_or-map (kind_at_place kinds) places i 0 kind.Text found.0
      ∙ ap (kind_at_place kinds) same

  pub wide_kinds : map kind_in (wide_from kinds count places narrow (length kinds)) ≡ kinds
  wide_kinds =
      map-map kind_in the_column (range_with_len 0 (length kinds))
      ∙ map_range_same (λ j. kind_in (the_column j)) (kind_at_place kinds) 0 (length kinds) (λ j below. kind_by j (the_source j) refl)
      ∙ sym (fill_by_all (kind_at_place kinds) kinds (length kinds) kind.Text refl (λ k below. refl))

  module _ (texts : List (List ℕ)) where
    row_wide : (row : ℕ) → map (λ cells. cell_at cells row) (map (values_in texts) (wide_from kinds count places narrow (length kinds)))
        ≡ row_from (sources_of (length kinds) places) (map (λ cells. cell_at cells row) (map (values_in texts) narrow))
    row_wide row =
        map-map (λ (cells : Cells). cell_at cells row) (values_in texts) (map the_column (range_with_len 0 (length kinds)))
        ∙ map-map (λ c. cell_at (values_in texts c) row) the_column (range_with_len 0 (length kinds))
        ∙ map_range_same (λ j. cell_at (values_in texts (the_column j)) row)
        (λ j. value_from (map (λ cells. cell_at cells row) (map (values_in texts) narrow)) (the_source j)) 0 (length kinds)
        (λ j below. cell_from texts count (kind_at_place kinds j) row narrow (the_source j))
        ∙ sym (map-map (value_from (map (λ cells. cell_at cells row) (map (values_in texts) narrow))) the_source (range_with_len 0 (length kinds)))

    pub rows_wide : rows_in count (map (values_in texts) (wide_from kinds count places narrow (length kinds)))
        ≡ map (row_from (sources_of (length kinds) places)) (rows_in count (map (values_in texts) narrow))
    rows_wide =
        map_range_same (λ row. map (λ cells. cell_at cells row) (map (values_in texts) (wide_from kinds count places narrow (length kinds))))
        (λ row. row_from (sources_of (length kinds) places) (map (λ cells. cell_at cells row) (map (values_in texts) narrow))) 0 count
        (λ row below. row_wide row)
        ∙ sym (map-map (row_from (sources_of (length kinds) places)) (λ row. map (λ cells. cell_at cells row) (map (values_in texts) narrow)) (range_with_len 0 count))

    pub held_wide : (text : ℕ) → All (λ place. place < length kinds) places → IsOnce places → IsHeld texts narrow count text
        → IsHeld texts (wide_from kinds count places narrow (length kinds)) count text
    held_wide text within once held = record {
      even = rw (map-map (values_in texts) the_column (range_with_len 0 (length kinds)))
          (all_range (λ (cells : Cells). length cells ≡ count) (λ j. values_in texts (the_column j)) (length kinds)
          (λ j. column_has (λ c. length (values_in texts c) ≡ count) narrow count (kind_at_place kinds j) (the_source j)
          (rw (nulls_values texts (kind_at_place kinds j) count) (length-replicate count value.Null)) even_narrow));
      marked = all_range (IsMarked (length texts)) the_column (length kinds)
          (λ j. column_has (IsMarked (length texts)) narrow count (kind_at_place kinds j) (the_source j)
          (nulls_marked (length texts) (kind_at_place kinds j) count) held.marked);
      utf8 = held.utf8;
      counted = held.counted
          ∙ sym (bytes_same (row_from (sources_of (length kinds) places)) (rows_in count (map (values_in texts) narrow)) each_row)
          ∙ ap text_bytes (sym rows_wide);
    }
      where
        even_narrow : All (λ c. length (values_in texts c) ≡ count) narrow
        even_narrow k d below =
            ap (λ (cells : Cells). length cells) (sym (get_or-map (values_in texts) narrow k d [] below))
            ∙ held.even k [] (omega (arith, below, length-map narrow (values_in texts)))

        each_row : All (λ row. sum_by text_length (row_from (sources_of (length kinds) places) row) ≡ sum_by text_length row)
            (rows_in count (map (values_in texts) narrow))
        each_row = all_range (λ (row : Cells). sum_by text_length (row_from (sources_of (length kinds) places) row) ≡ sum_by text_length row)
            (λ row. map (λ cells. cell_at cells row) (map (values_in texts) narrow)) count
            (λ row. row_summed (length kinds) places (map (λ cells. cell_at cells row) (map (values_in texts) narrow))
            (length-map (map (values_in texts) narrow) (λ cells. cell_at cells row) ∙ length-map narrow (values_in texts) ∙ narrow_long) once within)

-- ---- one column after the other

-- each column whose place is not passed yet is as it was
abbrev pub AreLeft : List ℕ → List Column → List Column → ℕ → Type 0
AreLeft places first narrow width =
    (i : ℕ) (d : Column) → i < length places → width ≤ get_or places i 0 → get_or narrow i d ≡ get_or first i d

module _ (places : List ℕ) (first narrow : List Column) (width count : ℕ) (k : Kind) (left : AreLeft places first narrow width) where
  column_by : (o : Option ℕ) → position (λ place. place == width) places ≡ o → column_from narrow count k o ≡ column_from first count k o
  column_by None is = refl
  column_by (Some i) is =
      let found = position-Some (λ place. place == width) places i 0 is in
      let same = eqb-true (get_or places i 0) width found.1 in
      left i (nulls_of k count) found.0 (omega (arith, same))

  pub wide_more : (kinds : List Kind) → k ≡ kind_at_place kinds width
      → wide_from kinds count places first width ++ column_from narrow count k (position (λ place. place == width) places) ∷ []
      ≡ wide_from kinds count places first (width + 1)
  wide_more kinds is =
      ap (λ (c : Column). wide_from kinds count places first width ++ c ∷ [])
      (column_by (position (λ place. place == width) places) refl
      ∙ ap (λ (one : Kind). column_from first count one (position (λ place. place == width) places)) is)
      ∙ sym (map-range_with_len_more (λ j. column_from first count (kind_at_place kinds j) (position (λ place. place == j) places)) 0 width width (omega arith))

  left_by : (o : Option ℕ) → position (λ place. place == width) places ≡ o → AreLeft places first (left_from narrow k o) (width + 1)
  left_by None is i d within behind = left i d within (omega (arith, behind))
  left_by (Some taken) is i d within behind =
      let found = position-Some (λ place. place == width) places taken 0 is in
      let same = eqb-true (get_or places taken 0) width found.1 in
      get_or-set_other narrow taken i (nulls_of k 0) d
      (λ equal. let here : get_or places i 0 ≡ width = rw equal same in absurd (omega (arith, here, behind)))
      ∙ left i d within (omega (arith, behind))

  pub left_more : AreLeft places first (left_from narrow k (position (λ place. place == width) places)) (width + 1)
  left_more = left_by (position (λ place. place == width) places) refl

pub left_long : (narrow : List Column) (k : Kind) (o : Option ℕ) → length (left_from narrow k o) ≡ length narrow
left_long narrow k None = refl
left_long narrow k (Some i) = length-set narrow i (nulls_of k 0)
