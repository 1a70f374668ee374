-- Columns hold rows: a row more is a value more in each column, and a cell of a row stands in its column.
use Rattle.std.proofs.Common.{◌≡◌, ◌<◌, ◌+◌, ◌++◌, ◌∷◌, [], ℕ, zero, suc, Bool, true, false, List, length, take, refl, ap, ap₂, arith, ◌∙◌, get_or, add-one}
use Rattle.std.specs.List.{All, range_with_len, sum_by}
use Rattle.std.specs.Prelude.{map, slice_index_or, slice_set, ◌&&◌}
use Rattle.std.proofs.lemmas.List.{get_or-map, get_or_push, get_or_append_left, length_push, length-map}
use Rattle.std.proofs.lemmas.List.FromFn.{get_or-map-range_with_len, length-map-range_with_len, map-range_with_len_more}
use Rattle.std.proofs.lemmas.List.Sums.{sum_by_push}
use Rattle.lk_val.specs.declared.value.Value.{Value}
use Rattle.lk_val.specs.declared.value.Value.TheVariants as value
use Rattle.lk_types.specs.Tables.{Cells, Rows, is_of_kind}
use Rattle.lk_types.specs.declared.schema.Kind.{Kind}
use Rattle.lk_table.specs.Contents.{cell_at, row_at, text_bytes, text_length}
use Rattle.lk_table.specs.Columns.{are_of_kinds, pushed, rows_in}
use Rattle.lk_table.proofs.ColumnLaws.{all_behind, all_cons, all_first}

-- ---- ranges

pub map_range_same : {A : Type 0} (f g : ℕ → A) (a n : ℕ) → ((r : ℕ) → r < a + n → f r ≡ g r)
    → map f (range_with_len a n) ≡ map g (range_with_len a n)
map_range_same f g a zero same = refl
map_range_same {A} f g a (suc n) same =
    ap₂ (λ (x : A) (xs : List A). x ∷ xs) (same a (omega arith))
    (map_range_same f g (a + 1) n (λ r below. same r (omega (arith, below))))

-- ---- a row more

abbrev IsEven : ℕ → List Cells → Type 0
IsEven count columns = All (λ cells. length cells ≡ count) columns

row_before : (row count : ℕ) (values : Cells) (columns : List Cells) → IsEven count columns → row < count
    → map (λ cells. cell_at cells row) (pushed values columns) ≡ map (λ cells. cell_at cells row) columns
row_before row count [] columns even below = refl
row_before row count (v ∷ values) [] even below = refl
row_before row count (v ∷ values) (cells ∷ columns) even below =
    let long : length cells ≡ count = all_first (λ c. length c ≡ count) cells columns even in
    ap₂ (λ (x : Value) (xs : Cells). x ∷ xs)
    (get_or_append_left cells (v ∷ []) value.Null row (omega arith))
    (row_before row count values columns (all_behind (λ c. length c ≡ count) cells columns even) below)

row_last : (count : ℕ) (values : Cells) (columns : List Cells) → IsEven count columns → length values ≡ length columns
    → map (λ cells. cell_at cells count) (pushed values columns) ≡ values
row_last count [] [] even long = refl
row_last count [] (cells ∷ columns) even long = absurd (omega (arith, long))
row_last count (v ∷ values) [] even long = absurd (omega (arith, long))
row_last count (v ∷ values) (cells ∷ columns) even long =
    ap₂ (λ (x : Value) (xs : Cells). x ∷ xs)
    (get_or_push cells v value.Null count (all_first (λ c. length c ≡ count) cells columns even))
    (row_last count values columns (all_behind (λ c. length c ≡ count) cells columns even) (omega (arith, long)))

pub rows_pushed : (count : ℕ) (values : Cells) (columns : List Cells) → IsEven count columns
    → length values ≡ length columns → rows_in (count + 1) (pushed values columns) ≡ rows_in count columns ++ values ∷ []
rows_pushed count values columns even long =
    map-range_with_len_more (λ row. map (λ cells. cell_at cells row) (pushed values columns)) 0 count count (omega arith)
    ∙ ap₂ (λ (rows : Rows) (row : Cells). rows ++ row ∷ [])
    (map_range_same (λ row. map (λ cells. cell_at cells row) (pushed values columns)) (λ row. map (λ cells. cell_at cells row) columns)
    0 count (λ row below. row_before row count values columns even (omega (arith, below))))
    (row_last count values columns even long)

pub even_pushed : (count : ℕ) (values : Cells) (columns : List Cells) → IsEven count columns
    → length values ≡ length columns → IsEven (count + 1) (pushed values columns)
even_pushed count [] [] even long = λ k d below. absurd (omega (arith, below))
even_pushed count [] (cells ∷ columns) even long = absurd (omega (arith, long))
even_pushed count (v ∷ values) [] even long = absurd (omega (arith, long))
even_pushed count (v ∷ values) (cells ∷ columns) even long =
    all_cons (λ (c : Cells). length c ≡ count + 1) (cells ++ v ∷ []) (pushed values columns)
    (length_push cells v ∙ ap (λ n. n + 1) (all_first (λ c. length c ≡ count) cells columns even))
    (even_pushed count values columns (all_behind (λ c. length c ≡ count) cells columns even) (omega (arith, long)))

-- one column after the other
pub pushed_step : (i : ℕ) (values : Cells) (columns : List Cells) → i < length values → i < length columns
    → slice_set (pushed (take i values) columns) i (slice_index_or (pushed (take i values) columns) i [] ++ slice_index_or values i value.Null ∷ [])
    ≡ pushed (take (i + 1) values) columns
pushed_step i [] columns in_values in_columns = absurd (omega (arith, in_values))
pushed_step i (v ∷ values) [] in_values in_columns = absurd (omega (arith, in_columns))
pushed_step zero (v ∷ values) (cells ∷ columns) in_values in_columns = refl
pushed_step (suc i) (v ∷ values) (cells ∷ columns) in_values in_columns =
    ap (λ (rest : List Cells). (cells ++ v ∷ []) ∷ rest)
    (pushed_step i values columns (omega (arith, in_values)) (omega (arith, in_columns)))
    ∙ rw (add-one (suc i), add-one i) refl

pub length-pushed : (values : Cells) (columns : List Cells) → length (pushed values columns) ≡ length columns
length-pushed [] columns = refl
length-pushed (v ∷ values) [] = refl
length-pushed (v ∷ values) (cells ∷ columns) = ap suc (length-pushed values columns)

-- ---- a cell

pub length-rows_in : (count : ℕ) (columns : List Cells) → length (rows_in count columns) ≡ count
length-rows_in count columns = length-map-range_with_len (λ row. map (λ cells. cell_at cells row) columns) 0 count

pub cell_in_rows : (count row column : ℕ) (columns : List Cells) → row < count → column < length columns
    → cell_at (row_at (rows_in count columns) row) column ≡ cell_at (slice_index_or columns column []) row
cell_in_rows count row column columns in_rows in_columns =
    ap (λ (cells : Cells). cell_at cells column)
    (get_or-map-range_with_len (λ r. map (λ cells. cell_at cells r) columns) 0 count row row [] in_rows (omega arith))
    ∙ get_or-map (λ (cells : Cells). cell_at cells row) columns column [] value.Null in_columns

-- a cell of a column
pub row_within : {X : Type 0} (f : X → Value) (cells : List X) (row : ℕ) → row < length (map f cells) → row < length cells
row_within f cells row within = omega (arith, within, length-map cells f)

pub value_at : {X : Type 0} (f : X → Value) (cells : List X) (row : ℕ) (d : X) → row < length (map f cells)
    → get_or (map f cells) row value.Null ≡ f (get_or cells row d)
value_at f cells row d within = get_or-map f cells row d value.Null (row_within f cells row within)

-- ---- kinds

both : (a b : Bool) → (a && b) ≡ true → (a ≡ true) × (b ≡ true)
both true b is = (refl, is)
both false b is = cc is

pub kinds_long : (kinds : List Kind) (cells : Cells) → are_of_kinds kinds cells ≡ true → length kinds ≡ length cells
kinds_long [] [] are = refl
kinds_long [] (v ∷ cells) are = cc are
kinds_long (k ∷ kinds) [] are = cc are
kinds_long (k ∷ kinds) (v ∷ cells) are =
    ap suc (kinds_long kinds cells (both (is_of_kind k v) (are_of_kinds kinds cells) are).1)

pub kind_at : (kinds : List Kind) (cells : Cells) (i : ℕ) (k : Kind) (v : Value) → are_of_kinds kinds cells ≡ true → i < length kinds
    → is_of_kind (slice_index_or kinds i k) (slice_index_or cells i v) ≡ true
kind_at [] cells i k v are below = absurd (omega (arith, below))
kind_at (other ∷ kinds) [] i k v are below = cc are
kind_at (other ∷ kinds) (w ∷ cells) zero k v are below = (both (is_of_kind other w) (are_of_kinds kinds cells) are).0
kind_at (other ∷ kinds) (w ∷ cells) (suc i) k v are below =
    kind_at kinds cells i k v (both (is_of_kind other w) (are_of_kinds kinds cells) are).1 (omega (arith, below))

-- ---- bytes of texts

pub bytes_of_more : (rows : Rows) (row : Cells) → text_bytes (rows ++ row ∷ []) ≡ text_bytes rows + sum_by text_length row
unfolding text_bytes
bytes_of_more rows row = sum_by_push (λ (cells : Cells). sum_by text_length cells) rows row
