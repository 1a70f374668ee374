-- The rows of parts, one part behind the other.
use Rattle.std.proofs.Common.{◌≡◌, ◌<◌, ◌≤◌, ◌+◌, ◌-◌, ◌^◌, ◌++◌, ◌∷◌, [], ℕ, Bool, true, false, List, Option, Some, None, length, drop, zero, suc, refl, sym, ap, ap₂, arith, ◌∙◌, get_or, add-one, drop-cons}
use Rattle.std.specs.List.{All, find, list_any, sum_by}
use Rattle.std.specs.Prelude.{◌||◌}
use Rattle.std.proofs.lemmas.Grind.{flat_map-append}
use Rattle.std.proofs.lemmas.List.{append-nil, get_or-append_right, get_or_append_left, length-append, map-append}
use Rattle.std.proofs.lemmas.List.Elements.{All-push}
use Rattle.std.proofs.lemmas.List.Folds.{list_any-append}
use Rattle.std.proofs.lemmas.List.Sums.{sum_by-append}
use Rattle.lk_val.specs.Sets.{has}
use Rattle.lk_val.specs.Values.{is_same, value_cmp}
use Rattle.lk_val.specs.declared.value.Value.{Value}
use Rattle.lk_types.specs.Tables.{Cells, Rows}
use Rattle.lk_types.specs.declared.schema.Kind.{Kind}
use Rattle.lk_table.specs.Contents.{Content, cell_at, keys_at, keys_of, row_at, text_bytes, text_length}
use Rattle.lk_table.specs.KeySets.{HasRepeated}
use Rattle.lk_table.specs.Loads.{first_conflict, is_conflict, loaded, unless_conflict}
use Rattle.lk_table.proofs.ColumnLaws.{all_behind, all_first}
use Rattle.lk_table.specs.Versions.{IsShaped, IsVersion, emptied, rows_of}

pub no_parts : (kinds : List Kind) (key : Option ℕ) (parts : List Content) → parts ≡ [] → length kinds < 2 ^ 32 → IsVersion kinds key parts 0 0
unfolding text_bytes
no_parts kinds key parts none narrow = rw none record {
  shaped = λ k d below. absurd (omega (arith, below));
  counted = refl;
  measured = refl;
  narrow = narrow;
}

module _ (parts : List Content) (i : ℕ) (part : Content) (within : i < length parts) (is : part ≡ get_or parts i part) where
  parts_there : drop i parts ≡ part ∷ drop (i + 1) parts
  parts_there = rw add-one (drop-cons parts i part within ∙ ap (λ (p : Content). p ∷ drop (suc i) parts) (sym is))

  rows_there : rows_of (drop i parts) ≡ part.rows ++ rows_of (drop (i + 1) parts)
  rows_there = ap rows_of parts_there

  pub row_in_part : (row : ℕ) → row < length part.rows → row_at part.rows row ≡ row_at (rows_of (drop i parts)) row
  row_in_part row below =
      sym (ap (λ (rows : Rows). row_at rows row) rows_there ∙ get_or_append_left part.rows (rows_of (drop (i + 1) parts)) [] row below)

  pub row_past_part : (row : ℕ) → length part.rows ≤ row
      → row_at (rows_of (drop (i + 1) parts)) (row - length part.rows) ≡ row_at (rows_of (drop i parts)) row
  row_past_part row above =
      sym (ap (λ (rows : Rows). row_at rows row) rows_there ∙ get_or-append_right part.rows (rows_of (drop (i + 1) parts)) (length part.rows) row [] refl above)

  pub length_past_part : (row : ℕ) → row < length (rows_of (drop i parts)) → length part.rows ≤ row
      → row - length part.rows < length (rows_of (drop (i + 1) parts))
  length_past_part row below above =
      omega (arith, below, above, ap (λ (rows : Rows). length rows) rows_there, length-append part.rows (rows_of (drop (i + 1) parts)))

-- ---- a part more

pub rows_of_more : (parts : List Content) (part : Content) → rows_of (parts ++ part ∷ []) ≡ rows_of parts ++ part.rows
rows_of_more parts part =
    flat_map-append (λ (p : Content). p.rows) parts (part ∷ []) ∙ ap (λ (rows : Rows). rows_of parts ++ rows) (append-nil part.rows)

bytes_of_both : (first second : Rows) → text_bytes (first ++ second) ≡ text_bytes first + text_bytes second
unfolding text_bytes
bytes_of_both first second = sum_by-append (λ (row : Cells). sum_by text_length row) first second

pub version_more : (kinds : List Kind) (key : Option ℕ) (parts all : List Content) (part : Content) (count text more bytes : ℕ)
    → IsVersion kinds key parts count text → IsShaped kinds key part → all ≡ parts ++ part ∷ [] → more ≡ count + length part.rows
    → bytes ≡ text + text_bytes part.rows → IsVersion kinds key all more bytes
version_more kinds key parts all part count text more bytes version shaped all_is more_is bytes_is = rw all_is record {
  shaped = All-push (IsShaped kinds key) parts part version.shaped shaped;
  counted =
      let rows = ap (λ (r : Rows). length r) (rows_of_more parts part) in
      omega (arith, more_is, version.counted, rows, length-append (rows_of parts) part.rows);
  measured =
      let rows = ap text_bytes (rows_of_more parts part) in
      omega (arith, bytes_is, version.measured, rows, bytes_of_both (rows_of parts) part.rows);
  narrow = version.narrow;
}

-- ---- keys that are held

module _ (column : ℕ) where
  keys_of_both : (first second : Rows) → keys_at column (first ++ second) ≡ keys_at column first ++ keys_at column second
  keys_of_both first second = map-append (λ (row : Cells). cell_at row column) first second

  pub held_in_parts : (k : Value) (parts : List Content) → All (λ part. part.key ≡ Some column) parts
      → list_any (λ part. has value_cmp k (keys_of part.key part.rows)) parts ≡ has value_cmp k (keys_at column (rows_of parts))
  held_in_parts k [] all = refl
  held_in_parts k (part ∷ parts) all =
      ap₂ (λ (s t : Bool). s || t)
      (ap (λ (key : Option ℕ). has value_cmp k (keys_of key part.rows)) (all_first (λ (p : Content). p.key ≡ Some column) part parts all))
      (held_in_parts k parts (all_behind (λ (p : Content). p.key ≡ Some column) part parts all))
      ∙ sym (list_any-append (is_same k) (keys_at column part.rows) (keys_at column (rows_of parts)))
      ∙ ap (λ (keys : List Value). has value_cmp k keys) (sym (keys_of_both part.rows (rows_of parts)))

  pub conflict_by : (key : Value) (parts : List Content) (again keys : List Value) → HasRepeated again keys → All (λ part. part.key ≡ Some column) parts
      → is_conflict (keys_at column (rows_of parts)) keys key
      ≡ (has value_cmp key again || list_any (λ part. has value_cmp key (keys_of part.key part.rows)) parts)
  conflict_by key parts again keys repeated all =
      ap₂ (λ (s t : Bool). s || t) (sym (repeated key)) (sym (held_in_parts key parts all))

-- ---- the first that passes a test

pub found_first : {X : Type 0} (p : X → Bool) (xs : List X) (i : ℕ) (d : X) → i < length xs → ((k : ℕ) → k < i → p (get_or xs k d) ≡ false)
    → p (get_or xs i d) ≡ true → Some (get_or xs i d) ≡ find p xs
found_first p [] i d within before here = absurd (omega (arith, within))
found_first p (x ∷ xs) zero d within before here = rw here refl
found_first p (x ∷ xs) (suc i) d within before here =
    rw (before 0 (omega arith)) (found_first p xs i d (omega (arith, within)) (λ k below. before (suc k) (omega (arith, below))) here)

pub found_none : {X : Type 0} (p : X → Bool) (xs : List X) (d : X) → ((k : ℕ) → k < length xs → p (get_or xs k d) ≡ false) → None ≡ find p xs
found_none p [] d before = refl
found_none p (x ∷ xs) d before =
    rw (before 0 (omega arith)) (found_none p xs d (λ k below. before (suc k) (omega (arith, below))))

-- ---- all parts have the kinds

pub all_kinds : (kinds : List Kind) (key : Option ℕ) (parts : List Content) → All (IsShaped kinds key) parts → All (λ part. part.kinds ≡ kinds) parts
all_kinds kinds key parts all k d below = (all k d below).0

pub all_keys : (kinds : List Kind) (key : Option ℕ) (parts : List Content) → All (IsShaped kinds key) parts → All (λ part. part.key ≡ key) parts
all_keys kinds key parts all k d below = (all k d below).1

-- ---- a load in place of the rows

loaded_by : (content : Content) (rows : Rows) (conflict : Option Value) → unless_conflict conflict (emptied content) rows ≡ unless_conflict conflict content rows
loaded_by content rows None = refl
loaded_by content rows (Some key) = refl

pub loaded_emptied : (content batch : Content) → loaded (emptied content) batch false ≡ loaded content batch true
loaded_emptied content batch =
    loaded_by content batch.rows (first_conflict (keys_of content.key []) (keys_of content.key batch.rows))

-- ---- a load behind the rows

pub loaded_behind : (content part batch : Content) (parts : List Content) (found : Option Value) → part ≡ batch → batch.key ≡ content.key
    → rows_of parts ≡ content.rows → found ≡ first_conflict (keys_of part.key (rows_of parts)) (keys_of part.key part.rows)
    → unless_conflict found content (content.rows ++ part.rows) ≡ loaded content batch false
loaded_behind content part batch parts found part_is key_is rows_are is =
    rw (is, part_is, key_is, rows_are) refl
