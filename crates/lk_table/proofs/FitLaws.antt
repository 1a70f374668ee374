-- The rows that are read have values of their columns' kinds.
use Rattle.std.proofs.Common.{◌≡◌, ◌<◌, ◌++◌, ◌∷◌, ◌==◌, [], ℕ, zero, suc, Bool, true, false, List, Option, Some, None, length, refl, sym, ap₂, arith, ◌∙◌, get_or, if◌then◌else◌}
use Rattle.std.specs.List.{All, list_any}
use Rattle.std.specs.Option.{option_map}
use Rattle.std.specs.Prelude.{Result, Ok, Err, map, ◌&&◌, ◌||◌}
use Rattle.std.proofs.lemmas.Bool.{eqb-false, eqb-true, ltb-false, ltb-true}
use Rattle.std.proofs.Math.Dec.{ltb}
use Rattle.std.proofs.Math.ListN.{get_or-map}
use Rattle.std.proofs.lemmas.List.{get_or_append_left, get_or_push, length_push}
use Rattle.std.proofs.lemmas.List.Elements.{All-push}
use Rattle.std.proofs.lemmas.List.Quantifiers.{position-Some}
use Rattle.lk_val.specs.Texts.{is_same_text}
use Rattle.lk_val.specs.declared.value.Value.{Value}
use Rattle.lk_val.specs.declared.value.Value.TheVariants as value
use Rattle.lk_types.specs.Tables.{Cells, is_of_kind}
use Rattle.lk_types.specs.declared.schema.Kind.{Kind}
use Rattle.lk_types.specs.declared.schema.Kind.TheVariants as kind
use Rattle.lk_types.specs.declared.schema.ColumnDef.{ColumnDef}
use Rattle.lk_cell.specs.CellValues.{cell_value, number_cell, text_cell, truth_cell}
use Rattle.lk_cell.specs.Days.{day_cell}
use Rattle.lk_cell.specs.Moments.{moment_cell}
use Rattle.lk_table.specs.Contents.{kind_of}
use Rattle.lk_table.specs.Columns.{are_of_kinds}
use Rattle.lk_table.specs.Batches.{Fields, and_then, column_at, no_column, or_name, place_named, places_of, record_values, unless_among, value_then, values_of}
use Rattle.lk_table.specs.Widening.{IsOnce, kind_at_place}

-- ---- a cell

of_kind_map : {A : Type 0} (k : Kind) (f : A → Value) (o : Option A) (v : Value) → ((a : A) → is_of_kind k (f a) ≡ true)
    → option_map f o ≡ Some v → is_of_kind k v ≡ true
of_kind_map k f None v each e = cc e
of_kind_map k f (Some a) v each e = let same : f a ≡ v = cc in rw (← same) (each a)

null_fits : (k : Kind) → is_of_kind k value.Null ≡ true
null_fits kind.Text = refl
null_fits kind.Number = refl
null_fits kind.Truth = refl
null_fits kind.Day = refl
null_fits kind.Moment = refl

pub cell_kind : (k : Kind) (cell : List ℕ) (v : Value) → cell_value k cell ≡ Some v → is_of_kind k v ≡ true
cell_kind k [] v e = let same : value.Null ≡ v = cc in rw (← same) (null_fits k)
cell_kind kind.Text (c ∷ cs) v e = of_kind_map kind.Text value.Text (text_cell (c ∷ cs)) v (λ a. refl) e
cell_kind kind.Number (c ∷ cs) v e = of_kind_map kind.Number value.Num (number_cell (c ∷ cs)) v (λ a. refl) e
cell_kind kind.Truth (c ∷ cs) v e = of_kind_map kind.Truth value.Truth (truth_cell (c ∷ cs)) v (λ a. refl) e
cell_kind kind.Day (c ∷ cs) v e = of_kind_map kind.Day value.Day (day_cell (c ∷ cs)) v (λ a. refl) e
cell_kind kind.Moment (c ∷ cs) v e = of_kind_map kind.Moment value.Moment (moment_cell (c ∷ cs)) v (λ a. refl) e

-- ---- a record

both_are : (a b : Bool) → a ≡ true → b ≡ true → (a && b) ≡ true
both_are true b p q = q
both_are false b p q = p

abbrev Fit : List ColumnDef → Result Cells (List ℕ) → Type 0
Fit named (Err name) = Unit {0}
Fit named (Ok values) = are_of_kinds (map kind_of named) values ≡ true

fit_then : (column : ColumnDef) (named : List ColumnDef) (o : Option Value) (rest : Result Cells (List ℕ))
    → ((v : Value) → o ≡ Some v → is_of_kind column.kind v ≡ true) → Fit named rest → Fit (column ∷ named) (value_then column.name o rest)
fit_then column named None rest each fit = tt
fit_then column named (Some v) (Err name) each fit = tt
fit_then column named (Some v) (Ok values) each fit =
    both_are (is_of_kind column.kind v) (are_of_kinds (map kind_of named) values) (each v refl) fit

values_fit : (named : List ColumnDef) (fields : Fields) → length fields ≡ length named → Fit named (values_of named fields)
values_fit [] [] long = refl
values_fit [] (field ∷ fields) long = absurd (omega (arith, long))
values_fit (column ∷ named) [] long = absurd (omega (arith, long))
values_fit (column ∷ named) (field ∷ fields) long =
    fit_then column named (cell_value column.kind field) (values_of named fields) (λ v e. cell_kind column.kind field v e)
    (values_fit named fields (omega (arith, long)))

record_fit_by : (named : List ColumnDef) (fields : Fields) (b : Bool) → (length fields == length named) ≡ b
    → Fit named (if b then values_of named fields else (Err []))
record_fit_by named fields true e = values_fit named fields (eqb-true (length fields) (length named) e)
record_fit_by named fields false e = tt

pub record_fit : (named : List ColumnDef) (fields : Fields) (values : Cells) → record_values named fields ≡ Ok values
    → are_of_kinds (map kind_of named) values ≡ true
record_fit named fields values e = rw e at (record_fit_by named fields (length fields == length named) refl)

-- ---- the header

-- the kinds of the columns that a header names are those at its places
pub kinds_there : (columns : List ColumnDef) (places : List ℕ)
    → map kind_of (map (column_at columns) places) ≡ map (kind_at_place (map kind_of columns)) places
kinds_there columns [] = refl
kinds_there columns (place ∷ places) =
    ap₂ (λ (k : Kind) (kinds : List Kind). k ∷ kinds) (sym (get_or-map kind_of columns place no_column)) (kinds_there columns places)

named_within : (columns : List ColumnDef) (name : List ℕ) (place : ℕ) → place_named columns name ≡ Some place → place < length columns
named_within columns name place e = (position-Some (λ (column : ColumnDef). is_same_text column.name name) columns place no_column e).0

-- a place that a name has, and that stands among none
among_none : (columns : List ColumnDef) (places : List ℕ) (name : List ℕ) (o : Option ℕ) (place : ℕ) → place_named columns name ≡ o
    → unless_among places o ≡ Some place → (place < length columns) × (list_any (λ other. other == place) places ≡ false)
among_none columns places name None place e f = cc f
among_none columns places name (Some other) place e f = by (list_any (λ x. x == other) places) refl f
  where
    by : (b : Bool) → list_any (λ x. x == other) places ≡ b → (if b then None else (Some other)) ≡ Some place
        → (place < length columns) × (list_any (λ x. x == place) places ≡ false)
    by true is g = cc g
    by false is g = let same : other ≡ place = cc in rw (← same) (named_within columns name other e, is)

apart_by : (other place : ℕ) (rest b : Bool) → (other == place) ≡ b → (b || rest) ≡ false → (other ≡ place → ⊥) × (rest ≡ false)
apart_by other place rest true is none = cc none
apart_by other place rest false is none = (eqb-false other place is, none)

apart_from : (places : List ℕ) (place : ℕ) → list_any (λ other. other == place) places ≡ false
    → (k : ℕ) → k < length places → get_or places k 0 ≡ place → ⊥
apart_from [] place none k below same = absurd (omega (arith, below))
apart_from (other ∷ places) place none zero below same =
    (apart_by other place (list_any (λ x. x == place) places) (other == place) refl none).0 same
apart_from (other ∷ places) place none (suc k) below same =
    apart_from places place (apart_by other place (list_any (λ x. x == place) places) (other == place) refl none).1 k (omega (arith, below)) same

-- a place that stands among none, behind those
once_more : (places : List ℕ) (place : ℕ) → IsOnce places → list_any (λ other. other == place) places ≡ false → IsOnce (places ++ place ∷ [])
once_more places place once none i j in_i in_j same = by (ltb i (length places)) (ltb j (length places)) refl refl
  where
    before : (k : ℕ) → k < length places → get_or (places ++ place ∷ []) k 0 ≡ get_or places k 0
    before k below = get_or_append_left places (place ∷ []) 0 k below

    last : (k : ℕ) → ltb k (length places) ≡ false → k < length (places ++ place ∷ []) → (k ≡ length places) × (get_or (places ++ place ∷ []) k 0 ≡ place)
    last k out inside =
        let here : length places ≡ k = omega (arith, inside, ltb-false k (length places) out, length_push places place) in
        (sym here, get_or_push places place 0 k here)

    by : (a b : Bool) → ltb i (length places) ≡ a → ltb j (length places) ≡ b → i ≡ j
    by true true a b = once i j (ltb-true i (length places) a) (ltb-true j (length places) b)
        (sym (before i (ltb-true i (length places) a)) ∙ same ∙ before j (ltb-true j (length places) b))
    by true false a b = absurd (apart_from places place none i (ltb-true i (length places) a)
        (sym (before i (ltb-true i (length places) a)) ∙ same ∙ (last j b in_j).1))
    by false true a b = absurd (apart_from places place none j (ltb-true j (length places) b)
        (sym (before j (ltb-true j (length places) b)) ∙ sym same ∙ (last i a in_i).1))
    by false false a b = (last i a in_i).0 ∙ sym (last j b in_j).0

-- what holds of no places, and of each place more, holds of all
module _ (columns : List ColumnDef) (P : List ℕ → Type 0)
    (more : (places : List ℕ) (place : ℕ) → P places → place < length columns → list_any (λ other. other == place) places ≡ false → P (places ++ place ∷ [])) where
  -- of the names behind a name, whatever the name's place
  places_then : (name : List ℕ) (o : Option ℕ) (next : ℕ → Result (List ℕ) (List ℕ)) (all : List ℕ)
      → ((place : ℕ) → o ≡ Some place → next place ≡ Ok all → P all)
      → and_then (or_name name o) next ≡ Ok all → P all
  places_then name None next all each e = cc e
  places_then name (Some place) next all each e = each place refl e

  places_have : (places : List ℕ) (names : Fields) (all : List ℕ) → P places → places_of columns places names ≡ Ok all → P all
  places_have places [] all had e = let same : places ≡ all = cc in rw (← same) had
  places_have places (name ∷ names) all had e =
      places_then name (unless_among places (place_named columns name)) (λ place. places_of columns (places ++ place ∷ []) names) all
      (λ place is f. let found = among_none columns places name (place_named columns name) place refl is in
      places_have (places ++ place ∷ []) names all (more places place had found.0 found.1) f)
      e

module _ (columns : List ColumnDef) (names : Fields) (all : List ℕ) (are : places_of columns [] names ≡ Ok all) where
  pub places_within : All (λ place. place < length columns) all
  places_within =
      places_have columns (λ places. All (λ place. place < length columns) places)
      (λ places place had inside none. All-push (λ p. p < length columns) places place had inside)
      [] names all (λ k d below. absurd (omega (arith, below))) are

  pub places_once : IsOnce all
  places_once =
      places_have columns IsOnce (λ places place had inside none. once_more places place had none)
      [] names all (λ i j in_i in_j same. absurd (omega (arith, in_i))) are
