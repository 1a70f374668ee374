-- A value that a cell reads as is of the cell's kind, and such as a cell reads.
use Rattle.std.proofs.Common.{◌≡◌, ◌+◌, ◌^◌, ◌∷◌, ◌&&◌, [], ℕ, pos, neg_ℤ, Bool, true, false, List, Option, Some, None, Ok, Err, Result, length, drop, take, refl, arith, nat_le, nat_lt, if◌then◌else◌, option_map, IfSome}
use Rattle.std.specs.List.{position}
use Rattle.std.specs.Str.{is_utf8}
use Rattle.std.proofs.lemmas.Bool.{leb-true, ltb-true, le-leb}
use Rattle.std.proofs.lemmas.Int.{ints}
use Rattle.lk_val.proofs.FractionSteps.{both, together, le-true, lt-true}
use Rattle.lk_val.specs.Numbers.{decimal_at, decimal_of, has_minus, in_range, is_digits, is_dot, is_too_fine, magnitude, num_of}
use Rattle.lk_val.specs.declared.num.Num.{Num}
use Rattle.lk_val.specs.declared.num.NumFault.{NumFault}
use Rattle.lk_val.specs.declared.num.NumFault.TheVariants.{NotNumber, Places, Range}
use Rattle.lk_val.specs.declared.value.Value.{Value}
use Rattle.lk_val.specs.declared.value.Value.TheVariants as value
use Rattle.lk_types.specs.Tables.{is_cell, is_of_kind}
use Rattle.lk_types.specs.declared.schema.Kind.{Kind}
use Rattle.lk_types.specs.declared.schema.Kind.TheVariants as kind
use Rattle.lk_cell.specs.CellValues.{cell_value, number_cell, number_or_none, text_cell, truth_cell}
use Rattle.lk_cell.specs.Days.{day_cell}
use Rattle.lk_cell.specs.Moments.{moment_cell}
use Rattle.lk_cell.proofs.DayLaws.{day_cell-dated}
use Rattle.lk_cell.proofs.MomentLaws.{moment_cell-dated}
use Rattle.lk_table.proofs.FitLaws.{cell_kind}

-- ---- numbers

abbrev IsHeld : Result Num NumFault → Type 0
IsHeld (Err fault) = Unit {0}
IsHeld (Ok n) = is_cell (value.Num n) ≡ true

if_held : (b : Bool) (x y : Result Num NumFault) → IsHeld x → IsHeld y → IsHeld (if b then x else y)
if_held true x y f g = f
if_held false x y f g = g

below_held : (size : ℕ) (b : Bool) → nat_le size (2 ^ 63) ≡ b → IsHeld (if b then Ok (record { 0 = neg_ℤ (pos size) }) else (Err Range))
below_held size true is =
    let small = leb-true size (2 ^ 63) is in
    together (le-true (neg_ℤ (pos (2 ^ 63))) (neg_ℤ (pos size)) (omega (arith, ints))) (lt-true (neg_ℤ (pos size)) (pos (2 ^ 63)) (omega (arith, ints)))
below_held size false is = tt

above_held : (size : ℕ) (b : Bool) → nat_lt size (2 ^ 63) ≡ b → IsHeld (if b then Ok (record { 0 = pos size }) else (Err Range))
above_held size true is =
    let small = ltb-true size (2 ^ 63) is in
    together (le-true (neg_ℤ (pos (2 ^ 63))) (pos size) (omega (arith, ints))) (lt-true (pos size) (pos (2 ^ 63)) (omega (arith, ints)))
above_held size false is = tt

range_held : (negative : Bool) (size : ℕ) → IsHeld (in_range negative size)
range_held true size = below_held size (nat_le size (2 ^ 63)) refl
range_held false size = above_held size (nat_lt size (2 ^ 63)) refl

at_held : (negative : Bool) (body : List ℕ) (dot : Option ℕ) → IsHeld (decimal_at negative body dot)
at_held negative body None =
    if_held (is_digits body) (in_range negative (magnitude body [])) (Err NotNumber) (range_held negative (magnitude body [])) tt
at_held negative body (Some dot) =
    let whole = take dot body in
    let behind = drop (dot + 1) body in
    if_held (is_digits whole && is_digits behind)
    (if is_too_fine behind then (Err Places) else in_range negative (magnitude whole behind)) (Err NotNumber)
    (if_held (is_too_fine behind) (Err Places) (in_range negative (magnitude whole behind)) tt (range_held negative (magnitude whole behind)))
    tt

num_held : (text : List ℕ) → IsHeld (num_of text)
unfolding num_of
num_held text =
    if_held (has_minus text) (decimal_of true (drop 1 text)) (decimal_of false text)
    (at_held true (drop 1 text) (position is_dot (drop 1 text))) (at_held false text (position is_dot text))

number_held : (r : Result Num NumFault) → IsHeld r → IfSome (number_or_none r) (λ n. is_cell (value.Num n) ≡ true)
number_held (Err fault) held = tt
number_held (Ok n) held = held

-- ---- texts

text_by : (c : ℕ) (cs : List ℕ) (b : Bool) → (is_utf8 (c ∷ cs) && nat_le (length (c ∷ cs)) 4096) ≡ b
    → IfSome (if b then Some (c ∷ cs) else None) (λ t. is_cell (value.Text t) ≡ true)
text_by c cs false is = tt
text_by c cs true is =
    let ends = both (is_utf8 (c ∷ cs)) (nat_le (length (c ∷ cs)) 4096) is in
    together (together (le-leb 1 (length (c ∷ cs)) (omega arith)) ends.1) ends.0

-- ---- all kinds

made : {A : Type 0} (f : A → Value) (o : Option A) (v : Value) → IfSome o (λ a. is_cell (f a) ≡ true) → option_map f o ≡ Some v → is_cell v ≡ true
made f None v held e = cc e
made f (Some a) v held e = let same : f a ≡ v = cc in rw (← same) held

truth_held : (o : Option Bool) → IfSome o (λ b. is_cell (value.Truth b) ≡ true)
truth_held None = tt
truth_held (Some b) = refl

cell_held : (k : Kind) (cell : List ℕ) (v : Value) → cell_value k cell ≡ Some v → is_cell v ≡ true
cell_held k [] v e = let same : value.Null ≡ v = cc in rw (← same) refl
cell_held kind.Text (c ∷ cs) v e =
    made value.Text (text_cell (c ∷ cs)) v (text_by c cs (is_utf8 (c ∷ cs) && nat_le (length (c ∷ cs)) 4096) refl) e
cell_held kind.Number (c ∷ cs) v e =
    made value.Num (number_cell (c ∷ cs)) v (number_held (num_of (c ∷ cs)) (num_held (c ∷ cs))) e
cell_held kind.Truth (c ∷ cs) v e = made value.Truth (truth_cell (c ∷ cs)) v (truth_held (truth_cell (c ∷ cs))) e
cell_held kind.Day (c ∷ cs) v e = made value.Day (day_cell (c ∷ cs)) v (day_cell-dated (c ∷ cs)) e
cell_held kind.Moment (c ∷ cs) v e = made value.Moment (moment_cell (c ∷ cs)) v (moment_cell-dated (c ∷ cs)) e

pub cell_fits : (k : Kind) (cell : List ℕ) (v : Value) → cell_value k cell ≡ Some v → (is_of_kind k v && is_cell v) ≡ true
cell_fits k cell v e = together (cell_kind k cell v e) (cell_held k cell v e)

pub null_fits : (k : Kind) → (is_of_kind k value.Null && is_cell value.Null) ≡ true
null_fits k = cell_fits k [] value.Null refl
