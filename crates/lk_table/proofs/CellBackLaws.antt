-- A value that a cell reads as is read back from its printed form.
use Rattle.std.proofs.Common.{◌≡◌, ◌+◌, ◌^◌, ◌∷◌, ◌&&◌, [], ℕ, ℤ, pos, neg_ℤ, Bool, true, false, List, Option, Some, None, Ok, Err, Result, length, drop, take, refl, sym, ap, subst, arith, ◌∙◌, nat_le, nat_lt, if◌then◌else◌, option_map, FitsSigned, w64}
use Rattle.std.specs.List.{position}
use Rattle.std.specs.Str.{is_utf8}
use Rattle.std.proofs.lemmas.Bool.Decides.{nat_tests}
use Rattle.std.proofs.lemmas.Int.{ints}
use Rattle.lk_val.specs.Numbers.{decimal_at, decimal_of, has_minus, in_range, is_digits, is_dot, is_too_fine, magnitude, num_of, number_text}
use Rattle.lk_val.specs.declared.num.Num.{Num}
use Rattle.lk_val.specs.declared.num.NumFault.{NumFault}
use Rattle.lk_val.specs.declared.num.NumFault.TheVariants.{NotNumber, Places, Range}
use Rattle.lk_val.proofs.PrintLaws.{printed-reads}
use Rattle.lk_val.specs.declared.value.Value.{Value}
use Rattle.lk_val.specs.declared.value.Value.TheVariants as value
use Rattle.lk_types.specs.Printing.{value_text}
use Rattle.lk_types.specs.declared.schema.Kind.{Kind}
use Rattle.lk_types.specs.declared.schema.Kind.TheVariants as kind
use Rattle.lk_cell.specs.CellValues.{cell_value, number_or_none, truth_cell, value_of_text}
use Rattle.lk_cell.specs.Days.{day_cell}
use Rattle.lk_cell.specs.Moments.{moment_cell}
use Rattle.lk_table.proofs.BackLaws.{Back}
use Rattle.lk_table.proofs.DayBackLaws.{day_text}
use Rattle.lk_table.proofs.MomentBackLaws.{moment_text, nothing_is_no_moment}

-- a text that is not empty is read by its kind
by_kind : (k : Kind) (text : List ℕ) → (text ≡ [] → ⊥) → cell_value k text ≡ value_of_text k text
by_kind k [] some = absurd (some refl)
by_kind k (c ∷ cs) some = refl

-- ---- texts

text_back : (cell : List ℕ) (v : Value) (b : Bool) → (cell ≡ [] → ⊥) → (is_utf8 cell && nat_le (length cell) 4096) ≡ b
    → option_map value.Text (if b then Some cell else None) ≡ Some v → Back kind.Text v
text_back cell v false some is e = cc e
text_back cell v true some is e =
    let same : value.Text cell ≡ v = cc in
    subst (Back kind.Text) same (by_kind kind.Text cell some ∙ rw is refl)

-- ---- numbers

abbrev Fits : Result Num NumFault → Type 0
Fits (Err fault) = Unit {0}
Fits (Ok n) = FitsSigned w64 n.0

if_fits : (b : Bool) (x y : Result Num NumFault) → Fits x → Fits y → Fits (if b then x else y)
if_fits true x y f g = f
if_fits false x y f g = g

range_fits_by : (size : ℕ) (b : Bool) → nat_le size (2 ^ 63) ≡ b → Fits (if b then Ok (record { 0 = neg_ℤ (pos size) }) else (Err Range))
range_fits_by size true is = grind (arith, ints, nat_tests)
range_fits_by size false is = tt

range_fits_above : (size : ℕ) (b : Bool) → nat_lt size (2 ^ 63) ≡ b → Fits (if b then Ok (record { 0 = pos size }) else (Err Range))
range_fits_above size true is = grind (arith, ints, nat_tests)
range_fits_above size false is = tt

range_fits : (negative : Bool) (size : ℕ) → Fits (in_range negative size)
range_fits true size = range_fits_by size (nat_le size (2 ^ 63)) refl
range_fits false size = range_fits_above size (nat_lt size (2 ^ 63)) refl

at_fits : (negative : Bool) (body : List ℕ) (dot : Option ℕ) → Fits (decimal_at negative body dot)
at_fits negative body None =
    if_fits (is_digits body) (in_range negative (magnitude body [])) (Err NotNumber) (range_fits negative (magnitude body [])) tt
at_fits negative body (Some dot) =
    let whole = take dot body in
    let behind = drop (dot + 1) body in
    if_fits (is_digits whole && is_digits behind)
    (if is_too_fine behind then (Err Places) else in_range negative (magnitude whole behind)) (Err NotNumber)
    (if_fits (is_too_fine behind) (Err Places) (in_range negative (magnitude whole behind)) tt (range_fits negative (magnitude whole behind)))
    tt

num_of-fits : (text : List ℕ) → Fits (num_of text)
unfolding num_of
num_of-fits text =
    if_fits (has_minus text) (decimal_of true (drop 1 text)) (decimal_of false text)
    (at_fits true (drop 1 text) (position is_dot (drop 1 text))) (at_fits false text (position is_dot text))

nothing_is_no_number : (n : Num) → num_of [] ≡ Ok n → ⊥
unfolding num_of
nothing_is_no_number n e = cc e

number_back : (r : Result Num NumFault) (v : Value) → Fits r → option_map value.Num (number_or_none r) ≡ Some v → Back kind.Number v
number_back (Err fault) v fits e = cc e
number_back (Ok n) v fits e =
    let same : value.Num n ≡ v = cc in
    let reads = printed-reads n.0 fits in
    subst (Back kind.Number) same
    (by_kind kind.Number (number_text n.0) (λ empty. nothing_is_no_number n (rw empty at reads))
    ∙ ap (λ r. option_map value.Num (number_or_none r)) reads)

-- ---- truth values

truth_back : (o : Option Bool) (v : Value) → option_map value.Truth o ≡ Some v → Back kind.Truth v
truth_back None v e = cc e
truth_back (Some true) v e = let same : value.Truth true ≡ v = cc in subst (Back kind.Truth) same refl
truth_back (Some false) v e = let same : value.Truth false ≡ v = cc in subst (Back kind.Truth) same refl

-- ---- days

day_back : (cell : List ℕ) (o : Option ℤ) (v : Value) → (cell ≡ [] → ⊥) → day_cell cell ≡ o → option_map value.Day o ≡ Some v → Back kind.Day v
day_back cell None v some is e = cc e
day_back cell (Some d) v some is e =
    let same : value.Day d ≡ v = cc in
    subst (Back kind.Day) same
    (ap (cell_value kind.Day) (day_text cell d is) ∙ by_kind kind.Day cell some ∙ ap (option_map value.Day) is)

-- ---- moments

moment_back : (cell : List ℕ) (o : Option ℤ) (v : Value) → moment_cell cell ≡ o → option_map value.Moment o ≡ Some v → Back kind.Moment v
moment_back cell None v is e = cc e
moment_back cell (Some m) v is e =
    let same : value.Moment m ≡ v = cc in
    let reads = moment_text cell m is in
    subst (Back kind.Moment) same
    (by_kind kind.Moment (value_text (value.Moment m)) (λ empty. nothing_is_no_moment m (ap moment_cell (sym empty) ∙ reads))
    ∙ ap (option_map value.Moment) reads)

-- ---- each kind

pub cell_back : (k : Kind) (cell : List ℕ) (v : Value) → cell_value k cell ≡ Some v → Back k v
cell_back k [] v e = let same : value.Null ≡ v = cc in subst (Back k) same refl
cell_back kind.Text (c ∷ cs) v e = text_back (c ∷ cs) v (is_utf8 (c ∷ cs) && nat_le (length (c ∷ cs)) 4096) (λ empty. cc empty) refl e
cell_back kind.Number (c ∷ cs) v e = number_back (num_of (c ∷ cs)) v (num_of-fits (c ∷ cs)) e
cell_back kind.Truth (c ∷ cs) v e = truth_back (truth_cell (c ∷ cs)) v e
cell_back kind.Day (c ∷ cs) v e = day_back (c ∷ cs) (day_cell (c ∷ cs)) v (λ empty. cc empty) refl e
cell_back kind.Moment (c ∷ cs) v e = moment_back (c ∷ cs) (moment_cell (c ∷ cs)) v refl e
