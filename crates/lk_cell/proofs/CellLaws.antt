-- What a cell reads as is of its kind and of the years 1 to 9999.
use Rattle.std.proofs.Common.{◌≡◌, ℕ, Bool, true, List, [], ◌∷◌, IfSome, Some, None, Option, option_map, ℤ, refl}
use Rattle.lk_val.specs.declared.num.Num.{Num}
use Rattle.lk_val.specs.declared.value.Value.TheVariants as value
use Rattle.lk_types.specs.Dates.{is_dated}
use Rattle.lk_types.specs.declared.schema.Kind.{Kind}
use Rattle.lk_types.specs.declared.schema.Kind.TheVariants as kind
use Rattle.lk_cell.specs.Days.{day_cell}
use Rattle.lk_cell.specs.Moments.{moment_cell}
use Rattle.lk_cell.specs.CellValues.{text_cell, number_cell, truth_cell, cell_value}
use Rattle.lk_cell.proofs.DayLaws.{day_cell-dated}
use Rattle.lk_cell.proofs.MomentLaws.{moment_cell-dated}

text : (found : Option (List ℕ)) → IfSome (option_map value.Text found) (λ v. is_dated v ≡ true)
text None = tt
text (Some t) = refl

number : (found : Option Num) → IfSome (option_map value.Num found) (λ v. is_dated v ≡ true)
number None = tt
number (Some n) = refl

truth : (found : Option Bool) → IfSome (option_map value.Truth found) (λ v. is_dated v ≡ true)
truth None = tt
truth (Some b) = refl

day : (found : Option ℤ) → IfSome found (λ d. is_dated (value.Day d) ≡ true) → IfSome (option_map value.Day found) (λ v. is_dated v ≡ true)
day None h = tt
day (Some d) h = h

moment : (found : Option ℤ) → IfSome found (λ m. is_dated (value.Moment m) ≡ true) → IfSome (option_map value.Moment found) (λ v. is_dated v ≡ true)
moment None h = tt
moment (Some m) h = h

pub cell_value-dated : (k : Kind) (cell : List ℕ) → IfSome (cell_value k cell) (λ v. is_dated v ≡ true)
cell_value-dated k [] = refl
cell_value-dated kind.Text (c ∷ cs) = text (text_cell (c ∷ cs))
cell_value-dated kind.Number (c ∷ cs) = number (number_cell (c ∷ cs))
cell_value-dated kind.Truth (c ∷ cs) = truth (truth_cell (c ∷ cs))
cell_value-dated kind.Day (c ∷ cs) = day (day_cell (c ∷ cs)) (day_cell-dated (c ∷ cs))
cell_value-dated kind.Moment (c ∷ cs) = moment (moment_cell (c ∷ cs)) (moment_cell-dated (c ∷ cs))
