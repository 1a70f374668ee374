-- What a loop has made, with one item more.
use Rattle.std.proofs.Common.{◌≡◌, ◌+◌, ◌<◌, ℕ, List, [], ◌∷◌, ◌++◌, drop, length, map, sym, ap, ◌∙◌, append_assoc, append-nil, arith}
use Rattle.std.specs.Prelude.{slice_index_or, Option, None, ℤ, ◌+ℤ◌}
use Rattle.std.proofs.lemmas.Int.{ints}
use Rattle.std.proofs.lemmas.List.{drop_more, length-append}
use Rattle.lk_val.specs.declared.cell.Cell.{Cell}
use Rattle.lk_semantics.specs.Measures.{amount, total}
use Rattle.lk_types.specs.declared.answer.Partial.{Partial}
use Rattle.lk_val.specs.declared.value.Value.{Value}
use Rattle.lk_types.specs.declared.answer.Pair.{Pair}
use Rattle.lk_agg.specs.declared.columns.Column.{Column}
use Rattle.lk_agg.specs.declared.parts.Part.{Part}
use Rattle.lk_agg.specs.Finishing.{at_place, cell_of, conflict_among, conflict_from, kept_of, kept_row_of, or_first, part_of, row_of, twice_of}

-- ---- what is made of each item

module _ {A B : Type 0} (f : A → B) where
  pub one_more : (made more all : List B) (items rest : List A) (a : A) (b : B) → made ++ map f items ≡ all → items ≡ a ∷ rest → b ≡ f a → more ≡ made ++ b ∷ [] → more ++ map f rest ≡ all
  one_more made more all items rest a b so_far first is more_is =
      ap (λ m. m ++ map f rest) more_is
      ∙ append_assoc made (b ∷ []) (map f rest)
      ∙ ap (λ x. made ++ x ∷ map f rest) is
      ∙ sym (ap (λ xs. made ++ map f xs) first)
      ∙ so_far

  pub none_more : (made all : List B) (items : List A) → made ++ map f items ≡ all → length items ≡ 0 → made ≡ all
  none_more made all [] so_far none = sym (append-nil made) ∙ so_far
  none_more made all (x ∷ xs) so_far none = absurd (omega (arith, none))

-- ---- conflicts

module _ (parts : List Part) (items rest : List Column) (column : Column) (all : Option (ℕ × Value)) where
  pub no_conflict : (more : List Part) (part : Part) → conflict_from (length parts) items ≡ all → items ≡ column ∷ rest → None ≡ twice_of column → more ≡ parts ++ part ∷ []
      → conflict_from (length more) rest ≡ all
  no_conflict more part so_far first none more_is =
      let count : length more ≡ length parts + 1 = omega (arith, ap (λ (ps : List Part). length ps) more_is, length-append parts (part ∷ [])) in
      ap (λ n. conflict_from n rest) count
      ∙ ap (λ t. or_first (at_place (length parts) t) (conflict_from (length parts + 1) rest)) none
      ∙ sym (ap (conflict_from (length parts)) first)
      ∙ so_far

-- ---- groups

pub no_conflict_among : (groups rest : List (List Value × List Column)) (e : List Value × List Column) (all : Option (ℕ × Value))
    → conflict_among groups ≡ all → groups ≡ e ∷ rest → conflict_from 0 e.1 ≡ None → conflict_among rest ≡ all
no_conflict_among groups rest e all so_far first none =
    ap (λ t. or_first t (conflict_among rest)) (sym none) ∙ sym (ap conflict_among first) ∙ so_far

pub row_made : (group key : List Value) (cells : List Cell) (parts : List Part) (columns : List Column) → group ≡ key → cells ≡ map cell_of parts → parts ≡ map part_of columns
    → record { group = group; cells = cells } ≡ row_of (key, columns)
row_made group key cells parts columns same made found = λ i. record { group = same i; cells = (made ∙ ap (map cell_of) found) i }

pub kept_row_made : (group key : List Value) (partials : List Partial) (parts : List Part) (columns : List Column) → group ≡ key → partials ≡ map kept_of parts → parts ≡ map part_of columns
    → (group, partials) ≡ kept_row_of (key, columns)
kept_row_made group key partials parts columns same made found = λ i. (same i, (made ∙ ap (map kept_of) found) i)

-- ---- sums

-- the items from a place on
from_here : {A : Type 0} (xs : List A) (i : ℕ) (x : A) → i < length xs → x ≡ slice_index_or xs i x → drop i xs ≡ x ∷ drop (i + 1) xs
from_here xs i x within is = drop_more xs i x within ∙ ap (λ y. y ∷ drop (i + 1) xs) (sym is)

pub total_more : {A : Type 0} (pair : A → Pair) (sum more n all : ℤ) (xs : List A) (i : ℕ) (x : A) → i < length xs → x ≡ slice_index_or xs i x → sum +ℤ total (map pair (drop i xs)) ≡ all
    → n ≡ amount (pair x).value → more ≡ sum +ℤ n → more +ℤ total (map pair (drop (i + 1) xs)) ≡ all
total_more pair sum more n all xs i x within is so_far n_is more_is =
    let rest : sum +ℤ (amount (pair x).value +ℤ total (map pair (drop (i + 1) xs))) ≡ all = sym (ap (λ ys. sum +ℤ total (map pair ys)) (from_here xs i x within is)) ∙ so_far in
    omega (arith, ints)
