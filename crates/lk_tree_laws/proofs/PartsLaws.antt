-- The parts of joined rows: what a join writes and what it leaves.
use Rattle.std.proofs.Common.{◌≡◌, ℕ, zero, suc, false, List, [], ◌∷◌, length, refl, sym, ap, arith, inl, inr, Some, None}
use Rattle.std.specs.Prelude.{◌⊎◌, Option, slice_get, slice_set, replicate}
use Rattle.std.proofs.lemmas.Bool.{false≢true}
use Rattle.lk_val.specs.Values.{is_null}
use Rattle.lk_types.specs.Tables.{Cells}
use Rattle.lk_types.specs.Expressions.{value_in}

-- what stands at a place of a row's parts: nothing past them
abbrev pub At : Type 0
At = Option (Option Cells)

pub get-set_other : (parts : List (Option Cells)) (p q : ℕ) (v : Option Cells) → ((q ≡ p) → ⊥) → slice_get (slice_set parts p v) q ≡ slice_get parts q
get-set_other [] p q v other = refl
get-set_other (x ∷ xs) zero zero v other = absurd (other refl)
get-set_other (x ∷ xs) zero (suc q) v other = refl
get-set_other (x ∷ xs) (suc p) zero v other = refl
get-set_other (x ∷ xs) (suc p) (suc q) v other = get-set_other xs p q v (λ e. other (ap suc e))

-- where it is written it is as written, or past both lists
pub get-set_same : (parts others : List (Option Cells)) (p : ℕ) (v : Option Cells) → length parts ≡ length others → slice_get (slice_set parts p v) p ≡ slice_get (slice_set others p v) p
get-set_same [] [] p v e = refl
get-set_same [] (y ∷ ys) p v e = absurd (omega (arith, e))
get-set_same (x ∷ xs) [] p v e = absurd (omega (arith, e))
get-set_same (x ∷ xs) (y ∷ ys) zero v e = refl
get-set_same (x ∷ xs) (y ∷ ys) (suc p) v e = get-set_same xs ys p v (omega (arith, e))

-- it is what was written, or there is nothing
pub get-set_here : (parts : List (Option Cells)) (p : ℕ) (v : Option Cells) → (slice_get (slice_set parts p v) p ≡ Some v) ⊎ (slice_get (slice_set parts p v) p ≡ None)
get-set_here [] p v = inr refl
get-set_here (x ∷ xs) zero v = inl refl
get-set_here (x ∷ xs) (suc p) v = get-set_here xs p v

pub length-set : (parts : List (Option Cells)) (p : ℕ) (v : Option Cells) → length (slice_set parts p v) ≡ length parts
length-set [] p v = refl
length-set (x ∷ xs) zero v = refl
length-set (x ∷ xs) (suc p) v = ap suc (length-set xs p v)

-- the cells that stand there, if there are some
abbrev pub cells_at : At → Cells
cells_at (Some (Some cells)) = cells
cells_at part = []

-- a place of a row without parts
abbrev pub is_none : At → Type 0
is_none (Some (Some cells)) = ⊥
is_none part = Unit {0}

pub replicate-none : (n q : ℕ) → is_none (slice_get (replicate n None) q)
replicate-none zero q = tt
replicate-none (suc n) zero = tt
replicate-none (suc n) (suc q) = replicate-none n q

-- a part with a value that is not null is there
pub part_there : (part : At) (column : ℕ) → is_null (value_in part column) ≡ false → (cells : Cells) × (part ≡ Some (Some cells))
part_there None column known = absurd (false≢true (sym known))
part_there (Some None) column known = absurd (false≢true (sym known))
part_there (Some (Some cells)) column known = (cells, refl)
