-- Counts that are kept beside the marks that say which of them are present.
use Rattle.std.proofs.Common.{◌≡◌, ◌<◌, ◌≤◌, ◌-◌, ◌++◌, ◌∷◌, ◌∙◌, [], ℕ, ℤ, pos, zero, suc, Bool, List, Option, Some, None, length, refl, ap, ap₂, arith, get_or, if◌then◌else◌}
use Rattle.std.specs.Option.{is_some, unwrap_or}
use Rattle.lk_table.specs.Counts.{counts_in}
use Rattle.lk_table.specs.Nulls.{behind_nulls}
use Rattle.lk_table.proofs.NullLaws.{cell_more, held_there, held_within}

pub length-counts_in : (present : List Bool) (counts : List ℤ) → length present ≡ length counts → length (counts_in present counts) ≡ length present
length-counts_in [] counts long = refl
length-counts_in (p ∷ present) [] long = absurd (omega (arith, long))
length-counts_in (p ∷ present) (n ∷ counts) long = ap suc (length-counts_in present counts (omega (arith, long)))

-- ---- a count more

push_by : (present : List Bool) (counts : List ℤ) (p : Bool) (n : ℤ) → length present ≡ length counts
    → counts_in (present ++ p ∷ []) (counts ++ n ∷ []) ≡ counts_in present counts ++ (if p then Some n else None) ∷ []
push_by [] [] p n long = refl
push_by [] (other ∷ counts) p n long = absurd (omega (arith, long))
push_by (q ∷ present) [] p n long = absurd (omega (arith, long))
push_by (q ∷ present) (other ∷ counts) p n long =
    ap (λ (rest : List (Option ℤ)). (if q then Some other else None) ∷ rest) (push_by present counts p n (omega (arith, long)))

whole : (count : Option ℤ) → (if is_some count then Some (unwrap_or count (pos 0)) else None) ≡ count
whole None = refl
whole (Some n) = refl

pub count_pushed : (nulls : ℕ) (present more : List Bool) (counts grown : List ℤ) (count : Option ℤ) (all : List (Option ℤ))
    → behind_nulls nulls (counts_in present counts) ≡ all → length present ≡ length counts
    → grown ≡ counts ++ unwrap_or count (pos 0) ∷ [] → more ≡ present ++ is_some count ∷ []
    → behind_nulls nulls (counts_in more grown) ≡ all ++ count ∷ []
count_pushed nulls present more counts grown count all is long grown_is more_is =
    ap (λ (held : List (Option ℤ)). behind_nulls nulls held)
    (ap₂ counts_in more_is grown_is
    ∙ push_by present counts (is_some count) (unwrap_or count (pos 0)) long
    ∙ ap (λ (last : Option ℤ). counts_in present counts ++ last ∷ []) (whole count))
    ∙ cell_more nulls (counts_in present counts) all is count

-- ---- the count of a row

count_at : (present : List Bool) (counts : List ℤ) (row : ℕ) (p : Bool) (n : ℤ) → length present ≡ length counts → row < length present
    → (if get_or present row p then Some (get_or counts row n) else None) ≡ get_or (counts_in present counts) row None
count_at [] counts row p n long within = absurd (omega (arith, within))
count_at (q ∷ present) [] row p n long within = absurd (omega (arith, long))
count_at (q ∷ present) (other ∷ counts) zero p n long within = refl
count_at (q ∷ present) (other ∷ counts) (suc row) p n long within =
    count_at present counts row p n (omega (arith, long)) (omega (arith, within))

module _ (nulls : ℕ) (present : List Bool) (counts : List ℤ) (all : List (Option ℤ))
    (is : behind_nulls nulls (counts_in present counts) ≡ all) (long : length present ≡ length counts)
    (row : ℕ) (below : row < length all) (behind : nulls ≤ row) where
  pub count_within : row - nulls < length present
  count_within = omega (arith, held_within nulls (counts_in present counts) all is row below behind, length-counts_in present counts long)

  pub count_there : (p : Bool) (n : ℤ) → p ≡ get_or present (row - nulls) p → n ≡ get_or counts (row - nulls) n
      → (if p then Some n else None) ≡ get_or all row None
  count_there p n p_is n_is =
      ap₂ (λ (q : Bool) (m : ℤ). if q then Some m else None) p_is n_is
      ∙ count_at present counts (row - nulls) p n long count_within
      ∙ held_there nulls (counts_in present counts) all is row behind
