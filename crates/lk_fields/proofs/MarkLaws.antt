-- Rounds that mark nothing more.
use Rattle.std.proofs.Common.{◌≡◌, ◌∙◌, ℕ, zero, suc, ◌+◌, ◌-◌, ◌≤◌, Bool, true, false, List, [], ◌∷◌, refl, ap, arith}
use Rattle.std.proofs.lemmas.Bool.{false≢true}
use Rattle.lk_fields.specs.declared.rows.Row.{Row}
use Rattle.lk_fields.specs.declared.rows.Rule.{Rule}
use Rattle.lk_fields.specs.Rows.{are_same, marks_after, next_marks}

later : (r : Rule) (rows : List Row) (k j : ℕ) → next_marks r rows (marks_after r k rows) ≡ marks_after r k rows
    → marks_after r (j + k) rows ≡ marks_after r k rows
later r rows k zero e =
    let same : zero + k ≡ k = omega (arith) in
    ap (λ n. marks_after r n rows) same
later r rows k (suc j) e =
    let same : suc j + k ≡ suc (j + k) = omega (arith) in
    ap (λ n. marks_after r n rows) same ∙ ap (next_marks r rows) (later r rows k j e) ∙ e

-- where a round marks nothing, no later one does
pub settled : (r : Rule) (rows : List Row) (k n : ℕ) → next_marks r rows (marks_after r k rows) ≡ marks_after r k rows → k ≤ n
    → marks_after r n rows ≡ marks_after r k rows
settled r rows k n e most =
    let same : n ≡ (n - k) + k = omega (arith, most) in
    ap (λ m. marks_after r m rows) same ∙ later r rows k (n - k) e

pub same_marks : (xs ys : List Bool) → are_same xs ys ≡ true → xs ≡ ys
same_marks [] [] e = refl
same_marks [] (y ∷ ys) e = absurd (false≢true e)
same_marks (x ∷ xs) [] e = absurd (false≢true e)
same_marks (true ∷ xs) (true ∷ ys) e = ap (λ t. true ∷ t) (same_marks xs ys e)
same_marks (false ∷ xs) (false ∷ ys) e = ap (λ t. false ∷ t) (same_marks xs ys e)
same_marks (true ∷ xs) (false ∷ ys) e = absurd (false≢true e)
same_marks (false ∷ xs) (true ∷ ys) e = absurd (false≢true e)
