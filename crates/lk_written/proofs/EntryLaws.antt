-- The entries of filters that are numbered through.
use Rattle.std.proofs.Common.{◌≡◌, ◌∙◌, ℕ, zero, suc, ◌+◌, [], ◌∷◌, ◌++◌, ap, arith}
use Rattle.lk_objects.specs.declared.view.Entry.TheVariants as entry
use Rattle.lk_written.specs.Entries.{filter_entries}

next_last : (first n : ℕ) → filter_entries first (suc n) ≡ filter_entries first n ++ entry.Filter (first + n) ∷ []
next_last first zero =
    let same : first ≡ first + zero = omega (arith) in
    ap (λ k. entry.Filter k ∷ []) same
next_last first (suc n) =
    let same : first + 1 + n ≡ first + suc n = omega (arith) in
    ap (λ t. entry.Filter first ∷ t) (next_last (first + 1) n)
    ∙ ap (λ k. entry.Filter first ∷ (filter_entries (first + 1) n ++ entry.Filter k ∷ [])) same

-- one filter more has the next number
pub one_more : (first n : ℕ) → filter_entries first (n + 1) ≡ filter_entries first n ++ entry.Filter (first + n) ∷ []
one_more first n =
    let same : n + 1 ≡ suc n = omega (arith) in
    ap (λ m. filter_entries first m) same ∙ next_last first n
