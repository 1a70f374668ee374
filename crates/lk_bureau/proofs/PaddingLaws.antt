-- The present edition is shown once more.
use Rattle.std.proofs.Common.{◌≡◌, ◌∙◌, ◌++◌, ◌+◌, ℕ, suc, List, [], ◌∷◌, length, subst, ap, append_assoc, length-append, arith}
use Rattle.lk_edition.specs.Standings.{Standing}
use Rattle.lk_bureau.specs.Holdings.{Held, held, times}

-- so many times more than at first
abbrev pub IsMore : {K : Type 0} → Held K → Held K → ℕ → Type 0
IsMore first now count =
    (now.keeper ≡ first.keeper) × (now.standing ≡ first.standing) × (now.shown ≡ first.shown ++ times count first.standing)
    × (length now.shown ≡ length first.shown + count)

more_shown : (shown more : List Standing) (e : Standing) (count : ℕ) → more ≡ shown ++ times count e → more ++ e ∷ [] ≡ shown ++ times (count + 1) e
more_shown shown more e count is =
    let next : suc count ≡ count + 1 = omega arith in
    subst (λ n. more ++ e ∷ [] ≡ shown ++ times n e) next (ap (λ list. list ++ e ∷ []) is ∙ append_assoc shown (times count e) (e ∷ []))

pub once_more : {K : Type 0} (first now next : Held K) (count : ℕ) → IsMore first now count → next ≡ held now.keeper now.standing (now.shown ++ now.standing ∷ [])
    → IsMore first next (count + 1)
once_more first now next count more is = (
  ap (λ h. h.keeper) is ∙ more.0,
  ap (λ h. h.standing) is ∙ more.1,
  ap (λ h. h.shown) is ∙ (ap (λ e. now.shown ++ e ∷ []) more.1 ∙ more_shown first.shown now.shown first.standing count more.2),
  (let long : length next.shown ≡ length now.shown + 1 = ap (λ h. length h.shown) is ∙ length-append now.shown (now.standing ∷ []) in omega (arith, long, more.3)),
)
