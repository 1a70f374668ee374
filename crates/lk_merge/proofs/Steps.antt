-- Names without a plus, and findings of two lists.
use Rattle.std.proofs.Common.{◌≡◌, ℕ, true, false, List, [], ◌∷◌, ◌++◌, refl, ap}
use Rattle.std.specs.Prelude.{◌≢◌, nat_eq, if◌then◌else◌, Option}
use Rattle.std.specs.List.{fold}
use Rattle.std.proofs.lemmas.Bool.{eqb-true}
use Rattle.lk_params.specs.Findings.{sooner}
use Rattle.lk_params.specs.declared.finding.Finding.{Finding}
use Rattle.lk_merge.specs.Declarations.{without_plus}

pub no_plus : (bs : List ℕ) → ((rest : List ℕ) → bs ≢ 43 ∷ rest) → without_plus bs ≡ bs
no_plus [] h = refl
no_plus (c ∷ cs) h =
    elim (nat_eq c 43) as (λ b. nat_eq c 43 ≡ b → (if b then cs else c ∷ cs) ≡ c ∷ cs) [
      | true ↦ λ e. absurd (h cs (ap (λ z. z ∷ cs) (eqb-true c 43 e)))
      | false ↦ λ e. refl
    ] refl

-- the first of two lists of findings, one list after the other
pub fold_both : (x : Option Finding) (a b : List Finding) → fold sooner (fold sooner x a) b ≡ fold sooner x (a ++ b)
fold_both x [] b = refl
fold_both x (f ∷ a) b = fold_both (sooner x f) a b
