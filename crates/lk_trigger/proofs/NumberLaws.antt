-- The numbers that pass a test, found one by one.
use Rattle.std.proofs.Common.{◌≡◌, ℕ, suc, ◌+◌, Bool, true, false, cond, List, [], ◌∷◌, ◌++◌, refl, sym, ap, ◌∙◌, arith}
use Rattle.std.specs.Prelude.{filter, if◌then◌else◌}
use Rattle.std.proofs.lemmas.List.Elements.{filter-append}
use Rattle.lk_semantics.specs.Joins.{numbers_below}

-- one number more, if it passes
kept_more : (test : ℕ → Bool) (n : ℕ) → filter test (numbers_below n) ++ (if test n then n ∷ [] else []) ≡ filter test (numbers_below (suc n))
kept_more test n = ap (λ ns. filter test (numbers_below n) ++ ns) (one (test n)) ∙ sym (filter-append test (numbers_below n) (n ∷ []))
  where
    one : (b : Bool) → (if b then n ∷ [] else []) ≡ cond b (n ∷ []) []
    one true = refl
    one false = refl

-- the numbers so far, and what one more adds to them
pub kept_next : (test : ℕ → Bool) (n : ℕ) (before after : List ℕ) (b : Bool) → before ≡ filter test (numbers_below n) → b ≡ test n
    → after ≡ before ++ (if b then n ∷ [] else []) → after ≡ filter test (numbers_below (n + 1))
kept_next test n before after b so_far passes added =
    let next : suc n ≡ n + 1 = omega arith in
    added ∙ (λ i. so_far i ++ (if passes i then n ∷ [] else [])) ∙ kept_more test n ∙ ap (λ k. filter test (numbers_below k)) next
