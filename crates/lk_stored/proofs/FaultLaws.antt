-- Faults of numbers in order.
use Rattle.std.proofs.Common.{◌≡◌, ℕ, suc, zero, ◌<◌, List, [], ◌∷◌, ◌++◌, Option, Some, None, refl, sym, ap, ◌∙◌, arith, ⊎_elim}
use Rattle.std.specs.Option.{option_or}
use Rattle.std.proofs.lemmas.Bool.{cases_lt}
use Rattle.lk_val.specs.declared.fault.FaultLine.{FaultLine}
use Rattle.lk_semantics.specs.Joins.{numbers_below}
use Rattle.lk_scope.specs.Pieces.{first_at}

or_assoc : (a b c : Option FaultLine) → option_or (option_or a b) c ≡ option_or a (option_or b c)
or_assoc None b c = refl
or_assoc (Some x) b c = refl

or_none : (a : Option FaultLine) → option_or a None ≡ a
or_none None = refl
or_none (Some x) = refl

first_append : {A : Type 0} (test : A → Option FaultLine) (xs ys : List A) → first_at test (xs ++ ys) ≡ option_or (first_at test xs) (first_at test ys)
first_append test [] ys = refl
first_append test (x ∷ xs) ys = ap (option_or (test x)) (first_append test xs ys) ∙ sym (or_assoc (test x) (first_at test xs) (first_at test ys))

module _ (test : ℕ → Option FaultLine) where
  -- one number more
  pub next_number : (d : ℕ) → first_at test (numbers_below d) ≡ None → test d ≡ None → first_at test (numbers_below (suc d)) ≡ None
  next_number d before here = first_append test (numbers_below d) (d ∷ []) ∙ (λ i. option_or (before i) (option_or (here i) None))

  -- a fault that none stands before is the first
  pub found_number : (d n : ℕ) (line : FaultLine) → first_at test (numbers_below d) ≡ None → test d ≡ Some line → d < n → first_at test (numbers_below n) ≡ Some line
  found_number d zero line before here less = absurd (omega (arith, less))
  found_number d (suc n) line before here less =
      first_append test (numbers_below n) (n ∷ [])
      ∙ ⊎_elim
      (λ lt. ap (λ first. option_or first (first_at test (n ∷ []))) (found_number d n line before here lt))
      (λ past.
      let e : n ≡ d = omega (arith, less, past) in
      (λ i. option_or (first_at test (numbers_below (e i))) (option_or (test (e i)) None)) ∙ (λ i. option_or (before i) (option_or (here i) None)))
      (cases_lt d n)
