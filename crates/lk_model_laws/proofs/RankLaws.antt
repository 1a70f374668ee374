-- Where no derived table reads itself, each reads more tables, over all, than any that it reads.
use Rattle.std.proofs.Common.{◌≡◌, ◌∙◌, ◌<◌, ◌≤◌, ℕ, zero, suc, Bool, true, false, ◌||◌, List, [], ◌∷◌, ◌++◌, length, refl, ap, sym, subst, arith, eqb-true}
use Rattle.std.specs.Prelude.{filter, if◌then◌else◌, nat_eq}
use Rattle.std.specs.List.{list_any}
use Rattle.std.proofs.lemmas.Bool.{false≢true}
use Rattle.lk_val.proofs.LeastLaws.{IsKept, IsMonotone, any_within, least_set-kept, least_set-within}
use Rattle.lk_types.specs.Expressions.{has_number}
use Rattle.lk_types.specs.declared.model.Model.{Model}
use Rattle.lk_semantics.specs.Joins.{numbers_below}
use Rattle.lk_semantics.specs.Reading.{all_read_by, is_read, read_by, reads_itself}
use Rattle.lk_model_laws.proofs.GroundedLaws.{numbers_equal}
use Rattle.lk_model_laws.proofs.PlaceLaws.{or_left, or_right}

-- ---- a filter that keeps more

module _ (p q : ℕ → Bool) (more : (x : ℕ) → p x ≡ true → q x ≡ true) where
  no_fewer : (xs : List ℕ) → length (filter p xs) ≤ length (filter q xs)
  no_fewer [] = omega arith
  no_fewer (x ∷ xs) =
      let rest = no_fewer xs in
      elim (p x) as (λ a. p x ≡ a → length (if a then x ∷ filter p xs else filter p xs) ≤ length (filter q (x ∷ xs))) [
        | true ↦ λ px. subst (λ b. suc (length (filter p xs)) ≤ length (if b then x ∷ filter q xs else filter q xs)) (sym (more x px)) (omega arith)
        | false ↦ λ px. elim (q x) as (λ b. length (filter p xs) ≤ length (if b then x ∷ filter q xs else filter q xs)) [
          | true ↦ omega arith
          | false ↦ rest
        ]
      ] refl

  pub fewer : (d : ℕ) → p d ≡ false → q d ≡ true → (xs : List ℕ) → has_number d xs ≡ true → length (filter p xs) < length (filter q xs)
  fewer d none there [] h = absurd (false≢true h)
  fewer d none there (x ∷ xs) h =
      elim (nat_eq d x) as (λ b. nat_eq d x ≡ b → (b || has_number d xs) ≡ true → length (filter p (x ∷ xs)) < length (filter q (x ∷ xs))) [
        | true ↦ λ is h.
            let same : d ≡ x = eqb-true d x is in
            let px : p x ≡ false = ap p (sym same) ∙ none in
            let qx : q x ≡ true = ap q (sym same) ∙ there in
            let rest = no_fewer xs in
            subst (λ a. length (if a then x ∷ filter p xs else filter p xs) < length (filter q (x ∷ xs))) (sym px)
            (subst (λ b. length (filter p xs) < length (if b then x ∷ filter q xs else filter q xs)) (sym qx) (omega arith))
        | false ↦ λ is h.
            let rest = fewer d none there xs h in
            elim (p x) as (λ a. p x ≡ a → length (if a then x ∷ filter p xs else filter p xs) < length (filter q (x ∷ xs))) [
              | true ↦ λ px. subst (λ b. suc (length (filter p xs)) < length (if b then x ∷ filter q xs else filter q xs)) (sym (more x px)) (omega arith)
              | false ↦ λ px. elim (q x) as (λ b. length (filter p xs) < length (if b then x ∷ filter q xs else filter q xs)) [
                | true ↦ omega arith
                | false ↦ rest
              ]
            ] refl
      ] refl h

no_more_than : (p : ℕ → Bool) (xs : List ℕ) → length (filter p xs) ≤ length xs
no_more_than p [] = omega arith
no_more_than p (x ∷ xs) =
    let rest = no_more_than p xs in
    elim (p x) as (λ b. length (if b then x ∷ filter p xs else filter p xs) ≤ suc (length xs)) [
      | true ↦ omega arith
      | false ↦ omega arith
    ]

-- ---- the tables that a derived table reads

module _ (m : Model) where
  abbrev all : List ℕ
  all = numbers_below (length m.derived)

  abbrev rule : ℕ → List ℕ → ℕ → Bool
  rule d = is_read m (read_by m d)

  rule_grows : (d : ℕ) → IsMonotone numbers_equal all (rule d)
  rule_grows d s t within x h =
      elim (has_number x (read_by m d)) as (λ b. (b || list_any (λ reader. has_number x (read_by m reader)) s) ≡ true → (b || list_any (λ reader. has_number x (read_by m reader)) t) ≡ true) [
        | true ↦ λ h. refl
        | false ↦ λ h. any_within numbers_equal (λ reader. has_number x (read_by m reader)) s t within h
      ] h

  closed : (d : ℕ) → IsKept numbers_equal all (rule d) (all_read_by m d)
  closed d = least_set-kept numbers_equal all (rule d) (rule_grows d)

  -- what it reads itself is among all that it reads
  pub read_there : (d e : ℕ) → has_number e all ≡ true → has_number e (read_by m d) ≡ true → has_number e (all_read_by m d) ≡ true
  read_there d e there h = closed d e there (or_left (has_number e (read_by m d)) (list_any (λ reader. has_number e (read_by m reader)) (all_read_by m d)) h)

  any_at : (f : ℕ → Bool) (e : ℕ) (xs : List ℕ) → has_number e xs ≡ true → f e ≡ true → list_any f xs ≡ true
  any_at f e [] h is = absurd (false≢true h)
  any_at f e (x ∷ xs) h is =
      elim (nat_eq e x) as (λ b. nat_eq e x ≡ b → (b || has_number e xs) ≡ true → (f x || list_any f xs) ≡ true) [
        | true ↦ λ same h. or_left (f x) (list_any f xs) (ap f (sym (eqb-true e x same)) ∙ is)
        | false ↦ λ same h. or_right (f x) (list_any f xs) (any_at f e xs h is)
      ] refl h

  -- and so is all that this reads
  pub read_through : (d e : ℕ) → has_number e all ≡ true → has_number e (read_by m d) ≡ true → (x : ℕ) → has_number x (all_read_by m e) ≡ true → has_number x (all_read_by m d) ≡ true
  read_through d e there h x inside =
      least_set-within numbers_equal all (rule e) (rule_grows e) (all_read_by m d) kept x inside
    where
      kept : IsKept numbers_equal all (rule e) (all_read_by m d)
      kept y below named =
          closed d y below (or_right (has_number y (read_by m d)) (list_any (λ reader. has_number y (read_by m reader)) (all_read_by m d))
          (elim (has_number y (read_by m e)) as (λ b. has_number y (read_by m e) ≡ b → (b || list_any (λ reader. has_number y (read_by m reader)) (all_read_by m d)) ≡ true → list_any (λ reader. has_number y (read_by m reader)) (all_read_by m d) ≡ true) [
            | true ↦ λ is _. any_at (λ reader. has_number y (read_by m reader)) e (all_read_by m d) (read_there d e there h) is
            | false ↦ λ _ later. later
          ] refl named))

  -- how many tables it reads over all
  abbrev pub rank : ℕ → ℕ
  rank d = length (filter (λ x. has_number x (all_read_by m d)) all)

  pub rank_falls : (d e : ℕ) → has_number e all ≡ true → has_number e (read_by m d) ≡ true → reads_itself m e ≡ false → rank e < rank d
  rank_falls d e there h acyclic =
      fewer (λ x. has_number x (all_read_by m e)) (λ x. has_number x (all_read_by m d)) (read_through d e there h) e acyclic (read_there d e there h) all there

  below_length : (n : ℕ) → length (numbers_below n) ≡ n
  below_length zero = refl
  below_length (suc n) = one_more (numbers_below n) n ∙ ap suc (below_length n)
    where
      one_more : (xs : List ℕ) (x : ℕ) → length (xs ++ x ∷ []) ≡ suc (length xs)
      one_more [] x = refl
      one_more (y ∷ xs) x = ap suc (one_more xs x)

  -- fewer than there are, where it does not read itself
  pub rank_less : (d : ℕ) → has_number d all ≡ true → reads_itself m d ≡ false → rank d < length m.derived
  rank_less d there acyclic =
      let less = fewer (λ x. has_number x (all_read_by m d)) (λ x. true) (λ x h. refl) d acyclic refl all there in
      let kept = no_more_than (λ x. true) all in
      let count = below_length (length m.derived) in
      omega arith
