-- Lists: what holds of each item, what stands at a place, and the first that passes a test.
use Rattle.std.proofs.Common.{◌≡◌, ◌∙◌, ◌<◌, ℕ, zero, suc, ◌+◌, Bool, true, false, cond, ◌||◌, List, [], ◌∷◌, ◌++◌, map, length, refl, ap, sym, subst, Option, Some, None, arith}
use Rattle.std.specs.Prelude.{filter, flat_map, if◌then◌else◌, slice_get, slice_index_or}
use Rattle.std.specs.List.{AllByRecursion, list_all, list_any, position, position_from}
use Rattle.std.specs.Option.{option_map, option_or}
use Rattle.std.proofs.lemmas.Bool.{false≢true}
use Rattle.std.proofs.lemmas.Iterator.Adapters.{position_from-zero}
use Rattle.lk_params.specs.Parameters.{last_by}
use Rattle.lk_semantics.proofs.EveryLaws.{Every, both}
use Rattle.lk_model_laws.proofs.PieceLaws.{EachFrom, some_none}

-- ---- each item

-- each item of one list with the item of another at its place
abbrev pub EachPair : {A B : Type 0} → (A → B → Type 0) → List A → List B → Type 0
EachPair P [] [] = Unit {0}
EachPair P (x ∷ xs) (y ∷ ys) = P x y × EachPair P xs ys
EachPair P xs ys = ⊥

module _ {A : Type 0} (P Q : A → Type 0) where
  pub all_more : ((x : A) → P x → Q x) → (xs : List A) → AllByRecursion P xs → AllByRecursion Q xs
  all_more f [] h = tt
  all_more f (x ∷ xs) h = (f x h.0, all_more f xs h.1)

  pub all_with : (xs : List A) → AllByRecursion P xs → AllByRecursion Q xs → AllByRecursion (λ x. P x × Q x) xs
  all_with [] p q = tt
  all_with (x ∷ xs) p q = ((p.0, q.0), all_with xs p.1 q.1)

module _ {A : Type 0} (P : A → Type 0) where
  pub all_append : (xs ys : List A) → AllByRecursion P xs → AllByRecursion P ys → AllByRecursion P (xs ++ ys)
  all_append [] ys p q = q
  all_append (x ∷ xs) ys p q = (p.0, all_append xs ys p.1 q)

  pub all_front : (xs ys : List A) → AllByRecursion P (xs ++ ys) → AllByRecursion P xs
  all_front [] ys p = tt
  all_front (x ∷ xs) ys p = (p.0, all_front xs ys p.1)

  pub all_behind : (xs ys : List A) → AllByRecursion P (xs ++ ys) → AllByRecursion P ys
  all_behind [] ys p = p
  all_behind (x ∷ xs) ys p = all_behind xs ys p.1

  pub all_filter : (keep : A → Bool) (xs : List A) → AllByRecursion P xs → AllByRecursion P (filter keep xs)
  all_filter keep [] p = tt
  all_filter keep (x ∷ xs) p =
      elim (keep x) as (λ b. AllByRecursion P (if b then x ∷ filter keep xs else filter keep xs)) [
        | true ↦ (p.0, all_filter keep xs p.1)
        | false ↦ all_filter keep xs p.1
      ]

  pub all_kept : (keep : A → Bool) (xs : List A) → AllByRecursion P xs → AllByRecursion (λ x. P x × (keep x ≡ true)) (filter keep xs)
  all_kept keep [] p = tt
  all_kept keep (x ∷ xs) p =
      elim (keep x) as (λ b. keep x ≡ b → AllByRecursion (λ y. P y × (keep y ≡ true)) (if b then x ∷ filter keep xs else filter keep xs)) [
        | true ↦ λ is. ((p.0, is), all_kept keep xs p.1)
        | false ↦ λ is. all_kept keep xs p.1
      ] refl

  pub all_map : {B : Type 0} (Q : B → Type 0) (f : B → A) → ((x : B) → Q x → P (f x)) → (xs : List B) → AllByRecursion Q xs → AllByRecursion P (map f xs)
  all_map Q f step [] q = tt
  all_map Q f step (x ∷ xs) q = (step x q.0, all_map Q f step xs q.1)

  pub all_flat : {B : Type 0} (Q : B → Type 0) (f : B → List A) → ((x : B) → Q x → AllByRecursion P (f x)) → (xs : List B) → AllByRecursion Q xs → AllByRecursion P (flat_map f xs)
  all_flat Q f step [] q = tt
  all_flat Q f step (x ∷ xs) q = all_append (f x) (flat_map f xs) (step x q.0) (all_flat Q f step xs q.1)

  pub all_true : ((x : A) → P x) → (xs : List A) → AllByRecursion P xs
  all_true f [] = tt
  all_true f (x ∷ xs) = (f x, all_true f xs)

  pub all_at : (xs : List A) → AllByRecursion P xs → (k : ℕ) (x : A) → slice_get xs k ≡ Some x → P x
  all_at [] p k x h = absurd (some_none (sym h))
  all_at (y ∷ xs) p zero x h = subst P (same y x h) p.0
    where
      same : (a b : A) → Some a ≡ Some b → a ≡ b
      same a b e = cc
  all_at (y ∷ xs) p (suc k) x h = all_at xs p.1 k x h

  -- where a test follows
  pub all_every : (t : A → Bool) → ((x : A) → P x → t x ≡ true) → (xs : List A) → AllByRecursion P xs → Every t xs
  all_every t f [] p = refl
  all_every t f (x ∷ xs) p = both (t x) (list_all t xs) (f x p.0) (all_every t f xs p.1)

  -- the last that passes a test
  pub all_last : (t : A → Bool) (xs : List A) → AllByRecursion P xs → (x : A) → last_by t xs ≡ Some x → P x × (t x ≡ true)
  all_last t [] p x h = absurd (some_none (sym h))
  all_last t (y ∷ xs) p x h =
      elim (last_by t xs) as (λ o. last_by t xs ≡ o → option_or o (if t y then Some y else None) ≡ Some x → P x × (t x ≡ true)) [
        | Some z ↦ λ is h. let same : z ≡ x = cc in subst (λ w. P w × (t w ≡ true)) same (all_last t xs p.1 z is)
        | None ↦ λ _ h. elim (t y) as (λ b. t y ≡ b → (if b then Some y else None) ≡ Some x → P x × (t x ≡ true)) [
          | true ↦ λ is h. let same : y ≡ x = cc in subst (λ w. P w × (t w ≡ true)) same (p.0, is)
          | false ↦ λ is h. absurd (some_none (sym h))
        ] refl h
      ] refl h

-- ---- places

pub got_map : {A B : Type 0} (f : A → B) (xs : List A) (k : ℕ) → slice_get (map f xs) k ≡ option_map f (slice_get xs k)
got_map f [] k = refl
got_map f (x ∷ xs) zero = refl
got_map f (x ∷ xs) (suc k) = got_map f xs k

pub got_within : {A : Type 0} (xs : List A) (k : ℕ) (x : A) → slice_get xs k ≡ Some x → k < length xs
got_within [] k x h = absurd (some_none (sym h))
got_within (y ∷ xs) zero x h = omega arith
got_within (y ∷ xs) (suc k) x h = let lt = got_within xs k x h in omega arith

pub got_or : {A : Type 0} (xs : List A) (k : ℕ) (d x : A) → slice_get xs k ≡ Some x → slice_index_or xs k d ≡ x
got_or [] k d x h = absurd (some_none (sym h))
got_or (y ∷ xs) zero d x h = cc
got_or (y ∷ xs) (suc k) d x h = got_or xs k d x h

pub each_at : {A : Type 0} (P : ℕ → A → Type 0) (n : ℕ) (xs : List A) → EachFrom P n xs → (k : ℕ) (x : A) → slice_get xs k ≡ Some x → P (n + k) x
each_at P n [] p k x h = absurd (some_none (sym h))
each_at P n (y ∷ xs) p zero x h =
    let same : y ≡ x = cc in
    let number : n ≡ n + zero = omega arith in
    subst (λ m. P m x) number (subst (P n) same p.0)
each_at P n (y ∷ xs) p (suc k) x h =
    let number : n + 1 + k ≡ n + suc k = omega arith in
    subst (λ m. P m x) number (each_at P (n + 1) xs p.1 k x h)

-- ---- the first that passes

module _ {A : Type 0} (t : A → Bool) where
  first_from : (j : ℕ) (xs : List A) (n : ℕ) → position_from t j xs ≡ Some n → (m : ℕ) × (x : A) × (n ≡ j + m) × (slice_get xs m ≡ Some x) × (t x ≡ true)
  first_from j [] n h = absurd (some_none (sym h))
  first_from j (x ∷ xs) n h =
      elim (t x) as (λ b. t x ≡ b → cond b (Some j) (position_from t (j + 1) xs) ≡ Some n → (m : ℕ) × (y : A) × (n ≡ j + m) × (slice_get (x ∷ xs) m ≡ Some y) × (t y ≡ true)) [
        | true ↦ λ is h. let same : j ≡ n = cc in (zero, x, omega arith, refl, is)
        | false ↦ λ _ h. let rest = first_from (j + 1) xs n h in let is = rest.2 in (suc rest.0, rest.1, omega arith, rest.3, rest.4)
      ] refl h

  -- what is found passes, at its place
  pub position_at : (xs : List A) (n : ℕ) → position t xs ≡ Some n → (x : A) × (slice_get xs n ≡ Some x) × (t x ≡ true)
  position_at xs n h =
      let found = first_from zero xs n (sym (position_from-zero t xs) ∙ h) in
      let is = found.2 in
      let same : found.0 ≡ n = omega arith in
      (found.1, ap (λ k. slice_get xs k) (sym same) ∙ found.3, found.4)

  pub position_within : (xs : List A) (n : ℕ) → position t xs ≡ Some n → n < length xs
  position_within xs n h = let found = position_at xs n h in got_within xs n found.0 found.1

  -- where some item passes, one is found
  pub position_found : (xs : List A) → list_any t xs ≡ true → (n : ℕ) × (position t xs ≡ Some n)
  position_found xs h = got (position_from t zero xs) refl
    where
      is_there : (j : ℕ) (ys : List A) → list_any t ys ≡ true → position_from t j ys ≡ None → ⊥
      is_there j [] h e = false≢true h
      is_there j (y ∷ ys) h e =
          elim (t y) as (λ b. (b || list_any t ys) ≡ true → cond b (Some j) (position_from t (j + 1) ys) ≡ None → ⊥) [
            | true ↦ λ _ e. some_none e
            | false ↦ λ h e. is_there (j + 1) ys h e
          ] h e

      got : (o : Option ℕ) → position_from t zero xs ≡ o → (n : ℕ) × (position t xs ≡ Some n)
      got None e = absurd (is_there zero xs h e)
      got (Some n) e = (n, position_from-zero t xs ∙ e)
