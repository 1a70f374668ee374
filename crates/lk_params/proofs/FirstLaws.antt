-- What is left of the first standings when some of them are known.
use Rattle.std.proofs.Common.{◌≡◌, Bool, true, false, List, [], ◌∷◌, ◌++◌, refl, sym, ap, ◌∙◌, subst, append_assoc}
use Rattle.std.specs.Prelude.{not, ◌||◌, if◌then◌else◌}
use Rattle.std.specs.List.{filter, list_any, fold}
use Rattle.std.proofs.lemmas.List.Folds.{list_any-append}
use Rattle.std.proofs.lemmas.List.{append-nil}
use Rattle.lk_params.specs.Picking.{firsts, with_new}

module _ {A : Type 0} (same : A → A → Bool) where
  -- one of the known is the same as y
  abbrev pub among : List A → A → Bool
  among known y = list_any (same y) known

  -- what is left when some are known
  abbrev pub left : List A → List A → List A
  left known xs = filter (λ y. not (among known y)) xs

  pub none_known : (xs : List A) → left [] xs ≡ xs
  none_known [] = refl
  none_known (x ∷ xs) = ap (λ t. x ∷ t) (none_known xs)

  pub left_more : (known : List A) (x : A) (xs : List A) → left (known ++ x ∷ []) xs ≡ left known (filter (λ y. not (same y x)) xs)
  left_more known x [] = refl
  left_more known x (y ∷ ys) =
      rw (list_any-append (same y) known (x ∷ []), left_more known x ys)
      (elim (same y x) as (λ b. (if not (among known y || (b || false)) then y ∷ left known (filter (λ z. not (same z x)) ys) else left known (filter (λ z. not (same z x)) ys))
      ≡ left known (if not b then y ∷ filter (λ z. not (same z x)) ys else filter (λ z. not (same z x)) ys)) [
        | true ↦ or_true (among known y) y (left known (filter (λ z. not (same z x)) ys))
        | false ↦ or_false (among known y) y (left known (filter (λ z. not (same z x)) ys))
      ])
    where
      or_true : (a : Bool) (y : A) (l : List A) → (if not (a || true) then y ∷ l else l) ≡ l
      or_true true y l = refl
      or_true false y l = refl

      or_false : (a : Bool) (y : A) (l : List A) → (if not (a || false) then y ∷ l else l) ≡ (if not a then y ∷ l else l)
      or_false true y l = refl
      or_false false y l = refl

  module _ (exact : (x y : A) → same x y ≡ true → x ≡ y) where
    pub left_known : (known : List A) (x : A) → among known x ≡ true → (xs : List A) → left known (filter (λ y. not (same y x)) xs) ≡ left known xs
    left_known known x h [] = refl
    left_known known x h (y ∷ ys) =
        elim (same y x) as (λ b. same y x ≡ b → left known (if not b then y ∷ filter (λ z. not (same z x)) ys else filter (λ z. not (same z x)) ys) ≡ left known (y ∷ ys)) [
          | true ↦ λ e. left_known known x h ys ∙ sym (skipped y (subst (λ z. among known z ≡ true) (sym (exact y x e)) h) ys)
          | false ↦ λ e. kept (among known y) y (left_known known x h ys)
        ] refl
      where
        skipped : (y : A) → among known y ≡ true → (ys : List A) → left known (y ∷ ys) ≡ left known ys
        skipped y e ys = rw e refl

        kept : (a : Bool) (y : A) {l r : List A} → l ≡ r → (if not a then y ∷ l else l) ≡ (if not a then y ∷ r else r)
        kept a y e = ap (λ t. if not a then y ∷ t else t) e

    -- an item that is known
    pub known_step : (known : List A) (x : A) (xs : List A) → among known x ≡ true → left known (firsts same (x ∷ xs)) ≡ left known (firsts same xs)
    known_step known x xs h = rw h (left_known known x h (firsts same xs))

  -- an item that isn't
  pub new_step : (known : List A) (x : A) (xs : List A) → among known x ≡ false → left known (firsts same (x ∷ xs)) ≡ x ∷ left (known ++ x ∷ []) (firsts same xs)
  new_step known x xs h = rw (h, left_more known x (firsts same xs)) refl

  module _ (exact : (x y : A) → same x y ≡ true → x ≡ y) where
    -- an item more, unless it is known
    pub more_step : (known : List A) (x : A) (xs : List A)
        → with_new same known x ++ left (with_new same known x) (firsts same xs) ≡ known ++ left known (firsts same (x ∷ xs))
    more_step known x xs =
        elim (among known x) as (λ b. among known x ≡ b
        → (if b then known else known ++ x ∷ []) ++ left (if b then known else known ++ x ∷ []) (firsts same xs)
        ≡ known ++ left known (firsts same (x ∷ xs))) [
          | true ↦ λ h. ap (λ t. known ++ t) (sym (known_step exact known x xs h))
          | false ↦ λ h. append_assoc known (x ∷ []) (left (known ++ x ∷ []) (firsts same xs))
              ∙ ap (λ t. known ++ t) (sym (new_step known x xs h))
        ] refl

    -- what one after another adds is the first standings
    pub folded : (known xs : List A) → fold (with_new same) known xs ≡ known ++ left known (firsts same xs)
    folded known [] = sym (append-nil known)
    folded known (x ∷ xs) = folded (with_new same known x) xs ∙ more_step known x xs

    pub folded_once : (xs : List A) → fold (with_new same) [] xs ≡ firsts same xs
    folded_once xs = folded [] xs ∙ none_known (firsts same xs)
