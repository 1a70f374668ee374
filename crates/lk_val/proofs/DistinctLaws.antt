-- Items are taken one after the other: each is none of those before it.
use Rattle.std.proofs.Common.{◌≡◌, Bool, true, false, cond, not, ◌&&◌, ◌||◌, List, [], ◌∷◌, refl, sym, ap, ◌∙◌}
use Rattle.std.specs.List.{list_any}
use Rattle.lk_val.specs.Distinct.{do_differ}

any_either : {A : Type 0} (p q : A → Bool) (xs : List A)
    → list_any (λ x. p x || q x) xs ≡ (list_any p xs || list_any q xs)
any_either p q [] = refl
any_either p q (x ∷ xs) =
    ap (λ b. (p x || q x) || b) (any_either p q xs)
    ∙ regroup (p x) (q x) (list_any p xs) (list_any q xs)
  where
    regroup : (a b c d : Bool) → ((a || b) || (c || d)) ≡ ((a || c) || (b || d))
    regroup true b c d = refl
    regroup false true true d = refl
    regroup false true false d = refl
    regroup false false c d = refl

none_known : (known here there rest : Bool)
    → (not known && (not (here || there) && rest)) ≡ (not (known || there) && (not here && rest))
none_known true here there rest = refl
none_known false true true rest = refl
none_known false true false rest = refl
none_known false false true rest = refl
none_known false false false rest = refl

none_any : {A : Type 0} (xs : List A) → list_any (λ x. false) xs ≡ false
none_any [] = refl
none_any (x ∷ xs) = none_any xs

either : (b c : Bool) → cond b true c ≡ (b || c)
either true c = refl
either false c = refl

not_true : (b : Bool) → not b ≡ true → b ≡ false
not_true false e = refl
not_true true e = sym e

module _ {A : Type 0} (is_same : A → A → Bool) where
  -- the items that follow known ones: none is known or one of those before it
  abbrev pub differ_after : (A → Bool) → List A → Bool
  differ_after known [] = true
  differ_after known (x ∷ xs) = not (known x) && differ_after (λ y. is_same x y || known y) xs

  -- none of the items is known, and they differ
  after_known : (known : A → Bool) (xs : List A)
      → differ_after known xs ≡ (not (list_any known xs) && do_differ is_same xs)
  after_known known [] = refl
  after_known known (x ∷ xs) =
      ap (λ b. not (known x) && b) (after_known (λ y. is_same x y || known y) xs)
      ∙ ap (λ b. not (known x) && (not b && do_differ is_same xs)) (any_either (is_same x) known xs)
      ∙ none_known (known x) (list_any (is_same x) xs) (list_any known xs) (do_differ is_same xs)

  -- before the first item none is known
  pub after_none : (known : A → Bool) (xs : List A) → ((x : A) → known x ≡ false)
      → differ_after known xs ≡ do_differ is_same xs
  after_none known xs none =
      (λ i. differ_after (λ x. none x i) xs)
      ∙ after_known (λ x. false) xs
      ∙ ap (λ b. not b && do_differ is_same xs) (none_any xs)

  -- the first item becomes known
  pub after_first : (known more : A → Bool) (x : A) (xs : List A) → not (known x) ≡ true
      → ((y : A) → more y ≡ cond (is_same x y) true (known y))
      → differ_after more xs ≡ differ_after known (x ∷ xs)
  after_first known more x xs new h =
      let unknown : known x ≡ false = not_true (known x) new in
      let either_known : (y : A) → more y ≡ (is_same x y || known y) =
      λ y. h y ∙ either (is_same x y) (known y) in
      rw unknown (λ i. differ_after (λ y. either_known y i) xs)
