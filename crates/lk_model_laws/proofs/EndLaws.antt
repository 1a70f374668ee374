-- Where no field of the explore stands on a cycle of references, the references of each come to an end.
use Rattle.std.proofs.Common.{◌≡◌, ◌∙◌, ◌<◌, ◌≤◌, ℕ, zero, suc, Bool, true, false, ◌&&◌, List, [], ◌∷◌, length, refl, ap, sym, subst, ⊎_elim, Option, Some, None, arith}
use Rattle.std.specs.Prelude.{filter, if◌then◌else◌, not}
use Rattle.std.specs.List.{AllByRecursion, list_all, list_any}
use Rattle.std.proofs.lemmas.Bool.{false≢true}
use Rattle.lk_val.specs.Least.{is_in}
use Rattle.lk_val.proofs.LeastLaws.{least_set-kept, least_set-within}
use Rattle.lk_objects.specs.declared.view.DeclaredView.{DeclaredView}
use Rattle.lk_fields.specs.declared.scope.Found.{Found}
use Rattle.lk_fields.specs.declared.scope.Place.{Place}
use Rattle.lk_fields.specs.declared.scope.Scope.{Scope}
use Rattle.lk_fields.specs.Existing.{all_places, ending, ends_after, exists, is_on_cycle, is_same_place, is_target_of, lost, places_of, reached, referred, targets, targets_with}
use Rattle.lk_fields.proofs.LostLaws.{same_exact, same_itself}
use Rattle.lk_formulas.specs.Formulas.{ends}
use Rattle.lk_semantics.proofs.EveryLaws.{both, first, second}
use Rattle.lk_model_laws.proofs.ExistingLaws.{IsKnownName, equality, field_there, referred_known}
use Rattle.lk_model_laws.proofs.PlaceLaws.{one_of, or_left, or_right}

-- ---- fewer items

module _ (p q : Place → Bool) (more : (x : Place) → p x ≡ true → q x ≡ true) where
  no_more : (xs : List Place) → length (filter p xs) ≤ length (filter q xs)
  no_more [] = omega arith
  no_more (x ∷ xs) =
      let rest = no_more xs in
      elim (p x) as (λ a. p x ≡ a → length (if a then x ∷ filter p xs else filter p xs) ≤ length (filter q (x ∷ xs))) [
        | true ↦ λ px. subst (λ b. suc (length (filter p xs)) ≤ length (if b then x ∷ filter q xs else filter q xs)) (sym (more x px)) (omega arith)
        | false ↦ λ _. elim (q x) as (λ b. length (filter p xs) ≤ length (if b then x ∷ filter q xs else filter q xs)) [ true ↦ omega arith | false ↦ rest ]
      ] refl

  fewer : (xs : List Place) (t : Place) → is_in is_same_place t xs ≡ true → q t ≡ true → p t ≡ false → length (filter p xs) < length (filter q xs)
  fewer [] t inside qt pt = absurd (false≢true inside)
  fewer (x ∷ xs) t inside qt pt =
      ⊎_elim
      (λ here.
      let same = same_exact t x here in
      let rest = no_more xs in
      subst (λ a. length (if a then x ∷ filter p xs else filter p xs) < length (filter q (x ∷ xs))) (sym (ap p (sym same) ∙ pt))
      (subst (λ b. length (filter p xs) < length (if b then x ∷ filter q xs else filter q xs)) (sym (ap q (sym same) ∙ qt)) (omega arith)))
      (λ later.
      let rest = fewer xs t later qt pt in
      elim (p x) as (λ a. p x ≡ a → length (if a then x ∷ filter p xs else filter p xs) < length (filter q (x ∷ xs))) [
        | true ↦ λ px. subst (λ b. suc (length (filter p xs)) < length (if b then x ∷ filter q xs else filter q xs)) (sym (more x px)) (omega arith)
        | false ↦ λ _. elim (q x) as (λ b. length (filter p xs) < length (if b then x ∷ filter q xs else filter q xs)) [ true ↦ omega arith | false ↦ rest ]
      ] refl)
      (one_of (is_same_place t x) (is_in is_same_place t xs) inside)

-- ---- what a field reaches

module _ (views : List DeclaredView) (scope : Scope) where
  abbrev all : List Place
  all = all_places views scope

  abbrev names : Place → Place → Bool
  names from place = is_in is_same_place place (targets views scope from)

  within_more : (f : Place → Bool) (s t : List Place) → ((x : Place) → is_in is_same_place x s ≡ true → is_in is_same_place x t ≡ true) → list_any f s ≡ true → list_any f t ≡ true
  within_more f [] t more h = absurd (false≢true h)
  within_more f (y ∷ s) t more h =
      ⊎_elim (λ here. at f y t here (more y (or_left (is_same_place y y) (is_in is_same_place y s) (same_itself y))))
      (λ later. within_more f s t (λ x inside. more x (or_right (is_same_place x y) (is_in is_same_place x s) inside)) later) (one_of (f y) (list_any f s) h)
    where
      at : (g : Place → Bool) (x : Place) (zs : List Place) → g x ≡ true → is_in is_same_place x zs ≡ true → list_any g zs ≡ true
      at g x [] gx inside = absurd (false≢true inside)
      at g x (z ∷ zs) gx inside =
          ⊎_elim (λ here. or_left (g z) (list_any g zs) (ap g (sym (same_exact x z here)) ∙ gx)) (λ later. or_right (g z) (list_any g zs) (at g x zs gx later))
          (one_of (is_same_place x z) (is_in is_same_place x zs) inside)

  module _ (start : Place) where
    abbrev rule : List Place → Place → Bool
    rule set other = is_target_of views scope (start ∷ set) other

    grows : (s t : List Place) → ((x : Place) → is_in is_same_place x s ≡ true → is_in is_same_place x t ≡ true) → (x : Place) → rule s x ≡ true → rule t x ≡ true
    grows s t more x h =
        ⊎_elim (λ here. or_left (names start x) (list_any (λ from. names from x) t) here)
        (λ later. or_right (names start x) (list_any (λ from. names from x) t) (within_more (λ from. names from x) s t more later))
        (one_of (names start x) (list_any (λ from. names from x) s) h)

    -- a target is reached
    target_reached : (x : Place) → is_in is_same_place x all ≡ true → names start x ≡ true → is_in is_same_place x (reached views scope start) ≡ true
    target_reached x inside h =
        least_set-kept equality all rule grows x inside (or_left (names start x) (list_any (λ from. names from x) (reached views scope start)) h)

  -- what a target reaches is reached
  reached_further : (start t : Place) → is_in is_same_place t all ≡ true → names start t ≡ true → (x : Place) → is_in is_same_place x (reached views scope t) ≡ true → is_in is_same_place x (reached views scope start) ≡ true
  reached_further start t inside h =
      least_set-within equality all (rule t) (grows t) (reached views scope start) (λ x there added.
      least_set-kept equality all (rule start) (grows start) x there
      (or_right (names start x) (list_any (λ from. names from x) (reached views scope start))
      (⊎_elim
      (λ of_t. within_more (λ from. names from x) (t ∷ []) (reached views scope start)
      (λ y one. ⊎_elim (λ same. subst (λ z. is_in is_same_place z (reached views scope start) ≡ true) (sym (same_exact y t same)) (target_reached start t inside h)) (λ none. absurd (false≢true none))
      (one_of (is_same_place y t) false one)) (or_left (names t x) false of_t))
      (λ further. further)
      (one_of (names t x) (list_any (λ from. names from x) (reached views scope start)) added))))

  -- ---- fields of the explore

  target_known : (found : List (Option Found)) → AllByRecursion (IsKnownName views scope) found → (t : Place) → is_in is_same_place t (places_of found) ≡ true → exists views scope t ≡ true
  target_known [] known t inside = absurd (false≢true inside)
  target_known (None ∷ found) known t inside = target_known found known.1 t inside
  target_known (Some f ∷ found) known t inside =
      ⊎_elim (λ here.
      let same : known.0.0 ≡ f = same_found known.0.0 f (sym known.0.1) in
      subst (λ p. exists views scope p ≡ true) (sym (same_exact t f.place here)) (subst (λ g. exists views scope g.place ≡ true) same known.0.2))
      (λ later. target_known found known.1 t later) (one_of (is_same_place t f.place) (is_in is_same_place t (places_of found)) inside)
    where
      same_found : (a b : Found) → Some a ≡ Some b → a ≡ b
      same_found a b e = cc

  -- what a field of the explore refers to is one too
  pub targets_exist : (place t : Place) → exists views scope place ≡ true → names place t ≡ true → exists views scope t ≡ true
  targets_exist place t there h =
      let at = field_there views scope place there in
      target_known (referred views scope place.part at.0) (referred_known views scope place at.0 at.1 there) t
      (ap (λ ts. is_in is_same_place t ts) (sym (ap (targets_with views scope place.part) at.1)) ∙ h)

  inside_all : (place : Place) → exists views scope place ≡ true → is_in is_same_place place all ≡ true
  inside_all place there = first (is_in is_same_place place all) (not (is_in is_same_place place (lost views scope))) there

  missing : (set ts : List Place) → list_all (λ t. is_in is_same_place t set) ts ≡ false → (t : Place) × (is_in is_same_place t ts ≡ true) × (is_in is_same_place t set ≡ false)
  missing set [] h = absurd (false≢true (sym h))
  missing set (t ∷ ts) h =
      elim (is_in is_same_place t set) as (λ b. is_in is_same_place t set ≡ b → (b && list_all (λ y. is_in is_same_place y set) ts) ≡ false → (x : Place) × (is_in is_same_place x (t ∷ ts) ≡ true) × (is_in is_same_place x set ≡ false)) [
        | true ↦ λ _ h. let rest = missing set ts h in (rest.0, or_right (is_same_place rest.0 t) (is_in is_same_place rest.0 ts) rest.1, rest.2)
        | false ↦ λ is h. (t, or_left (is_same_place t t) (is_in is_same_place t ts) (same_itself t), is)
      ] refl h

  ending_grows : (s t : List Place) → ((x : Place) → is_in is_same_place x s ≡ true → is_in is_same_place x t ≡ true) → (x : Place) → ends_after views scope s x ≡ true → ends_after views scope t x ≡ true
  ending_grows s t more x h = each (targets views scope x) h
    where
      each : (ts : List Place) → list_all (λ y. is_in is_same_place y s) ts ≡ true → list_all (λ y. is_in is_same_place y t) ts ≡ true
      each [] h = refl
      each (y ∷ ts) h =
          both (is_in is_same_place y t) (list_all (λ z. is_in is_same_place z t) ts) (more y (first (is_in is_same_place y s) (list_all (λ z. is_in is_same_place z s) ts) h))
          (each ts (second (is_in is_same_place y s) (list_all (λ z. is_in is_same_place z s) ts) h))

  -- a field that never ends refers to one that never ends
  further : (place : Place) → exists views scope place ≡ true → ends views scope place ≡ false → (t : Place) × (names place t ≡ true) × (exists views scope t ≡ true) × (ends views scope t ≡ false)
  further place there endless = of_targets (ends_after views scope (ending views scope) place) refl
    where
      of_targets : (b : Bool) → ends_after views scope (ending views scope) place ≡ b → (t : Place) × (names place t ≡ true) × (exists views scope t ≡ true) × (ends views scope t ≡ false)
      of_targets true is = absurd (false≢true (sym endless ∙ least_set-kept equality all (ends_after views scope) ending_grows place (inside_all place there) is))
      of_targets false is = let lacking = missing (ending views scope) (targets views scope place) is in (lacking.0, lacking.1, targets_exist place lacking.0 there lacking.1, lacking.2)

  module _ (fine : (place : Place) → exists views scope place ≡ true → ends views scope place ≡ false → is_on_cycle views scope place ≡ false) where
    abbrev size : Place → ℕ
    size place = length (filter (λ x. is_in is_same_place x (reached views scope place)) all)

    smaller : (place t : Place) → exists views scope place ≡ true → exists views scope t ≡ true → ends views scope t ≡ false → names place t ≡ true → size t < size place
    smaller place t there is endless h =
        fewer (λ x. is_in is_same_place x (reached views scope t)) (λ x. is_in is_same_place x (reached views scope place)) (reached_further place t (inside_all t is) h) all t (inside_all t is)
        (target_reached place t (inside_all t is) h) (fine t is endless)

    none_endless : (n : ℕ) (place : Place) → size place < n → exists views scope place ≡ true → ends views scope place ≡ false → ⊥
    none_endless zero place few there endless = absurd (omega arith)
    none_endless (suc n) place few there endless =
        let next = further place there endless in
        let less = smaller place next.0 there next.2 next.3 next.1 in
        none_endless n next.0 (omega arith) next.2 next.3

    -- the references of each field of the explore end
    pub all_end : (place : Place) → exists views scope place ≡ true → ends views scope place ≡ true
    all_end place there = decided (ends views scope place) refl
      where
        decided : (b : Bool) → ends views scope place ≡ b → ends views scope place ≡ true
        decided true is = is
        decided false is = absurd (none_endless (suc (size place)) place (omega arith) there is)
