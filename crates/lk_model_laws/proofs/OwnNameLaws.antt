-- Names of which none stands twice, and names round a dot.
use Rattle.std.proofs.Common.{◌≡◌, ◌∙◌, ℕ, zero, suc, ◌+◌, Bool, true, false, List, [], ◌∷◌, ◌++◌, length, refl, ap, sym, subst, append_assoc, Some, None, arith}
use Rattle.std.specs.Prelude.{◌||◌, flat_map, if◌then◌else◌, not, slice_get}
use Rattle.std.specs.List.{list_any}
use Rattle.std.proofs.lemmas.Bool.{eq-eqb, false≢true}
use Rattle.lk_val.specs.Texts.{is_same_text}
use Rattle.lk_fields.specs.Scopes.{is_dot}
use Rattle.lk_scope.specs.Scopes.{full_name}
use Rattle.lk_semantics.proofs.EveryLaws.{first, second}
use Rattle.lk_field_faults.specs.MadeNames.{least_twice, lesser}
use Rattle.lk_model_laws.specs.Named.{are_distinct}
use Rattle.lk_model_laws.proofs.ListLaws.{got_within}
use Rattle.lk_model_laws.proofs.PieceLaws.{some_none}
use Rattle.lk_model_laws.proofs.PlaceLaws.{any_here}
use Rattle.lk_model_laws.proofs.TextLaws as text

-- ---- round a dot

dot_is : (c : ℕ) → 46 ≡ c → is_dot c ≡ true
dot_is c h = eq-eqb c 46 (sym h)

head_same : (a b : ℕ) (s t : List ℕ) → a ∷ s ≡ b ∷ t → a ≡ b
head_same a b s t h = cc

tail_same : (a b : ℕ) (s t : List ℕ) → a ∷ s ≡ b ∷ t → s ≡ t
tail_same a b s t h = cc

neither : (a b : Bool) → (a || b) ≡ false → (a ≡ false) × (b ≡ false)
neither true b h = absurd (false≢true (sym h))
neither false b h = (refl, h)

dots_apart : (p q f g : List ℕ) → list_any is_dot p ≡ false → list_any is_dot q ≡ false → p ++ 46 ∷ f ≡ q ++ 46 ∷ g → (p ≡ q) × (f ≡ g)
dots_apart [] [] f g none other h = (refl, tail_same 46 46 f g h)
dots_apart [] (c ∷ q) f g none other h =
    absurd (false≢true (sym (neither (is_dot c) (list_any is_dot q) other).0 ∙ dot_is c (head_same 46 c f (q ++ 46 ∷ g) h)))
dots_apart (c ∷ p) [] f g none other h =
    absurd (false≢true (sym (neither (is_dot c) (list_any is_dot p) none).0 ∙ dot_is c (sym (head_same c 46 (p ++ 46 ∷ f) g h))))
dots_apart (c ∷ p) (d ∷ q) f g none other h =
    let heads = head_same c d (p ++ 46 ∷ f) (q ++ 46 ∷ g) h in
    let rest = dots_apart p q f g (neither (is_dot c) (list_any is_dot p) none).1 (neither (is_dot d) (list_any is_dot q) other).1 (tail_same c d (p ++ 46 ∷ f) (q ++ 46 ∷ g) h) in
    ((λ i. heads i ∷ rest.0 i), rest.1)

-- whole names that are the same have the same parts, where those of the views have no dot
pub names_apart : (p q f g : List ℕ) → list_any is_dot p ≡ false → list_any is_dot q ≡ false → full_name p f ≡ full_name q g → (p ≡ q) × (f ≡ g)
names_apart p q f g none other h = dots_apart p q f g none other (sym (append_assoc p (46 ∷ []) f) ∙ h ∙ append_assoc q (46 ∷ []) g)

-- ---- no name stands twice

-- each name stands at one place
abbrev pub AreApart : List (List ℕ) → Type 0
AreApart names = (i j : ℕ) (a : List ℕ) → slice_get names i ≡ Some a → slice_get names j ≡ Some a → i ≡ j

-- a name that stands at no place of the rest
apart_cons : (name : List ℕ) (names : List (List ℕ)) → ((j : ℕ) → slice_get names j ≡ Some name → ⊥) → AreApart names → AreApart (name ∷ names)
apart_cons name names none rest zero zero a h k = refl
apart_cons name names none rest zero (suc j) a h k = absurd (none j (k ∙ sym h))
apart_cons name names none rest (suc i) zero a h k = absurd (none i (h ∙ sym k))
apart_cons name names none rest (suc i) (suc j) a h k = ap suc (rest i j a h k)

pub once_apart : (names : List (List ℕ)) → least_twice names ≡ None → AreApart names
once_apart [] h = λ i j a at other. absurd (some_none (sym at))
once_apart (name ∷ names) h =
    elim (list_any (λ other. is_same_text other name) names) as (λ b. list_any (λ other. is_same_text other name) names ≡ b → (if b then Some (lesser name (least_twice names)) else least_twice names) ≡ None → AreApart (name ∷ names)) [
      | true ↦ λ _ e. absurd (some_none e)
      | false ↦ λ none e.
          apart_cons name names (λ j at. false≢true (sym none ∙ any_here (λ other. is_same_text other name) names j name at (text.same_itself name))) (once_apart names e)
    ] refl h

pub distinct_apart : (names : List (List ℕ)) → are_distinct names ≡ true → AreApart names
distinct_apart [] h = λ i j a at other. absurd (some_none (sym at))
distinct_apart (name ∷ names) h =
    apart_cons name names
    (λ j at. outside (list_any (is_same_text name) names) (first (not (list_any (is_same_text name) names)) (are_distinct names) h) (any_here (is_same_text name) names j name at (text.same_itself name)))
    (distinct_apart names (second (not (list_any (is_same_text name) names)) (are_distinct names) h))
  where
    outside : (b : Bool) → not b ≡ true → b ≡ true → ⊥
    outside true h k = false≢true h
    outside false h k = false≢true k

-- ---- names of some items

got_front : {A : Type 0} (xs ys : List A) (k : ℕ) (x : A) → slice_get xs k ≡ Some x → slice_get (xs ++ ys) k ≡ Some x
got_front [] ys k x h = absurd (some_none (sym h))
got_front (y ∷ xs) ys zero x h = h
got_front (y ∷ xs) ys (suc k) x h = got_front xs ys k x h

got_behind : {A : Type 0} (xs ys : List A) (k : ℕ) → slice_get (xs ++ ys) (length xs + k) ≡ slice_get ys k
got_behind [] ys k = ap (slice_get ys) (none k)
  where
    none : (n : ℕ) → zero + n ≡ n
    none n = omega arith
got_behind (x ∷ xs) ys k = ap (slice_get (x ∷ xs ++ ys)) (one (length xs) k) ∙ got_behind xs ys k
  where
    one : (m n : ℕ) → suc m + n ≡ suc (m + n)
    one m n = omega arith

apart_front : (xs ys : List (List ℕ)) → AreApart (xs ++ ys) → AreApart xs
apart_front xs ys h i j a p q = h i j a (got_front xs ys i a p) (got_front xs ys j a q)

apart_behind : (xs ys : List (List ℕ)) → AreApart (xs ++ ys) → AreApart ys
apart_behind xs ys h i j a p q =
    let same = h (length xs + i) (length xs + j) a (got_behind xs ys i ∙ p) (got_behind xs ys j ∙ q) in
    omega arith

apart_both : (xs ys : List (List ℕ)) → AreApart (xs ++ ys) → (i j : ℕ) (a : List ℕ) → slice_get xs i ≡ Some a → slice_get ys j ≡ Some a → ⊥
apart_both xs ys h i j a p q =
    let same = h i (length xs + j) a (got_front xs ys i a p) (got_behind xs ys j ∙ q) in
    let within = got_within xs i a p in
    omega arith

module _ {A : Type 0} (names : A → List (List ℕ)) where
  got_named : (xs : List A) (k : ℕ) (x : A) (i : ℕ) (a : List ℕ) → slice_get xs k ≡ Some x → slice_get (names x) i ≡ Some a → (j : ℕ) × (slice_get (flat_map names xs) j ≡ Some a)
  got_named [] k x i a at named = absurd (some_none (sym at))
  got_named (y ∷ xs) zero x i a at named =
      let same : y ≡ x = cc in
      (i, got_front (names y) (flat_map names xs) i a (subst (λ z. slice_get (names z) i ≡ Some a) (sym same) named))
  got_named (y ∷ xs) (suc k) x i a at named =
      let rest = got_named xs k x i a at named in
      (length (names y) + rest.0, got_behind (names y) (flat_map names xs) rest.0 ∙ rest.1)

  -- a name stands once in one item
  pub named_once : (xs : List A) → AreApart (flat_map names xs) → (k m : ℕ) (x y : A) (i j : ℕ) (a : List ℕ) → slice_get xs k ≡ Some x → slice_get xs m ≡ Some y
      → slice_get (names x) i ≡ Some a → slice_get (names y) j ≡ Some a → (k ≡ m) × (i ≡ j)
  named_once [] h k m x y i j a at other p q = absurd (some_none (sym at))
  named_once (z ∷ xs) h zero zero x y i j a at other p q =
      let here : z ≡ x = cc in
      let there : z ≡ y = cc in
      (refl, apart_front (names z) (flat_map names xs) h i j a (subst (λ w. slice_get (names w) i ≡ Some a) (sym here) p) (subst (λ w. slice_get (names w) j ≡ Some a) (sym there) q))
  named_once (z ∷ xs) h zero (suc m) x y i j a at other p q =
      let here : z ≡ x = cc in
      let later = got_named xs m y j a other q in
      absurd (apart_both (names z) (flat_map names xs) h i later.0 a (subst (λ w. slice_get (names w) i ≡ Some a) (sym here) p) later.1)
  named_once (z ∷ xs) h (suc k) zero x y i j a at other p q =
      let there : z ≡ y = cc in
      let later = got_named xs k x i a at p in
      absurd (apart_both (names z) (flat_map names xs) h j later.0 a (subst (λ w. slice_get (names w) j ≡ Some a) (sym there) q) later.1)
  named_once (z ∷ xs) h (suc k) (suc m) x y i j a at other p q =
      let rest = named_once xs (apart_behind (names z) (flat_map names xs) h) k m x y i j a at other p q in
      (ap suc rest.0, rest.1)
