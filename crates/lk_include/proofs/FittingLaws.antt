-- A pattern covers a list where it fits, and the first place at which it fits up to a free piece is the best.
use Rattle.std.proofs.Common.{◌≡◌, ◌⊎◌, inl, inr, suc, ◌+◌, ◌<◌, length, arith, Bool, true, false, ◌&&◌, ◌||◌, if◌then◌else◌, List, [], ◌∷◌, refl, sym, ap, subst, ◌∙◌}
use Rattle.std.proofs.lemmas.Bool.{false≢true}
use Rattle.lk_include.specs.Patterns.{some_end, first_and_rest, covers}
use Rattle.lk_include.specs.Fitting.{Fit, whole, no, up_to, fit_front}

-- the first list is an end of the second
abbrev pub IsEnd : {A : Type 0} → List A → List A → Type 0
IsEnd u [] = u ≡ []
IsEnd u (c ∷ t) = (u ≡ c ∷ t) ⊎ IsEnd u t

itself : {A : Type 0} (t : List A) → IsEnd t t
itself [] = refl
itself (c ∷ t) = inl refl

-- a test that passes some end of an end passes some end
end_of_end : {A : Type 0} (test : List A → Bool) (u t : List A) → IsEnd u t → some_end test u ≡ true → some_end test t ≡ true
end_of_end test u [] e h = subst (λ x. some_end test x ≡ true) e h
end_of_end test u (c ∷ t) (inl same) h = subst (λ x. some_end test x ≡ true) same h
end_of_end test u (c ∷ t) (inr e) h = or_other (test (c ∷ t)) (some_end test t) (end_of_end test u t e h)
  where
    or_other : (a b : Bool) → b ≡ true → (a || b) ≡ true
    or_other true b q = refl
    or_other false b q = q

-- the end that passes
passing_end : {A : Type 0} (test : List A → Bool) (t : List A) → some_end test t ≡ true → (u : List A) × IsEnd u t × (test u ≡ true)
passing_end {A = A} test [] h = ([], refl, h)
passing_end {A = A} test (c ∷ t) h =
    elim (test (c ∷ t)) as (λ b. test (c ∷ t) ≡ b → (b || some_end test t) ≡ true → (u : List A) × IsEnd u (c ∷ t) × (test u ≡ true)) [
      | true ↦ λ now h. (c ∷ t, inl refl, now)
      | false ↦ λ now h. let later = passing_end test t h in (later.0, inr later.1, later.2)
    ] refl h

-- an end without its first item is an end of the list without its own
tails : {A : Type 0} (d : A) (u : List A) (c : A) (t : List A) → IsEnd (d ∷ u) (c ∷ t) → IsEnd u t
tails d u c t (inl same) = let e : u ≡ t = cc in subst (λ x. IsEnd x t) (sym e) (itself t)
tails d u c [] (inr e) = let no : d ∷ u ≡ [] = e in cc
tails d u c (b ∷ t) (inr e) = inr (tails d u b t e)

module _ {P A : Type 0} (is_free : P → Bool) (accepts : P → A → Bool) where
  -- what it means that a pattern fits so far
  abbrev pub meaning : Fit P A → Bool
  meaning whole = true
  meaning no = false
  meaning (up_to ps xs) = some_end (covers is_free accepts ps) xs

  pub fits : (ps : List P) (xs : List A) → covers is_free accepts ps xs ≡ meaning (fit_front is_free accepts ps xs)
  fits [] [] = refl
  fits [] (x ∷ xs) = refl
  fits (p ∷ ps) [] =
      elim (is_free p) as (λ b. (if b then some_end (covers is_free accepts ps) [] else false) ≡ meaning (if b then up_to ps [] else no)) [
        | true ↦ refl
        | false ↦ refl
      ]
  fits (p ∷ ps) (x ∷ xs) =
      elim (is_free p) as (λ b. (if b then some_end (covers is_free accepts ps) (x ∷ xs) else (accepts p x && covers is_free accepts ps xs))
      ≡ meaning (if b then up_to ps (x ∷ xs) else if accepts p x then fit_front is_free accepts ps xs else no)) [
        | true ↦ refl
        | false ↦ elim (accepts p x) as (λ b. (b && covers is_free accepts ps xs) ≡ meaning (if b then fit_front is_free accepts ps xs else no)) [
          | true ↦ fits ps xs
          | false ↦ refl
        ]
      ]

  second : (a b : Bool) → (a && b) ≡ true → b ≡ true
  second true b q = q
  second false b q = cc

  free_best : (ps : List P) (xs : List A) (further : List P) (behind later : List A)
      → up_to ps xs ≡ up_to further behind → IsEnd later xs → some_end (covers is_free accepts ps) later ≡ true
      → some_end (covers is_free accepts further) behind ≡ true
  free_best ps xs further behind later h e m =
      let p : ps ≡ further = cc in
      let t : xs ≡ behind = cc in
      subst (λ y. some_end (covers is_free accepts y) behind ≡ true) p
      (subst (λ y. some_end (covers is_free accepts ps) y ≡ true) t (end_of_end (covers is_free accepts ps) later xs e m))

  rest_of : (p : P) (ps : List P) (later : List A) → first_and_rest (accepts p) (covers is_free accepts ps) later ≡ true
      → (d : A) × (u : List A) × (later ≡ d ∷ u) × (covers is_free accepts ps u ≡ true)
  rest_of p ps [] m = absurd (false≢true m)
  rest_of p ps (d ∷ u) m = (d, u, refl, second (accepts p d) (covers is_free accepts ps u) m)

  -- what a later end gives, the first one gives
  first_is_best : (ps : List P) (xs : List A) (further : List P) (behind later : List A)
      → fit_front is_free accepts ps xs ≡ up_to further behind → IsEnd later xs → covers is_free accepts ps later ≡ true
      → some_end (covers is_free accepts further) behind ≡ true
  first_is_best [] [] further behind later h e m = cc
  first_is_best [] (x ∷ xs) further behind later h e m = cc
  first_is_best (p ∷ ps) [] further behind later h e m =
      elim (is_free p) as (λ b. (if b then up_to ps [] else no) ≡ up_to further behind
      → (if b then some_end (covers is_free accepts ps) later else first_and_rest (accepts p) (covers is_free accepts ps) later) ≡ true
      → some_end (covers is_free accepts further) behind ≡ true) [
        | true ↦ λ h m. free_best ps [] further behind later h e m
        | false ↦ λ h m. cc
      ] h m
  first_is_best (p ∷ ps) (x ∷ xs) further behind later h e m =
      elim (is_free p) as (λ b. (if b then up_to ps (x ∷ xs) else if accepts p x then fit_front is_free accepts ps xs else no) ≡ up_to further behind
      → (if b then some_end (covers is_free accepts ps) later else first_and_rest (accepts p) (covers is_free accepts ps) later) ≡ true
      → some_end (covers is_free accepts further) behind ≡ true) [
        | true ↦ λ h m. free_best ps (x ∷ xs) further behind later h e m
        | false ↦ λ h m. elim (accepts p x) as (λ b. (if b then fit_front is_free accepts ps xs else no) ≡ up_to further behind
            → some_end (covers is_free accepts further) behind ≡ true) [
              | true ↦ λ h. let r = rest_of p ps later m in
                  first_is_best ps xs further behind r.1 h (tails r.0 r.1 x xs (subst (λ y. IsEnd y (x ∷ xs)) r.2 e)) r.3
              | false ↦ λ h. cc
            ] h
      ] h m

  -- a pattern that fits up to a free piece covers some end exactly where the rest does
  pub goes_further : (ps : List P) (xs : List A) (further : List P) (behind : List A)
      → fit_front is_free accepts ps xs ≡ up_to further behind
      → some_end (covers is_free accepts ps) xs ≡ some_end (covers is_free accepts further) behind
  goes_further ps xs further behind h = both_ways _ _ there back
    where
      both_ways : (a b : Bool) → (a ≡ true → b ≡ true) → (b ≡ true → a ≡ true) → a ≡ b
      both_ways true b f g = sym (f refl)
      both_ways false true f g = g refl
      both_ways false false f g = refl

      there : some_end (covers is_free accepts ps) xs ≡ true → some_end (covers is_free accepts further) behind ≡ true
      there s = let found = passing_end (covers is_free accepts ps) xs s in
          first_is_best ps xs further behind found.0 h found.1 found.2

      at_front : (t : List A) → covers is_free accepts ps t ≡ true → some_end (covers is_free accepts ps) t ≡ true
      at_front [] m = m
      at_front (c ∷ t) m = rw m

      back : some_end (covers is_free accepts further) behind ≡ true → some_end (covers is_free accepts ps) xs ≡ true
      back s = at_front xs (fits ps xs ∙ ap meaning h ∙ s)

  -- a pattern that fits whole covers some end
  pub goes_whole : (ps : List P) (xs : List A) → fit_front is_free accepts ps xs ≡ whole
      → some_end (covers is_free accepts ps) xs ≡ true
  goes_whole ps [] h = fits ps [] ∙ ap meaning h
  goes_whole ps (x ∷ xs) h = ap (λ b. b || some_end (covers is_free accepts ps) xs) (fits ps (x ∷ xs) ∙ ap meaning h)

  -- less is left of a pattern that fits so far, and no more of the list
  pub less_left : (ps : List P) (xs : List A) (further : List P) (behind : List A)
      → fit_front is_free accepts ps xs ≡ up_to further behind
      → length further + length behind < length ps + length xs
  less_left [] [] further behind h = cc
  less_left [] (x ∷ xs) further behind h = cc
  less_left (p ∷ ps) [] further behind h =
      elim (is_free p) as (λ b. (if b then up_to ps [] else no) ≡ up_to further behind
      → length further + length behind < suc (length ps) + 0) [
        | true ↦ λ h. free_less ps [] further behind h
        | false ↦ λ h. cc
      ] h
    where
      free_less : (ps : List P) (xs : List A) (further : List P) (behind : List A) → up_to ps xs ≡ up_to further behind
          → length further + length behind < suc (length ps) + length xs
      free_less ps xs further behind h =
          let p : ps ≡ further = cc in
          let t : xs ≡ behind = cc in
          subst (λ y. length y + length behind < suc (length ps) + length xs) p
          (subst (λ y. length ps + length y < suc (length ps) + length xs) t (omega arith))
  less_left (p ∷ ps) (x ∷ xs) further behind h =
      elim (is_free p) as (λ b. (if b then up_to ps (x ∷ xs) else if accepts p x then fit_front is_free accepts ps xs else no) ≡ up_to further behind
      → length further + length behind < suc (length ps) + suc (length xs)) [
        | true ↦ λ h. free_less ps (x ∷ xs) further behind h
        | false ↦ λ h. elim (accepts p x) as (λ b. (if b then fit_front is_free accepts ps xs else no) ≡ up_to further behind
            → length further + length behind < suc (length ps) + suc (length xs)) [
              | true ↦ λ h. let less = less_left ps xs further behind h in omega arith
              | false ↦ λ h. cc
            ] h
      ] h
    where
      free_less : (ps : List P) (xs : List A) (further : List P) (behind : List A) → up_to ps xs ≡ up_to further behind
          → length further + length behind < suc (length ps) + length xs
      free_less ps xs further behind h =
          let p : ps ≡ further = cc in
          let t : xs ≡ behind = cc in
          subst (λ y. length y + length behind < suc (length ps) + length xs) p
          (subst (λ y. length ps + length y < suc (length ps) + length xs) t (omega arith))

  -- a pattern that does not fit the end of a list covers no end of it
  pub goes_nowhere : (ps : List P) (xs : List A) → length xs ≡ 0 → fit_front is_free accepts ps xs ≡ no
      → some_end (covers is_free accepts ps) xs ≡ false
  goes_nowhere ps [] e h = fits ps [] ∙ ap meaning h
  goes_nowhere ps (x ∷ xs) e h = cc

  goes_on : (ps : List P) (x : A) (xs : List A) → fit_front is_free accepts ps (x ∷ xs) ≡ no
      → some_end (covers is_free accepts ps) (x ∷ xs) ≡ some_end (covers is_free accepts ps) xs
  goes_on ps x xs h = ap (λ b. b || some_end (covers is_free accepts ps) xs) (fits ps (x ∷ xs) ∙ ap meaning h)

  -- a pattern that does not fit covers an end only of what is behind the first item
  pub goes_behind : (ps : List P) (xs : List A) (x : A) (behind : List A) → xs ≡ x ∷ behind
      → fit_front is_free accepts ps xs ≡ no
      → some_end (covers is_free accepts ps) behind ≡ some_end (covers is_free accepts ps) xs
  goes_behind ps xs x behind same h =
      sym (ap (some_end (covers is_free accepts ps)) same ∙ goes_on ps x behind (subst (λ y. fit_front is_free accepts ps y ≡ no) same h))
