-- Steps of splitting a path into its names.
use Rattle.std.proofs.Common.{◌≡◌, ◌≢◌, ◌∙◌, ℕ, ◌+◌, ◌<◌, true, false, List, [], ◌∷◌, ◌++◌, length, drop, get_or, refl, sym, ap, append_assoc}
use Rattle.std.specs.Prelude.{nat_eq, if◌then◌else◌}
use Rattle.std.proofs.lemmas.Bool.{eqb-true}
use Rattle.std.proofs.lemmas.List.{append-nil, drop_more}
use Rattle.lk_include.specs.Patterns.{names_of, with_front}

front_of_front : (front more : List ℕ) (names : List (List ℕ))
    → with_front front (with_front more names) ≡ with_front (front ++ more) names
front_of_front front more [] = refl
front_of_front front more (name ∷ names) = ap (λ n. n ∷ names) (sym (append_assoc front more name))

no_front : (names : List (List ℕ)) (name : List ℕ) → with_front [] (name ∷ names) ≡ name ∷ names
no_front names name = refl

-- a path has names, and an empty front changes none of them
pub all_names : (path : List ℕ) → with_front [] (names_of path) ≡ names_of path
all_names [] = refl
all_names (c ∷ cs) =
    elim (nat_eq c 47) as (λ b. with_front [] (if b then [] ∷ names_of cs else with_front (c ∷ []) (names_of cs))
    ≡ (if b then [] ∷ names_of cs else with_front (c ∷ []) (names_of cs))) [
      | true ↦ refl
      | false ↦ front_of_front [] (c ∷ []) (names_of cs)
    ]

-- a slash ends a name
pub at_slash : (front : List ℕ) (c : ℕ) (rest : List ℕ) → nat_eq c 47 ≡ true
    → front ∷ with_front [] (names_of rest) ≡ with_front front (names_of (c ∷ rest))
at_slash front c rest h = rw h (ap (λ ns. front ∷ ns) (all_names rest) ∙ ap (λ n. n ∷ names_of rest) (sym (append-nil front)))

-- any other byte goes on with it
pub at_letter : (front : List ℕ) (c : ℕ) (rest : List ℕ) → nat_eq c 47 ≡ false
    → with_front (front ++ c ∷ []) (names_of rest) ≡ with_front front (names_of (c ∷ rest))
at_letter front c rest h = rw h (sym (front_of_front front (c ∷ []) (names_of rest)))

-- the last name ends with the path
pub at_end : (front : List ℕ) → front ∷ [] ≡ with_front front (names_of [])
at_end front = ap (λ n. n ∷ []) (sym (append-nil front))

-- a byte of a path further: a slash ends a name, and any other byte goes on with it
pub slash_further : (path : List ℕ) (i : ℕ) (names : List (List ℕ)) (name : List ℕ) (more : List (List ℕ)) (next : List ℕ)
    → i < length path → get_or path i 0 ≡ 47 → more ≡ names ++ name ∷ [] → next ≡ []
    → names ++ with_front name (names_of (drop i path)) ≡ names_of path
    → more ++ with_front next (names_of (drop (i + 1) path)) ≡ names_of path
slash_further path i names name more next lt is e f h =
    ap (λ m. m ++ with_front next (names_of (drop (i + 1) path))) e
    ∙ ap (λ n. (names ++ name ∷ []) ++ with_front n (names_of (drop (i + 1) path))) f
    ∙ append_assoc names (name ∷ []) (with_front [] (names_of (drop (i + 1) path)))
    ∙ ap (λ ns. names ++ ns) (at_slash name 47 (drop (i + 1) path) refl)
    ∙ ap (λ c. names ++ with_front name (names_of (c ∷ drop (i + 1) path))) (sym is)
    ∙ ap (λ bytes. names ++ with_front name (names_of bytes)) (sym (drop_more path i 0 lt)) ∙ h

pub letter_further : (path : List ℕ) (i : ℕ) (names : List (List ℕ)) (name : List ℕ) (more : List (List ℕ)) (next : List ℕ)
    → i < length path → get_or path i 0 ≢ 47 → more ≡ names → next ≡ name ++ get_or path i 0 ∷ []
    → names ++ with_front name (names_of (drop i path)) ≡ names_of path
    → more ++ with_front next (names_of (drop (i + 1) path)) ≡ names_of path
letter_further path i names name more next lt is e f h =
    ap (λ m. m ++ with_front next (names_of (drop (i + 1) path))) e
    ∙ ap (λ n. names ++ with_front n (names_of (drop (i + 1) path))) f
    ∙ ap (λ ns. names ++ ns) (at_letter name (get_or path i 0) (drop (i + 1) path) (eqb-false (get_or path i 0) 47 is))
    ∙ ap (λ bytes. names ++ with_front name (names_of bytes)) (sym (drop_more path i 0 lt)) ∙ h
  where
    eqb-false : (a b : ℕ) → a ≢ b → nat_eq a b ≡ false
    eqb-false a b h = elim (nat_eq a b) as (λ t. nat_eq a b ≡ t → t ≡ false) [
      | true ↦ λ e. absurd (h (eqb-true a b e))
      | false ↦ λ e. refl
    ] refl
