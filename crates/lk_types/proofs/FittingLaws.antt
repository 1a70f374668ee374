-- A pattern covers a text where it fits, and the first place at which it fits up to a piece for any characters is the best.
use Rattle.std.proofs.Common.{◌≡◌, ◌⊎◌, inl, inr, ℕ, suc, ◌+◌, ◌<◌, ◌≤◌, length, arith, Bool, true, false, ◌&&◌, ◌||◌, ◌==◌, nat_le, nat_lt, if◌then◌else◌, List, [], ◌∷◌, refl, sym, ap, subst, ◌∙◌}
use Rattle.lk_types.specs.Expressions.{after_character, some_end, matches}
use Rattle.lk_types.specs.Fitting.{Fit, whole, no, up_to, fit_front}
use Rattle.lk_types.specs.declared.expr.Piece.{Piece}
use Rattle.lk_types.specs.declared.expr.Piece.TheVariants.{Any, One, Byte}

-- the first text is an end of the second
abbrev pub IsEnd : List ℕ → List ℕ → Type 0
IsEnd u [] = u ≡ []
IsEnd u (c ∷ t) = (u ≡ c ∷ t) ⊎ IsEnd u t

itself : (t : List ℕ) → IsEnd t t
itself [] = refl
itself (c ∷ t) = inl refl

-- a test that passes some end of an end passes some end
pub end_of_end : (test : List ℕ → Bool) (u t : List ℕ) → IsEnd u t → some_end test u ≡ true → some_end test t ≡ true
end_of_end test u [] e h = subst (λ x. some_end test x ≡ true) e h
end_of_end test u (c ∷ t) (inl same) h = subst (λ x. some_end test x ≡ true) same h
end_of_end test u (c ∷ t) (inr e) h = or_other (test (c ∷ t)) (some_end test t) (end_of_end test u t e h)
  where
    or_other : (a b : Bool) → b ≡ true → (a || b) ≡ true
    or_other true b q = refl
    or_other false b q = q

-- the end that passes
pub passing_end : (test : List ℕ → Bool) (t : List ℕ) → some_end test t ≡ true → (u : List ℕ) × IsEnd u t × (test u ≡ true)
passing_end test [] h = ([], refl, h)
passing_end test (c ∷ t) h =
    elim (test (c ∷ t)) as (λ b. test (c ∷ t) ≡ b → (b || some_end test t) ≡ true → (u : List ℕ) × IsEnd u (c ∷ t) × (test u ≡ true)) [
      | true ↦ λ now h. (c ∷ t, inl refl, now)
      | false ↦ λ now h. let later = passing_end test t h in (later.0, inr later.1, later.2)
    ] refl h

-- an end without its first character is an end
shorter : (u t : List ℕ) → IsEnd u t → IsEnd (after_character u) t
shorter u [] e = subst (λ x. IsEnd (after_character x) []) (sym e) refl
shorter u (c ∷ t) (inr e) = inr (shorter u t e)
shorter u (c ∷ t) (inl same) =
    subst (λ x. IsEnd (after_character x) (c ∷ t)) (sym same) (elim (nat_le 128 c && nat_lt c 192) as (λ b. IsEnd (if b then after_character t else c ∷ t) (c ∷ t)) [
      | true ↦ inr (shorter t t (itself t))
      | false ↦ inl refl
    ])

-- of an end without its first character, and the text without its own
characters : (u t : List ℕ) → IsEnd u t → IsEnd (after_character u) (after_character t)
characters u [] e = subst (λ x. IsEnd (after_character x) []) (sym e) refl
characters u (c ∷ t) (inl same) = subst (λ x. IsEnd (after_character x) (after_character (c ∷ t))) (sym same) (itself (after_character (c ∷ t)))
characters u (c ∷ t) (inr e) =
    elim (nat_le 128 c && nat_lt c 192) as (λ b. IsEnd (after_character u) (if b then after_character t else c ∷ t)) [
      | true ↦ characters u t e
      | false ↦ inr (shorter u t e)
    ]

-- an end without its first byte is an end of the text without its own
tails : (d : ℕ) (u : List ℕ) (c : ℕ) (t : List ℕ) → IsEnd (d ∷ u) (c ∷ t) → IsEnd u t
tails d u c t (inl same) = let e : u ≡ t = cc in subst (λ x. IsEnd x t) (sym e) (itself t)
tails d u c [] (inr e) = let no : d ∷ u ≡ [] = e in cc
tails d u c (b ∷ t) (inr e) = inr (tails d u b t e)

-- what it means that a pattern fits so far
abbrev pub covers : Fit → Bool
covers whole = true
covers no = false
covers (up_to pieces text) = some_end (matches pieces) text

pub fits : (pieces : List Piece) (text : List ℕ) → matches pieces text ≡ covers (fit_front pieces text)
fits [] [] = refl
fits [] (c ∷ text) = refl
fits (Any ∷ pieces) text = refl
fits (One ∷ pieces) [] = refl
fits (One ∷ pieces) (c ∷ text) = fits pieces (after_character text)
fits (Byte b ∷ pieces) [] = refl
fits (Byte b ∷ pieces) (c ∷ text) =
    elim (b == c) as (λ e. (e && matches pieces text) ≡ covers (if e then fit_front pieces text else no)) [
      | true ↦ fits pieces text
      | false ↦ refl
    ]

-- what a later end gives, the first one gives
pub first_is_best : (pieces : List Piece) (text : List ℕ) (further : List Piece) (behind later : List ℕ) → fit_front pieces text ≡ up_to further behind → IsEnd later text → matches pieces later ≡ true → some_end (matches further) behind ≡ true
first_is_best [] [] further behind later h e m = cc
first_is_best [] (c ∷ text) further behind later h e m = cc
first_is_best (Any ∷ pieces) text further behind later h e m =
    let p : pieces ≡ further = cc in
    let t : text ≡ behind = cc in
    subst (λ x. some_end (matches x) behind ≡ true) p (subst (λ x. some_end (matches pieces) x ≡ true) t (end_of_end (matches pieces) later text e m))
first_is_best (One ∷ pieces) [] further behind later h e m = cc
first_is_best (One ∷ pieces) (c ∷ text) further behind [] h e m = cc
first_is_best (One ∷ pieces) (c ∷ text) further behind (d ∷ later) h e m =
    first_is_best pieces (after_character text) further behind (after_character later) h (characters later text (tails d later c text e)) m
first_is_best (Byte b ∷ pieces) [] further behind later h e m = cc
first_is_best (Byte b ∷ pieces) (c ∷ text) further behind [] h e m = cc
first_is_best (Byte b ∷ pieces) (c ∷ text) further behind (d ∷ later) h e m =
    elim (b == c) as (λ x. (if x then fit_front pieces text else no) ≡ up_to further behind → some_end (matches further) behind ≡ true) [
      | true ↦ λ h. first_is_best pieces text further behind later h (tails d later c text e) (second (b == d) (matches pieces later) m)
      | false ↦ λ h. cc
    ] h
  where
    second : (x y : Bool) → (x && y) ≡ true → y ≡ true
    second true y q = q
    second false y q = cc

-- a pattern that fits up to a piece for any characters covers some end exactly where the rest does
pub goes_further : (pieces : List Piece) (text : List ℕ) (further : List Piece) (behind : List ℕ) → fit_front pieces text ≡ up_to further behind → some_end (matches pieces) text ≡ some_end (matches further) behind
goes_further pieces text further behind h = both_ways _ _ there back
  where
    both_ways : (a b : Bool) → (a ≡ true → b ≡ true) → (b ≡ true → a ≡ true) → a ≡ b
    both_ways true b f g = sym (f refl)
    both_ways false true f g = g refl
    both_ways false false f g = refl

    there : some_end (matches pieces) text ≡ true → some_end (matches further) behind ≡ true
    there s = let found = passing_end (matches pieces) text s in first_is_best pieces text further behind found.0 h found.1 found.2

    at_front : (t : List ℕ) → matches pieces t ≡ true → some_end (matches pieces) t ≡ true
    at_front [] m = m
    at_front (c ∷ t) m = rw m

    back : some_end (matches further) behind ≡ true → some_end (matches pieces) text ≡ true
    back s = at_front text (fits pieces text ∙ ap covers h ∙ s)

-- a pattern that does not fit covers an end only of what is behind the first byte
pub goes_on : (pieces : List Piece) (c : ℕ) (text : List ℕ) → fit_front pieces (c ∷ text) ≡ no → some_end (matches pieces) (c ∷ text) ≡ some_end (matches pieces) text
goes_on pieces c text h = ap (λ b. b || some_end (matches pieces) text) (fits pieces (c ∷ text) ∙ ap covers h)

-- a pattern that fits whole covers some end
pub goes_whole : (pieces : List Piece) (text : List ℕ) → fit_front pieces text ≡ whole → some_end (matches pieces) text ≡ true
goes_whole pieces [] h = fits pieces [] ∙ ap covers h
goes_whole pieces (c ∷ text) h = ap (λ b. b || some_end (matches pieces) text) (fits pieces (c ∷ text) ∙ ap covers h)

-- less is left behind a character
not_longer : (text : List ℕ) → length (after_character text) ≤ length text
not_longer [] = omega arith
not_longer (c ∷ text) =
    elim (nat_le 128 c && nat_lt c 192) as (λ b. length (if b then after_character text else c ∷ text) ≤ suc (length text)) [
      | true ↦ let less = not_longer text in omega arith
      | false ↦ omega arith
    ]

-- less is left of a pattern that fits so far, and no more of the text
pub less_left : (pieces : List Piece) (text : List ℕ) (further : List Piece) (behind : List ℕ) → fit_front pieces text ≡ up_to further behind → length further + length behind < length pieces + length text
less_left [] [] further behind h = cc
less_left [] (c ∷ text) further behind h = cc
less_left (Any ∷ pieces) text further behind h =
    let p : pieces ≡ further = cc in
    let t : text ≡ behind = cc in
    subst (λ x. length x + length behind < suc (length pieces) + length text) p (subst (λ x. length pieces + length x < suc (length pieces) + length text) t (omega arith))
less_left (One ∷ pieces) [] further behind h = cc
less_left (One ∷ pieces) (c ∷ text) further behind h =
    let less = less_left pieces (after_character text) further behind h in
    let more = not_longer text in
    omega arith
less_left (Byte b ∷ pieces) [] further behind h = cc
less_left (Byte b ∷ pieces) (c ∷ text) further behind h =
    elim (b == c) as (λ x. (if x then fit_front pieces text else no) ≡ up_to further behind → length further + length behind < suc (length pieces) + suc (length text)) [
      | true ↦ λ h. let less = less_left pieces text further behind h in omega arith
      | false ↦ λ h. cc
    ] h

-- a pattern that does not fit the end of a text covers no end of it
pub goes_nowhere : (pieces : List Piece) (text : List ℕ) → length text ≡ 0 → fit_front pieces text ≡ no → some_end (matches pieces) text ≡ false
goes_nowhere pieces [] e h = fits pieces [] ∙ ap covers h
goes_nowhere pieces (c ∷ text) e h = cc

-- the same of a text by its first byte
pub goes_behind : (pieces : List Piece) (text : List ℕ) (c : ℕ) (behind : List ℕ) → text ≡ c ∷ behind → fit_front pieces text ≡ no → some_end (matches pieces) behind ≡ some_end (matches pieces) text
goes_behind pieces text c behind same h =
    sym (ap (some_end (matches pieces)) same ∙ goes_on pieces c behind (subst (λ x. fit_front pieces x ≡ no) same h))
