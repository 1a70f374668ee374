-- Ways of an object: pulls and then puts are pulls and puts, and what no step changes is as it was.
use Rattle.std.proofs.Common.{◌≡◌, ◌∙◌, ℕ, zero, suc, ap, inl, inr, refl, subst, sym}
use Rattle.std.specs.Prelude.{◌⊎◌}
use Rattle.lk_http.specs.Ways.{After, Comes}

way_on : {S : Type 0} (R : S → S → Type 0) (count : ℕ) (a b c : S) → Comes R a b → After R count b c → Comes R a c
way_on R zero a b c way same = subst (Comes R a) (sym same) way
way_on R (suc count) a b c way (m, before, last) = let here = way_on R count a b m way before in (suc here.0, (m, here.1, last))

-- a way behind another
pub way_behind : {S : Type 0} (R : S → S → Type 0) (a b c : S) → Comes R a b → Comes R b c → Comes R a c
way_behind R a b c way (count, more) = way_on R count a b c way more

-- no step, and one
pub still : {S : Type 0} (R : S → S → Type 0) (a : S) → Comes R a a
still R a = (0, refl)

pub once : {S : Type 0} (R : S → S → Type 0) (a b : S) → R a b → Comes R a b
once R a b step = (1, (a, refl, step))

kept_after : {S V : Type 0} (R : S → S → Type 0) (f : S → V) → ((a b : S) → R a b → f b ≡ f a) → (count : ℕ) (a b : S) → After R count a b → f b ≡ f a
kept_after R f step zero a b same = ap f same
kept_after R f step (suc count) a b (m, before, last) = step m b last ∙ kept_after R f step count a m before

-- what no step changes is as it was at the first
pub kept_along : {S V : Type 0} (R : S → S → Type 0) (f : S → V) → ((a b : S) → R a b → f b ≡ f a) → (a b : S) → Comes R a b → f b ≡ f a
kept_along R f step a b (count, way) = kept_after R f step count a b way

after_within : {S : Type 0} (R Q : S → S → Type 0) → ((a b : S) → R a b → Q a b) → (count : ℕ) (a b : S) → After R count a b → After Q count a b
after_within R Q within zero a b same = same
after_within R Q within (suc count) a b (m, before, last) = (m, after_within R Q within count a m before, within m b last)

way_within : {S : Type 0} (R Q : S → S → Type 0) → ((a b : S) → R a b → Q a b) → (a b : S) → Comes R a b → Comes Q a b
way_within R Q within a b (count, way) = (count, after_within R Q within count a b way)

module _ {S : Type 0} (Pull Put : S → S → Type 0) where
  pub pulled : (a b : S) → Comes Pull a b → Comes (λ x y. Pull x y ⊎ Put x y) a b
  pulled a b = way_within Pull (λ x y. Pull x y ⊎ Put x y) (λ x y p. inl p) a b

  pub pulled_and_put : (a b c : S) → Comes Pull a b → Comes Put b c → Comes (λ x y. Pull x y ⊎ Put x y) a c
  pulled_and_put a b c p q =
      way_behind (λ x y. Pull x y ⊎ Put x y) a b c (pulled a b p) (way_within Put (λ x y. Pull x y ⊎ Put x y) (λ x y h. inr h) b c q)
