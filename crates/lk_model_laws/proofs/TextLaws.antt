-- When two texts are the same.
use Rattle.std.proofs.Common.{◌≡◌, ℕ, true, List, [], ◌∷◌, refl}
use Rattle.std.specs.Prelude.{nat_eq}
use Rattle.std.proofs.lemmas.Bool.{eq-eqb, eqb-true, false≢true}
use Rattle.lk_val.specs.Texts.{is_same_text}
use Rattle.lk_semantics.proofs.EveryLaws.{both, first, second}

pub same_itself : (t : List ℕ) → is_same_text t t ≡ true
same_itself [] = refl
same_itself (b ∷ t) = both (nat_eq b b) (is_same_text t t) (eq-eqb b b refl) (same_itself t)

pub same_exact : (s t : List ℕ) → is_same_text s t ≡ true → s ≡ t
same_exact [] [] h = refl
same_exact [] (c ∷ t) h = absurd (false≢true h)
same_exact (b ∷ s) [] h = absurd (false≢true h)
same_exact (b ∷ s) (c ∷ t) h =
    let heads = eqb-true b c (first (nat_eq b c) (is_same_text s t) h) in
    let tails = same_exact s t (second (nat_eq b c) (is_same_text s t) h) in
    λ i. heads i ∷ tails i
