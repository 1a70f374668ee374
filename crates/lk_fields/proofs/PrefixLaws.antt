-- A text that begins with another.
use Rattle.std.proofs.Common.{◌≡◌, ◌∙◌, ℕ, true, false, List, [], ◌∷◌, ◌++◌, length, take, drop, refl, sym, ap}
use Rattle.std.specs.Prelude.{nat_eq}
use Rattle.std.specs.Cmp.Lexicographic.{same_text}
use Rattle.std.proofs.Math.Seq.{take-append_seam}
use Rattle.std.proofs.lemmas.Bool.{eq-eqb}
use Rattle.std.proofs.lemmas.List.{take-append-drop}
use Rattle.lk_val.specs.Texts.{is_same_text}

same_byte : (c : ℕ) → nat_eq c c ≡ true
same_byte c = eq-eqb c c refl

-- a text is the same as itself
itself : (xs : List ℕ) → is_same_text xs xs ≡ true
itself [] = refl
itself (x ∷ xs) = rw (same_byte x) (itself xs)

-- a front that is the same may be left out
same_front : (a b xs : List ℕ) → is_same_text (a ++ b) (a ++ xs) ≡ is_same_text b xs
same_front [] b xs = refl
same_front (c ∷ cs) b xs = rw (same_byte c) (same_front cs b xs)

pub lacks : (a b xs : List ℕ) → is_same_text (take (length a) xs) a ≡ false → is_same_text (a ++ b) xs ≡ false
lacks a b xs other =
    elim (is_same_text (a ++ b) xs) as (λ t. is_same_text (a ++ b) xs ≡ t → t ≡ false) [
      | true ↦ λ e.
          let whole : a ++ b ≡ xs = same_text (a ++ b) xs (sym e) in
          let front : take (length a) xs ≡ a = ap (λ ys. take (length a) ys) (sym whole) ∙ take-append_seam a b in
          sym (itself a) ∙ ap (λ ys. is_same_text ys a) (sym front) ∙ other
      | false ↦ λ e. refl
    ] refl

pub behind : (a b xs : List ℕ) → is_same_text (take (length a) xs) a ≡ true
    → is_same_text (a ++ b) xs ≡ is_same_text b (drop (length a) xs)
behind a b xs same =
    let front : take (length a) xs ≡ a = same_text (take (length a) xs) a (sym same) in
    let whole : a ++ drop (length a) xs ≡ xs = ap (λ ys. ys ++ drop (length a) xs) (sym front) ∙ take-append-drop (length a) xs in
    ap (λ ys. is_same_text (a ++ b) ys) (sym whole) ∙ same_front a b (drop (length a) xs)
