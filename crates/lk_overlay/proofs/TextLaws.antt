-- Texts that are the same.
use Rattle.std.proofs.Common.{◌≡◌, ◌∙◌, ℕ, true, List, [], ◌∷◌, refl, sym, arith}
use Rattle.std.specs.Ordering.{nat_cmp, is_eq}
use Rattle.std.specs.Cmp.Lexicographic.{slice_cmp, texts_ties}
use Rattle.std.proofs.lemmas.Bool.Decides.{nat_tests}
use Rattle.lk_val.specs.Texts.{is_same_text}
use Rattle.lk_params.proofs.Steps.{text_exact}

pub same_itself : (x : List ℕ) → is_same_text x x ≡ true
same_itself [] = refl
same_itself (c ∷ cs) = grind (arith, nat_tests, same_itself cs)

pub text_tied : (x y : List ℕ) → is_eq (slice_cmp nat_cmp x y) ≡ is_same_text x y
text_tied x y = sym (texts_ties x y)

pub tied_exact : (x y : List ℕ) → is_eq (slice_cmp nat_cmp x y) ≡ true → x ≡ y
tied_exact x y h = text_exact x y (texts_ties x y ∙ h)
