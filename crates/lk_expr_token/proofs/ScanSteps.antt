-- One step of reading the tokens in front of a text.
use Rattle.std.proofs.Common.{◌≡◌, ℕ, suc, ◌+◌, ◌<◌, List, [], ◌∷◌, ◌++◌, length, drop, drop-cons, Some, None, refl, sym, ap, ◌∙◌, append_assoc, append-nil, arith}
use Rattle.lk_expr_token.specs.TokenFronts.{behind_spaces, first_terminal, terminals_from, behind_tokens}

terminals_none : (whole : ℕ) (fuel rest : List ℕ) (i : ℕ) → i < length fuel → first_terminal whole rest ≡ None → terminals_from whole (drop i fuel) rest ≡ []
terminals_none whole fuel rest i h e = rw (drop-cons fuel i 0 h, e) refl

terminals_some : (whole : ℕ) (fuel rest : List ℕ) (i k : ℕ) (r : List ℕ) → i < length fuel → first_terminal whole rest ≡ Some (k, r) → terminals_from whole (drop i fuel) rest ≡ k ∷ terminals_from whole (drop (suc i) fuel) r
terminals_some whole fuel rest i k r h e = rw (drop-cons fuel i 0 h, e) refl

-- the terminals so far are all, where no token comes
pub terminals_end : (whole : ℕ) (fuel rest terminals all : List ℕ) (i : ℕ) → i < length fuel → first_terminal whole rest ≡ None → terminals ++ terminals_from whole (drop i fuel) rest ≡ all → terminals ≡ all
terminals_end whole fuel rest terminals all i h e same = sym (append-nil terminals) ∙ ap (λ z. terminals ++ z) (sym (terminals_none whole fuel rest i h e)) ∙ same

-- and one more where one does
pub terminals_next : (whole : ℕ) (fuel rest terminals more all r : List ℕ) (i k : ℕ) → i < length fuel → first_terminal whole rest ≡ Some (k, r) → more ≡ terminals ++ k ∷ [] → terminals ++ terminals_from whole (drop i fuel) rest ≡ all → more ++ terminals_from whole (drop (i + 1) fuel) r ≡ all
terminals_next whole fuel rest terminals more all r i k h e pushed same =
    let next : i + 1 ≡ suc i = omega arith in
    (λ j. pushed j ++ terminals_from whole (drop (next j) fuel) r) ∙ append_assoc terminals (k ∷ []) (terminals_from whole (drop (suc i) fuel) r) ∙ ap (λ z. terminals ++ z) (sym (terminals_some whole fuel rest i k r h e)) ∙ same

-- what is behind the tokens so far is the answer, where no token comes
pub behind_end : (whole : ℕ) (terminals rest all : List ℕ) (i : ℕ) → i < length terminals → first_terminal whole rest ≡ None → behind_tokens whole (drop i terminals) rest ≡ all → behind_spaces rest ≡ all
behind_end whole terminals rest all i h e same = sym (rw (drop-cons terminals i 0 h, e) refl) ∙ same

pub behind_next : (whole : ℕ) (terminals rest all r : List ℕ) (i k : ℕ) → i < length terminals → first_terminal whole rest ≡ Some (k, r) → behind_tokens whole (drop i terminals) rest ≡ all → behind_tokens whole (drop (i + 1) terminals) r ≡ all
behind_next whole terminals rest all r i k h e same =
    let next : i + 1 ≡ suc i = omega arith in
    ap (λ j. behind_tokens whole (drop j terminals) r) next ∙ sym (step whole terminals rest r i k h e) ∙ same
  where
    step : (whole : ℕ) (terminals rest r : List ℕ) (i k : ℕ) → i < length terminals → first_terminal whole rest ≡ Some (k, r) → behind_tokens whole (drop i terminals) rest ≡ behind_tokens whole (drop (suc i) terminals) r
    step whole terminals rest r i k h e = rw (drop-cons terminals i 0 h, e) refl
