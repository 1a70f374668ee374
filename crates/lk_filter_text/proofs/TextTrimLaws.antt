-- Spaces around tokens.
use Rattle.std.proofs.Common.{◌≡◌, true, false, List, [], ◌∷◌, ◌++◌, refl, ap, ◌∙◌}
use Rattle.lk_filter_text.specs.Texts.{TextToken, is_space}
use Rattle.lk_filter_text.specs.TextReading.{with_front, without_end}

-- a space at the end goes, and any other token stays
pub drops_last : (tokens : List TextToken) (t : TextToken) → is_space t ≡ true → without_end (tokens ++ t ∷ []) ≡ without_end tokens
drops_last [] t h = rw h refl
drops_last (u ∷ tokens) t h = ap (with_front u) (drops_last tokens t h)

with_front_of : (u : TextToken) (tokens : List TextToken) (t : TextToken) → with_front u (tokens ++ t ∷ []) ≡ u ∷ (tokens ++ t ∷ [])
with_front_of u [] t = refl
with_front_of u (v ∷ tokens) t = refl

pub keeps_last : (tokens : List TextToken) (t : TextToken) → is_space t ≡ false → without_end (tokens ++ t ∷ []) ≡ tokens ++ t ∷ []
keeps_last [] t h = rw h refl
keeps_last (u ∷ tokens) t h = ap (with_front u) (keeps_last tokens t h) ∙ with_front_of u tokens t
