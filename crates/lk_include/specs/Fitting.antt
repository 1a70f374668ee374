-- How far a pattern fits from the front. It is how the program finds whether a pattern covers a list, and no part of
-- what that means.
use Rattle.std.specs.Prelude.{ℕ, nat_eq, Bool, if◌then◌else◌, List, [], ◌∷◌}
use Rattle.lk_include.specs.Patterns.{is_star, is_any_folders, matches_name}
use Rattle.lk_include.specs.declared.patterns.NameFit as name
use Rattle.lk_include.specs.declared.patterns.NamesFit as names
use Rattle.lk_include.specs.declared.patterns.NameFit.TheVariants as name_fits
use Rattle.lk_include.specs.declared.patterns.NamesFit.TheVariants as names_fits

pub data Fit (P A : Type 0) : Type 0 where
  -- all of the pattern fits all of the list
  whole : Fit P A
  -- it does not fit
  no : Fit P A
  -- it fits up to its first free piece: what is behind that piece, and the list that is left
  up_to : List P → List A → Fit P A

module _ {P A : Type 0} (is_free : P → Bool) (accepts : P → A → Bool) where
  abbrev pub fit_front : List P → List A → Fit P A
  fit_front [] [] = whole
  fit_front [] (x ∷ xs) = no
  fit_front (p ∷ ps) [] = if is_free p then up_to ps [] else no
  fit_front (p ∷ ps) (x ∷ xs) =
      if is_free p then up_to ps (x ∷ xs) else if accepts p x then fit_front ps xs else no

abbrev pub name_fit : List ℕ → List ℕ → Fit ℕ ℕ
name_fit = fit_front is_star nat_eq

abbrev pub name_fit_of : name.NameFit → Fit ℕ ℕ
name_fit_of name_fits.Whole = whole
name_fit_of name_fits.Not = no
name_fit_of (name_fits.UpTo pattern left) = up_to pattern.now left.now

abbrev pub names_fit : List (List ℕ) → List (List ℕ) → Fit (List ℕ) (List ℕ)
names_fit = fit_front is_any_folders matches_name

abbrev pub names_fit_of : names.NamesFit → Fit (List ℕ) (List ℕ)
names_fit_of names_fits.Whole = whole
names_fit_of names_fits.Not = no
names_fit_of (names_fits.UpTo pattern left) = up_to pattern.now left.now
