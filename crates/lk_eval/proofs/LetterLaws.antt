-- The letters of ASCII in lower and upper case, as std has them.
use Rattle.std.proofs.Common.{◌≡◌, ℕ, List, arith}
use Rattle.std.specs.Prelude.{map}
use Rattle.std.proofs.lemmas.Bool.Decides.{nat_tests}
use Rattle.std.specs.Char.{to_ascii_lowercase, to_ascii_uppercase}
use Rattle.lk_types.specs.Expressions.{ascii_lower, ascii_upper}

lower-letter : (c : ℕ) → to_ascii_lowercase c ≡ ascii_lower c
lower-letter c = grind (arith, nat_tests)

upper-letter : (c : ℕ) → to_ascii_uppercase c ≡ ascii_upper c
upper-letter c = grind (arith, nat_tests)

pub lower_letters : (text : List ℕ) → map to_ascii_lowercase text ≡ map ascii_lower text
lower_letters text = λ i. map (λ c. lower-letter c i) text

pub upper_letters : (text : List ℕ) → map to_ascii_uppercase text ≡ map ascii_upper text
upper_letters text = λ i. map (λ c. upper-letter c i) text
