-- The functions of expressions, by their names.
use Rattle.std.specs.Prelude.{ℕ, nat_eq, Bool, true, false, if◌then◌else◌, List, map, codes, Option, Some, None}
use Rattle.std.specs.Cmp.Lexicographic.{pointwise}
use Rattle.lk_types.specs.Expressions.{ascii_lower}
use Rattle.lk_expr_token.specs.declared.functions.Function.{Function}
use Rattle.lk_expr_token.specs.declared.functions.Function.TheVariants as function

-- the name is the word, in any case
abbrev pub is_word : List ℕ → List ℕ → Bool
is_word name letters = pointwise nat_eq (map ascii_lower name) letters

-- the function of a name
unfoldable pub function_of : List ℕ → Option Function
function_of name =
    if is_word name (codes "coalesce") then Some function.Coalesce else if is_word name (codes "nullif") then Some function.NullIf
    else if is_word name (codes "lower") then Some function.Lower else if is_word name (codes "upper") then Some function.Upper else None

-- NULLIF and COALESCE
abbrev pub is_of_measures : Option Function → Bool
is_of_measures (Some function.NullIf) = true
is_of_measures (Some function.Coalesce) = true
is_of_measures f = false
