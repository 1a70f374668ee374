-- What an expression means on a joined row.
use Rattle.std.specs.Prelude.{ℕ, ◌-◌, ◌+◌, ◌==◌, nat_eq, nat_le, nat_lt, Bool, true, false, not, ◌&&◌, ◌||◌, if◌then◌else◌, List, [], ◌∷◌, ◌++◌, map, length, slice_get, slice_index_or, Option, Some, None, option_map}
use Rattle.std.specs.List.{list_any}
use Rattle.std.specs.Ordering.{is_eq, is_ne, is_lt, is_gt, is_le, is_ge}
use Rattle.std.specs.declared.cmp.Ordering.{Ordering}
use Rattle.std.specs.Char.{is_ascii_uppercase, is_ascii_lowercase}
use Rattle.lk_val.specs.Values.{value_cmp, is_null}
use Rattle.lk_val.specs.Rounding.{num_add, num_sub, num_mul, num_div, num_neg}
use Rattle.lk_val.specs.declared.num.Num.{Num}
use Rattle.lk_val.specs.declared.value.Value.{Value}
use Rattle.lk_val.specs.declared.value.Value.TheVariants as value
use Rattle.lk_types.specs.Formula.{Formula, Column, Literal, Framed, Not, And, Or, Compare, IsNull, In, Between, Like, Number, Negate, Concat, Lower, Upper, Case, Coalesce, NullIf, Formulas, no_more, more, Cases, without_else, otherwise, when}
use Rattle.lk_types.specs.Calendar.{midnight}
use Rattle.lk_types.specs.Timeframes.{timeframe_of}
use Rattle.lk_types.specs.declared.rows.Joined.{Joined}
use Rattle.lk_types.specs.declared.expr.Comparison.{Comparison}
use Rattle.lk_types.specs.declared.expr.Comparison.TheVariants as comparison
use Rattle.lk_types.specs.declared.expr.Arithmetic.{Arithmetic}
use Rattle.lk_types.specs.declared.expr.Arithmetic.TheVariants as arithmetic
use Rattle.lk_types.specs.declared.expr.Piece.{Piece}
use Rattle.lk_types.specs.declared.expr.Piece.TheVariants.{Any, One, Byte}

-- the value in a column of a part: null where the part is null or has not entered
abbrev pub value_in : Option (Option (List Value)) → ℕ → Value
value_in (Some (Some cells)) column = slice_index_or cells column value.Null
value_in part column = value.Null

-- the value in a column of a part of a row
abbrev pub column_of : Joined → ℕ → ℕ → Value
column_of row part column = value_in (slice_get row.parts part) column

-- a truth value of three: none is unknown
abbrev pub truth_of : Value → Option Bool
truth_of (value.Truth b) = Some b
truth_of v = None

-- a truth value of three as a value: unknown is null
abbrev pub value_of_truth : Option Bool → Value
value_of_truth (Some b) = value.Truth b
value_of_truth None = value.Null

-- AND of three truth values
abbrev pub and_of : Option Bool → Option Bool → Option Bool
and_of (Some true) b = b
and_of (Some false) b = Some false
and_of None (Some false) = Some false
and_of None b = None

-- NOT of three truth values
abbrev pub not_of : Option Bool → Option Bool
not_of = option_map not

-- OR of three truth values
abbrev pub or_of : Option Bool → Option Bool → Option Bool
or_of a b = not_of (and_of (not_of a) (not_of b))

-- the value is yes, and neither no nor unknown
abbrev pub is_true : Value → Bool
is_true (value.Truth b) = b
is_true v = false

-- a day beside a moment is its midnight
abbrev pub beside : Value → Value → Value
beside (value.Day d) (value.Moment m) = value.Moment (midnight d)
beside v other = v

-- a comparison holds of an order of two values
abbrev pub holds : Comparison → Ordering → Bool
holds comparison.Equal o = is_eq o
holds comparison.NotEqual o = is_ne o
holds comparison.Less o = is_lt o
holds comparison.AtMost o = is_le o
holds comparison.Greater o = is_gt o
holds comparison.AtLeast o = is_ge o

-- a comparison with null is unknown
abbrev pub compared : Comparison → Value → Value → Option Bool
compared c a b = if is_null a || is_null b then None else Some (holds c (value_cmp (beside a b) (beside b a)))

-- x = a OR x = b ..
abbrev pub is_one_of : Value → List Value → Option Bool
is_one_of x [] = Some false
is_one_of x (v ∷ vs) = or_of (compared comparison.Equal x v) (is_one_of x vs)

-- a number, or null where there is none
abbrev pub value_of_num : Option Num → Value
value_of_num None = value.Null
value_of_num (Some n) = value.Num n

-- numbers are rounded to four places; out of range, and divided by 0, there is none
abbrev pub computed : Arithmetic → Num → Num → Option Num
computed arithmetic.Plus a b = num_add a b
computed arithmetic.Minus a b = num_sub a b
computed arithmetic.Times a b = num_mul a b
computed arithmetic.Over a b = num_div a b

-- arithmetic with null gives null
abbrev pub apply : Arithmetic → Value → Value → Value
apply op (value.Num x) (value.Num y) = value_of_num (computed op x y)
apply op a b = value.Null

-- a number with the other sign, null out of range
abbrev pub negated : Value → Value
negated (value.Num x) = value_of_num (num_neg x)
negated v = value.Null

-- a text of over 4,096 bytes is null
abbrev pub joined_text : Value → Value → Value
joined_text (value.Text a) (value.Text b) = if nat_le (length (a ++ b)) 4096 then value.Text (a ++ b) else value.Null
joined_text a b = value.Null

-- a function of texts, null for any other value
abbrev pub on_text : (List ℕ → List ℕ) → Value → Value
on_text f (value.Text t) = value.Text (f t)
on_text f v = value.Null

-- a letter of ASCII in lower case
abbrev pub ascii_lower : ℕ → ℕ
ascii_lower c = if is_ascii_uppercase c then c + 32 else c

-- a letter of ASCII in upper case
abbrev pub ascii_upper : ℕ → ℕ
ascii_upper c = if is_ascii_lowercase c then c - 32 else c

-- what follows the first character of a text: in UTF-8 the later bytes of a character are from 128 to 191
abbrev pub after_character : List ℕ → List ℕ
after_character [] = []
after_character (c ∷ cs) = if nat_le 128 c && nat_lt c 192 then after_character cs else c ∷ cs

-- some end of the text passes
abbrev pub some_end : (List ℕ → Bool) → List ℕ → Bool
some_end test [] = test []
some_end test (c ∷ cs) = test (c ∷ cs) || some_end test cs

-- the pattern covers the text
abbrev pub matches : List Piece → List ℕ → Bool
matches [] [] = true
matches [] (c ∷ cs) = false
matches (Any ∷ pieces) text = some_end (matches pieces) text
matches (One ∷ pieces) [] = false
matches (One ∷ pieces) (c ∷ cs) = matches pieces (after_character cs)
matches (Byte b ∷ pieces) [] = false
matches (Byte b ∷ pieces) (c ∷ cs) = (b == c) && matches pieces cs

-- a text matches a pattern; unknown for any other value
abbrev pub like : Value → List Piece → Option Bool
like (value.Text t) pieces = Some (matches pieces t)
like v pieces = None

-- the first value that is not null
abbrev pub first_known : List Value → Value
first_known [] = value.Null
first_known (v ∷ vs) = if is_null v then first_known vs else v

-- true, and neither false nor unknown
abbrev pub is_true_truth : Option Bool → Bool
is_true_truth (Some b) = b
is_true_truth None = false

-- null where the two are equal
abbrev pub null_if : Value → Value → Value
null_if a b = if is_true_truth (compared comparison.Equal a b) then value.Null else a

abbrev mutual
  -- the value of an expression on a joined row
  pub value_of : Formula → Joined → Value
  value_of (Column part column) row = column_of row part column
  value_of (Literal v) row = v
  value_of (Framed f a) row = timeframe_of f (value_of a row)
  value_of (Not a) row = value_of_truth (not_of (truth_of (value_of a row)))
  value_of (And a b) row = value_of_truth (and_of (truth_of (value_of a row)) (truth_of (value_of b row)))
  value_of (Or a b) row = value_of_truth (or_of (truth_of (value_of a row)) (truth_of (value_of b row)))
  value_of (Compare c a b) row = value_of_truth (compared c (value_of a row) (value_of b row))
  value_of (IsNull a) row = value.Truth (is_null (value_of a row))
  value_of (In a xs) row = value_of_truth (is_one_of (value_of a row) (values_of xs row))
  value_of (Between a low high) row = value_of_truth (and_of (compared comparison.AtLeast (value_of a row) (value_of low row)) (compared comparison.AtMost (value_of a row) (value_of high row)))
  value_of (Like a pieces) row = value_of_truth (like (value_of a row) pieces)
  value_of (Number op a b) row = apply op (value_of a row) (value_of b row)
  value_of (Negate a) row = negated (value_of a row)
  value_of (Concat a b) row = joined_text (value_of a row) (value_of b row)
  value_of (Lower a) row = on_text (map ascii_lower) (value_of a row)
  value_of (Upper a) row = on_text (map ascii_upper) (value_of a row)
  value_of (Case cases) row = first_case cases row
  value_of (Coalesce xs) row = first_known (values_of xs row)
  value_of (NullIf a b) row = null_if (value_of a row) (value_of b row)

  pub values_of : Formulas → Joined → List Value
  values_of no_more row = []
  values_of (more a xs) row = value_of a row ∷ values_of xs row

  -- the first branch whose condition is true
  pub first_case : Cases → Joined → Value
  first_case without_else row = value.Null
  first_case (otherwise a) row = value_of a row
  first_case (when c a rest) row = if is_true (value_of c row) then value_of a row else first_case rest row

abbrev mutual
  -- the parts whose columns stand in an expression
  pub mentions : Formula → List ℕ
  mentions (Column part column) = part ∷ []
  mentions (Literal v) = []
  mentions (Framed f a) = mentions a
  mentions (Not a) = mentions a
  mentions (And a b) = mentions a ++ mentions b
  mentions (Or a b) = mentions a ++ mentions b
  mentions (Compare c a b) = mentions a ++ mentions b
  mentions (IsNull a) = mentions a
  mentions (In a xs) = mentions a ++ mentions_all xs
  mentions (Between a low high) = mentions a ++ mentions low ++ mentions high
  mentions (Like a pieces) = mentions a
  mentions (Number op a b) = mentions a ++ mentions b
  mentions (Negate a) = mentions a
  mentions (Concat a b) = mentions a ++ mentions b
  mentions (Lower a) = mentions a
  mentions (Upper a) = mentions a
  mentions (Case cases) = mentions_cases cases
  mentions (Coalesce xs) = mentions_all xs
  mentions (NullIf a b) = mentions a ++ mentions b

  pub mentions_all : Formulas → List ℕ
  mentions_all no_more = []
  mentions_all (more a xs) = mentions a ++ mentions_all xs

  pub mentions_cases : Cases → List ℕ
  mentions_cases without_else = []
  mentions_cases (otherwise a) = mentions a
  mentions_cases (when c a rest) = mentions c ++ mentions a ++ mentions_cases rest

-- the conditions that the outermost ANDs join
abbrev pub conjuncts : Formula → List Formula
conjuncts (And a b) = conjuncts a ++ conjuncts b
conjuncts e = e ∷ []

-- the number is one of the list
abbrev pub has_number : ℕ → List ℕ → Bool
has_number n ns = list_any (nat_eq n) ns
