-- The functions of expressions, and the smaller grammar of measures of type number.
use Rattle.std.specs.Prelude.{◌≡◌, ℕ, Bool, true, false, ◌&&◌, List, Option, Some, None}
use Rattle.std.specs.Option.{option_or}
use Rattle.lk_expr_token.specs.declared.functions.Function.{Function}
use Rattle.lk_expr_token.specs.declared.functions.Function.TheVariants as function
use Rattle.lk_expr_token.specs.Functions.{function_of, is_of_measures}
use Rattle.lk_expr_tree.specs.declared.raw.Joint.{Joint}
use Rattle.lk_expr_tree.specs.declared.raw.Joint.TheVariants as joint
use Rattle.lk_expr_tree.specs.Grammar.{Tree, Number, Field, FieldOf, Group, Call, Case, CaseElse, Negate, Chain, Compare, IsNull, In, Between, Like, Not, Args, one, more, Branches, when, then_when, IsExprText}

-- ---- functions

abbrev pub has_one : Args → Bool
has_one (one a) = true
has_one (more args a) = false

abbrev pub has_two : Args → Bool
has_two (one a) = false
has_two (more args a) = has_one args

-- the function takes so many arguments, of which there is one at least
abbrev pub takes : Function → Args → Bool
takes function.Coalesce args = true
takes function.NullIf args = has_two args
takes function.Lower args = has_one args
takes function.Upper args = has_one args

abbrev pub is_taken : Option Function → Args → Bool
is_taken None args = false
is_taken (Some f) args = takes f args

-- the call's name begins at the place; none where the call is known
abbrev pub place_unless : Bool → ℕ → Option ℕ
place_unless true place = None
place_unless false place = Some place

abbrev mutual
  -- where the first call stands that is of no known function, or has not as many arguments as it takes
  pub unknown_call : Tree → Option ℕ
  unknown_call (Group a) = unknown_call a
  unknown_call (Call name place args) = option_or (place_unless (is_taken (function_of name) args) place) (unknown_among args)
  unknown_call (Case branches) = unknown_branch branches
  unknown_call (CaseElse branches a) = option_or (unknown_branch branches) (unknown_call a)
  unknown_call (Negate a) = unknown_call a
  unknown_call (Chain j a b) = option_or (unknown_call a) (unknown_call b)
  unknown_call (Compare c a b) = option_or (unknown_call a) (unknown_call b)
  unknown_call (IsNull n a) = unknown_call a
  unknown_call (In n a args) = option_or (unknown_call a) (unknown_among args)
  unknown_call (Between n a low high) = option_or (unknown_call a) (option_or (unknown_call low) (unknown_call high))
  unknown_call (Like n a text) = unknown_call a
  unknown_call (Not a) = unknown_call a
  unknown_call e = None

  pub unknown_among : Args → Option ℕ
  unknown_among (one a) = unknown_call a
  unknown_among (more args a) = option_or (unknown_among args) (unknown_call a)

  pub unknown_branch : Branches → Option ℕ
  unknown_branch (when c a) = option_or (unknown_call c) (unknown_call a)
  unknown_branch (then_when branches c a) = option_or (unknown_branch branches) (option_or (unknown_call c) (unknown_call a))

-- ---- measures of type number

abbrev pub is_arithmetic : Joint → Bool
is_arithmetic joint.Plus = true
is_arithmetic joint.Minus = true
is_arithmetic joint.Times = true
is_arithmetic joint.Over = true
is_arithmetic j = false

abbrev mutual
  -- numbers, references, arithmetic, brackets, NULLIF and COALESCE alone
  pub is_measure : Tree → Bool
  is_measure (Number number) = true
  is_measure (Field name) = true
  is_measure (FieldOf view name) = true
  is_measure (Group a) = is_measure a
  is_measure (Call name place args) = is_of_measures (function_of name) && are_measures args
  is_measure (Negate a) = is_measure a
  is_measure (Chain j a b) = is_arithmetic j && (is_measure a && is_measure b)
  is_measure e = false

  pub are_measures : Args → Bool
  are_measures (one a) = is_measure a
  are_measures (more args a) = are_measures args && is_measure a

-- a tree of the smaller grammar, and a text that spells it
pub record IsMeasureText (e : Tree) (text : List ℕ) : Type 0 where
  pub expr : IsExprText e text
  pub measure : is_measure e ≡ true
