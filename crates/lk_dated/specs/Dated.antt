-- Text literals that are compared with days and moments: each is the day or the moment that it writes. (lookd)
use Rattle.std.specs.Prelude.{ℕ, not, ◌&&◌, ◌||◌, Bool, if◌then◌else◌, List, Option, Some, None, option_map, slice_index_or}
use Rattle.lk_val.specs.declared.value.Value.{Value}
use Rattle.lk_val.specs.declared.value.Value.TheVariants as value
use Rattle.lk_types.specs.Formula.{Formula, Column, Literal, Framed, Not, And, Or, Compare, IsNull, In, Between, Like, Number, Negate, Concat, Lower, Upper, Case, Coalesce, NullIf, Formulas, no_more, more, Cases, without_else, otherwise, when}
use Rattle.lk_types.specs.Kinds.{has_time}
use Rattle.lk_types.specs.Unfolded.{Sides, listed, ranged, null_if}
use Rattle.lk_types.specs.declared.expr.Comparison.{Comparison}
use Rattle.lk_types.specs.declared.kind_set.KindSet.{KindSet}
use Rattle.lk_cell.specs.Days.{day_cell}
use Rattle.lk_cell.specs.Moments.{moment_cell}

-- the kinds are day, moment or both, and no other
abbrev pub is_time : KindSet → Bool
is_time kinds = has_time kinds && not (kinds.text || (kinds.number || kinds.truth))

-- the day or moment that a text writes beside these kinds: a day beside a day alone, and a moment where a moment can stand; a cell that is empty writes none
abbrev pub time_beside : KindSet → List ℕ → Option Value
time_beside kinds text =
    if is_time kinds then (if kinds.moment then option_map value.Moment (moment_cell text) else option_map value.Day (day_cell text)) else None

-- a text that writes none stays a text
abbrev pub or_text : List ℕ → Option Value → Value
or_text text None = value.Text text
or_text text (Some v) = v

-- the text of a text literal; none of any other expression
abbrev pub text_of_value : Value → Option (List ℕ)
text_of_value (value.Text text) = Some text
text_of_value v = None

abbrev pub text_of : Formula → Option (List ℕ)
text_of (Literal v) = text_of_value v
text_of e = None

-- a literal beside an expression of these kinds
abbrev pub value_beside : KindSet → Value → Value
value_beside kinds (value.Text text) = or_text text (time_beside kinds text)
value_beside kinds v = v

-- an expression beside one of these kinds: where it is a text literal, it is read
abbrev pub read_beside : KindSet → Formula → Formula
read_beside kinds (Literal v) = Literal (value_beside kinds v)
read_beside kinds e = e

-- two expressions as they are compared, each beside the other
abbrev pub compared : (Formula → KindSet) → Formula → Formula → Sides
compared kinds a b = (read_beside (kinds b) a, read_beside (kinds a) b)

abbrev pub compare_sides : Comparison → Sides → Formula
compare_sides c sides = Compare c sides.0 sides.1

-- what stands for the column of a number, whatever its part; null past the end
abbrev pub stands_at : List Formula → ℕ → ℕ → Formula
stands_at by part column = slice_index_or by column (Literal value.Null)

-- given: the kinds of an expression, and what stands for each column, in which text literals are read already
module _ (kinds : Formula → KindSet) (leaf : ℕ → ℕ → Formula) where
  abbrev mutual
    -- the expression with what stands for its columns, and with the text literals among the sides of its comparisons read
    pub dated_by : Formula → Formula
    dated_by (Column part column) = leaf part column
    dated_by (Literal v) = Literal v
    dated_by (Framed f a) = Framed f (dated_by a)
    dated_by (Not a) = Not (dated_by a)
    dated_by (And a b) = And (dated_by a) (dated_by b)
    dated_by (Or a b) = Or (dated_by a) (dated_by b)
    dated_by (Compare c a b) = compare_sides c (compared kinds (dated_by a) (dated_by b))
    dated_by (IsNull a) = IsNull (dated_by a)
    dated_by (In a xs) = listed (compared kinds) (dated_by a) (all_dated_by xs)
    dated_by (Between a low high) = ranged (compared kinds) (dated_by a) (dated_by low) (dated_by high)
    dated_by (Like a pieces) = Like (dated_by a) pieces
    dated_by (Number op a b) = Number op (dated_by a) (dated_by b)
    dated_by (Negate a) = Negate (dated_by a)
    dated_by (Concat a b) = Concat (dated_by a) (dated_by b)
    dated_by (Lower a) = Lower (dated_by a)
    dated_by (Upper a) = Upper (dated_by a)
    dated_by (Case cases) = Case (cases_dated_by cases)
    dated_by (Coalesce xs) = Coalesce (all_dated_by xs)
    dated_by (NullIf a b) = null_if (compared kinds) (dated_by a) (dated_by b)

    pub all_dated_by : Formulas → Formulas
    all_dated_by no_more = no_more
    all_dated_by (more a xs) = more (dated_by a) (all_dated_by xs)

    pub cases_dated_by : Cases → Cases
    cases_dated_by without_else = without_else
    cases_dated_by (otherwise a) = otherwise (dated_by a)
    cases_dated_by (when c a rest) = when (dated_by c) (dated_by a) (cases_dated_by rest)
