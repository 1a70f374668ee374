-- The printed text of an expression of SQL. Each text is written with what comes behind it, so that a reader's law is a chain of equations.
use Rattle.std.specs.Prelude.{ℕ, ◌==◌, true, false, if◌then◌else◌, List, [], ◌∷◌, ◌++◌, flat_map, codes}
use Rattle.lk_val.specs.Numbers.{number_text}
use Rattle.lk_val.specs.declared.value.Value.{Value}
use Rattle.lk_val.specs.declared.value.Value.TheVariants as value
use Rattle.lk_types.specs.Printing.{value_text}
use Rattle.lk_types.specs.declared.schema.Frame.{Frame}
use Rattle.lk_types.specs.declared.schema.Frame.TheVariants as frame
use Rattle.lk_types.specs.declared.expr.Comparison.{Comparison}
use Rattle.lk_types.specs.declared.expr.Comparison.TheVariants as comparison
use Rattle.lk_types.specs.declared.expr.Arithmetic.{Arithmetic}
use Rattle.lk_types.specs.declared.expr.Arithmetic.TheVariants as arithmetic
use Rattle.lk_types.specs.declared.expr.Piece.{Piece}
use Rattle.lk_types.specs.declared.expr.Piece.TheVariants as piece
use Rattle.lk_sql_tree.specs.declared.node.Fold.{Fold}
use Rattle.lk_sql_tree.specs.declared.node.Fold.TheVariants as fold
use Rattle.lk_sql_tree.specs.declared.node.KeyFold.{KeyFold}
use Rattle.lk_sql_tree.specs.declared.node.KeyFold.TheVariants as key_fold
use Rattle.lk_sql_tree.specs.Trees.{Sql, Column, Literal, Framed, Not, And, Or, Compare, IsNull, In, Like, Number, Negate, Concat, Lower, Upper, Case, Coalesce, NullIf, CountRows, Folded, ByKey, Sqls, no_more, more, Branches, no_else, otherwise, when}

-- a byte, and a quote twice
abbrev pub doubled_byte : ℕ → ℕ → List ℕ
doubled_byte quote b = if b == quote then quote ∷ quote ∷ [] else b ∷ []

-- a text in which each quote stands twice
abbrev pub doubled : ℕ → List ℕ → List ℕ
doubled quote text = flat_map (doubled_byte quote) text

-- a text between two quotes
abbrev pub quoted : ℕ → List ℕ → List ℕ
quoted quote text = quote ∷ (doubled quote text ++ quote ∷ [])

-- a name stands in double quotes (SQL)
abbrev pub name_text : List ℕ → List ℕ
name_text name = quoted 34 name

-- the characters of a literal stand in single quotes (SQL)
abbrev pub quoted_text : List ℕ → List ℕ
quoted_text text = quoted 39 text

-- a byte that stands for itself in a pattern: `%`, `_` and `^` behind a `^` (lookd)
abbrev pub byte_text : ℕ → List ℕ
byte_text b = if b == 37 then 94 ∷ b ∷ [] else if b == 95 then 94 ∷ b ∷ [] else if b == 94 then 94 ∷ b ∷ [] else b ∷ []

-- `%` for any characters, `_` for one (SQL, LIKE)
abbrev pub piece_text : Piece → List ℕ
piece_text piece.Any = 37 ∷ []
piece_text piece.One = 95 ∷ []
piece_text (piece.Byte b) = byte_text b

abbrev pub pattern_text : List Piece → List ℕ
pattern_text pieces = flat_map piece_text pieces

-- a value as a literal: a number in its shortest form, a day and a moment behind their words (SQL)
abbrev pub literal_text : Value → List ℕ
literal_text value.Null = codes "NULL"
literal_text (value.Text text) = quoted_text text
literal_text (value.Num n) = number_text n.0
literal_text (value.Truth true) = codes "TRUE"
literal_text (value.Truth false) = codes "FALSE"
literal_text (value.Day d) = codes "DATE '" ++ value_text (value.Day d) ++ codes "'"
literal_text (value.Moment m) = codes "TIMESTAMP '" ++ value_text (value.Moment m) ++ codes "'"

abbrev pub comparison_text : Comparison → List ℕ
comparison_text comparison.Equal = codes " = "
comparison_text comparison.NotEqual = codes " <> "
comparison_text comparison.Less = codes " < "
comparison_text comparison.AtMost = codes " <= "
comparison_text comparison.Greater = codes " > "
comparison_text comparison.AtLeast = codes " >= "

abbrev pub arithmetic_text : Arithmetic → List ℕ
arithmetic_text arithmetic.Plus = codes " + "
arithmetic_text arithmetic.Minus = codes " - "
arithmetic_text arithmetic.Times = codes " * "
arithmetic_text arithmetic.Over = codes " / "

-- a timeframe by its name (Looker, LookML reference: timeframes)
abbrev pub frame_name : Frame → List ℕ
frame_name frame.Raw = codes "raw"
frame_name frame.Time = codes "time"
frame_name frame.Date = codes "date"
frame_name frame.Week = codes "week"
frame_name frame.Month = codes "month"
frame_name frame.Quarter = codes "quarter"
frame_name frame.Year = codes "year"
frame_name frame.HourOfDay = codes "hour_of_day"
frame_name frame.DayOfWeek = codes "day_of_week"
frame_name frame.DayOfMonth = codes "day_of_month"
frame_name frame.MonthNum = codes "month_num"

-- what stands before and behind the expression of an aggregate; a sum over no values is 0 (SQL; lookd)
abbrev pub fold_front : Fold → List ℕ
fold_front fold.Count = codes "COUNT("
fold_front fold.Distinct = codes "COUNT(DISTINCT "
fold_front fold.Sum = codes "COALESCE(SUM("
fold_front fold.Average = codes "AVG("
fold_front fold.Least = codes "MIN("
fold_front fold.Greatest = codes "MAX("

abbrev pub fold_back : Fold → List ℕ
fold_back fold.Sum = codes "), 0)"
fold_back f = codes ")"

-- the aggregates by key have names of their own (lookd)
abbrev pub key_front : KeyFold → List ℕ
key_front key_fold.SumByKey = codes "SUM_BY_KEY("
key_front key_fold.AverageByKey = codes "AVG_BY_KEY("

abbrev mutual
  -- an expression, and what comes behind it: each operator in brackets of its own, words in capitals (SQL; lookd)
  pub text_then : Sql → List ℕ → List ℕ
  text_then (Column part name) rest = name_text part ++ 46 ∷ (name_text name ++ rest)
  text_then (Literal v) rest = literal_text v ++ rest
  text_then (Framed f a) rest = codes "DATE_FRAME('" ++ (frame_name f ++ (codes "', " ++ text_then a (41 ∷ rest)))
  text_then (Not a) rest = codes "(NOT " ++ text_then a (41 ∷ rest)
  text_then (And a b) rest = 40 ∷ text_then a (codes " AND " ++ text_then b (41 ∷ rest))
  text_then (Or a b) rest = 40 ∷ text_then a (codes " OR " ++ text_then b (41 ∷ rest))
  text_then (Compare c a b) rest = 40 ∷ text_then a (comparison_text c ++ text_then b (41 ∷ rest))
  text_then (IsNull a) rest = 40 ∷ text_then a (codes " IS NULL)" ++ rest)
  text_then (In a b xs) rest = 40 ∷ text_then a (codes " IN (" ++ text_then b (list_then xs (codes "))" ++ rest)))
  text_then (Like a pieces) rest = 40 ∷ text_then a (codes " LIKE " ++ (quoted_text (pattern_text pieces) ++ 41 ∷ rest))
  text_then (Number o a b) rest = 40 ∷ text_then a (arithmetic_text o ++ text_then b (41 ∷ rest))
  text_then (Negate a) rest = codes "(- " ++ text_then a (41 ∷ rest)
  text_then (Concat a b) rest = 40 ∷ text_then a (codes " || " ++ text_then b (41 ∷ rest))
  text_then (Lower a) rest = codes "LOWER(" ++ text_then a (41 ∷ rest)
  text_then (Upper a) rest = codes "UPPER(" ++ text_then a (41 ∷ rest)
  text_then (Case c a bs) rest = codes "CASE WHEN " ++ text_then c (codes " THEN " ++ text_then a (branches_then bs rest))
  text_then (Coalesce a xs) rest = codes "COALESCE(" ++ text_then a (list_then xs (41 ∷ rest))
  text_then (NullIf a b) rest = codes "NULLIF(" ++ text_then a (codes ", " ++ text_then b (41 ∷ rest))
  text_then CountRows rest = codes "COUNT(*)" ++ rest
  text_then (Folded f a) rest = fold_front f ++ text_then a (fold_back f ++ rest)
  text_then (ByKey f k a) rest = key_front f ++ text_then k (codes ", " ++ text_then a (41 ∷ rest))

  -- further items, each behind a comma
  pub list_then : Sqls → List ℕ → List ℕ
  list_then no_more rest = rest
  list_then (more a xs) rest = codes ", " ++ text_then a (list_then xs rest)

  -- what follows the first branch of a CASE
  pub branches_then : Branches → List ℕ → List ℕ
  branches_then no_else rest = codes " END" ++ rest
  branches_then (otherwise e) rest = codes " ELSE " ++ text_then e (codes " END" ++ rest)
  branches_then (when c a bs) rest = codes " WHEN " ++ text_then c (codes " THEN " ++ text_then a (branches_then bs rest))
