-- Which expressions are printed: no aggregate stands in another, and each column stands in an aggregate or each one in none.
use Rattle.std.specs.Prelude.{◌^◌, Bool, true, false, ◌&&◌, pos, neg_ℤ, int_le, int_lt}
use Rattle.std.specs.Str.{is_utf8}
use Rattle.lk_val.specs.Years.{is_day_in_years, is_moment_in_years}
use Rattle.lk_val.specs.declared.value.Value.{Value}
use Rattle.lk_val.specs.declared.value.Value.TheVariants as value
use Rattle.lk_sql_tree.specs.Texts.{pattern_text}
use Rattle.lk_sql_tree.specs.Trees.{Sql, Column, Literal, Framed, Not, And, Or, Compare, IsNull, In, Like, Number, Negate, Concat, Lower, Upper, Case, Coalesce, NullIf, CountRows, Folded, ByKey, Sqls, no_more, more, Branches, no_else, otherwise, when}

-- a value that a literal may have: a text in UTF-8, a number of 64 bits, a day or moment of the years 1 to 9999
abbrev pub is_literal : Value → Bool
is_literal value.Null = true
is_literal (value.Text text) = is_utf8 text
is_literal (value.Num n) = int_le (neg_ℤ (pos (2 ^ 63))) n.0 && int_lt n.0 (pos (2 ^ 63))
is_literal (value.Truth b) = true
is_literal (value.Day d) = is_day_in_years d
is_literal (value.Moment m) = is_moment_in_years m

abbrev mutual
  -- an expression over the columns of a row: no aggregate stands in it
  pub over_rows : Sql → Bool
  over_rows (Column part name) = is_utf8 part && is_utf8 name
  over_rows (Literal v) = is_literal v
  over_rows (Framed f a) = over_rows a
  over_rows (Not a) = over_rows a
  over_rows (And a b) = over_rows a && over_rows b
  over_rows (Or a b) = over_rows a && over_rows b
  over_rows (Compare c a b) = over_rows a && over_rows b
  over_rows (IsNull a) = over_rows a
  over_rows (In a b xs) = over_rows a && over_rows b && all_over_rows xs
  over_rows (Like a pieces) = over_rows a && is_utf8 (pattern_text pieces)
  over_rows (Number o a b) = over_rows a && over_rows b
  over_rows (Negate a) = over_rows a
  over_rows (Concat a b) = over_rows a && over_rows b
  over_rows (Lower a) = over_rows a
  over_rows (Upper a) = over_rows a
  over_rows (Case c a bs) = over_rows c && over_rows a && are_over_rows bs
  over_rows (Coalesce a xs) = over_rows a && all_over_rows xs
  over_rows (NullIf a b) = over_rows a && over_rows b
  over_rows CountRows = false
  over_rows (Folded f a) = false
  over_rows (ByKey f k a) = false

  pub all_over_rows : Sqls → Bool
  all_over_rows no_more = true
  all_over_rows (more a xs) = over_rows a && all_over_rows xs

  pub are_over_rows : Branches → Bool
  are_over_rows no_else = true
  are_over_rows (otherwise e) = over_rows e
  are_over_rows (when c a bs) = over_rows c && (over_rows a && are_over_rows bs)

abbrev mutual
  -- an expression over aggregates: what a `number` or a filter on a measure prints; each column stands in an aggregate
  pub over_groups : Sql → Bool
  over_groups (Literal v) = is_literal v
  over_groups CountRows = true
  over_groups (Folded f a) = over_rows a
  over_groups (ByKey f k a) = over_rows k && over_rows a
  over_groups (Not a) = over_groups a
  over_groups (And a b) = over_groups a && over_groups b
  over_groups (Or a b) = over_groups a && over_groups b
  over_groups (Compare c a b) = over_groups a && over_groups b
  over_groups (IsNull a) = over_groups a
  over_groups (Like a pieces) = over_groups a && is_utf8 (pattern_text pieces)
  over_groups (Number o a b) = over_groups a && over_groups b
  over_groups (Negate a) = over_groups a
  over_groups (Coalesce a xs) = over_groups a && all_over_groups xs
  over_groups (NullIf a b) = over_groups a && over_groups b
  over_groups (Column part name) = false
  over_groups (Framed f a) = false
  over_groups (In a b xs) = false
  over_groups (Concat a b) = false
  over_groups (Lower a) = false
  over_groups (Upper a) = false
  over_groups (Case c a bs) = false

  pub all_over_groups : Sqls → Bool
  all_over_groups no_more = true
  all_over_groups (more a xs) = over_groups a && all_over_groups xs
