-- Printed SQL as trees: expressions over the columns of joined rows, and over aggregates of a group's rows.
use Rattle.std.specs.Prelude.{ℕ, List}
use Rattle.lk_val.specs.declared.value.Value.{Value}
use Rattle.lk_types.specs.declared.schema.Frame.{Frame}
use Rattle.lk_types.specs.declared.expr.Comparison.{Comparison}
use Rattle.lk_types.specs.declared.expr.Arithmetic.{Arithmetic}
use Rattle.lk_types.specs.declared.expr.Piece.{Piece}
use Rattle.lk_sql_tree.specs.declared.node.Fold.{Fold}
use Rattle.lk_sql_tree.specs.declared.node.KeyFold.{KeyFold}

-- an expression of SQL; what a list or a CASE cannot be without stands in its form, so that no tree lacks it (lookd)
mutual
  pub data Sql : Type 0 where
    -- a column of a part, both by name; a value; a timeframe
    Column : List ℕ → List ℕ → Sql
    Literal : Value → Sql
    Framed : Frame → Sql → Sql
    -- conditions; a list has its first item, and then the further ones
    Not : Sql → Sql
    And Or : Sql → Sql → Sql
    Compare : Comparison → Sql → Sql → Sql
    IsNull : Sql → Sql
    In : Sql → Sql → Sqls → Sql
    Like : Sql → List Piece → Sql
    -- numbers and texts
    Number : Arithmetic → Sql → Sql → Sql
    Negate : Sql → Sql
    Concat : Sql → Sql → Sql
    Lower Upper : Sql → Sql
    -- choices: the condition and the value of the first branch, and then what follows
    Case : Sql → Sql → Branches → Sql
    Coalesce : Sql → Sqls → Sql
    NullIf : Sql → Sql → Sql
    -- aggregates: of the rows, of an expression, and of an expression by a key
    CountRows : Sql
    Folded : Fold → Sql → Sql
    ByKey : KeyFold → Sql → Sql → Sql

  -- further items of a list
  pub data Sqls : Type 0 where
    no_more : Sqls
    more : Sql → Sqls → Sqls

  -- what follows the first branch of a CASE: nothing, ELSE with its value, or a further branch
  pub data Branches : Type 0 where
    no_else : Branches
    otherwise : Sql → Branches
    when : Sql → Sql → Branches → Branches
