-- Joins that have a condition. (Looker, LookML reference: sql_on, foreign_key; lookd)
use Rattle.std.specs.Prelude.{Bool, true, false, is_none, is_some, not, ◌&&◌, ◌||◌}
use Rattle.lk_types.specs.declared.explore.Join.{Join}
use Rattle.lk_objects.specs.declared.code.Code.{Code}
use Rattle.lk_objects.specs.declared.code.Code.TheVariants as code
use Rattle.lk_objects.specs.declared.explore.DeclaredJoin.{DeclaredJoin}
use Rattle.lk_semantics.specs.Joins.{is_cross}

-- a join that is no cross and has no condition
abbrev pub is_free : Join → Bool
is_free join = not (is_cross join.kind) && is_none join.on

-- code that is an expression, whatever its calls
abbrev pub is_written : Code → Bool
is_written (code.Expr written) = true
is_written c = false

-- a cross, or a join that has an expression or a key as its condition
abbrev pub has_condition : DeclaredJoin → Bool
has_condition join = is_cross join.kind || is_written join.on || is_some join.foreign_key
