-- The condition of a filter over what is filtered.
use Rattle.std.specs.Prelude.{◌++◌, map, Option}
use Rattle.lk_types.specs.Formula.{Formula, Not, And, Or, IsNull}
use Rattle.lk_types.specs.declared.filter.Filter.{Filter}
use Rattle.lk_types.specs.declared.filter.Test.{Test}
use Rattle.lk_types.specs.declared.filter.Test.TheVariants as test
use Rattle.lk_types.specs.declared.schema.Kind.{Kind}
use Rattle.lk_plan.specs.Joining.{joined, listed}
use Rattle.lk_plan.specs.TestConditions.{test_condition}

-- a test is not met: null meets only `NULL` and `EMPTY`, and so passes an exclude of any other
abbrev pub exclude_condition : Kind → Formula → Test → Formula
exclude_condition k x test.Null = Not (test_condition k x test.Null)
exclude_condition k x test.Empty = Not (test_condition k x test.Empty)
exclude_condition k x t = Or (IsNull x) (Not (test_condition k x t))

-- the includes joined by OR, and the excludes by AND; a filter that passes all has no condition
abbrev pub filter_condition : Kind → Formula → Filter → Option Formula
filter_condition k x f =
    joined And (listed (joined Or (map (test_condition k x) f.include)) ++ listed (joined And (map (exclude_condition k x) f.exclude)))
