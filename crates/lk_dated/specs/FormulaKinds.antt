-- The kinds that an expression may have, given those of its columns, of which some may have any kind or none. (lookd)
use Rattle.std.specs.Prelude.{ℕ, Bool, true, not, ◌&&◌}
use Rattle.lk_types.specs.Formula.{Formula, Column, Literal, Framed, Not, And, Or, Compare, IsNull, In, Between, Like, Number, Negate, Concat, Lower, Upper, Case, Coalesce, NullIf, Formulas, no_more, more, Cases, without_else, otherwise, when}
use Rattle.lk_types.specs.Kinds.{every_kind, shared, kinds_if, comparable, do_compare, is_empty, kinds_of_value, kinds_framed, truth_if, number_if, text_if}
use Rattle.lk_types.specs.declared.kind_set.KindSet.{KindSet}

abbrev mutual
  -- the kinds that an expression may have, given those of each column; none where kinds clash in it
  pub kinds_by : (ℕ → ℕ → KindSet) → Formula → KindSet
  kinds_by leaf (Column part column) = leaf part column
  kinds_by leaf (Literal v) = kinds_of_value v
  kinds_by leaf (Framed f a) = kinds_framed f (kinds_by leaf a)
  kinds_by leaf (Not a) = truth_if (kinds_by leaf a).truth
  kinds_by leaf (And a b) = truth_if ((kinds_by leaf a).truth && (kinds_by leaf b).truth)
  kinds_by leaf (Or a b) = truth_if ((kinds_by leaf a).truth && (kinds_by leaf b).truth)
  kinds_by leaf (Compare c a b) = truth_if (do_compare (kinds_by leaf a) (kinds_by leaf b))
  kinds_by leaf (IsNull a) = truth_if (not (is_empty (kinds_by leaf a)))
  kinds_by leaf (In a xs) = truth_if (not (is_empty (kinds_by leaf a)) && do_all_compare_by leaf (kinds_by leaf a) xs)
  kinds_by leaf (Between a low high) = truth_if (do_compare (kinds_by leaf a) (kinds_by leaf low) && do_compare (kinds_by leaf a) (kinds_by leaf high))
  kinds_by leaf (Like a pieces) = truth_if (kinds_by leaf a).text
  kinds_by leaf (Number op a b) = number_if ((kinds_by leaf a).number && (kinds_by leaf b).number)
  kinds_by leaf (Negate a) = number_if (kinds_by leaf a).number
  kinds_by leaf (Concat a b) = text_if ((kinds_by leaf a).text && (kinds_by leaf b).text)
  kinds_by leaf (Lower a) = text_if (kinds_by leaf a).text
  kinds_by leaf (Upper a) = text_if (kinds_by leaf a).text
  kinds_by leaf (Case cases) = kinds_of_cases_by leaf cases
  kinds_by leaf (Coalesce xs) = kinds_of_all_by leaf xs
  kinds_by leaf (NullIf a b) = shared (kinds_by leaf a) (comparable (kinds_by leaf b))

  -- each expression compares with one of the kinds
  pub do_all_compare_by : (ℕ → ℕ → KindSet) → KindSet → Formulas → Bool
  do_all_compare_by leaf s no_more = true
  do_all_compare_by leaf s (more a xs) = do_compare s (kinds_by leaf a) && do_all_compare_by leaf s xs

  -- the kinds that all the expressions may have
  pub kinds_of_all_by : (ℕ → ℕ → KindSet) → Formulas → KindSet
  kinds_of_all_by leaf no_more = every_kind
  kinds_of_all_by leaf (more a xs) = shared (kinds_by leaf a) (kinds_of_all_by leaf xs)

  -- the kinds that all the branches may have, where the conditions may be truth values
  pub kinds_of_cases_by : (ℕ → ℕ → KindSet) → Cases → KindSet
  kinds_of_cases_by leaf without_else = every_kind
  kinds_of_cases_by leaf (otherwise a) = kinds_by leaf a
  kinds_of_cases_by leaf (when c a rest) = kinds_if (kinds_by leaf c).truth (shared (kinds_by leaf a) (kinds_of_cases_by leaf rest))
