-- The kinds that an expression over the columns of a scope may have, of which some have no known kind. (lookd)
use Rattle.std.specs.Prelude.{ℕ}
use Rattle.lk_types.specs.Formula.{Formula}
use Rattle.lk_types.specs.Kinds.{kinds_of_column}
use Rattle.lk_types.specs.declared.kind_set.KindSet.{KindSet}
use Rattle.lk_dated.specs.FormulaKinds.{kinds_by}
use Rattle.lk_formulas.specs.declared.columns.ColumnKinds.{ColumnKinds}
use Rattle.lk_formulas.specs.Columns.{known_kind}

-- the kinds of a column: one that is known, and none where it is not
abbrev pub kinds_at : ColumnKinds → ℕ → ℕ → KindSet
kinds_at columns part column = kinds_of_column (known_kind columns part column)

abbrev pub kinds_in : ColumnKinds → Formula → KindSet
kinds_in columns e = kinds_by (kinds_at columns) e
