-- Columns for examples: the first of each part is a day, the second a moment, and any other a text.
use Rattle.std.specs.Prelude.{ℕ, zero, suc, List}
use Rattle.lk_val.specs.declared.value.Value.TheVariants as value
use Rattle.lk_types.specs.Formula.{Formula, Column, Literal}
use Rattle.lk_types.specs.Kinds.{only}
use Rattle.lk_types.specs.declared.kind_set.KindSet.{KindSet}
use Rattle.lk_types.specs.declared.schema.Kind.TheVariants as kind
use Rattle.lk_dated.specs.Dated.{dated_by}
use Rattle.lk_dated.specs.FormulaKinds.{kinds_by}

abbrev pub sample_kinds : ℕ → ℕ → KindSet
sample_kinds part zero = only kind.Day
sample_kinds part (suc zero) = only kind.Moment
sample_kinds part column = only kind.Text

abbrev pub day_column : Formula
day_column = Column 0 0

abbrev pub moment_column : Formula
moment_column = Column 0 1

abbrev pub text_column : Formula
text_column = Column 0 2

abbrev pub text : List ℕ → Formula
text t = Literal (value.Text t)

-- an expression over them with its text literals read
abbrev pub read : Formula → Formula
read e = dated_by (kinds_by sample_kinds) (λ part column. Column part column) e
