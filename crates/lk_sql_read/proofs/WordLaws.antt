-- A word is read from its own text.
use Rattle.std.proofs.Common.{◌≡◌, ℕ, List, ◌++◌, codes, false, Some, refl, sym}
use Rattle.std.proofs.lemmas.Bool.{false≢true}
use Rattle.lk_types.specs.declared.expr.Comparison.TheVariants as comparison
use Rattle.lk_types.specs.declared.expr.Arithmetic.TheVariants as arithmetic
use Rattle.lk_types.specs.declared.schema.Frame.TheVariants as frame
use Rattle.lk_sql_tree.specs.declared.node.Fold.TheVariants as fold
use Rattle.lk_sql_tree.specs.declared.node.KeyFold.TheVariants as key_fold
use Rattle.lk_sql_read.specs.declared.word.Word.{Word}
use Rattle.lk_sql_read.specs.declared.word.Word.TheVariants as word
use Rattle.lk_sql_read.specs.Words.{begins, first_of, is_front, word_text, words}

pub reads : (w : Word) (rest : List ℕ) → is_front w ≡ false → first_of words (word_text w ++ rest) ≡ Some (w, rest)
reads word.Select rest other = refl
reads word.From rest other = refl
reads word.LeftJoin rest other = refl
reads word.FullJoin rest other = refl
reads word.InnerJoin rest other = refl
reads word.CrossJoin rest other = refl
reads word.Where rest other = refl
reads word.GroupBy rest other = refl
reads word.Having rest other = refl
reads word.OrderBy rest other = refl
reads word.Limit rest other = refl
reads word.LineEnd rest other = absurd (false≢true (sym other))
reads word.As rest other = refl
reads word.On rest other = refl
reads word.Ascending rest other = refl
reads word.Descending rest other = refl
reads word.Comma rest other = refl
reads word.Open rest other = refl
reads word.Close rest other = refl
reads word.Not rest other = refl
reads word.Minus rest other = refl
reads word.And rest other = refl
reads word.Or rest other = refl
reads word.IsNull rest other = refl
reads word.In rest other = refl
reads word.Like rest other = refl
reads word.Concat rest other = refl
reads word.Case rest other = refl
reads word.When rest other = refl
reads word.Then rest other = refl
reads word.Else rest other = refl
reads word.End rest other = refl
reads word.Lower rest other = refl
reads word.Upper rest other = refl
reads word.CountRows rest other = refl
reads (word.Compare comparison.Equal) rest other = refl
reads (word.Compare comparison.NotEqual) rest other = refl
reads (word.Compare comparison.Less) rest other = refl
reads (word.Compare comparison.AtMost) rest other = refl
reads (word.Compare comparison.Greater) rest other = refl
reads (word.Compare comparison.AtLeast) rest other = refl
reads (word.Number arithmetic.Plus) rest other = refl
reads (word.Number arithmetic.Minus) rest other = refl
reads (word.Number arithmetic.Times) rest other = refl
reads (word.Number arithmetic.Over) rest other = refl
reads (word.Framed frame.Raw) rest other = refl
reads (word.Framed frame.Time) rest other = refl
reads (word.Framed frame.Date) rest other = refl
reads (word.Framed frame.Week) rest other = refl
reads (word.Framed frame.Month) rest other = refl
reads (word.Framed frame.Quarter) rest other = refl
reads (word.Framed frame.Year) rest other = refl
reads (word.Framed frame.HourOfDay) rest other = refl
reads (word.Framed frame.DayOfWeek) rest other = refl
reads (word.Framed frame.DayOfMonth) rest other = refl
reads (word.Framed frame.MonthNum) rest other = refl
reads (word.Folded fold.Distinct) rest other = refl
reads (word.Folded fold.Count) rest other = absurd (false≢true (sym other))
reads (word.Folded fold.Sum) rest other = refl
reads (word.Folded fold.Average) rest other = refl
reads (word.Folded fold.Least) rest other = refl
reads (word.Folded fold.Greatest) rest other = refl
reads (word.ByKey key_fold.SumByKey) rest other = refl
reads (word.ByKey key_fold.AverageByKey) rest other = refl
reads word.Coalesce rest other = absurd (false≢true (sym other))
reads word.NullIf rest other = refl
reads word.Null rest other = absurd (false≢true (sym other))
reads word.True rest other = refl
reads word.False rest other = refl

pub reads_null : (rest : List ℕ) → begins (codes "IF(") rest ≡ false → first_of words (word_text word.Null ++ rest) ≡ Some (word.Null, rest)
reads_null rest other = rw other refl

pub reads_coalesce : (rest : List ℕ) → begins (codes "SUM(") rest ≡ false → first_of words (word_text word.Coalesce ++ rest) ≡ Some (word.Coalesce, rest)
reads_coalesce rest other = rw other refl

pub reads_count : (rest : List ℕ) → begins (codes "*)") rest ≡ false → begins (codes "DISTINCT ") rest ≡ false
    → first_of words (word_text (word.Folded fold.Count) ++ rest) ≡ Some (word.Folded fold.Count, rest)
reads_count rest other another = rw (other, another) refl
