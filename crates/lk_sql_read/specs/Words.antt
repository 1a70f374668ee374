-- The tokens of printed SQL whose text is always the same, each written with its spaces and line feeds.
use Rattle.std.specs.Prelude.{ℕ, Bool, true, false, nat_eq, if◌then◌else◌, List, [], ◌∷◌, ◌++◌, codes, length, take, drop, Option, Some, None}
use Rattle.std.specs.Cmp.Lexicographic.{pointwise}
use Rattle.lk_types.specs.declared.expr.Comparison.TheVariants as comparison
use Rattle.lk_types.specs.declared.expr.Arithmetic.TheVariants as arithmetic
use Rattle.lk_types.specs.declared.schema.Frame.TheVariants as frame
use Rattle.lk_sql_tree.specs.declared.node.Fold.TheVariants as fold
use Rattle.lk_sql_tree.specs.declared.node.KeyFold.TheVariants as key_fold
use Rattle.lk_sql_tree.specs.Texts.{arithmetic_text, comparison_text, fold_front, frame_name, key_front}
use Rattle.lk_sql_read.specs.declared.word.Word.{Word}
use Rattle.lk_sql_read.specs.declared.word.Word.TheVariants as word

abbrev pub word_text : Word → List ℕ
word_text word.Select = codes "SELECT "
word_text word.From = codes "\nFROM "
word_text word.LeftJoin = codes "\nLEFT JOIN "
word_text word.FullJoin = codes "\nFULL JOIN "
word_text word.InnerJoin = codes "\nINNER JOIN "
word_text word.CrossJoin = codes "\nCROSS JOIN "
word_text word.Where = codes "\nWHERE "
word_text word.GroupBy = codes "\nGROUP BY "
word_text word.Having = codes "\nHAVING "
word_text word.OrderBy = codes "\nORDER BY "
word_text word.Limit = codes "\nLIMIT "
word_text word.LineEnd = codes "\n"
word_text word.As = codes " AS "
word_text word.On = codes " ON "
word_text word.Ascending = codes " ASC NULLS FIRST"
word_text word.Descending = codes " DESC NULLS LAST"
word_text word.Comma = codes ", "
word_text word.Open = codes "("
word_text word.Close = codes ")"
word_text word.Not = codes "NOT "
word_text word.Minus = codes "- "
word_text word.And = codes " AND "
word_text word.Or = codes " OR "
word_text word.IsNull = codes " IS NULL"
word_text word.In = codes " IN ("
word_text word.Like = codes " LIKE "
word_text word.Concat = codes " || "
word_text word.Case = codes "CASE WHEN "
word_text word.When = codes " WHEN "
word_text word.Then = codes " THEN "
word_text word.Else = codes " ELSE "
word_text word.End = codes " END"
word_text word.Lower = codes "LOWER("
word_text word.Upper = codes "UPPER("
word_text word.CountRows = codes "COUNT(*)"
word_text word.Coalesce = codes "COALESCE("
word_text word.NullIf = codes "NULLIF("
word_text word.Null = codes "NULL"
word_text word.True = codes "TRUE"
word_text word.False = codes "FALSE"
word_text (word.Compare c) = comparison_text c
word_text (word.Number op) = arithmetic_text op
word_text (word.Framed f) = codes "DATE_FRAME('" ++ (frame_name f ++ codes "', ")
word_text (word.Folded f) = fold_front f
word_text (word.ByKey f) = key_front f

-- a word with which another begins
abbrev pub is_front : Word → Bool
is_front word.LineEnd = true
is_front word.Coalesce = true
is_front word.Null = true
is_front (word.Folded fold.Count) = true
is_front w = false

-- all words, each before the words with which it begins
abbrev pub words : List Word
words =
    word.Select ∷ word.From ∷ word.LeftJoin ∷ word.FullJoin ∷ word.InnerJoin ∷ word.CrossJoin ∷ word.Where ∷
    word.GroupBy ∷ word.Having ∷ word.OrderBy ∷ word.Limit ∷ word.LineEnd ∷ word.As ∷ word.On ∷ word.Ascending ∷
    word.Descending ∷ word.Comma ∷ word.Open ∷ word.Close ∷ word.Not ∷ word.Minus ∷ word.And ∷ word.Or ∷
    word.IsNull ∷ word.In ∷ word.Like ∷ word.Concat ∷ word.Case ∷ word.When ∷ word.Then ∷ word.Else ∷ word.End ∷
    word.Lower ∷ word.Upper ∷ word.CountRows ∷ (word.Compare comparison.Equal) ∷
    (word.Compare comparison.NotEqual) ∷ (word.Compare comparison.Less) ∷ (word.Compare comparison.AtMost) ∷
    (word.Compare comparison.Greater) ∷ (word.Compare comparison.AtLeast) ∷ (word.Number arithmetic.Plus) ∷
    (word.Number arithmetic.Minus) ∷ (word.Number arithmetic.Times) ∷ (word.Number arithmetic.Over) ∷
    (word.Framed frame.Raw) ∷ (word.Framed frame.Time) ∷ (word.Framed frame.Date) ∷ (word.Framed frame.Week) ∷
    (word.Framed frame.Month) ∷ (word.Framed frame.Quarter) ∷ (word.Framed frame.Year) ∷
    (word.Framed frame.HourOfDay) ∷ (word.Framed frame.DayOfWeek) ∷ (word.Framed frame.DayOfMonth) ∷
    (word.Framed frame.MonthNum) ∷ (word.Folded fold.Distinct) ∷ (word.Folded fold.Count) ∷
    (word.Folded fold.Sum) ∷ (word.Folded fold.Average) ∷ (word.Folded fold.Least) ∷
    (word.Folded fold.Greatest) ∷ (word.ByKey key_fold.SumByKey) ∷ (word.ByKey key_fold.AverageByKey) ∷
    word.Coalesce ∷ word.NullIf ∷ word.Null ∷ word.True ∷ word.False ∷ []

-- a text begins with some bytes
abbrev pub begins : List ℕ → List ℕ → Bool
begins front text = pointwise nat_eq (take (length front) text) front

-- what is behind some bytes, where a text begins with them
abbrev pub behind : List ℕ → List ℕ → Option (List ℕ)
behind front text = if begins front text then Some (drop (length front) text) else None

abbrev pub or_next : Word → Option (List ℕ) → Option (Word × List ℕ) → Option (Word × List ℕ)
or_next w None others = others
or_next w (Some rest) others = Some (w, rest)

-- the first of some words with which a text begins, and what is behind it
abbrev pub first_of : List Word → List ℕ → Option (Word × List ℕ)
first_of [] text = None
first_of (w ∷ ws) text = or_next w (behind (word_text w) text) (first_of ws text)
