-- The text of an expression, node by node.
use Rattle.std.specs.Prelude.{ℕ, List, [], ◌∷◌, ◌++◌, flat_map, codes, drop, slice_index_or}
use Rattle.lk_sql_tree.specs.declared.node.SqlNode.{SqlNode}
use Rattle.lk_sql_tree.specs.declared.node.SqlNode.TheVariants as node
use Rattle.lk_sql_tree.specs.Trees.{Sql}
use Rattle.lk_sql_tree.specs.Texts.{text_then, name_text, quoted_text, pattern_text, literal_text, comparison_text, arithmetic_text, frame_name, fold_front, fold_back, key_front}

-- the text of an expression
abbrev pub text_of : Sql → List ℕ
text_of e = text_then e []

-- that of an operand by its place, and of null where there is none
abbrev pub operand_text : List (List ℕ) → ℕ → List ℕ
operand_text xs i = slice_index_or xs i (codes "NULL")

-- one operand, and two with a sign between them
abbrev pub around : List ℕ → List (List ℕ) → List ℕ → List ℕ
around front xs back = front ++ (operand_text xs 0 ++ back)

abbrev pub between : List ℕ → List ℕ → List (List ℕ) → List ℕ
between front sign xs = front ++ (operand_text xs 0 ++ (sign ++ (operand_text xs 1 ++ codes ")")))

-- further items, each behind a comma
abbrev pub listed : List (List ℕ) → List ℕ
listed xs = flat_map (λ x. codes ", " ++ x) xs

-- what follows the first branch of a CASE
abbrev pub branched : List (List ℕ) → List ℕ
branched [] = codes " END"
branched (e ∷ []) = codes " ELSE " ++ (e ++ codes " END")
branched (c ∷ a ∷ xs) = codes " WHEN " ++ (c ++ (codes " THEN " ++ (a ++ branched xs)))

abbrev pub in_text : List (List ℕ) → List ℕ
in_text xs = codes "(" ++ (operand_text xs 0 ++ (codes " IN (" ++ (operand_text xs 1 ++ (listed (drop 2 xs) ++ codes "))"))))

abbrev pub case_text : List (List ℕ) → List ℕ
case_text xs = codes "CASE WHEN " ++ (operand_text xs 0 ++ (codes " THEN " ++ (operand_text xs 1 ++ branched (drop 2 xs))))

abbrev pub coalesce_text : List (List ℕ) → List ℕ
coalesce_text xs = codes "COALESCE(" ++ (operand_text xs 0 ++ (listed (drop 1 xs) ++ codes ")"))

-- the text of a node, from those of its operands
abbrev pub text_made : SqlNode → List (List ℕ) → List ℕ
text_made (node.Column part name) xs = name_text part ++ (codes "." ++ name_text name)
text_made (node.Literal v) xs = literal_text v
text_made (node.Framed f) xs = around (codes "DATE_FRAME('" ++ (frame_name f ++ codes "', ")) xs (codes ")")
text_made node.Not xs = around (codes "(NOT ") xs (codes ")")
text_made node.And xs = between (codes "(") (codes " AND ") xs
text_made node.Or xs = between (codes "(") (codes " OR ") xs
text_made (node.Compare c) xs = between (codes "(") (comparison_text c) xs
text_made node.IsNull xs = around (codes "(") xs (codes " IS NULL)")
text_made (node.In count) xs = in_text xs
text_made (node.Like pieces) xs = around (codes "(") xs (codes " LIKE " ++ (quoted_text (pattern_text pieces) ++ codes ")"))
text_made (node.Number op) xs = between (codes "(") (arithmetic_text op) xs
text_made node.Negate xs = around (codes "(- ") xs (codes ")")
text_made node.Concat xs = between (codes "(") (codes " || ") xs
text_made node.Lower xs = around (codes "LOWER(") xs (codes ")")
text_made node.Upper xs = around (codes "UPPER(") xs (codes ")")
text_made (node.Case count) xs = case_text xs
text_made (node.Coalesce count) xs = coalesce_text xs
text_made node.NullIf xs = between (codes "NULLIF(") (codes ", ") xs
text_made node.CountRows xs = codes "COUNT(*)"
text_made (node.Folded f) xs = around (fold_front f) xs (fold_back f)
text_made (node.ByKey f) xs = between (key_front f) (codes ", ") xs
