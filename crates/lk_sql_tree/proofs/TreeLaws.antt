-- What is computed node by node is what the definitions say of the whole expression.
use Rattle.std.proofs.Common.{◌≡◌, ℕ, zero, suc, Bool, true, false, ◌&&◌, List, [], ◌∷◌, ◌++◌, map, refl, sym, ap, ◌∙◌}
use Rattle.std.specs.Prelude.{slice_index_or, drop, codes}
use Rattle.std.specs.Str.{is_utf8}
use Rattle.std.proofs.lemmas.List.{append-nil, append_assoc}
use Rattle.lk_postfix.specs.Postfix.{after_nodes}
use Rattle.lk_postfix.proofs.PostfixLaws.{after_nodes-map}
use Rattle.lk_sql_tree.specs.declared.node.SqlNode.{SqlNode}
use Rattle.lk_sql_tree.specs.declared.node.SqlNode.TheVariants as node
use Rattle.lk_sql_tree.specs.declared.standing.Standing.{Standing}
use Rattle.lk_sql_tree.specs.Trees.{Sql, Column, Literal, Framed, Not, And, Or, Compare, IsNull, In, Like, Number, Negate, Concat, Lower, Upper, Case, Coalesce, NullIf, CountRows, Folded, ByKey, Sqls, no_more, more, Branches, no_else, otherwise, when}
use Rattle.lk_sql_tree.specs.SqlNodes as nodes
use Rattle.lk_sql_tree.specs.Texts.{text_then, list_then, branches_then, name_text, quoted_text, pattern_text, literal_text, comparison_text, arithmetic_text, frame_name, fold_front, fold_back, key_front}
use Rattle.lk_sql_tree.specs.NodeTexts.{text_of, operand_text, around, between, listed, branched, text_made}
use Rattle.lk_sql_tree.specs.Forms.{over_rows, all_over_rows, are_over_rows, over_groups, all_over_groups}
use Rattle.lk_sql_tree.specs.Standings.{standing_of, standing_made, all_rows, all_groups, both, rows_if, groups_if, either_if}
use Rattle.lk_sql_tree.specs.Standings as standings

-- an item of a mapped list, and what stands for a missing one
map_at : {A B : Type 0} (f : A → B) (xs : List A) (i : ℕ) (d : A) → slice_index_or (map f xs) i (f d) ≡ f (slice_index_or xs i d)
map_at f [] i d = refl
map_at f (x ∷ xs) zero d = refl
map_at f (x ∷ xs) (suc i) d = map_at f xs i d

map_drop_one : {A B : Type 0} (f : A → B) (xs : List A) → drop 1 (map f xs) ≡ map f (drop 1 xs)
map_drop_one f [] = refl
map_drop_one f (x ∷ xs) = refl

map_drop_two : {A B : Type 0} (f : A → B) (xs : List A) → drop 2 (map f xs) ≡ map f (drop 2 xs)
map_drop_two f [] = refl
map_drop_two f (x ∷ []) = refl
map_drop_two f (x ∷ y ∷ xs) = refl

-- ---- what expressions stand over

s_at : (xs : List Sql) (i : ℕ) → standings.at (map standing_of xs) i ≡ standing_of (nodes.operand xs i)
s_at xs i = map_at standing_of xs i nodes.missing

rows_at : (xs : List Sql) (i : ℕ) → (standings.at (map standing_of xs) i).rows ≡ over_rows (nodes.operand xs i)
rows_at xs i = ap (λ (s : Standing). s.rows) (s_at xs i)

rows_all : (xs : List Sql) → all_rows (map standing_of xs) ≡ all_over_rows (nodes.sqls_of xs)
rows_all [] = refl
rows_all (x ∷ xs) = ap (λ b. over_rows x && b) (rows_all xs)

groups_all : (xs : List Sql) → all_groups (map standing_of xs) ≡ all_over_groups (nodes.sqls_of xs)
groups_all [] = refl
groups_all (x ∷ xs) = ap (λ b. over_groups x && b) (groups_all xs)

and_true : (b : Bool) → (b && true) ≡ b
and_true true = refl
and_true false = refl

rows_branches : (xs : List Sql) → all_rows (map standing_of xs) ≡ are_over_rows (nodes.branches_of xs)
rows_branches [] = refl
rows_branches (e ∷ []) = and_true (over_rows e)
rows_branches (c ∷ a ∷ xs) = ap (λ b. over_rows c && (over_rows a && b)) (rows_branches xs)

both_at : (xs : List Sql) → both (standings.at (map standing_of xs) 0) (standings.at (map standing_of xs) 1) ≡ both (standing_of (nodes.operand xs 0)) (standing_of (nodes.operand xs 1))
both_at xs = λ i. both (s_at xs 0 i) (s_at xs 1 i)

behind_rows : (xs : List Sql) → all_rows (drop 2 (map standing_of xs)) ≡ all_over_rows (nodes.sqls_of (drop 2 xs))
behind_rows xs = ap all_rows (map_drop_two standing_of xs) ∙ rows_all (drop 2 xs)

behind_branches : (xs : List Sql) → all_rows (drop 2 (map standing_of xs)) ≡ are_over_rows (nodes.branches_of (drop 2 xs))
behind_branches xs = ap all_rows (map_drop_two standing_of xs) ∙ rows_branches (drop 2 xs)

behind_one : (xs : List Sql) → all_rows (drop 1 (map standing_of xs)) ≡ all_over_rows (nodes.sqls_of (drop 1 xs))
behind_one xs = ap all_rows (map_drop_one standing_of xs) ∙ rows_all (drop 1 xs)

groups_behind : (xs : List Sql) → all_groups (drop 1 (map standing_of xs)) ≡ all_over_groups (nodes.sqls_of (drop 1 xs))
groups_behind xs = ap all_groups (map_drop_one standing_of xs) ∙ groups_all (drop 1 xs)

pub standing_does : (n : SqlNode) (xs : List Sql) → standing_made n (map standing_of xs) ≡ standing_of (nodes.made n xs)
standing_does (node.Column part name) xs = refl
standing_does (node.Literal v) xs = refl
standing_does (node.Framed f) xs = ap rows_if (rows_at xs 0)
standing_does node.Not xs = s_at xs 0
standing_does node.And xs = both_at xs
standing_does node.Or xs = both_at xs
standing_does (node.Compare c) xs = both_at xs
standing_does node.IsNull xs = s_at xs 0
standing_does (node.In count) xs = λ i. rows_if (rows_at xs 0 i && rows_at xs 1 i && behind_rows xs i)
standing_does (node.Like pieces) xs = ap (λ s. both s (either_if (is_utf8 (pattern_text pieces)))) (s_at xs 0)
standing_does (node.Number op) xs = both_at xs
standing_does node.Negate xs = s_at xs 0
standing_does node.Concat xs = λ i. rows_if (rows_at xs 0 i && rows_at xs 1 i)
standing_does node.Lower xs = ap rows_if (rows_at xs 0)
standing_does node.Upper xs = ap rows_if (rows_at xs 0)
standing_does (node.Case count) xs = λ i. rows_if (rows_at xs 0 i && rows_at xs 1 i && behind_branches xs i)
standing_does (node.Coalesce count) xs = λ i. both (s_at xs 0 i) (record { rows = behind_one xs i; groups = groups_behind xs i })
standing_does node.NullIf xs = both_at xs
standing_does node.CountRows xs = refl
standing_does (node.Folded f) xs = ap groups_if (rows_at xs 0)
standing_does (node.ByKey f) xs = λ i. groups_if (rows_at xs 0 i && rows_at xs 1 i)

-- the first of the standings that the nodes leave is that of their expression
pub standing-nodes : (ns : List SqlNode) → standings.at (after_nodes nodes.arity standing_made [] ns) 0 ≡ standing_of (nodes.sql_of ns)
standing-nodes ns = ap (λ ss. standings.at ss 0) (after_nodes-map nodes.arity nodes.made standing_made standing_of standing_does [] ns) ∙ s_at (after_nodes nodes.arity nodes.made [] ns) 0

-- ---- a text stands before what comes behind it

-- so it is with a text that is written with what comes behind it
pub record Stands (text : List ℕ → List ℕ) : Type 0 where
  pub is : (rest : List ℕ) → text rest ≡ text [] ++ rest

pub nothing : Stands (λ rest. rest)
nothing = record { is = λ rest. refl }

pub word : (front : List ℕ) {text : List ℕ → List ℕ} → Stands text → Stands (λ rest. front ++ text rest)
word front {text} h = record { is = λ rest. ap (λ ts. front ++ ts) (h.is rest) ∙ sym (append_assoc front (text []) rest) }

pub then : {first second : List ℕ → List ℕ} → Stands first → Stands second → Stands (λ rest. first (second rest))
then {first} {second} f g = record {
  is = λ rest.
      f.is (second rest)
      ∙ ap (λ ts. first [] ++ ts) (g.is rest)
      ∙ sym (append_assoc (first []) (second []) rest)
      ∙ ap (λ ts. ts ++ rest) (sym (f.is (second [])));
}

closed : Stands (λ rest. 41 ∷ rest)
closed = word (41 ∷ []) nothing

mutual
  pub stands : (e : Sql) → Stands (text_then e)
  stands (Column part name) = word (name_text part) (word (46 ∷ []) (word (name_text name) nothing))
  stands (Literal v) = word (literal_text v) nothing
  stands (Framed f a) = word (codes "DATE_FRAME('") (word (frame_name f) (word (codes "', ") (then (stands a) closed)))
  stands (Not a) = word (codes "(NOT ") (then (stands a) closed)
  stands (And a b) = word (40 ∷ []) (then (stands a) (word (codes " AND ") (then (stands b) closed)))
  stands (Or a b) = word (40 ∷ []) (then (stands a) (word (codes " OR ") (then (stands b) closed)))
  stands (Compare c a b) = word (40 ∷ []) (then (stands a) (word (comparison_text c) (then (stands b) closed)))
  stands (IsNull a) = word (40 ∷ []) (then (stands a) (word (codes " IS NULL)") nothing))
  stands (In a b xs) = word (40 ∷ []) (then (stands a) (word (codes " IN (") (then (stands b) (then (list_stands xs) (word (codes "))") nothing)))))
  stands (Like a pieces) = word (40 ∷ []) (then (stands a) (word (codes " LIKE ") (word (quoted_text (pattern_text pieces)) closed)))
  stands (Number o a b) = word (40 ∷ []) (then (stands a) (word (arithmetic_text o) (then (stands b) closed)))
  stands (Negate a) = word (codes "(- ") (then (stands a) closed)
  stands (Concat a b) = word (40 ∷ []) (then (stands a) (word (codes " || ") (then (stands b) closed)))
  stands (Lower a) = word (codes "LOWER(") (then (stands a) closed)
  stands (Upper a) = word (codes "UPPER(") (then (stands a) closed)
  stands (Case c a bs) = word (codes "CASE WHEN ") (then (stands c) (word (codes " THEN ") (then (stands a) (branches_stand bs))))
  stands (Coalesce a xs) = word (codes "COALESCE(") (then (stands a) (then (list_stands xs) closed))
  stands (NullIf a b) = word (codes "NULLIF(") (then (stands a) (word (codes ", ") (then (stands b) closed)))
  stands CountRows = word (codes "COUNT(*)") nothing
  stands (Folded f a) = word (fold_front f) (then (stands a) (word (fold_back f) nothing))
  stands (ByKey f k a) = word (key_front f) (then (stands k) (word (codes ", ") (then (stands a) closed)))

  list_stands : (xs : Sqls) → Stands (list_then xs)
  list_stands no_more = nothing
  list_stands (more a xs) = word (codes ", ") (then (stands a) (list_stands xs))

  branches_stand : (bs : Branches) → Stands (branches_then bs)
  branches_stand no_else = word (codes " END") nothing
  branches_stand (otherwise e) = word (codes " ELSE ") (then (stands e) (word (codes " END") nothing))
  branches_stand (when c a bs) = word (codes " WHEN ") (then (stands c) (word (codes " THEN ") (then (stands a) (branches_stand bs))))

-- ---- texts

texts : List Sql → List (List ℕ)
texts xs = map text_of xs

t_at : (xs : List Sql) (i : ℕ) → operand_text (map text_of xs) i ≡ text_of (nodes.operand xs i)
t_at xs i = map_at text_of xs i nodes.missing

around_is : (front : List ℕ) (a : Sql) (back : List ℕ) → front ++ (text_of a ++ back) ≡ front ++ text_then a back
around_is front a back = ap (λ ts. front ++ ts) (sym ((stands a).is back))

around_does : (front : List ℕ) (xs : List Sql) (back : List ℕ) → around front (map text_of xs) back ≡ front ++ text_then (nodes.operand xs 0) back
around_does front xs back = ap (λ ts. front ++ (ts ++ back)) (t_at xs 0) ∙ around_is front (nodes.operand xs 0) back

two_is : (a : Sql) (sign : List ℕ) (b : Sql) (back : List ℕ) → text_of a ++ (sign ++ (text_of b ++ back)) ≡ text_then a (sign ++ text_then b back)
two_is a sign b back = ap (λ ts. text_of a ++ ts) (around_is sign b back) ∙ sym ((stands a).is (sign ++ text_then b back))

between_does : (front sign : List ℕ) (xs : List Sql) → between front sign (map text_of xs) ≡ front ++ text_then (nodes.operand xs 0) (sign ++ text_then (nodes.operand xs 1) (41 ∷ []))
between_does front sign xs =
    (λ i. front ++ (t_at xs 0 i ++ (sign ++ (t_at xs 1 i ++ codes ")"))))
    ∙ ap (λ ts. front ++ ts) (two_is (nodes.operand xs 0) sign (nodes.operand xs 1) (41 ∷ []))

listed_does : (xs : List Sql) (rest : List ℕ) → listed (map text_of xs) ++ rest ≡ list_then (nodes.sqls_of xs) rest
listed_does [] rest = refl
listed_does (x ∷ xs) rest =
    append_assoc (codes ", " ++ text_of x) (listed (map text_of xs)) rest
    ∙ append_assoc (codes ", ") (text_of x) (listed (map text_of xs) ++ rest)
    ∙ ap (λ ts. codes ", " ++ (text_of x ++ ts)) (listed_does xs rest)
    ∙ around_is (codes ", ") x (list_then (nodes.sqls_of xs) rest)

branched_does : (xs : List Sql) → branched (map text_of xs) ≡ branches_then (nodes.branches_of xs) []
branched_does [] = refl
branched_does (e ∷ []) = around_is (codes " ELSE ") e (codes " END")
branched_does (c ∷ a ∷ xs) =
    ap (λ ts. codes " WHEN " ++ (text_of c ++ (codes " THEN " ++ (text_of a ++ ts)))) (branched_does xs)
    ∙ ap (λ ts. codes " WHEN " ++ ts) (two_is c (codes " THEN ") a (branches_then (nodes.branches_of xs) []))

in_does : (xs : List Sql) → listed (drop 2 (map text_of xs)) ++ codes "))" ≡ list_then (nodes.sqls_of (drop 2 xs)) (codes "))")
in_does xs = ap (λ ts. listed ts ++ codes "))") (map_drop_two text_of xs) ∙ listed_does (drop 2 xs) (codes "))")

coalesce_does : (xs : List Sql) → listed (drop 1 (map text_of xs)) ++ codes ")" ≡ list_then (nodes.sqls_of (drop 1 xs)) (codes ")")
coalesce_does xs = ap (λ ts. listed ts ++ codes ")") (map_drop_one text_of xs) ∙ listed_does (drop 1 xs) (codes ")")

case_does : (xs : List Sql) → branched (drop 2 (map text_of xs)) ≡ branches_then (nodes.branches_of (drop 2 xs)) []
case_does xs = ap branched (map_drop_two text_of xs) ∙ branched_does (drop 2 xs)

text_does : (n : SqlNode) (xs : List Sql) → text_made n (map text_of xs) ≡ text_of (nodes.made n xs)
text_does (node.Column part name) xs = ap (λ ts. name_text part ++ (codes "." ++ ts)) (sym (append-nil (name_text name)))
text_does (node.Literal v) xs = sym (append-nil (literal_text v))
text_does (node.Framed f) xs =
    around_does (codes "DATE_FRAME('" ++ (frame_name f ++ codes "', ")) xs (codes ")")
    ∙ ap (λ ts. codes "DATE_FRAME('" ++ ts) (append_assoc (frame_name f) (codes "', ") (text_then (nodes.operand xs 0) (41 ∷ [])))
text_does node.Not xs = around_does (codes "(NOT ") xs (codes ")")
text_does node.And xs = between_does (codes "(") (codes " AND ") xs
text_does node.Or xs = between_does (codes "(") (codes " OR ") xs
text_does (node.Compare c) xs = between_does (codes "(") (comparison_text c) xs
text_does node.IsNull xs = around_does (codes "(") xs (codes " IS NULL)")
text_does (node.In count) xs =
    (λ i. codes "(" ++ (t_at xs 0 i ++ (codes " IN (" ++ (t_at xs 1 i ++ in_does xs i))))
    ∙ ap (λ ts. codes "(" ++ ts) (two_is (nodes.operand xs 0) (codes " IN (") (nodes.operand xs 1) (list_then (nodes.sqls_of (drop 2 xs)) (codes "))")))
text_does (node.Like pieces) xs = around_does (codes "(") xs (codes " LIKE " ++ (quoted_text (pattern_text pieces) ++ codes ")"))
text_does (node.Number op) xs = between_does (codes "(") (arithmetic_text op) xs
text_does node.Negate xs = around_does (codes "(- ") xs (codes ")")
text_does node.Concat xs = between_does (codes "(") (codes " || ") xs
text_does node.Lower xs = around_does (codes "LOWER(") xs (codes ")")
text_does node.Upper xs = around_does (codes "UPPER(") xs (codes ")")
text_does (node.Case count) xs =
    (λ i. codes "CASE WHEN " ++ (t_at xs 0 i ++ (codes " THEN " ++ (t_at xs 1 i ++ case_does xs i))))
    ∙ ap (λ ts. codes "CASE WHEN " ++ ts) (two_is (nodes.operand xs 0) (codes " THEN ") (nodes.operand xs 1) (branches_then (nodes.branches_of (drop 2 xs)) []))
text_does (node.Coalesce count) xs =
    (λ i. codes "COALESCE(" ++ (t_at xs 0 i ++ coalesce_does xs i))
    ∙ around_is (codes "COALESCE(") (nodes.operand xs 0) (list_then (nodes.sqls_of (drop 1 xs)) (codes ")"))
text_does node.NullIf xs = between_does (codes "NULLIF(") (codes ", ") xs
text_does node.CountRows xs = refl
text_does (node.Folded f) xs = around_does (fold_front f) xs (fold_back f) ∙ ap (λ ts. fold_front f ++ text_then (nodes.operand xs 0) ts) (sym (append-nil (fold_back f)))
text_does (node.ByKey f) xs = between_does (key_front f) (codes ", ") xs

-- the first of the texts that the nodes leave is that of their expression
pub text-nodes : (ns : List SqlNode) → operand_text (after_nodes nodes.arity text_made [] ns) 0 ≡ text_of (nodes.sql_of ns)
text-nodes ns = ap (λ ts. operand_text ts 0) (after_nodes-map nodes.arity nodes.made text_made text_of text_does [] ns) ∙ t_at (after_nodes nodes.arity nodes.made [] ns) 0
