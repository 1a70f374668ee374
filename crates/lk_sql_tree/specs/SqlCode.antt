-- How the logic stores the tree of a `SqlExpr`.
use Rattle.std.proofs.Common.{◌≡◌, ℕ, List, [], refl, sym, ap, ◌∙◌}
use Rattle.std.specs.Coded.{Coded, coded_ℕ, coded_list}
use base.Stored.{Gv, gnil, gnum, gcons}
use Rattle.lk_val.specs.contracts.value.Value as value
use Rattle.lk_types.specs.contracts.schema.Frame as frame
use Rattle.lk_types.specs.contracts.expr.Comparison as comparison
use Rattle.lk_types.specs.contracts.expr.Arithmetic as arithmetic
use Rattle.lk_types.specs.contracts.expr.Piece as piece
use Rattle.lk_sql_tree.specs.contracts.node.Fold as fold
use Rattle.lk_sql_tree.specs.contracts.node.KeyFold as key_fold
use Rattle.lk_val.specs.declared.value.Value.{Value}
use Rattle.lk_val.specs.declared.value.Value.TheVariants as values
use Rattle.lk_types.specs.declared.schema.Frame.{Frame}
use Rattle.lk_types.specs.declared.schema.Frame.TheVariants as frames
use Rattle.lk_types.specs.declared.expr.Comparison.{Comparison}
use Rattle.lk_types.specs.declared.expr.Comparison.TheVariants as comparisons
use Rattle.lk_types.specs.declared.expr.Arithmetic.{Arithmetic}
use Rattle.lk_types.specs.declared.expr.Arithmetic.TheVariants as arithmetics
use Rattle.lk_types.specs.declared.expr.Piece.{Piece}
use Rattle.lk_sql_tree.specs.declared.node.Fold.{Fold}
use Rattle.lk_sql_tree.specs.declared.node.Fold.TheVariants as folds
use Rattle.lk_sql_tree.specs.declared.node.KeyFold.{KeyFold}
use Rattle.lk_sql_tree.specs.declared.node.KeyFold.TheVariants as key_folds
use Rattle.lk_sql_tree.specs.Trees.{Sql, Column, Literal, Framed, Not, And, Or, Compare, IsNull, In, Like, Number, Negate, Concat, Lower, Upper, Case, Coalesce, NullIf, CountRows, Folded, ByKey, Sqls, no_more, more, Branches, no_else, otherwise, when}

abbrev head : Gv → Gv
head gnil = gnil
head (gnum n) = gnil
head (gcons a b) = a

abbrev tail : Gv → Gv
tail gnil = gnil
tail (gnum n) = gnil
tail (gcons a b) = b

abbrev pub text_code : Coded (List ℕ)
text_code = coded_list coded_ℕ

abbrev pub pattern_code : Coded (List Piece)
pattern_code = coded_list piece.the_row.coded

abbrev mutual
  pub sql_code : Sql → Gv
  sql_code (Column a0 a1) = gcons gnil (gcons (text_code.code a0) (gcons (text_code.code a1) gnil))
  sql_code (Literal a0) = gcons (gcons gnil gnil) (gcons (value.the_row.coded.code a0) gnil)
  sql_code (Framed a0 a1) = gcons (gcons gnil (gcons gnil gnil)) (gcons (frame.the_row.coded.code a0) (gcons (sql_code a1) gnil))
  sql_code (Not a0) = gcons (gcons gnil (gcons gnil (gcons gnil gnil))) (gcons (sql_code a0) gnil)
  sql_code (And a0 a1) = gcons (gcons gnil (gcons gnil (gcons gnil (gcons gnil gnil)))) (gcons (sql_code a0) (gcons (sql_code a1) gnil))
  sql_code (Or a0 a1) = gcons (gcons gnil (gcons gnil (gcons gnil (gcons gnil (gcons gnil gnil))))) (gcons (sql_code a0) (gcons (sql_code a1) gnil))
  sql_code (Compare a0 a1 a2) = gcons (gcons gnil (gcons gnil (gcons gnil (gcons gnil (gcons gnil (gcons gnil gnil)))))) (gcons (comparison.the_row.coded.code a0) (gcons (sql_code a1) (gcons (sql_code a2) gnil)))
  sql_code (IsNull a0) = gcons (gcons gnil (gcons gnil (gcons gnil (gcons gnil (gcons gnil (gcons gnil (gcons gnil gnil))))))) (gcons (sql_code a0) gnil)
  sql_code (In a0 a1 a2) = gcons (gcons gnil (gcons gnil (gcons gnil (gcons gnil (gcons gnil (gcons gnil (gcons gnil (gcons gnil gnil)))))))) (gcons (sql_code a0) (gcons (sql_code a1) (gcons (sqls_code a2) gnil)))
  sql_code (Like a0 a1) = gcons (gcons gnil (gcons gnil (gcons gnil (gcons gnil (gcons gnil (gcons gnil (gcons gnil (gcons gnil (gcons gnil gnil))))))))) (gcons (sql_code a0) (gcons (pattern_code.code a1) gnil))
  sql_code (Number a0 a1 a2) = gcons (gcons gnil (gcons gnil (gcons gnil (gcons gnil (gcons gnil (gcons gnil (gcons gnil (gcons gnil (gcons gnil (gcons gnil gnil)))))))))) (gcons (arithmetic.the_row.coded.code a0) (gcons (sql_code a1) (gcons (sql_code a2) gnil)))
  sql_code (Negate a0) = gcons (gcons gnil (gcons gnil (gcons gnil (gcons gnil (gcons gnil (gcons gnil (gcons gnil (gcons gnil (gcons gnil (gcons gnil (gcons gnil gnil))))))))))) (gcons (sql_code a0) gnil)
  sql_code (Concat a0 a1) = gcons (gcons gnil (gcons gnil (gcons gnil (gcons gnil (gcons gnil (gcons gnil (gcons gnil (gcons gnil (gcons gnil (gcons gnil (gcons gnil (gcons gnil gnil)))))))))))) (gcons (sql_code a0) (gcons (sql_code a1) gnil))
  sql_code (Lower a0) = gcons (gcons gnil (gcons gnil (gcons gnil (gcons gnil (gcons gnil (gcons gnil (gcons gnil (gcons gnil (gcons gnil (gcons gnil (gcons gnil (gcons gnil (gcons gnil gnil))))))))))))) (gcons (sql_code a0) gnil)
  sql_code (Upper a0) = gcons (gcons gnil (gcons gnil (gcons gnil (gcons gnil (gcons gnil (gcons gnil (gcons gnil (gcons gnil (gcons gnil (gcons gnil (gcons gnil (gcons gnil (gcons gnil (gcons gnil gnil)))))))))))))) (gcons (sql_code a0) gnil)
  sql_code (Case a0 a1 a2) = gcons (gcons gnil (gcons gnil (gcons gnil (gcons gnil (gcons gnil (gcons gnil (gcons gnil (gcons gnil (gcons gnil (gcons gnil (gcons gnil (gcons gnil (gcons gnil (gcons gnil (gcons gnil gnil))))))))))))))) (gcons (sql_code a0) (gcons (sql_code a1) (gcons (branches_code a2) gnil)))
  sql_code (Coalesce a0 a1) = gcons (gcons gnil (gcons gnil (gcons gnil (gcons gnil (gcons gnil (gcons gnil (gcons gnil (gcons gnil (gcons gnil (gcons gnil (gcons gnil (gcons gnil (gcons gnil (gcons gnil (gcons gnil (gcons gnil gnil)))))))))))))))) (gcons (sql_code a0) (gcons (sqls_code a1) gnil))
  sql_code (NullIf a0 a1) = gcons (gcons gnil (gcons gnil (gcons gnil (gcons gnil (gcons gnil (gcons gnil (gcons gnil (gcons gnil (gcons gnil (gcons gnil (gcons gnil (gcons gnil (gcons gnil (gcons gnil (gcons gnil (gcons gnil (gcons gnil gnil))))))))))))))))) (gcons (sql_code a0) (gcons (sql_code a1) gnil))
  sql_code CountRows = gcons (gcons gnil (gcons gnil (gcons gnil (gcons gnil (gcons gnil (gcons gnil (gcons gnil (gcons gnil (gcons gnil (gcons gnil (gcons gnil (gcons gnil (gcons gnil (gcons gnil (gcons gnil (gcons gnil (gcons gnil (gcons gnil gnil)))))))))))))))))) gnil
  sql_code (Folded a0 a1) = gcons (gcons gnil (gcons gnil (gcons gnil (gcons gnil (gcons gnil (gcons gnil (gcons gnil (gcons gnil (gcons gnil (gcons gnil (gcons gnil (gcons gnil (gcons gnil (gcons gnil (gcons gnil (gcons gnil (gcons gnil (gcons gnil (gcons gnil gnil))))))))))))))))))) (gcons (fold.the_row.coded.code a0) (gcons (sql_code a1) gnil))
  sql_code (ByKey a0 a1 a2) = gcons (gcons gnil (gcons gnil (gcons gnil (gcons gnil (gcons gnil (gcons gnil (gcons gnil (gcons gnil (gcons gnil (gcons gnil (gcons gnil (gcons gnil (gcons gnil (gcons gnil (gcons gnil (gcons gnil (gcons gnil (gcons gnil (gcons gnil (gcons gnil gnil)))))))))))))))))))) (gcons (key_fold.the_row.coded.code a0) (gcons (sql_code a1) (gcons (sql_code a2) gnil)))

  pub sqls_code : Sqls → Gv
  sqls_code no_more = gcons gnil gnil
  sqls_code (more a0 a1) = gcons (gcons gnil gnil) (gcons (sql_code a0) (gcons (sqls_code a1) gnil))

  pub branches_code : Branches → Gv
  branches_code no_else = gcons gnil gnil
  branches_code (otherwise a0) = gcons (gcons gnil gnil) (gcons (sql_code a0) gnil)
  branches_code (when a0 a1 a2) = gcons (gcons gnil (gcons gnil gnil)) (gcons (sql_code a0) (gcons (sql_code a1) (gcons (branches_code a2) gnil)))

-- ---- that the code is one to one: an expression is made of its tag and its arguments

-- the arguments of an expression, and any others in place of those that it has not
record Arguments : Type 0 where
  part : List ℕ
  name : List ℕ
  value : Value
  frame : Frame
  comparison : Comparison
  arithmetic : Arithmetic
  pattern : List Piece
  aggregate : Fold
  by_key : KeyFold
  first : Sql
  second : Sql
  further : Sqls
  branches : Branches

abbrev no_arguments : Arguments
no_arguments = record { part = []; name = []; value = values.Null; frame = frames.Raw; comparison = comparisons.Equal; arithmetic = arithmetics.Plus; pattern = []; aggregate = folds.Count; by_key = key_folds.SumByKey; first = CountRows; second = CountRows; further = no_more; branches = no_else }

abbrev arguments : Sql → Arguments
arguments (Column a0 a1) = record no_arguments { part = a0; name = a1 }
arguments (Literal a0) = record no_arguments { value = a0 }
arguments (Framed a0 a1) = record no_arguments { frame = a0; first = a1 }
arguments (Not a0) = record no_arguments { first = a0 }
arguments (And a0 a1) = record no_arguments { first = a0; second = a1 }
arguments (Or a0 a1) = record no_arguments { first = a0; second = a1 }
arguments (Compare a0 a1 a2) = record no_arguments { comparison = a0; first = a1; second = a2 }
arguments (IsNull a0) = record no_arguments { first = a0 }
arguments (In a0 a1 a2) = record no_arguments { first = a0; second = a1; further = a2 }
arguments (Like a0 a1) = record no_arguments { first = a0; pattern = a1 }
arguments (Number a0 a1 a2) = record no_arguments { arithmetic = a0; first = a1; second = a2 }
arguments (Negate a0) = record no_arguments { first = a0 }
arguments (Concat a0 a1) = record no_arguments { first = a0; second = a1 }
arguments (Lower a0) = record no_arguments { first = a0 }
arguments (Upper a0) = record no_arguments { first = a0 }
arguments (Case a0 a1 a2) = record no_arguments { first = a0; second = a1; branches = a2 }
arguments (Coalesce a0 a1) = record no_arguments { first = a0; further = a1 }
arguments (NullIf a0 a1) = record no_arguments { first = a0; second = a1 }
arguments CountRows = no_arguments
arguments (Folded a0 a1) = record no_arguments { aggregate = a0; first = a1 }
arguments (ByKey a0 a1 a2) = record no_arguments { by_key = a0; first = a1; second = a2 }

abbrev made : Gv → Arguments → Sql
made gnil a = Column a.part a.name
made (gcons h1 gnil) a = Literal a.value
made (gcons h1 (gcons h2 gnil)) a = Framed a.frame a.first
made (gcons h1 (gcons h2 (gcons h3 gnil))) a = Not a.first
made (gcons h1 (gcons h2 (gcons h3 (gcons h4 gnil)))) a = And a.first a.second
made (gcons h1 (gcons h2 (gcons h3 (gcons h4 (gcons h5 gnil))))) a = Or a.first a.second
made (gcons h1 (gcons h2 (gcons h3 (gcons h4 (gcons h5 (gcons h6 gnil)))))) a = Compare a.comparison a.first a.second
made (gcons h1 (gcons h2 (gcons h3 (gcons h4 (gcons h5 (gcons h6 (gcons h7 gnil))))))) a = IsNull a.first
made (gcons h1 (gcons h2 (gcons h3 (gcons h4 (gcons h5 (gcons h6 (gcons h7 (gcons h8 gnil)))))))) a = In a.first a.second a.further
made (gcons h1 (gcons h2 (gcons h3 (gcons h4 (gcons h5 (gcons h6 (gcons h7 (gcons h8 (gcons h9 gnil))))))))) a = Like a.first a.pattern
made (gcons h1 (gcons h2 (gcons h3 (gcons h4 (gcons h5 (gcons h6 (gcons h7 (gcons h8 (gcons h9 (gcons h10 gnil)))))))))) a = Number a.arithmetic a.first a.second
made (gcons h1 (gcons h2 (gcons h3 (gcons h4 (gcons h5 (gcons h6 (gcons h7 (gcons h8 (gcons h9 (gcons h10 (gcons h11 gnil))))))))))) a = Negate a.first
made (gcons h1 (gcons h2 (gcons h3 (gcons h4 (gcons h5 (gcons h6 (gcons h7 (gcons h8 (gcons h9 (gcons h10 (gcons h11 (gcons h12 gnil)))))))))))) a = Concat a.first a.second
made (gcons h1 (gcons h2 (gcons h3 (gcons h4 (gcons h5 (gcons h6 (gcons h7 (gcons h8 (gcons h9 (gcons h10 (gcons h11 (gcons h12 (gcons h13 gnil))))))))))))) a = Lower a.first
made (gcons h1 (gcons h2 (gcons h3 (gcons h4 (gcons h5 (gcons h6 (gcons h7 (gcons h8 (gcons h9 (gcons h10 (gcons h11 (gcons h12 (gcons h13 (gcons h14 gnil)))))))))))))) a = Upper a.first
made (gcons h1 (gcons h2 (gcons h3 (gcons h4 (gcons h5 (gcons h6 (gcons h7 (gcons h8 (gcons h9 (gcons h10 (gcons h11 (gcons h12 (gcons h13 (gcons h14 (gcons h15 gnil))))))))))))))) a = Case a.first a.second a.branches
made (gcons h1 (gcons h2 (gcons h3 (gcons h4 (gcons h5 (gcons h6 (gcons h7 (gcons h8 (gcons h9 (gcons h10 (gcons h11 (gcons h12 (gcons h13 (gcons h14 (gcons h15 (gcons h16 gnil)))))))))))))))) a = Coalesce a.first a.further
made (gcons h1 (gcons h2 (gcons h3 (gcons h4 (gcons h5 (gcons h6 (gcons h7 (gcons h8 (gcons h9 (gcons h10 (gcons h11 (gcons h12 (gcons h13 (gcons h14 (gcons h15 (gcons h16 (gcons h17 gnil))))))))))))))))) a = NullIf a.first a.second
made (gcons h1 (gcons h2 (gcons h3 (gcons h4 (gcons h5 (gcons h6 (gcons h7 (gcons h8 (gcons h9 (gcons h10 (gcons h11 (gcons h12 (gcons h13 (gcons h14 (gcons h15 (gcons h16 (gcons h17 (gcons h18 gnil)))))))))))))))))) a = CountRows
made (gcons h1 (gcons h2 (gcons h3 (gcons h4 (gcons h5 (gcons h6 (gcons h7 (gcons h8 (gcons h9 (gcons h10 (gcons h11 (gcons h12 (gcons h13 (gcons h14 (gcons h15 (gcons h16 (gcons h17 (gcons h18 (gcons h19 gnil))))))))))))))))))) a = Folded a.aggregate a.first
made (gcons h1 (gcons h2 (gcons h3 (gcons h4 (gcons h5 (gcons h6 (gcons h7 (gcons h8 (gcons h9 (gcons h10 (gcons h11 (gcons h12 (gcons h13 (gcons h14 (gcons h15 (gcons h16 (gcons h17 (gcons h18 (gcons h19 (gcons h20 gnil)))))))))))))))))))) a = ByKey a.by_key a.first a.second
made g a = CountRows

made_of_code : (x : Sql) → made (head (sql_code x)) (arguments x) ≡ x
made_of_code (Column a0 a1) = refl
made_of_code (Literal a0) = refl
made_of_code (Framed a0 a1) = refl
made_of_code (Not a0) = refl
made_of_code (And a0 a1) = refl
made_of_code (Or a0 a1) = refl
made_of_code (Compare a0 a1 a2) = refl
made_of_code (IsNull a0) = refl
made_of_code (In a0 a1 a2) = refl
made_of_code (Like a0 a1) = refl
made_of_code (Number a0 a1 a2) = refl
made_of_code (Negate a0) = refl
made_of_code (Concat a0 a1) = refl
made_of_code (Lower a0) = refl
made_of_code (Upper a0) = refl
made_of_code (Case a0 a1 a2) = refl
made_of_code (Coalesce a0 a1) = refl
made_of_code (NullIf a0 a1) = refl
made_of_code CountRows = refl
made_of_code (Folded a0 a1) = refl
made_of_code (ByKey a0 a1 a2) = refl

-- an expression with the code of another: it is made of the other's tag
alike : (x y : Sql) → sql_code x ≡ sql_code y → made (head (sql_code x)) (arguments y) ≡ y
alike x y p = ap (λ g. made (head g) (arguments y)) p ∙ made_of_code y

code_alike : (x y : Sql) → sql_code x ≡ sql_code y → sql_code x ≡ sql_code (made (head (sql_code x)) (arguments y))
code_alike x y p = p ∙ ap sql_code (sym (alike x y p))

mutual
  pub sql_inj : (x y : Sql) → sql_code x ≡ sql_code y → x ≡ y
  sql_inj (Column a0 a1) y p = let q = code_alike (Column a0 a1) y p in (λ i. Column (text_code.inj a0 (arguments y).part (ap (λ g. head (tail g)) q) i) (text_code.inj a1 (arguments y).name (ap (λ g. head (tail (tail g))) q) i)) ∙ alike (Column a0 a1) y p
  sql_inj (Literal a0) y p = let q = code_alike (Literal a0) y p in (λ i. Literal (value.the_row.coded.inj a0 (arguments y).value (ap (λ g. head (tail g)) q) i)) ∙ alike (Literal a0) y p
  sql_inj (Framed a0 a1) y p = let q = code_alike (Framed a0 a1) y p in (λ i. Framed (frame.the_row.coded.inj a0 (arguments y).frame (ap (λ g. head (tail g)) q) i) (sql_inj a1 (arguments y).first (ap (λ g. head (tail (tail g))) q) i)) ∙ alike (Framed a0 a1) y p
  sql_inj (Not a0) y p = let q = code_alike (Not a0) y p in (λ i. Not (sql_inj a0 (arguments y).first (ap (λ g. head (tail g)) q) i)) ∙ alike (Not a0) y p
  sql_inj (And a0 a1) y p = let q = code_alike (And a0 a1) y p in (λ i. And (sql_inj a0 (arguments y).first (ap (λ g. head (tail g)) q) i) (sql_inj a1 (arguments y).second (ap (λ g. head (tail (tail g))) q) i)) ∙ alike (And a0 a1) y p
  sql_inj (Or a0 a1) y p = let q = code_alike (Or a0 a1) y p in (λ i. Or (sql_inj a0 (arguments y).first (ap (λ g. head (tail g)) q) i) (sql_inj a1 (arguments y).second (ap (λ g. head (tail (tail g))) q) i)) ∙ alike (Or a0 a1) y p
  sql_inj (Compare a0 a1 a2) y p = let q = code_alike (Compare a0 a1 a2) y p in (λ i. Compare (comparison.the_row.coded.inj a0 (arguments y).comparison (ap (λ g. head (tail g)) q) i) (sql_inj a1 (arguments y).first (ap (λ g. head (tail (tail g))) q) i) (sql_inj a2 (arguments y).second (ap (λ g. head (tail (tail (tail g)))) q) i)) ∙ alike (Compare a0 a1 a2) y p
  sql_inj (IsNull a0) y p = let q = code_alike (IsNull a0) y p in (λ i. IsNull (sql_inj a0 (arguments y).first (ap (λ g. head (tail g)) q) i)) ∙ alike (IsNull a0) y p
  sql_inj (In a0 a1 a2) y p = let q = code_alike (In a0 a1 a2) y p in (λ i. In (sql_inj a0 (arguments y).first (ap (λ g. head (tail g)) q) i) (sql_inj a1 (arguments y).second (ap (λ g. head (tail (tail g))) q) i) (sqls_inj a2 (arguments y).further (ap (λ g. head (tail (tail (tail g)))) q) i)) ∙ alike (In a0 a1 a2) y p
  sql_inj (Like a0 a1) y p = let q = code_alike (Like a0 a1) y p in (λ i. Like (sql_inj a0 (arguments y).first (ap (λ g. head (tail g)) q) i) (pattern_code.inj a1 (arguments y).pattern (ap (λ g. head (tail (tail g))) q) i)) ∙ alike (Like a0 a1) y p
  sql_inj (Number a0 a1 a2) y p = let q = code_alike (Number a0 a1 a2) y p in (λ i. Number (arithmetic.the_row.coded.inj a0 (arguments y).arithmetic (ap (λ g. head (tail g)) q) i) (sql_inj a1 (arguments y).first (ap (λ g. head (tail (tail g))) q) i) (sql_inj a2 (arguments y).second (ap (λ g. head (tail (tail (tail g)))) q) i)) ∙ alike (Number a0 a1 a2) y p
  sql_inj (Negate a0) y p = let q = code_alike (Negate a0) y p in (λ i. Negate (sql_inj a0 (arguments y).first (ap (λ g. head (tail g)) q) i)) ∙ alike (Negate a0) y p
  sql_inj (Concat a0 a1) y p = let q = code_alike (Concat a0 a1) y p in (λ i. Concat (sql_inj a0 (arguments y).first (ap (λ g. head (tail g)) q) i) (sql_inj a1 (arguments y).second (ap (λ g. head (tail (tail g))) q) i)) ∙ alike (Concat a0 a1) y p
  sql_inj (Lower a0) y p = let q = code_alike (Lower a0) y p in (λ i. Lower (sql_inj a0 (arguments y).first (ap (λ g. head (tail g)) q) i)) ∙ alike (Lower a0) y p
  sql_inj (Upper a0) y p = let q = code_alike (Upper a0) y p in (λ i. Upper (sql_inj a0 (arguments y).first (ap (λ g. head (tail g)) q) i)) ∙ alike (Upper a0) y p
  sql_inj (Case a0 a1 a2) y p = let q = code_alike (Case a0 a1 a2) y p in (λ i. Case (sql_inj a0 (arguments y).first (ap (λ g. head (tail g)) q) i) (sql_inj a1 (arguments y).second (ap (λ g. head (tail (tail g))) q) i) (branches_inj a2 (arguments y).branches (ap (λ g. head (tail (tail (tail g)))) q) i)) ∙ alike (Case a0 a1 a2) y p
  sql_inj (Coalesce a0 a1) y p = let q = code_alike (Coalesce a0 a1) y p in (λ i. Coalesce (sql_inj a0 (arguments y).first (ap (λ g. head (tail g)) q) i) (sqls_inj a1 (arguments y).further (ap (λ g. head (tail (tail g))) q) i)) ∙ alike (Coalesce a0 a1) y p
  sql_inj (NullIf a0 a1) y p = let q = code_alike (NullIf a0 a1) y p in (λ i. NullIf (sql_inj a0 (arguments y).first (ap (λ g. head (tail g)) q) i) (sql_inj a1 (arguments y).second (ap (λ g. head (tail (tail g))) q) i)) ∙ alike (NullIf a0 a1) y p
  sql_inj CountRows y p = alike CountRows y p
  sql_inj (Folded a0 a1) y p = let q = code_alike (Folded a0 a1) y p in (λ i. Folded (fold.the_row.coded.inj a0 (arguments y).aggregate (ap (λ g. head (tail g)) q) i) (sql_inj a1 (arguments y).first (ap (λ g. head (tail (tail g))) q) i)) ∙ alike (Folded a0 a1) y p
  sql_inj (ByKey a0 a1 a2) y p = let q = code_alike (ByKey a0 a1 a2) y p in (λ i. ByKey (key_fold.the_row.coded.inj a0 (arguments y).by_key (ap (λ g. head (tail g)) q) i) (sql_inj a1 (arguments y).first (ap (λ g. head (tail (tail g))) q) i) (sql_inj a2 (arguments y).second (ap (λ g. head (tail (tail (tail g)))) q) i)) ∙ alike (ByKey a0 a1 a2) y p

  pub sqls_inj : (x y : Sqls) → sqls_code x ≡ sqls_code y → x ≡ y
  sqls_inj no_more no_more p = refl
  sqls_inj (more a0 a1) (more b0 b1) p = λ i. more (sql_inj a0 b0 (ap (λ g. head (tail g)) p) i) (sqls_inj a1 b1 (ap (λ g. head (tail (tail g))) p) i)
  sqls_inj x y p = cc

  pub branches_inj : (x y : Branches) → branches_code x ≡ branches_code y → x ≡ y
  branches_inj no_else no_else p = refl
  branches_inj (otherwise a0) (otherwise b0) p = λ i. otherwise (sql_inj a0 b0 (ap (λ g. head (tail g)) p) i)
  branches_inj (when a0 a1 a2) (when b0 b1 b2) p = λ i. when (sql_inj a0 b0 (ap (λ g. head (tail g)) p) i) (sql_inj a1 b1 (ap (λ g. head (tail (tail g))) p) i) (branches_inj a2 b2 (ap (λ g. head (tail (tail (tail g)))) p) i)
  branches_inj x y p = cc

abbrev pub coded_sql : Coded Sql
coded_sql = record { code = sql_code; inj = sql_inj }
