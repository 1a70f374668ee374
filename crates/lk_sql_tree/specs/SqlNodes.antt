-- Which expression a list of nodes is: each node stands behind its operands.
use Rattle.std.specs.Prelude.{ℕ, nat_le, Bool, true, List, [], ◌∷◌, drop, slice_index_or}
use Rattle.std.specs.List.{list_all}
use Rattle.lk_val.specs.declared.value.Value.TheVariants as value
use Rattle.lk_sql_tree.specs.declared.node.SqlNode.{SqlNode}
use Rattle.lk_sql_tree.specs.declared.node.SqlNode.TheVariants as node
use Rattle.lk_sql_tree.specs.Trees.{Sql, Column, Literal, Framed, Not, And, Or, Compare, IsNull, In, Like, Number, Negate, Concat, Lower, Upper, Case, Coalesce, NullIf, CountRows, Folded, ByKey, Sqls, no_more, more, Branches, no_else, otherwise, when}
use Rattle.lk_postfix.specs.Postfix.{after_nodes}

-- how many operands a node takes
abbrev pub arity : SqlNode → ℕ
arity (node.Column part name) = 0
arity (node.Literal v) = 0
arity (node.Framed f) = 1
arity node.Not = 1
arity node.And = 2
arity node.Or = 2
arity (node.Compare c) = 2
arity node.IsNull = 1
arity (node.In count) = count
arity (node.Like pieces) = 1
arity (node.Number op) = 2
arity node.Negate = 1
arity node.Concat = 2
arity node.Lower = 1
arity node.Upper = 1
arity (node.Case count) = count
arity (node.Coalesce count) = count
arity node.NullIf = 2
arity node.CountRows = 0
arity (node.Folded f) = 1
arity (node.ByKey f) = 2

-- a list has an item, a call an argument, and a CASE a branch
abbrev pub has_list : SqlNode → Bool
has_list (node.In count) = nat_le 2 count
has_list (node.Case count) = nat_le 2 count
has_list (node.Coalesce count) = nat_le 1 count
has_list n = true

-- so it is with each of some nodes
abbrev pub has_lists : List SqlNode → Bool
has_lists nodes = list_all has_list nodes

-- what stands for an operand that is not there
abbrev pub missing : Sql
missing = Literal value.Null

-- an operand by its place
abbrev pub operand : List Sql → ℕ → Sql
operand operands i = slice_index_or operands i missing

-- expressions as further items
abbrev pub sqls_of : List Sql → Sqls
sqls_of [] = no_more
sqls_of (a ∷ operands) = more a (sqls_of operands)

-- a condition and a value for each further branch, and then the value of ELSE, if there is one
abbrev pub branches_of : List Sql → Branches
branches_of [] = no_else
branches_of (a ∷ []) = otherwise a
branches_of (c ∷ a ∷ operands) = when c a (branches_of operands)

-- the expression of a node and its operands
abbrev pub made : SqlNode → List Sql → Sql
made (node.Column part name) xs = Column part name
made (node.Literal v) xs = Literal v
made (node.Framed f) xs = Framed f (operand xs 0)
made node.Not xs = Not (operand xs 0)
made node.And xs = And (operand xs 0) (operand xs 1)
made node.Or xs = Or (operand xs 0) (operand xs 1)
made (node.Compare c) xs = Compare c (operand xs 0) (operand xs 1)
made node.IsNull xs = IsNull (operand xs 0)
made (node.In count) xs = In (operand xs 0) (operand xs 1) (sqls_of (drop 2 xs))
made (node.Like pieces) xs = Like (operand xs 0) pieces
made (node.Number op) xs = Number op (operand xs 0) (operand xs 1)
made node.Negate xs = Negate (operand xs 0)
made node.Concat xs = Concat (operand xs 0) (operand xs 1)
made node.Lower xs = Lower (operand xs 0)
made node.Upper xs = Upper (operand xs 0)
made (node.Case count) xs = Case (operand xs 0) (operand xs 1) (branches_of (drop 2 xs))
made (node.Coalesce count) xs = Coalesce (operand xs 0) (sqls_of (drop 1 xs))
made node.NullIf xs = NullIf (operand xs 0) (operand xs 1)
made node.CountRows xs = CountRows
made (node.Folded f) xs = Folded f (operand xs 0)
made (node.ByKey f) xs = ByKey f (operand xs 0) (operand xs 1)

-- the expression of a list of nodes
abbrev pub sql_of : List SqlNode → Sql
sql_of nodes = operand (after_nodes arity made [] nodes) 0
