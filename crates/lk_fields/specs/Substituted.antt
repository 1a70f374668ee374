-- An expression with others in place of its columns, and how many nodes an expression has. (lookd)
use Rattle.std.specs.Prelude.{ℕ, ◌+◌, ◌-◌, ◌^◌, List, min, slice_index_or}
use Rattle.lk_val.specs.declared.value.Value.TheVariants as value
use Rattle.lk_types.specs.Formula.{Formula, Column, Literal, Framed, Not, And, Or, Compare, IsNull, In, Between, Like, Number, Negate, Concat, Lower, Upper, Case, Coalesce, NullIf, Formulas, no_more, more, Cases, without_else, otherwise, when}

-- what stands for the column of a number: the expression at that place, and null past the end
abbrev pub replacement : List Formula → ℕ → Formula
replacement by column = slice_index_or by column (Literal value.Null)

abbrev mutual
  -- the expression with what stands for its number in place of each column, whatever the column's part
  pub substituted : (ℕ → Formula) → Formula → Formula
  substituted s (Column part column) = s column
  substituted s (Literal v) = Literal v
  substituted s (Framed f a) = Framed f (substituted s a)
  substituted s (Not a) = Not (substituted s a)
  substituted s (And a b) = And (substituted s a) (substituted s b)
  substituted s (Or a b) = Or (substituted s a) (substituted s b)
  substituted s (Compare c a b) = Compare c (substituted s a) (substituted s b)
  substituted s (IsNull a) = IsNull (substituted s a)
  substituted s (In a xs) = In (substituted s a) (substituted_all s xs)
  substituted s (Between a low high) = Between (substituted s a) (substituted s low) (substituted s high)
  substituted s (Like a pieces) = Like (substituted s a) pieces
  substituted s (Number op a b) = Number op (substituted s a) (substituted s b)
  substituted s (Negate a) = Negate (substituted s a)
  substituted s (Concat a b) = Concat (substituted s a) (substituted s b)
  substituted s (Lower a) = Lower (substituted s a)
  substituted s (Upper a) = Upper (substituted s a)
  substituted s (Case cases) = Case (substituted_cases s cases)
  substituted s (Coalesce xs) = Coalesce (substituted_all s xs)
  substituted s (NullIf a b) = NullIf (substituted s a) (substituted s b)

  pub substituted_all : (ℕ → Formula) → Formulas → Formulas
  substituted_all s no_more = no_more
  substituted_all s (more a xs) = more (substituted s a) (substituted_all s xs)

  pub substituted_cases : (ℕ → Formula) → Cases → Cases
  substituted_cases s without_else = without_else
  substituted_cases s (otherwise a) = otherwise (substituted s a)
  substituted_cases s (when c a rest) = when (substituted s c) (substituted s a) (substituted_cases s rest)

abbrev mutual
  -- one for each operator, function, CASE, literal, column and timeframe; the pattern of a LIKE is none
  pub nodes_in : Formula → ℕ
  nodes_in (Column part column) = 1
  nodes_in (Literal v) = 1
  nodes_in (Framed f a) = 1 + nodes_in a
  nodes_in (Not a) = 1 + nodes_in a
  nodes_in (And a b) = 1 + nodes_in a + nodes_in b
  nodes_in (Or a b) = 1 + nodes_in a + nodes_in b
  nodes_in (Compare c a b) = 1 + nodes_in a + nodes_in b
  nodes_in (IsNull a) = 1 + nodes_in a
  nodes_in (In a xs) = 1 + nodes_in a + nodes_in_all xs
  nodes_in (Between a low high) = 1 + nodes_in a + nodes_in low + nodes_in high
  nodes_in (Like a pieces) = 1 + nodes_in a
  nodes_in (Number op a b) = 1 + nodes_in a + nodes_in b
  nodes_in (Negate a) = 1 + nodes_in a
  nodes_in (Concat a b) = 1 + nodes_in a + nodes_in b
  nodes_in (Lower a) = 1 + nodes_in a
  nodes_in (Upper a) = 1 + nodes_in a
  nodes_in (Case cases) = 1 + nodes_in_cases cases
  nodes_in (Coalesce xs) = 1 + nodes_in_all xs
  nodes_in (NullIf a b) = 1 + nodes_in a + nodes_in b

  -- of all arguments
  pub nodes_in_all : Formulas → ℕ
  nodes_in_all no_more = 0
  nodes_in_all (more a xs) = nodes_in a + nodes_in_all xs

  -- of all conditions and values
  pub nodes_in_cases : Cases → ℕ
  nodes_in_cases without_else = 0
  nodes_in_cases (otherwise a) = nodes_in a
  nodes_in_cases (when c a rest) = nodes_in c + nodes_in a + nodes_in_cases rest

-- the number as it is told in 64 bits, where the greatest stands for so many and more
abbrev pub told_nodes : Formula → ℕ
told_nodes e = min (nodes_in e) (2 ^ 64 - 1)
