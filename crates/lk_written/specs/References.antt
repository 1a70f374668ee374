-- The names in an expression, from the left. (Looker, LookML reference: sql; lookd)
use Rattle.std.specs.Prelude.{ℕ, List, [], ◌∷◌, ◌++◌, length}
use Rattle.lk_expr_tree.specs.Grammar.{Tree, Number, Text, Name, Column, Field, FieldOf, Truth, Null, Group, Call, Case, CaseElse, Negate, Chain, Compare, IsNull, In, Between, Like, Not, Args, one, more, Branches, when, then_when}
use Rattle.lk_objects.specs.declared.code.Reference.{Reference}
use Rattle.lk_objects.specs.declared.code.Reference.TheVariants as reference

abbrev mutual
  pub references_of : Tree → List Reference
  references_of (Number text) = []
  references_of (Text text) = []
  references_of (Column name) = reference.Column name ∷ []
  references_of (Name name place) = reference.Column name ∷ []
  references_of (Field name) = reference.Own name ∷ []
  references_of (FieldOf view name) = reference.Of view name ∷ []
  references_of (Truth b) = []
  references_of Null = []
  references_of (Group a) = references_of a
  references_of (Call name place args) = references_in args
  references_of (Case branches) = references_among branches
  references_of (CaseElse branches a) = references_among branches ++ references_of a
  references_of (Negate a) = references_of a
  references_of (Chain j a b) = references_of a ++ references_of b
  references_of (Compare c a b) = references_of a ++ references_of b
  references_of (IsNull negated a) = references_of a
  references_of (In negated a args) = references_of a ++ references_in args
  references_of (Between negated a low high) = references_of a ++ (references_of low ++ references_of high)
  references_of (Like negated a pattern) = references_of a
  references_of (Not a) = references_of a

  pub references_in : Args → List Reference
  references_in (one a) = references_of a
  references_in (more args a) = references_in args ++ references_of a

  pub references_among : Branches → List Reference
  references_among (when c a) = references_of c ++ references_of a
  references_among (then_when branches c a) = references_among branches ++ (references_of c ++ references_of a)

-- how many they are
abbrev pub count : Tree → ℕ
count a = length (references_of a)

abbrev pub count_in : Args → ℕ
count_in args = length (references_in args)

abbrev pub count_among : Branches → ℕ
count_among branches = length (references_among branches)
