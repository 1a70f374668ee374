-- What is found node by node is what is found in the whole expression.
use Rattle.std.proofs.Common.{◌≡◌, ℕ, zero, suc, ◌+◌, Some, Bool, true, false, ◌&&◌, ◌||◌, List, [], ◌∷◌, ◌++◌, map, refl, sym, ap, ◌∙◌}
use Rattle.std.specs.Prelude.{Option, drop, nat_le}
use Rattle.std.specs.List.{list_all, list_any}
use Rattle.std.proofs.lemmas.List.Folds.{list_all-append, list_any-append}
use Rattle.lk_postfix.specs.Postfix.{after_nodes}
use Rattle.lk_postfix.proofs.PostfixLaws.{after_nodes-map}
use Rattle.lk_types.specs.Formula.{Formula, Column, And, Compare}
use Rattle.lk_types.specs.FormulaNodes as nodes
use Rattle.lk_types.specs.Expressions.{conjuncts, mentions, mentions_all, mentions_cases}
use Rattle.lk_types.specs.declared.expr.Comparison.{Comparison}
use Rattle.lk_types.specs.declared.expr.Comparison.TheVariants as comparison
use Rattle.lk_types.specs.declared.expr.Node.{Node}
use Rattle.lk_types.specs.declared.expr.Node.TheVariants as node
use Rattle.lk_types.specs.declared.explore.Explore.{Explore}
use Rattle.lk_semantics.specs.Joins.{numbers_below}
use Rattle.lk_semantics.specs.Rollups.{conjuncts_of, is_enforced_key, is_key_equation}
use Rattle.lk_route.specs.Roles.{both, does_find, is_one_of, operand, over, role_made, role_of}
use Rattle.lk_route.specs.declared.role.Role.{Role}
use Rattle.lk_route.proofs.NumberLaws.{is_at_most}

or_none : (a : Bool) → (a || false) ≡ a
or_none true = refl
or_none false = refl

and_all : (a : Bool) → (a && true) ≡ a
and_all true = refl
and_all false = refl

and_assoc : (a b c : Bool) → ((a && b) && c) ≡ (a && (b && c))
and_assoc true b c = refl
and_assoc false b c = refl

all_map : {A B : Type 0} (f : A → B) (test : B → Bool) (xs : List A) → list_all test (map f xs) ≡ list_all (λ x. test (f x)) xs
all_map f test [] = refl
all_map f test (x ∷ xs) = ap (λ b. test (f x) && b) (all_map f test xs)

module _ (x : Explore) (others : List ℕ) (w : ℕ) where
  abbrev role : Formula → Role
  role = role_of x others w

  abbrev test : ℕ → Bool
  test = is_one_of others

  -- what an expression mentions is one of the other views
  abbrev within : Formula → Bool
  within e = list_all test (mentions e)

  all_within : (ts : List Formula) → list_all test (mentions_all (nodes.formulas_of ts)) ≡ list_all within ts
  all_within [] = refl
  all_within (a ∷ ts) = list_all-append test (mentions a) (mentions_all (nodes.formulas_of ts)) ∙ ap (λ b. within a && b) (all_within ts)

  cases_within : (ts : List Formula) → list_all test (mentions_cases (nodes.cases_of ts)) ≡ list_all within ts
  cases_within [] = refl
  cases_within (a ∷ []) = sym (and_all (within a))
  cases_within (c ∷ a ∷ ts) =
      list_all-append test (mentions c ++ mentions a) (mentions_cases (nodes.cases_of ts))
      ∙ ap (λ b. b && list_all test (mentions_cases (nodes.cases_of ts))) (list_all-append test (mentions c) (mentions a))
      ∙ and_assoc (within c) (within a) (list_all test (mentions_cases (nodes.cases_of ts)))
      ∙ ap (λ b. within c && (within a && b)) (cases_within ts)

  list_within : (ts : List Formula) → list_all test (mentions (nodes.operand ts 0) ++ mentions_all (nodes.formulas_of (drop 1 ts))) ≡ list_all within ts
  list_within [] = refl
  list_within (a ∷ ts) = list_all-append test (mentions a) (mentions_all (nodes.formulas_of ts)) ∙ ap (λ b. within a && b) (all_within ts)

  two_within : (a b : Formula) → (within a && within b) ≡ list_all test (mentions a ++ mentions b)
  two_within a b = sym (list_all-append test (mentions a) (mentions b))

  three_within : (a b c : Formula) → ((within a && within b) && within c) ≡ list_all test (mentions a ++ mentions b ++ mentions c)
  three_within a b c = ap (λ t. t && within c) (two_within a b) ∙ sym (list_all-append test (mentions a ++ mentions b) (mentions c))

  -- ---- roles

  abbrev equates : Formula → Bool
  equates e = is_key_equation x test w e

  at : (xs : List Formula) (i : ℕ) → operand (map role xs) i ≡ role (nodes.operand xs i)
  at [] i = refl
  at (y ∷ ys) zero = refl
  at (y ∷ ys) (suc i) = at ys i

  together : (a b : Formula) (found : Bool) → record (both (role a) (role b)) { finds = found } ≡ record { is_key = false; is_within = list_all test (mentions a ++ mentions b); finds = found }
  together a b found = λ i. record { is_key = false; is_within = two_within a b i; finds = found }

  two : (xs : List Formula) → both (operand (map role xs) 0) (operand (map role xs) 1)
      ≡ record { is_key = false; is_within = list_all test (mentions (nodes.operand xs 0) ++ mentions (nodes.operand xs 1)); finds = false }
  two xs = (λ i. both (at xs 0 i) (at xs 1 i)) ∙ together (nodes.operand xs 0) (nodes.operand xs 1) false

  three : (a b c : Formula) → both (both (role a) (role b)) (role c)
      ≡ record { is_key = false; is_within = list_all test (mentions a ++ mentions b ++ mentions c); finds = false }
  three a b c = λ i. record { is_key = false; is_within = three_within a b c i; finds = false }

  finds_and : (a b : Formula) → (list_any equates (conjuncts a) || list_any equates (conjuncts b)) ≡ list_any equates (conjuncts (And a b))
  finds_and a b = sym (list_any-append equates (conjuncts a) (conjuncts b))

  finds_equal : (c : Comparison) (a b : Formula) → does_find c (role a) (role b) ≡ list_any equates (conjuncts (Compare c a b))
  finds_equal comparison.Equal a b = sym (or_none (equates (Compare comparison.Equal a b)))
  finds_equal comparison.NotEqual a b = refl
  finds_equal comparison.Less a b = refl
  finds_equal comparison.AtMost a b = refl
  finds_equal comparison.Greater a b = refl
  finds_equal comparison.AtLeast a b = refl

  does : (n : Node) (xs : List Formula) → role_made x others w n (map role xs) ≡ role (nodes.made n xs)
  does (node.Column part column) xs = λ i. record {
    is_key = is_enforced_key x w (Column part column);
    is_within = sym (and_all (test part)) i;
    finds = false;
  }
  does (node.Literal v) xs = refl
  does (node.Framed f) xs = ap over (at xs 0)
  does node.Not xs = ap over (at xs 0)
  does node.And xs =
      (λ i. record (both (at xs 0 i) (at xs 1 i)) { finds = (at xs 0 i).finds || (at xs 1 i).finds })
      ∙ (λ i. record (both (role (nodes.operand xs 0)) (role (nodes.operand xs 1))) { finds = finds_and (nodes.operand xs 0) (nodes.operand xs 1) i })
      ∙ together (nodes.operand xs 0) (nodes.operand xs 1) (list_any equates (conjuncts (And (nodes.operand xs 0) (nodes.operand xs 1))))
  does node.Or xs = two xs
  does (node.Compare c) xs =
      (λ i. record (both (at xs 0 i) (at xs 1 i)) { finds = does_find c (at xs 0 i) (at xs 1 i) })
      ∙ (λ i. record (both (role (nodes.operand xs 0)) (role (nodes.operand xs 1))) { finds = finds_equal c (nodes.operand xs 0) (nodes.operand xs 1) i })
      ∙ together (nodes.operand xs 0) (nodes.operand xs 1) (list_any equates (conjuncts (Compare c (nodes.operand xs 0) (nodes.operand xs 1))))
  does node.IsNull xs = ap over (at xs 0)
  does (node.In count) xs = λ i. record {
    is_key = false;
    is_within = (all_map role (λ r. r.is_within) xs ∙ sym (list_within xs)) i;
    finds = false;
  }
  does node.Between xs = (λ i. both (both (at xs 0 i) (at xs 1 i)) (at xs 2 i)) ∙ three (nodes.operand xs 0) (nodes.operand xs 1) (nodes.operand xs 2)
  does (node.Like pieces) xs = ap over (at xs 0)
  does (node.Number op) xs = two xs
  does node.Negate xs = ap over (at xs 0)
  does node.Concat xs = two xs
  does (node.Case count) xs = λ i. record {
    is_key = false;
    is_within = (all_map role (λ r. r.is_within) xs ∙ sym (cases_within xs)) i;
    finds = false;
  }
  does (node.Coalesce count) xs = λ i. record {
    is_key = false;
    is_within = (all_map role (λ r. r.is_within) xs ∙ sym (all_within xs)) i;
    finds = false;
  }
  does node.NullIf xs = two xs
  does node.Lower xs = ap over (at xs 0)
  does node.Upper xs = ap over (at xs 0)

  -- the first of the roles that the nodes leave is that of their expression
  pub role_nodes : (ns : List Node) → operand (after_nodes nodes.arity (role_made x others w) [] ns) 0 ≡ role (nodes.formula_of ns)
  role_nodes ns = ap (λ roles. operand roles 0) (after_nodes-map nodes.arity nodes.made (role_made x others w) role does [] ns) ∙ at (after_nodes nodes.arity nodes.made [] ns) 0

-- an expression over the views up to one, where these are the other views
pub finds_earlier : (x : Explore) (j : ℕ) (others : List ℕ) (on : Formula) (condition : Option Formula) → others ≡ numbers_below (j + 1) → condition ≡ Some on
    → (role_of x others (j + 1) on).finds ≡ list_any (is_key_equation x (λ p. nat_le p j) (j + 1)) (conjuncts_of condition)
finds_earlier x j others on condition earlier is =
    (λ i. list_any (is_key_equation x (is_one_of (earlier i)) (j + 1)) (conjuncts on))
    ∙ (λ i. list_any (is_key_equation x (λ p. is_at_most j p i) (j + 1)) (conjuncts on))
    ∙ ap (λ condition. list_any (is_key_equation x (λ p. nat_le p j) (j + 1)) (conjuncts_of condition)) (sym is)
