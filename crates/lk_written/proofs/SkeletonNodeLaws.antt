-- What each node adds to the list of nodes: the expression of its tree, in place of those of its operands.
use Rattle.std.proofs.Common.{◌≡◌, ℕ, zero, suc, ◌+◌, ◌-◌, ◌<◌, Bool, true, false, List, [], ◌∷◌, ◌++◌, length, take, drop, Option, Some, None, refl, sym, ap, ◌∙◌, subst, arith, append_assoc}
use Rattle.std.specs.Prelude.{nat_eq, nat_lt, if◌then◌else◌}
use Rattle.std.proofs.lemmas.Bool.{false≢true}
use Rattle.std.proofs.lemmas.Bool.Decides.{nat_tests}
use Rattle.std.proofs.lemmas.List.{append-nil, length-take-le}
use Rattle.lk_postfix.specs.Postfix.{Builds}
use Rattle.lk_postfix.proofs.PostfixLaws.{Builds-node}
use Rattle.lk_types.specs.Formula as formula
use Rattle.lk_types.specs.Formula.{Formula}
use Rattle.lk_types.specs.FormulaNodes as nodes
use Rattle.lk_types.specs.FormulaNodes.{cases_of, formulas_of}
use Rattle.lk_types.specs.declared.expr.Node.{Node}
use Rattle.lk_types.specs.declared.expr.Node.TheVariants as node
use Rattle.lk_expr_token.specs.declared.functions.Function.{Function}
use Rattle.lk_expr_token.specs.declared.functions.Function.TheVariants as function
use Rattle.lk_expr_token.specs.Functions.{function_of}
use Rattle.lk_expr_tree.specs.declared.raw.Joint.{Joint}
use Rattle.lk_expr_tree.specs.declared.raw.Joint.TheVariants as joint
use Rattle.lk_expr_tree.specs.declared.raw.RawNode.{RawNode}
use Rattle.lk_expr_tree.specs.declared.raw.RawNode.TheVariants as raw
use Rattle.lk_expr_tree.specs.Grammar.{Tree}
use Rattle.lk_expr_tree.specs.RawNodes.{arity, made, operand, args_among, branches_among}
use Rattle.lk_expr_tree.proofs.GatheredLaws.{last_of}
use Rattle.lk_written.specs.References.{references_among, count}
use Rattle.lk_written.specs.Skeletons.{skeleton, skeletons, branch_skeletons, unless, joined, called}
use Rattle.lk_written.specs.SkeletonNodes.{skeleton_nodes, denied, joint_node, call_node}
use Rattle.lk_written.proofs.NodeForms.{has_operands, are_pairs}
use Rattle.lk_written.proofs.Numbered.{numbered, length-numbered, numbered-append, args-numbered, branches-numbered, branches_references, total}

-- the nodes build these expressions
abbrev pub Makes : List Node → List Formula → Type 0
Makes out es = Builds nodes.arity nodes.made out es

-- one more node, behind its operands
more : (out : List Node) (low us : List Formula) (n : Node) → Makes out (low ++ us) → length us ≡ nodes.arity n → Makes (out ++ n ∷ []) (low ++ nodes.made n us ∷ [])
more out low us n b h = Builds-node nodes.arity nodes.made low us n b h

-- another expression that is equal, in place of the last
last_is : (out : List Node) (low : List Formula) (x y : Formula) → x ≡ y → Makes out (low ++ x ∷ []) → Makes out (low ++ y ∷ [])
last_is out low x y same b = subst (λ e. Makes out (low ++ e ∷ [])) same b

-- a test, and its opposite
deny : (negated : Bool) (out : List Node) (low : List Formula) (x : Formula) (test : Node) → Makes (out ++ test ∷ []) (low ++ x ∷ []) → Makes (out ++ denied negated test) (low ++ unless negated x ∷ [])
deny false out low x test b = b
deny true out low x test b =
    subst (λ ns. Makes ns (low ++ formula.Not x ∷ [])) (append_assoc out (test ∷ []) (node.Not ∷ []))
    (more (out ++ test ∷ []) low (x ∷ []) node.Not b refl)

-- ---- by how many operands a node has

no_names : (c : ℕ) (ts : List Tree) → length ts ≡ 0 → c + total ts ≡ c
no_names c [] h = let same : c + 0 ≡ c = omega arith in same
no_names c (t ∷ ts) h = absurd (omega arith)

none : (n : Node) (c : ℕ) (ts : List Tree) (out : List Node) (low : List Formula) → nodes.arity n ≡ 0 → length ts ≡ 0 → Makes out (low ++ numbered skeleton c ts) → Makes (out ++ n ∷ []) (low ++ nodes.made n [] ∷ [])
none n c [] out low z h b = more out low [] n b (sym z)
none n c (t ∷ ts) out low z h b = absurd (omega arith)

one_operand : (n : Node) (c : ℕ) (ts : List Tree) (out : List Node) (low : List Formula) → nodes.arity n ≡ 1 → length ts ≡ 1 → Makes out (low ++ numbered skeleton c ts) → Makes (out ++ n ∷ []) (low ++ nodes.made n (skeleton c (operand ts 0) ∷ []) ∷ [])
one_operand n c [] out low z h b = absurd (omega arith)
one_operand n c (t ∷ []) out low z h b = more out low (skeleton c t ∷ []) n b (sym z)
one_operand n c (t ∷ u ∷ ts) out low z h b = absurd (omega arith)

two_operands : (n : Node) (c : ℕ) (ts : List Tree) (out : List Node) (low : List Formula) → nodes.arity n ≡ 2 → length ts ≡ 2 → Makes out (low ++ numbered skeleton c ts)
    → Makes (out ++ n ∷ []) (low ++ nodes.made n (skeleton c (operand ts 0) ∷ skeleton (c + count (operand ts 0)) (operand ts 1) ∷ []) ∷ [])
two_operands n c [] out low z h b = absurd (omega arith)
two_operands n c (t ∷ []) out low z h b = absurd (omega arith)
two_operands n c (t ∷ u ∷ []) out low z h b = more out low (skeleton c t ∷ skeleton (c + count t) u ∷ []) n b (sym z)
two_operands n c (t ∷ u ∷ v ∷ ts) out low z h b = absurd (omega arith)

bounds : (c : ℕ) (ts : List Tree) (out : List Node) (low : List Formula) → length ts ≡ 3 → Makes out (low ++ numbered skeleton c ts)
    → Makes (out ++ node.Between ∷ []) (low ++ formula.Between (skeleton c (operand ts 0)) (skeleton (c + count (operand ts 0)) (operand ts 1)) (skeleton (c + count (operand ts 0) + count (operand ts 1)) (operand ts 2)) ∷ [])
bounds c [] out low h b = absurd (omega arith)
bounds c (t ∷ []) out low h b = absurd (omega arith)
bounds c (t ∷ u ∷ []) out low h b = absurd (omega arith)
bounds c (t ∷ u ∷ v ∷ []) out low h b =
    more out low (skeleton c t ∷ skeleton (c + count t) u ∷ skeleton (c + count t + count u) v ∷ []) node.Between b refl
bounds c (t ∷ u ∷ v ∷ w ∷ ts) out low h b = absurd (omega arith)

grouped : (c : ℕ) (ts : List Tree) (out : List Node) (low : List Formula) → length ts ≡ 1 → Makes out (low ++ numbered skeleton c ts) → Makes (out ++ []) (low ++ skeleton c (operand ts 0) ∷ [])
grouped c [] out low h b = absurd (omega arith)
grouped c (t ∷ []) out low h b = subst (λ ns. Makes ns (low ++ skeleton c t ∷ [])) (sym (append-nil out)) b
grouped c (t ∷ u ∷ ts) out low h b = absurd (omega arith)

column : (c : ℕ) (ts : List Tree) (out : List Node) (low : List Formula) → length ts ≡ 0 → Makes out (low ++ numbered skeleton c ts) → Makes (out ++ node.Column 0 (c + total ts) ∷ []) (low ++ formula.Column 0 c ∷ [])
column c ts out low h b =
    last_is _ low _ _ (ap (λ m. formula.Column 0 m) (no_names c ts h)) (none (node.Column 0 (c + total ts)) c ts out low refl h b)

joint_arity : (j : Joint) → nodes.arity (joint_node j) ≡ 2
joint_arity joint.Or = refl
joint_arity joint.And = refl
joint_arity joint.Plus = refl
joint_arity joint.Minus = refl
joint_arity joint.Concat = refl
joint_arity joint.Times = refl
joint_arity joint.Over = refl

joint_made : (j : Joint) (x y : Formula) → nodes.made (joint_node j) (x ∷ y ∷ []) ≡ joined j x y
joint_made joint.Or x y = refl
joint_made joint.And x y = refl
joint_made joint.Plus x y = refl
joint_made joint.Minus x y = refl
joint_made joint.Concat x y = refl
joint_made joint.Times x y = refl
joint_made joint.Over x y = refl

-- ---- calls, lists and branches

test_eq : (m n : ℕ) → nat_eq m n ≡ true → m ≡ n
test_eq m n h = grind arith

test_lt : (m n : ℕ) → nat_lt m n ≡ true → m < n
test_lt m n h = grind arith

-- a call of so many arguments, which has as many operands where they are those that the function takes, and all of them
-- where it stands as COALESCE
takes_if : (n : Node) (k m : ℕ) → nodes.arity n ≡ m → k ≡ nodes.arity (if nat_eq k m then n else node.Coalesce k)
takes_if n k m is =
    elim (nat_eq k m) as (λ b. nat_eq k m ≡ b → k ≡ nodes.arity (if b then n else node.Coalesce k)) [
      | true ↦ λ h. test_eq k m h ∙ sym is
      | false ↦ λ h. refl
    ] refl

call_arity : (f : Option Function) (k : ℕ) → k ≡ nodes.arity (call_node f k)
call_arity None k = refl
call_arity (Some function.Coalesce) k = refl
call_arity (Some function.NullIf) k = takes_if node.NullIf k 2 refl
call_arity (Some function.Lower) k = takes_if node.Lower k 1 refl
call_arity (Some function.Upper) k = takes_if node.Upper k 1 refl

not_two : (n : ℕ) → nat_eq (suc (suc (suc n))) 2 ≡ false
not_two n = grind (arith, nat_tests)

not_one : (n : ℕ) → nat_eq (suc (suc n)) 1 ≡ false
not_one n = grind (arith, nat_tests)

-- more arguments than a function takes
beyond : (n : Node) (b : Bool) (xs : List Formula) → b ≡ false → nodes.made (if b then n else node.Coalesce (length xs)) xs ≡ formula.Coalesce (formulas_of xs)
beyond n b xs h = ap (λ c. nodes.made (if c then n else node.Coalesce (length xs)) xs) h

call_made : (f : Option Function) (xs : List Formula) → nodes.made (call_node f (length xs)) xs ≡ called f xs
call_made None xs = refl
call_made (Some function.Coalesce) xs = refl
call_made (Some function.NullIf) [] = refl
call_made (Some function.NullIf) (x ∷ []) = refl
call_made (Some function.NullIf) (x ∷ y ∷ []) = refl
call_made (Some function.NullIf) (x ∷ y ∷ z ∷ xs) = beyond node.NullIf (nat_eq (length (x ∷ y ∷ z ∷ xs)) 2) (x ∷ y ∷ z ∷ xs) (not_two (length xs))
call_made (Some function.Lower) [] = refl
call_made (Some function.Lower) (x ∷ []) = refl
call_made (Some function.Lower) (x ∷ y ∷ xs) = beyond node.Lower (nat_eq (length (x ∷ y ∷ xs)) 1) (x ∷ y ∷ xs) (not_one (length xs))
call_made (Some function.Upper) [] = refl
call_made (Some function.Upper) (x ∷ []) = refl
call_made (Some function.Upper) (x ∷ y ∷ xs) = beyond node.Upper (nat_eq (length (x ∷ y ∷ xs)) 1) (x ∷ y ∷ xs) (not_one (length xs))

calls : (f : Option Function) (k c : ℕ) (ts : List Tree) (out : List Node) (low : List Formula) → length ts ≡ k → nat_lt 0 k ≡ true → Makes out (low ++ numbered skeleton c ts)
    → Makes (out ++ call_node f k ∷ []) (low ++ called f (skeletons c (args_among ts)) ∷ [])
calls f k c ts out low h takes b =
    let many = length-numbered skeleton c ts ∙ h in
    let some : 0 < length ts = omega (arith, test_lt 0 k takes) in
    last_is _ low _ _
    (ap (λ m. nodes.made (call_node f m) (numbered skeleton c ts)) (sym many)
    ∙ call_made f (numbered skeleton c ts)
    ∙ ap (called f) (sym (args-numbered skeleton skeletons (λ n a. refl) (λ n args a. refl) c ts some)))
    (more out low (numbered skeleton c ts) (call_node f k) b (many ∙ call_arity f k))

lists : (negated : Bool) (k c : ℕ) (ts : List Tree) (out : List Node) (low : List Formula) → length ts ≡ k → nat_lt 1 k ≡ true → Makes out (low ++ numbered skeleton c ts)
    → Makes (out ++ denied negated (node.In k)) (low ++ unless negated (formula.In (skeleton c (operand ts 0)) (formulas_of (skeletons (c + count (operand ts 0)) (args_among (drop 1 ts))))) ∷ [])
lists negated k c [] out low h some b = absurd (omega (arith, test_lt 1 k some))
lists negated k c (t ∷ ts) out low h some b =
    let left : 0 < length ts = omega (arith, test_lt 1 k some) in
    deny negated out low _ (node.In k)
    (last_is _ low _ _
    (ap (λ es. formula.In (skeleton c t) (formulas_of es)) (sym (args-numbered skeleton skeletons (λ n a. refl) (λ n args a. refl) (c + count t) ts left)))
    (more out low (numbered skeleton c (t ∷ ts)) (node.In k) b (length-numbered skeleton c (t ∷ ts) ∙ h)))

record Halves (k : ℕ) : Type 0 where
  pub half : ℕ
  pub is : k ≡ half + half + 2

halves : (k : ℕ) → are_pairs k ≡ true → Halves k
halves zero h = absurd (false≢true h)
halves (suc zero) h = absurd (false≢true h)
halves (suc (suc zero)) h = record { half = 0; is = refl }
halves (suc (suc (suc n))) h = let less = halves (suc n) h in record { half = less.half + 1; is = omega (arith, less.is) }

branches : (k c : ℕ) (ts : List Tree) → length ts ≡ k → are_pairs k ≡ true → numbered skeleton c ts ≡ branch_skeletons c (branches_among ts)
branches k c ts h pairs =
    let parts = halves k pairs in
    sym (branches-numbered skeleton branch_skeletons (λ n c a. refl) (λ n bs c a. refl) parts.half c ts (h ∙ parts.is))

with_else : (k c : ℕ) (ts : List Tree) → length ts ≡ k → are_pairs (k - 1) ≡ true
    → numbered skeleton c ts ≡ branch_skeletons c (branches_among (take (k - 1) ts)) ++ skeleton (c + length (references_among (branches_among (take (k - 1) ts)))) (operand ts (k - 1)) ∷ []
with_else k c ts h pairs =
    let some : 0 < k = omega (arith, (halves (k - 1) pairs).is) in
    let before = branches (k - 1) c (take (k - 1) ts) (length-take-le (k - 1) ts (omega arith)) pairs in
    ap (numbered skeleton c) (sym (last_of ts k h (omega arith)))
    ∙ numbered-append skeleton c (take (k - 1) ts) (operand ts (k - 1) ∷ [])
    ∙ (λ i. before i ++ skeleton (c + length (sym (branches_references (take (k - 1) ts)) i)) (operand ts (k - 1)) ∷ [])

cases : (k c : ℕ) (ts : List Tree) (out : List Node) (low es : List Formula) → length ts ≡ k → numbered skeleton c ts ≡ es → Makes out (low ++ numbered skeleton c ts) → Makes (out ++ node.Case k ∷ []) (low ++ formula.Case (cases_of es) ∷ [])
cases k c ts out low es h is b =
    last_is _ low _ _ (ap (λ xs. formula.Case (cases_of xs)) is)
    (more out low (numbered skeleton c ts) (node.Case k) b (length-numbered skeleton c ts ∙ h))

-- ---- each node

-- a node behind its operands, the first of whose names has the number c
pub node_adds : (n : RawNode) (c : ℕ) (ts : List Tree) (out : List Node) (low : List Formula) → length ts ≡ arity n → has_operands n ≡ true → Makes out (low ++ numbered skeleton c ts) → Makes (out ++ skeleton_nodes (c + total ts) n) (low ++ skeleton c (made n ts) ∷ [])
node_adds (raw.Number number) c ts out low h has b = none _ c ts out low refl h b
node_adds (raw.Text text) c ts out low h has b = none _ c ts out low refl h b
node_adds (raw.Truth v) c ts out low h has b = none _ c ts out low refl h b
node_adds raw.Null c ts out low h has b = none _ c ts out low refl h b
node_adds (raw.Name name place) c ts out low h has b = column c ts out low h b
node_adds (raw.Column name) c ts out low h has b = column c ts out low h b
node_adds (raw.Field name) c ts out low h has b = column c ts out low h b
node_adds (raw.FieldOf view name) c ts out low h has b = column c ts out low h b
node_adds raw.Group c ts out low h has b = grouped c ts out low h b
node_adds (raw.Call name place k) c ts out low h has b = calls (function_of name) k c ts out low h has b
node_adds (raw.Case k) c ts out low h has b = cases k c ts out low _ h (branches k c ts h has) b
node_adds (raw.CaseElse k) c ts out low h has b = cases k c ts out low _ h (with_else k c ts h has) b
node_adds raw.Negate c ts out low h has b = one_operand node.Negate c ts out low refl h b
node_adds (raw.Chain j) c ts out low h has b = last_is _ low _ _ (joint_made j _ _) (two_operands (joint_node j) c ts out low (joint_arity j) h b)
node_adds (raw.Compare o) c ts out low h has b = two_operands (node.Compare o) c ts out low refl h b
node_adds (raw.IsNull negated) c ts out low h has b = deny negated out low _ node.IsNull (one_operand node.IsNull c ts out low refl h b)
node_adds (raw.In negated k) c ts out low h has b = lists negated k c ts out low h has b
node_adds (raw.Between negated) c ts out low h has b = deny negated out low _ node.Between (bounds c ts out low h b)
node_adds (raw.Like negated pattern) c ts out low h has b = deny negated out low _ (node.Like _) (one_operand (node.Like _) c ts out low refl h b)
node_adds raw.Not c ts out low h has b = one_operand node.Not c ts out low refl h b
