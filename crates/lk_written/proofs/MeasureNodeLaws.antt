-- What each node of a measure adds to the list of nodes: the expression of its tree, in place of those of its operands.
use Rattle.std.proofs.Common.{◌≡◌, ℕ, ◌+◌, ◌<◌, true, false, List, [], ◌∷◌, ◌++◌, length, Option, Some, None, refl, sym, ap, ◌∙◌, subst, arith}
use Rattle.std.specs.Prelude.{suc, nat_eq, nat_lt, if◌then◌else◌, is_some, Result, Ok, Err}
use Rattle.std.proofs.lemmas.Bool.{false≢true}
use Rattle.std.proofs.lemmas.Bool.Decides.{nat_tests}
use Rattle.std.proofs.lemmas.List.{append-nil}
use Rattle.lk_postfix.specs.Postfix.{Builds}
use Rattle.lk_postfix.proofs.PostfixLaws.{Builds-node}
use Rattle.lk_val.specs.Numbers.{num_of}
use Rattle.lk_val.specs.declared.num.Num.{Num}
use Rattle.lk_val.specs.declared.num.NumFault.{NumFault}
use Rattle.lk_types.specs.Calculation as calculation
use Rattle.lk_types.specs.Calculation.{Calculation}
use Rattle.lk_types.specs.CalculationNodes as nodes
use Rattle.lk_types.specs.CalculationNodes.{calculations_of}
use Rattle.lk_types.specs.declared.number.NumNode.{NumNode}
use Rattle.lk_types.specs.declared.number.NumNode.TheVariants as node
use Rattle.lk_expr_token.specs.declared.functions.Function.{Function}
use Rattle.lk_expr_token.specs.declared.functions.Function.TheVariants as function
use Rattle.lk_expr_token.specs.Functions.{function_of}
use Rattle.lk_expr_tree.specs.declared.raw.Joint.{Joint}
use Rattle.lk_expr_tree.specs.declared.raw.Joint.TheVariants as joint
use Rattle.lk_expr_tree.specs.declared.raw.RawNode.{RawNode}
use Rattle.lk_expr_tree.specs.declared.raw.RawNode.TheVariants as raw
use Rattle.lk_expr_tree.specs.Grammar.{Tree}
use Rattle.lk_expr_tree.specs.NodeCalls.{is_measure_node}
use Rattle.lk_expr_tree.specs.RawNodes.{arity, made, operand, args_among}
use Rattle.lk_written.specs.References.{count}
use Rattle.lk_written.specs.Calculations.{measure_skeleton, measure_skeletons, number_of, joined, called}
use Rattle.lk_written.specs.MeasureNodes.{measure_nodes, joint_arithmetic, number_node, call_node, joint_node}
use Rattle.lk_written.proofs.NodeForms.{has_operands, is_of_measure}
use Rattle.lk_written.proofs.Numbered.{numbered, length-numbered, args-numbered, total}

-- the nodes build these expressions
abbrev pub Makes : List NumNode → List Calculation → Type 0
Makes out es = Builds nodes.arity nodes.made out es

-- one more node, behind its operands
more : (out : List NumNode) (low us : List Calculation) (n : NumNode) → Makes out (low ++ us) → length us ≡ nodes.arity n → Makes (out ++ n ∷ []) (low ++ nodes.made n us ∷ [])
more out low us n b h = Builds-node nodes.arity nodes.made low us n b h

-- another expression that is equal, in place of the last
last_is : (out : List NumNode) (low : List Calculation) (x y : Calculation) → x ≡ y → Makes out (low ++ x ∷ []) → Makes out (low ++ y ∷ [])
last_is out low x y same b = subst (λ e. Makes out (low ++ e ∷ [])) same b

number : (r : Result Num NumFault) (c : ℕ) (ts : List Tree) (out : List NumNode) (low : List Calculation) → length ts ≡ 0 → Makes out (low ++ numbered measure_skeleton c ts) → Makes (out ++ number_node r ∷ []) (low ++ number_of r ∷ [])
number (Ok n) c [] out low h b = more out low [] (node.Literal n) b refl
number (Err e) c [] out low h b = more out low [] (node.Coalesce 0) b refl
number r c (t ∷ ts) out low h b = absurd (omega arith)

measure : (c : ℕ) (ts : List Tree) (out : List NumNode) (low : List Calculation) → length ts ≡ 0 → Makes out (low ++ numbered measure_skeleton c ts) → Makes (out ++ node.Measure (c + total ts) ∷ []) (low ++ calculation.OfMeasure c ∷ [])
measure c [] out low h b =
    let same : c + 0 ≡ c = omega arith in
    last_is _ low _ _ (ap (λ m. calculation.OfMeasure m) same) (more out low [] (node.Measure (c + 0)) b refl)
measure c (t ∷ ts) out low h b = absurd (omega arith)

negated : (c : ℕ) (ts : List Tree) (out : List NumNode) (low : List Calculation) → length ts ≡ 1 → Makes out (low ++ numbered measure_skeleton c ts) → Makes (out ++ node.Negate ∷ []) (low ++ calculation.Negate (measure_skeleton c (operand ts 0)) ∷ [])
negated c [] out low h b = absurd (omega arith)
negated c (t ∷ []) out low h b = more out low (measure_skeleton c t ∷ []) node.Negate b refl
negated c (t ∷ u ∷ ts) out low h b = absurd (omega arith)

grouped : (c : ℕ) (ts : List Tree) (out : List NumNode) (low : List Calculation) → length ts ≡ 1 → Makes out (low ++ numbered measure_skeleton c ts) → Makes (out ++ []) (low ++ measure_skeleton c (operand ts 0) ∷ [])
grouped c [] out low h b = absurd (omega arith)
grouped c (t ∷ []) out low h b = subst (λ ns. Makes ns (low ++ measure_skeleton c t ∷ [])) (sym (append-nil out)) b
grouped c (t ∷ u ∷ ts) out low h b = absurd (omega arith)

-- a node of two operands
pair : (n : NumNode) (c : ℕ) (ts : List Tree) (out : List NumNode) (low : List Calculation) → nodes.arity n ≡ 2 → length ts ≡ 2 → Makes out (low ++ numbered measure_skeleton c ts)
    → Makes (out ++ n ∷ []) (low ++ nodes.made n (measure_skeleton c (operand ts 0) ∷ measure_skeleton (c + count (operand ts 0)) (operand ts 1) ∷ []) ∷ [])
pair n c [] out low z h b = absurd (omega arith)
pair n c (t ∷ []) out low z h b = absurd (omega arith)
pair n c (t ∷ u ∷ []) out low z h b = more out low (measure_skeleton c t ∷ measure_skeleton (c + count t) u ∷ []) n b (sym z)
pair n c (t ∷ u ∷ v ∷ ts) out low z h b = absurd (omega arith)

chain : (j : Joint) (c : ℕ) (ts : List Tree) (out : List NumNode) (low : List Calculation) → length ts ≡ 2 → is_some (joint_arithmetic j) ≡ true → Makes out (low ++ numbered measure_skeleton c ts)
    → Makes (out ++ joint_node (joint_arithmetic j)) (low ++ joined j (measure_skeleton c (operand ts 0)) (measure_skeleton (c + count (operand ts 0)) (operand ts 1)) ∷ [])
chain joint.Plus c ts out low h has b = pair (node.Number _) c ts out low refl h b
chain joint.Minus c ts out low h has b = pair (node.Number _) c ts out low refl h b
chain joint.Times c ts out low h has b = pair (node.Number _) c ts out low refl h b
chain joint.Over c ts out low h has b = pair (node.Number _) c ts out low refl h b
chain joint.Or c ts out low h has b = absurd (false≢true has)
chain joint.And c ts out low h has b = absurd (false≢true has)
chain joint.Concat c ts out low h has b = absurd (false≢true has)

test_eq : (m n : ℕ) → nat_eq m n ≡ true → m ≡ n
test_eq m n h = grind arith

test_lt : (m n : ℕ) → nat_lt m n ≡ true → m < n
test_lt m n h = grind arith

arguments : (c : ℕ) (ts : List Tree) → 0 < length ts → numbered measure_skeleton c ts ≡ measure_skeletons c (args_among ts)
arguments c ts some = sym (args-numbered measure_skeleton measure_skeletons (λ n a. refl) (λ n args a. refl) c ts some)

-- a call of so many arguments, which stands as COALESCE where they are not as many as the function takes
call_arity : (f : Option Function) (k : ℕ) → k ≡ nodes.arity (call_node f k)
call_arity None k = refl
call_arity (Some function.Coalesce) k = refl
call_arity (Some function.NullIf) k =
    elim (nat_eq k 2) as (λ b. nat_eq k 2 ≡ b → k ≡ nodes.arity (if b then node.NullIf else node.Coalesce k)) [
      | true ↦ λ h. test_eq k 2 h
      | false ↦ λ h. refl
    ] refl
call_arity (Some function.Lower) k = refl
call_arity (Some function.Upper) k = refl

not_two : (n : ℕ) → nat_eq (suc (suc (suc n))) 2 ≡ false
not_two n = grind (arith, nat_tests)

call_made : (f : Option Function) (xs : List Calculation) → nodes.made (call_node f (length xs)) xs ≡ called f xs
call_made None xs = refl
call_made (Some function.Coalesce) xs = refl
call_made (Some function.NullIf) [] = refl
call_made (Some function.NullIf) (x ∷ []) = refl
call_made (Some function.NullIf) (x ∷ y ∷ []) = refl
call_made (Some function.NullIf) (x ∷ y ∷ z ∷ xs) =
    ap (λ b. nodes.made (if b then node.NullIf else node.Coalesce (length (x ∷ y ∷ z ∷ xs))) (x ∷ y ∷ z ∷ xs)) (not_two (length xs))
call_made (Some function.Lower) xs = refl
call_made (Some function.Upper) xs = refl

calls : (f : Option Function) (k c : ℕ) (ts : List Tree) (out : List NumNode) (low : List Calculation) → length ts ≡ k → nat_lt 0 k ≡ true → Makes out (low ++ numbered measure_skeleton c ts)
    → Makes (out ++ call_node f k ∷ []) (low ++ called f (measure_skeletons c (args_among ts)) ∷ [])
calls f k c ts out low h takes b =
    let many = length-numbered measure_skeleton c ts ∙ h in
    let some : 0 < length ts = omega (arith, test_lt 0 k takes) in
    last_is _ low _ _
    (ap (λ m. nodes.made (call_node f m) (numbered measure_skeleton c ts)) (sym many) ∙ call_made f (numbered measure_skeleton c ts) ∙ ap (called f) (arguments c ts some))
    (more out low (numbered measure_skeleton c ts) (call_node f k) b (many ∙ call_arity f k))

-- a node of a measure that has its operands
pub of_measure : (n : RawNode) → is_measure_node n ≡ true → has_operands n ≡ true → is_of_measure n ≡ true
of_measure (raw.Number number) m h = refl
of_measure (raw.Field name) m h = refl
of_measure (raw.FieldOf view name) m h = refl
of_measure raw.Group m h = refl
of_measure (raw.Call name place k) m h = h
of_measure raw.Negate m h = refl
of_measure (raw.Chain joint.Plus) m h = refl
of_measure (raw.Chain joint.Minus) m h = refl
of_measure (raw.Chain joint.Times) m h = refl
of_measure (raw.Chain joint.Over) m h = refl
of_measure n m h = absurd (false≢true m)

-- a node behind its operands, the first of whose names has the number c
pub node_adds : (n : RawNode) (c : ℕ) (ts : List Tree) (out : List NumNode) (low : List Calculation) → length ts ≡ arity n → is_of_measure n ≡ true → Makes out (low ++ numbered measure_skeleton c ts) → Makes (out ++ measure_nodes (c + total ts) n) (low ++ measure_skeleton c (made n ts) ∷ [])
node_adds (raw.Number text) c ts out low h has b = number (num_of text) c ts out low h b
node_adds (raw.Field name) c ts out low h has b = measure c ts out low h b
node_adds (raw.FieldOf view name) c ts out low h has b = measure c ts out low h b
node_adds raw.Group c ts out low h has b = grouped c ts out low h b
node_adds (raw.Call name place k) c ts out low h has b = calls (function_of name) k c ts out low h has b
node_adds raw.Negate c ts out low h has b = negated c ts out low h b
node_adds (raw.Chain j) c ts out low h has b = chain j c ts out low h has b
node_adds other c ts out low h has b = absurd (false≢true has)
