-- The first unknown call of an expression, from its last node on.
use Rattle.std.proofs.Common.{◌≡◌, ℕ, ◌+◌, ◌-◌, ◌<◌, ◌≤◌, true, List, [], ◌∷◌, ◌++◌, length, take, drop, get_or, Option, Some, None, refl, sym, ap, ◌∙◌, arith, length-append}
use Rattle.std.specs.Prelude.{nat_le, nat_lt, nat_eq, if◌then◌else◌, reverse}
use Rattle.std.specs.Option.{option_or}
use Rattle.std.proofs.lemmas.Bool.Decides.{nat_tests}
use Rattle.std.proofs.lemmas.List.{length-take-le, length-drop, length-reverse, take-append-drop, take-append-le, take-take, take_all, take_more}
use Rattle.std.proofs.lemmas.List.Sums.{fold-append}
use Rattle.lk_postfix.specs.Postfix.{operands, after_node, depth_after, gathered}
use Rattle.lk_expr_token.specs.declared.functions.Function.{Function}
use Rattle.lk_expr_token.specs.declared.functions.Function.TheVariants as function
use Rattle.lk_expr_token.specs.Functions.{function_of}
use Rattle.lk_expr_tree.specs.declared.raw.RawNode.{RawNode}
use Rattle.lk_expr_tree.specs.declared.raw.RawNode.TheVariants as raw
use Rattle.lk_expr_tree.specs.Grammar.{Tree}
use Rattle.lk_expr_tree.specs.RawNodes.{arity, made, operand, args_back, args_among, branches_among, trees_of}
use Rattle.lk_expr_tree.specs.Calls.{has_one, has_two, is_taken, place_unless, unknown_call, unknown_among, unknown_branch}
use Rattle.lk_expr_tree.specs.NodeCalls.{is_taken_count, unknown_node}
use Rattle.lk_expr_tree.proofs.GatheredLaws.{gathered-append, args_among-gathered, branches_among-gathered, alone, last_of}
use Rattle.lk_expr_tree.proofs.RawLaws.{if_some, length-trees}

or_assoc : (a b c : Option ℕ) → option_or (option_or a b) c ≡ option_or a (option_or b c)
or_assoc None b c = refl
or_assoc (Some x) b c = refl

or_left : (a : Option ℕ) → option_or None a ≡ a
or_left a = refl

or_right : (a : Option ℕ) → option_or a None ≡ a
or_right None = refl
or_right (Some x) = refl

-- the first unknown call of some expressions
abbrev pub first_call : List Tree → Option ℕ
first_call ts = gathered option_or None unknown_call ts

args_calls : (ts : List Tree) → unknown_among (args_among ts) ≡ first_call ts
args_calls ts = args_among-gathered option_or None or_assoc or_left or_right unknown_call refl unknown_among (λ a. refl) (λ args a. refl) ts

branches_calls : (ts : List Tree) → unknown_branch (branches_among ts) ≡ first_call ts
branches_calls ts = branches_among-gathered option_or None or_assoc or_left or_right unknown_call refl unknown_branch (λ c a. refl) (λ bs c a. refl) ts

-- ---- how many arguments

one_back : (rs : List Tree) → has_one (args_back rs) ≡ nat_lt (length rs) 2
one_back [] = refl
one_back (a ∷ []) = refl
one_back (a ∷ b ∷ rs) = grind (arith, nat_tests)

two_back : (rs : List Tree) → has_two (args_back rs) ≡ nat_eq (length rs) 2
two_back [] = refl
two_back (a ∷ []) = refl
two_back (a ∷ b ∷ []) = refl
two_back (a ∷ b ∷ c ∷ rs) = grind (arith, nat_tests)

one_among : (ts : List Tree) → has_one (args_among ts) ≡ nat_lt (length ts) 2
one_among ts = one_back (reverse ts) ∙ ap (λ n. nat_lt n 2) (length-reverse ts)

two_among : (ts : List Tree) → has_two (args_among ts) ≡ nat_eq (length ts) 2
two_among ts = two_back (reverse ts) ∙ ap (λ n. nat_eq n 2) (length-reverse ts)

taken : (f : Option Function) (ts : List Tree) → is_taken f (args_among ts) ≡ is_taken_count f (length ts)
taken None ts = refl
taken (Some function.Coalesce) ts = refl
taken (Some function.NullIf) ts = two_among ts
taken (Some function.Lower) ts = one_among ts
taken (Some function.Upper) ts = one_among ts

-- ---- a node and its operands

no_call : (ts : List Tree) → length ts ≡ 0 → None ≡ first_call ts
no_call [] h = refl
no_call (a ∷ ts) h = absurd (omega arith)

one_call : (ts : List Tree) → length ts ≡ 1 → unknown_call (operand ts 0) ≡ first_call ts
one_call ts h = sym (ap first_call (alone ts h) ∙ or_right (unknown_call (operand ts 0)))

two_calls : (ts : List Tree) → length ts ≡ 2 → option_or (unknown_call (operand ts 0)) (unknown_call (operand ts 1)) ≡ first_call ts
two_calls [] h = absurd (omega arith)
two_calls (a ∷ ts) h =
    let fewer : length ts ≡ 1 = omega arith in
    ap (option_or (unknown_call a)) (one_call ts fewer)

three_calls : (ts : List Tree) → length ts ≡ 3 → option_or (unknown_call (operand ts 0)) (option_or (unknown_call (operand ts 1)) (unknown_call (operand ts 2))) ≡ first_call ts
three_calls [] h = absurd (omega arith)
three_calls (a ∷ ts) h =
    let fewer : length ts ≡ 2 = omega arith in
    ap (option_or (unknown_call a)) (two_calls ts fewer)

list_calls : (ts : List Tree) → option_or (unknown_call (operand ts 0)) (unknown_among (args_among (drop 1 ts))) ≡ first_call ts
list_calls [] = refl
list_calls (a ∷ ts) = ap (option_or (unknown_call a)) (args_calls ts)

else_calls : (ts : List Tree) (count : ℕ) → length ts ≡ count → option_or (unknown_branch (branches_among (take (count - 1) ts))) (unknown_call (operand ts (count - 1))) ≡ first_call ts
else_calls [] count h = let none : count - 1 ≡ 0 = omega arith in rw none refl
else_calls (t ∷ ts) count h =
    ap (λ m. option_or m (unknown_call (operand (t ∷ ts) (count - 1)))) (branches_calls (take (count - 1) (t ∷ ts)))
    ∙ ap (option_or (first_call (take (count - 1) (t ∷ ts)))) (sym (or_right (unknown_call (operand (t ∷ ts) (count - 1)))))
    ∙ sym (gathered-append option_or None or_assoc or_left or_right unknown_call (take (count - 1) (t ∷ ts)) (operand (t ∷ ts) (count - 1) ∷ []))
    ∙ ap first_call (last_of (t ∷ ts) count h (omega arith))

node_calls : (n : RawNode) (ts : List Tree) → length ts ≡ arity n → unknown_call (made n ts) ≡ option_or (unknown_node n) (first_call ts)
node_calls (raw.Number number) ts h = no_call ts h
node_calls (raw.Text text) ts h = no_call ts h
node_calls (raw.Truth b) ts h = no_call ts h
node_calls raw.Null ts h = no_call ts h
node_calls (raw.Name name place) ts h = no_call ts h
node_calls (raw.Column name) ts h = no_call ts h
node_calls (raw.Field name) ts h = no_call ts h
node_calls (raw.FieldOf view name) ts h = no_call ts h
node_calls raw.Group ts h = one_call ts h
node_calls (raw.Call name place count) ts h =
    ap (λ b. option_or (place_unless b place) (unknown_among (args_among ts))) (taken (function_of name) ts ∙ ap (is_taken_count (function_of name)) h)
    ∙ ap (option_or (place_unless (is_taken_count (function_of name) count) place)) (args_calls ts)
node_calls (raw.Case count) ts h = branches_calls ts
node_calls (raw.CaseElse count) ts h = else_calls ts count h
node_calls raw.Negate ts h = one_call ts h
node_calls (raw.Chain j) ts h = two_calls ts h
node_calls (raw.Compare c) ts h = two_calls ts h
node_calls (raw.IsNull n) ts h = one_call ts h
node_calls (raw.In n count) ts h = list_calls ts
node_calls (raw.Between n) ts h = three_calls ts h
node_calls (raw.Like n text) ts h = one_call ts h
node_calls raw.Not ts h = one_call ts h

-- ---- the nodes before a node

record Before (d : ℕ) (xs : List RawNode) (n : RawNode) : Type 0 where
  pub left : ℕ
  pub depth : depth_after arity d xs ≡ Some left
  pub taken : arity n ≤ left

le_of_test : (m n : ℕ) → nat_le m n ≡ true → m ≤ n
le_of_test m n h = grind arith

before : (d e : ℕ) (xs : List RawNode) (n : RawNode) → depth_after arity d (xs ++ n ∷ []) ≡ Some e → Before d xs n
before d e [] n h = record { left = d; depth = refl; taken = le_of_test (arity n) d (if_some (nat_le (arity n) d) (Some ((d - arity n) + 1)) e h).0 }
before d e (x ∷ xs) n h =
    let parts = if_some (nat_le (arity x) d) (depth_after arity ((d - arity x) + 1) (xs ++ n ∷ [])) e h in
    let rest = before ((d - arity x) + 1) e xs n parts.1 in
    record {
      left = rest.left;
      depth = ap (λ b. if b then depth_after arity ((d - arity x) + 1) xs else None) parts.0 ∙ rest.depth;
      taken = rest.taken;
    }

depth_le : (d e : ℕ) (xs : List RawNode) → depth_after arity d xs ≡ Some e → e ≤ d + length xs
depth_le d e [] h = grind arith
depth_le d e (x ∷ xs) h =
    let parts = if_some (nat_le (arity x) d) (depth_after arity ((d - arity x) + 1) xs) e h in
    omega (arith, depth_le ((d - arity x) + 1) e xs parts.1)

-- ---- the walk

-- the first unknown call of what is left, but for its last trees, and else the one that was found, is that of the whole
pub record IsPassed (all : Option ℕ) (rest : List RawNode) (found : Option ℕ) (over : ℕ) : Type 0 where
  pub whole : depth_after arity 0 rest ≡ Some (length (trees_of rest))
  pub within : over ≤ length (trees_of rest)
  pub call : option_or (first_call (take (length (trees_of rest) - over) (trees_of rest))) found ≡ all

module _ (all found : Option ℕ) (over : ℕ) (ns : List RawNode) (n : RawNode) (is : IsPassed all (ns ++ n ∷ []) found over) where
  abbrev trees : List Tree
  trees = trees_of ns

  abbrev below : List Tree
  below = take (length trees - arity n) trees

  there : Before 0 ns n
  there = before 0 (length (trees_of (ns ++ n ∷ []))) ns n is.whole

  many : length trees ≡ there.left
  many = length-trees there.left ns there.depth

  pub passed_arity : arity n ≤ length trees
  passed_arity = omega (arith, many, there.taken)

  whole_there : depth_after arity 0 ns ≡ Some (length trees)
  whole_there = there.depth ∙ ap (λ m. Some m) (sym many)

  pub passed_length : length trees ≤ length ns
  passed_length = omega (arith, depth_le 0 (length trees) ns whole_there)

  behind : trees_of (ns ++ n ∷ []) ≡ below ++ made n (operands (arity n) trees) ∷ []
  behind = fold-append (after_node arity made) [] ns (n ∷ [])

  many_behind : length (trees_of (ns ++ n ∷ [])) ≡ (length trees - arity n) + 1
  many_behind =
      ap length behind
      ∙ length-append below (made n (operands (arity n) trees) ∷ [])
      ∙ ap (λ m. m + 1) (length-take-le (length trees - arity n) trees (omega arith))

  pub over_within : over ≤ (length trees - arity n) + 1
  over_within = omega (arith, is.within, many_behind)

  pub passed_within : 0 < over → (over - 1) + arity n ≤ length ns
  passed_within some = omega (arith, passed_arity, over_within, passed_length)

  -- an operand of the call that was found is passed over
  pub passed_operand : 0 < over → IsPassed all ns found ((over - 1) + arity n)
  passed_operand some =
      let still : length (trees_of (ns ++ n ∷ [])) - over ≡ length trees - ((over - 1) + arity n) = omega (arith, many_behind, passed_arity, over_within) in
      let fewer : length trees - ((over - 1) + arity n) ≤ length trees - arity n = omega arith in
      let same =
      ap (λ m. take m (trees_of (ns ++ n ∷ []))) still
      ∙ ap (take (length trees - ((over - 1) + arity n))) behind
      ∙ take-append-le (length trees - ((over - 1) + arity n)) below (made n (operands (arity n) trees) ∷ []) (omega (arith, length-take-le (length trees - arity n) trees (omega arith)))
      ∙ take-take (length trees - ((over - 1) + arity n)) (length trees - arity n) trees fewer in
      record {
        whole = whole_there;
        within = omega (arith, passed_arity, over_within);
        call = ap (λ ts. option_or (first_call ts) found) (sym same) ∙ is.call;
      }

  -- the trees behind the node, where none is passed over
  calls_behind : over ≡ 0 → option_or (option_or (first_call below) (option_or (unknown_node n) (first_call (operands (arity n) trees)))) found ≡ all
  calls_behind none =
      let made_calls = node_calls n (operands (arity n) trees) (omega (arith, length-drop (length trees - arity n) trees, passed_arity)) in
      let last = gathered-append option_or None or_assoc or_left or_right unknown_call below (made n (operands (arity n) trees) ∷ []) ∙ ap (option_or (first_call below)) (or_right (unknown_call (made n (operands (arity n) trees))) ∙ made_calls) in
      ap (λ m. option_or m found) (sym (ap first_call (take_all (length (trees_of (ns ++ n ∷ [])) - over) (trees_of (ns ++ n ∷ [])) (omega arith) ∙ behind) ∙ last))
      ∙ is.call

  pub passed_call : (place : ℕ) → over ≡ 0 → unknown_node n ≡ Some place → IsPassed all ns (Some place) (arity n)
  passed_call place none at = record {
    whole = whole_there;
    within = passed_arity;
    call =
        sym (or_assoc (first_call below) (Some place) found)
        ∙ ap (λ m. option_or (option_or (first_call below) (option_or m (first_call (operands (arity n) trees)))) found) (sym at)
        ∙ calls_behind none;
  }

  pub passed_node : over ≡ 0 → unknown_node n ≡ None → IsPassed all ns found over
  passed_node none at = record {
    whole = whole_there;
    within = omega arith;
    call =
        ap (λ m. option_or (first_call m) found) (take_all (length trees - over) trees (omega arith) ∙ sym (take-append-drop (length trees - arity n) trees))
        ∙ ap (λ m. option_or m found) (gathered-append option_or None or_assoc or_left or_right unknown_call below (operands (arity n) trees))
        ∙ ap (λ m. option_or (option_or (first_call below) (option_or m (first_call (operands (arity n) trees)))) found) (sym at)
        ∙ calls_behind none;
  }

-- the last of the first nodes
pub node_split : (nodes : List RawNode) (i : ℕ) (n : RawNode) → 0 < i → i ≤ length nodes → n ≡ get_or nodes (i - 1) n → take i nodes ≡ take (i - 1) nodes ++ n ∷ []
node_split nodes i n some fits at =
    let one : i ≡ i - 1 + 1 = omega arith in
    ap (λ m. take m nodes) one ∙ take_more nodes (i - 1) n (omega arith) ∙ ap (λ x. take (i - 1) nodes ++ x ∷ []) (sym at)
