-- The tree of a text's tokens is what is read of them.
use Rattle.std.proofs.Common.{◌≡◌, ℕ, zero, suc, ◌+◌, ◌≤◌, ◌<◌, Bool, true, false, ◌&&◌, List, [], ◌∷◌, ◌++◌, length, drop, drop-cons, length-append, Some, None, refl, sym, ap, subst, ◌∙◌, append_assoc, arith}
use Rattle.std.specs.Prelude.{if◌then◌else◌, nat_le, max, nat_eq}
use Rattle.std.proofs.lemmas.Bool.{false≢true}
use Rattle.std.proofs.lemmas.Bool.Decides.{nat_tests}
use Rattle.lk_expr_token.specs.declared.token.Keyword.{Keyword}
use Rattle.lk_expr_token.specs.declared.token.Keyword.TheVariants as keyword
use Rattle.lk_expr_token.specs.declared.token.Sign.TheVariants as sign
use Rattle.lk_expr_token.specs.declared.token.Token.{Token}
use Rattle.lk_expr_token.specs.declared.token.Token.TheVariants as token
use Rattle.lk_expr_tree.specs.declared.raw.Joint.{Joint}
use Rattle.lk_expr_tree.specs.declared.raw.Joint.TheVariants as joint
use Rattle.lk_expr_text.specs.declared.parser.Precedence.{Precedence}
use Rattle.lk_expr_text.specs.declared.parser.Precedence.TheVariants as precedence
use Rattle.lk_expr_text.specs.declared.parser.Nest.TheVariants as nest
use Rattle.lk_expr_tree.specs.Grammar.{Tree, Number, Text, Name, Column, Field, FieldOf, Truth, Null, Group, Call, Case, CaseElse, Negate, Chain, Compare, IsNull, In, Between, Like, Not, Args, one, more, Branches, when, then_when, joint_token, negated, print, print_args, print_branches, chain_level, stands, is_built, are_built, are_branches_built, nests, nests_args, nests_branches}
use Rattle.lk_expr_tree.specs.Growing.{joined, first_arg, next_arg, valued, first_branch, next_branch, grouped, called, ended_else, with_sign, denied, compared, null_test, listed, upto, liked}
use Rattle.lk_expr_text.specs.Parsing.{Parser, Below, joint_of, next_joint, links, chain_in, after_comma, more_args, args_in, then_value, branch_in, after_when, more_branches, branches_in, named, case_end, atom_in, unary_in, sum_in, bounded, list_in, test_of, tested, not_in, whole_in, below}
use Rattle.lk_expr_token.proofs.LexSteps.{same, both}
use Rattle.lk_expr_text.proofs.ParseSound.{Stands, weaker, level_at}

-- ---- what may stand behind a tree

-- one more than the level of what the token goes on with
abbrev binding : Token → ℕ
binding (token.Word keyword.Or) = 1
binding (token.Word keyword.And) = 2
binding (token.Compare c) = 4
binding (token.Word keyword.Is) = 4
binding (token.Word keyword.Not) = 4
binding (token.Word keyword.In) = 4
binding (token.Word keyword.Between) = 4
binding (token.Word keyword.Like) = 4
binding (token.Sign sign.Plus) = 5
binding (token.Sign sign.Minus) = 5
binding (token.Sign sign.Concat) = 5
binding (token.Sign sign.Times) = 6
binding (token.Sign sign.Over) = 6
binding (token.Sign sign.Open) = 8
binding t = 0

-- no token comes first that goes on with a tree of the level
abbrev Stops : ℕ → List Token → Type 0
Stops level [] = Unit {0}
Stops level (t ∷ ts) = binding t ≤ level

stops_more : (m n : ℕ) (ts : List Token) → m ≤ n → Stops m ts → Stops n ts
stops_more m n [] less h = tt
stops_more m n (t ∷ ts) less h = omega arith

-- the parser reads each tree that stands at the level
abbrev Finds : ℕ → ℕ → ℕ → Parser → Type 0
Finds level deeper limit parser = (e : Tree) (rest : List Token) → Stands level e → deeper + nests e ≤ limit → Stops level rest → parser (print e ++ rest) ≡ Some (e, rest)

left_max : (d a b n : ℕ) → d + max a b ≤ n → d + a ≤ n
left_max d a b n h = omega arith

right_max : (d a b n : ℕ) → d + max a b ≤ n → d + b ≤ n
right_max d a b n h = omega arith

-- ---- chains

joint_binds : (j : Joint) → binding (joint_token j) ≡ suc (chain_level j)
joint_binds joint.Or = refl
joint_binds joint.And = refl
joint_binds joint.Plus = refl
joint_binds joint.Minus = refl
joint_binds joint.Concat = refl
joint_binds joint.Times = refl
joint_binds joint.Over = refl

joint_found : (p : Precedence) (j : Joint) → chain_level j ≡ level_at p → joint_of p (joint_token j) ≡ Some j
joint_found precedence.Or joint.Or h = refl
joint_found precedence.And joint.And h = refl
joint_found precedence.Sum joint.Plus h = refl
joint_found precedence.Sum joint.Minus h = refl
joint_found precedence.Sum joint.Concat h = refl
joint_found precedence.Term joint.Times h = refl
joint_found precedence.Term joint.Over h = refl
joint_found p j h = absurd (omega arith)

none_joins : (p : Precedence) (t : Token) → binding t ≤ level_at p → joint_of p t ≡ None
none_joins precedence.Or (token.Word keyword.Or) h = let z : 1 ≤ 0 = h in absurd (omega arith)
none_joins precedence.And (token.Word keyword.And) h = let z : 2 ≤ 1 = h in absurd (omega arith)
none_joins precedence.Sum (token.Sign sign.Plus) h = let z : 5 ≤ 4 = h in absurd (omega arith)
none_joins precedence.Sum (token.Sign sign.Minus) h = let z : 5 ≤ 4 = h in absurd (omega arith)
none_joins precedence.Sum (token.Sign sign.Concat) h = let z : 5 ≤ 4 = h in absurd (omega arith)
none_joins precedence.Term (token.Sign sign.Times) h = let z : 6 ≤ 5 = h in absurd (omega arith)
none_joins precedence.Term (token.Sign sign.Over) h = let z : 6 ≤ 5 = h in absurd (omega arith)
none_joins p t h = refl

none_next : (p : Precedence) (ts : List Token) → Stops (level_at p) ts → next_joint p ts ≡ None
none_next p [] h = refl
none_next p (t ∷ ts) h = none_joins p t h

-- the tree is a chain of this precedence
abbrev is_link : Precedence → Tree → Bool
is_link p (Chain j a b) = nat_eq (chain_level j) (level_at p)
is_link p e = false

tighter_chain : (p : Precedence) (j : Joint) (built : Bool) → nat_eq (chain_level j) (level_at p) ≡ false → nat_le (level_at p) (chain_level j) && built ≡ true → nat_le (suc (level_at p)) (chain_level j) && built ≡ true
tighter_chain p j built h s = grind (arith, nat_tests)

-- what is no chain of this precedence and stands at its level binds more tightly
tighter : (p : Precedence) (e : Tree) → is_link p e ≡ false → Stands (level_at p) e → Stands (suc (level_at p)) e
tighter p (Chain j a b) h s = tighter_chain p j (is_built (Chain j a b)) h s
tighter precedence.Or e h s = s
tighter precedence.And e h s = s
tighter precedence.Sum (Not a) h s = absurd (false≢true s)
tighter precedence.Sum (Compare c a b) h s = absurd (false≢true s)
tighter precedence.Sum (IsNull n a) h s = absurd (false≢true s)
tighter precedence.Sum (In n a args) h s = absurd (false≢true s)
tighter precedence.Sum (Between n a low high) h s = absurd (false≢true s)
tighter precedence.Sum (Like n a text) h s = absurd (false≢true s)
tighter precedence.Sum e h s = s
tighter precedence.Term (Not a) h s = absurd (false≢true s)
tighter precedence.Term (Compare c a b) h s = absurd (false≢true s)
tighter precedence.Term (IsNull n a) h s = absurd (false≢true s)
tighter precedence.Term (In n a args) h s = absurd (false≢true s)
tighter precedence.Term (Between n a low high) h s = absurd (false≢true s)
tighter precedence.Term (Like n a text) h s = absurd (false≢true s)
tighter precedence.Term e h s = s

-- the links of a chain of this precedence
abbrev link_count : Precedence → Tree → ℕ
link_count p (Chain j a b) = if nat_eq (chain_level j) (level_at p) then suc (link_count p a) else 0
link_count p e = 0

-- each tree has a token
printed_some : (e : Tree) → 1 ≤ length (print e)
printed_some (Chain j a b) = omega (arith, length-append (print a) (joint_token j ∷ print b))
printed_some (Compare c a b) = omega (arith, length-append (print a) (token.Compare c ∷ print b))
printed_some (IsNull n a) = omega (arith, length-append (print a) (token.Word keyword.Is ∷ negated n (token.Word keyword.Null ∷ [])))
printed_some (In true a args) = omega (arith, length-append (print a) (token.Word keyword.Not ∷ token.Word keyword.In ∷ token.Sign sign.Open ∷ (print_args args ++ token.Sign sign.Close ∷ [])))
printed_some (In false a args) = omega (arith, length-append (print a) (token.Word keyword.In ∷ token.Sign sign.Open ∷ (print_args args ++ token.Sign sign.Close ∷ [])))
printed_some (Between true a low high) = omega (arith, length-append (print a) (token.Word keyword.Not ∷ token.Word keyword.Between ∷ (print low ++ token.Word keyword.And ∷ print high)))
printed_some (Between false a low high) = omega (arith, length-append (print a) (token.Word keyword.Between ∷ (print low ++ token.Word keyword.And ∷ print high)))
printed_some (Like true a text) = omega (arith, length-append (print a) (token.Word keyword.Not ∷ token.Word keyword.Like ∷ token.Text text ∷ []))
printed_some (Like false a text) = omega (arith, length-append (print a) (token.Word keyword.Like ∷ token.Text text ∷ []))
printed_some (Truth true) = omega arith
printed_some (Truth false) = omega arith
printed_some e = omega arith

count_less : (p : Precedence) (e : Tree) → suc (link_count p e) ≤ length (print e)
count_less p (Chain j a b) =
    let more = length-append (print a) (joint_token j ∷ print b) in
    let less = count_less p a in
    elim (nat_eq (chain_level j) (level_at p)) as (λ d. suc (if d then suc (link_count p a) else 0) ≤ length (print a ++ joint_token j ∷ print b)) [
      | true ↦ omega (arith, more, less)
      | false ↦ omega (arith, more)
    ]
count_less p e = printed_some e

comma : Token
comma = token.Sign sign.Comma

module _ (p : Precedence) (operand : Parser) (limit : ℕ) (finds : Finds (suc (level_at p)) 0 limit operand) where
  plain : (e : Tree) (fuel rest : List Token) → is_link p e ≡ false → Stands (level_at p) e → 0 + nests e ≤ limit → Stops (suc (level_at p)) rest → links p operand fuel (operand (print e ++ rest)) ≡ links p operand fuel (Some (e, rest))
  plain e fuel rest l s n st = ap (links p operand fuel) (finds e rest (tighter p e l s) n st)

  one_link : (j : Joint) (a b : Tree) (fuel rest : List Token) (i : ℕ) → chain_level j ≡ level_at p → i < length fuel → operand (print b ++ rest) ≡ Some (b, rest) → links p operand (drop i fuel) (Some (a, joint_token j ∷ (print b ++ rest))) ≡ links p operand (drop (suc i) fuel) (Some (Chain j a b, rest))
  one_link j a b fuel rest i level fits found =
      rw (drop-cons fuel i comma fits, joint_found p j level) (ap (λ z. links p operand (drop (suc i) fuel) (joined j a z)) found)

  begun : (e : Tree) (fuel rest : List Token) → Stands (level_at p) e → 0 + nests e ≤ limit → Stops (suc (level_at p)) rest → link_count p e ≤ length fuel → links p operand fuel (operand (print e ++ rest)) ≡ links p operand (drop (link_count p e) fuel) (Some (e, rest))
  begun (Chain j a b) fuel rest s n st enough =
      elim (nat_eq (chain_level j) (level_at p)) as (λ d. nat_eq (chain_level j) (level_at p) ≡ d → (if d then suc (link_count p a) else 0) ≤ length fuel → links p operand fuel (operand ((print a ++ joint_token j ∷ print b) ++ rest)) ≡ links p operand (drop (if d then suc (link_count p a) else 0) fuel) (Some (Chain j a b, rest))) [
        | true ↦ λ d enough.
            let level : chain_level j ≡ level_at p = same (chain_level j) (level_at p) d in
            let parts = both (stands (chain_level j) a (is_built a)) (stands (suc (chain_level j)) b (is_built b)) (both (nat_le (level_at p) (chain_level j)) (is_built (Chain j a b)) s).1 in
            let behind : binding (joint_token j) ≤ suc (level_at p) = omega (arith, joint_binds j, level) in
            let found = finds b rest (subst (λ z. Stands (suc z) b) level parts.1) (right_max 0 (nests a) (nests b) limit n) st in
            ap (λ z. links p operand fuel (operand z)) (append_assoc (print a) (joint_token j ∷ print b) rest)
            ∙ begun a fuel (joint_token j ∷ (print b ++ rest)) (subst (λ z. Stands z a) level parts.0) (left_max 0 (nests a) (nests b) limit n) behind (omega arith)
            ∙ one_link j a b fuel rest (link_count p a) level (omega arith) found
        | false ↦ λ d _. plain (Chain j a b) fuel rest d s n st
      ] refl enough
  begun e fuel rest s n st enough = plain e fuel rest refl s n st

  stopped : (e : Tree) (fuel rest : List Token) (i : ℕ) → i < length fuel → Stops (level_at p) rest → links p operand (drop i fuel) (Some (e, rest)) ≡ Some (e, rest)
  stopped e fuel rest i fits st = rw (drop-cons fuel i comma fits, none_next p rest st) refl

  pub chain_finds : Finds (level_at p) 0 limit (chain_in p operand)
  chain_finds e rest s n st =
      let ts = print e ++ rest in
      let enough : suc (link_count p e) ≤ length ts = omega (arith, count_less p e, length-append (print e) rest) in
      begun e ts rest s n (stops_more (level_at p) (suc (level_at p)) rest (omega arith) st) (omega arith)
      ∙ stopped e ts rest (link_count p e) (omega arith) st

-- ---- arguments

abbrev arg_count : Args → ℕ
arg_count (one a) = 0
arg_count (more args a) = suc (arg_count args)

args_less : (args : Args) → suc (arg_count args) ≤ length (print_args args)
args_less (one a) = printed_some a
args_less (more args a) = omega (arith, args_less args, length-append (print_args args) (token.Sign sign.Comma ∷ print a))

module _ (level deeper limit : ℕ) (operand : Parser) (finds : Finds level deeper limit operand) where
  one_arg : (args : Args) (a : Tree) (fuel rest : List Token) (i : ℕ) → i < length fuel → operand (print a ++ rest) ≡ Some (a, rest) → more_args operand (drop i fuel) (Some (args, token.Sign sign.Comma ∷ (print a ++ rest))) ≡ more_args operand (drop (suc i) fuel) (Some (more args a, rest))
  one_arg args a fuel rest i fits found = rw (drop-cons fuel i comma fits) (ap (λ z. more_args operand (drop (suc i) fuel) (next_arg args z)) found)

  args_begun : (args : Args) (fuel rest : List Token) → are_built level args ≡ true → deeper + nests_args args ≤ limit → Stops level rest → arg_count args ≤ length fuel → more_args operand fuel (first_arg (operand (print_args args ++ rest))) ≡ more_args operand (drop (arg_count args) fuel) (Some (args, rest))
  args_begun (one a) fuel rest s n st enough = ap (λ z. more_args operand fuel (first_arg z)) (finds a rest s n st)
  args_begun (more args a) fuel rest s n st enough =
      let parts = both (are_built level args) _ s in
      let found = finds a rest parts.1 (right_max deeper (nests_args args) (nests a) limit n) st in
      ap (λ z. more_args operand fuel (first_arg (operand z))) (append_assoc (print_args args) (token.Sign sign.Comma ∷ print a) rest)
      ∙ args_begun args fuel (token.Sign sign.Comma ∷ (print a ++ rest)) parts.0 (left_max deeper (nests_args args) (nests a) limit n) (omega arith) (omega arith)
      ∙ one_arg args a fuel rest (arg_count args) (omega arith) found

  args_stopped : (args : Args) (fuel rest : List Token) (i : ℕ) → i < length fuel → after_comma rest ≡ None → more_args operand (drop i fuel) (Some (args, rest)) ≡ Some (args, rest)
  args_stopped args fuel rest i fits st = rw (drop-cons fuel i comma fits, st) refl

  pub args_found : (args : Args) (rest : List Token) → are_built level args ≡ true → deeper + nests_args args ≤ limit → Stops level rest → after_comma rest ≡ None → args_in operand (print_args args ++ rest) ≡ Some (args, rest)
  args_found args rest s n st last =
      let ts = print_args args ++ rest in
      let enough : suc (arg_count args) ≤ length ts = omega (arith, args_less args, length-append (print_args args) rest) in
      args_begun args ts rest s n st (omega arith) ∙ args_stopped args ts rest (arg_count args) (omega arith) last

-- ---- branches

abbrev branch_count : Branches → ℕ
branch_count (when c a) = 0
branch_count (then_when branches c a) = suc (branch_count branches)

-- the tokens of branches, without the first WHEN
abbrev inside : Branches → List Token
inside (when c a) = print c ++ token.Word keyword.Then ∷ print a
inside (then_when branches c a) = inside branches ++ token.Word keyword.When ∷ (print c ++ token.Word keyword.Then ∷ print a)

opened : (branches : Branches) → print_branches branches ≡ token.Word keyword.When ∷ inside branches
opened (when c a) = refl
opened (then_when branches c a) = ap (λ z. z ++ token.Word keyword.When ∷ (print c ++ token.Word keyword.Then ∷ print a)) (opened branches)

branches_less : (branches : Branches) → suc (branch_count branches) ≤ length (inside branches)
branches_less (when c a) = omega (arith, length-append (print c) (token.Word keyword.Then ∷ print a))
branches_less (then_when branches c a) = omega (arith, branches_less branches, length-append (inside branches) (token.Word keyword.When ∷ (print c ++ token.Word keyword.Then ∷ print a)))

module _ (deeper limit : ℕ) (operand : Parser) (finds : Finds 0 deeper limit operand) where
  branch_found : (c a : Tree) (rest : List Token) → Stands 0 c → Stands 0 a → deeper + nests c ≤ limit → deeper + nests a ≤ limit → Stops 0 rest → branch_in operand ((print c ++ token.Word keyword.Then ∷ print a) ++ rest) ≡ Some (c, (a, rest))
  branch_found c a rest s t m n st =
      ap (λ z. then_value operand (operand z)) (append_assoc (print c) (token.Word keyword.Then ∷ print a) rest)
      ∙ ap (then_value operand) (finds c (token.Word keyword.Then ∷ (print a ++ rest)) s m (omega arith))
      ∙ ap (valued c) (finds a rest t n st)

  one_branch : (branches : Branches) (c a : Tree) (fuel rest : List Token) (i : ℕ) → i < length fuel → branch_in operand ((print c ++ token.Word keyword.Then ∷ print a) ++ rest) ≡ Some (c, (a, rest)) → more_branches operand (drop i fuel) (Some (branches, token.Word keyword.When ∷ ((print c ++ token.Word keyword.Then ∷ print a) ++ rest))) ≡ more_branches operand (drop (suc i) fuel) (Some (then_when branches c a, rest))
  one_branch branches c a fuel rest i fits found = rw (drop-cons fuel i comma fits) (ap (λ z. more_branches operand (drop (suc i) fuel) (next_branch branches z)) found)

  branches_begun : (branches : Branches) (fuel rest : List Token) → are_branches_built branches ≡ true → deeper + nests_branches branches ≤ limit → Stops 0 rest → branch_count branches ≤ length fuel → more_branches operand fuel (first_branch (branch_in operand (inside branches ++ rest))) ≡ more_branches operand (drop (branch_count branches) fuel) (Some (branches, rest))
  branches_begun (when c a) fuel rest s n st enough =
      let parts = both _ _ s in
      ap (λ z. more_branches operand fuel (first_branch z)) (branch_found c a rest parts.0 parts.1 (left_max deeper (nests c) (nests a) limit n) (right_max deeper (nests c) (nests a) limit n) st)
  branches_begun (then_when branches c a) fuel rest s n st enough =
      let parts = both (are_branches_built branches) _ s in
      let last = both _ _ parts.1 in
      let less = right_max deeper (nests_branches branches) (max (nests c) (nests a)) limit n in
      let found = branch_found c a rest last.0 last.1 (left_max deeper (nests c) (nests a) limit less) (right_max deeper (nests c) (nests a) limit less) st in
      ap (λ z. more_branches operand fuel (first_branch (branch_in operand z))) (append_assoc (inside branches) (token.Word keyword.When ∷ (print c ++ token.Word keyword.Then ∷ print a)) rest)
      ∙ branches_begun branches fuel (token.Word keyword.When ∷ ((print c ++ token.Word keyword.Then ∷ print a) ++ rest)) parts.0 (left_max deeper (nests_branches branches) (max (nests c) (nests a)) limit n) (omega arith) (omega arith)
      ∙ one_branch branches c a fuel rest (branch_count branches) (omega arith) found

  branches_stopped : (branches : Branches) (fuel rest : List Token) (i : ℕ) → i < length fuel → after_when rest ≡ None → more_branches operand (drop i fuel) (Some (branches, rest)) ≡ Some (branches, rest)
  branches_stopped branches fuel rest i fits st = rw (drop-cons fuel i comma fits, st) refl

  pub branches_found : (branches : Branches) (rest : List Token) → are_branches_built branches ≡ true → deeper + nests_branches branches ≤ limit → Stops 0 rest → after_when rest ≡ None → branches_in operand (print_branches branches ++ rest) ≡ Some (branches, rest)
  branches_found branches rest s n st last =
      let ts = inside branches ++ rest in
      let enough : suc (branch_count branches) ≤ length ts = omega (arith, branches_less branches, length-append (inside branches) rest) in
      ap (λ z. branches_in operand (z ++ rest)) (opened branches)
      ∙ branches_begun branches ts rest s n st (omega arith) ∙ branches_stopped branches ts rest (branch_count branches) (omega arith) last

-- ---- trees by their level

abbrev is_test : Tree → Bool
is_test (Compare c a b) = true
is_test (IsNull n a) = true
is_test (In n a args) = true
is_test (Between n a low high) = true
is_test (Like n a text) = true
is_test e = false

abbrev is_not : Tree → Bool
is_not (Not a) = true
is_not e = false

abbrev is_negated : Tree → Bool
is_negated (Negate a) = true
is_negated e = false

-- what is no test and binds as tightly as one binds more tightly
above_test : (e : Tree) → is_test e ≡ false → Stands 3 e → Stands 4 e
above_test (Compare c a b) h s = absurd (false≢true (sym h))
above_test (IsNull n a) h s = absurd (false≢true (sym h))
above_test (In n a args) h s = absurd (false≢true (sym h))
above_test (Between n a low high) h s = absurd (false≢true (sym h))
above_test (Like n a text) h s = absurd (false≢true (sym h))
above_test (Chain joint.Or a b) h s = absurd (false≢true s)
above_test (Chain joint.And a b) h s = absurd (false≢true s)
above_test (Chain joint.Plus a b) h s = s
above_test (Chain joint.Minus a b) h s = s
above_test (Chain joint.Concat a b) h s = s
above_test (Chain joint.Times a b) h s = s
above_test (Chain joint.Over a b) h s = s
above_test (Not a) h s = absurd (false≢true s)
above_test e h s = s

above_not : (e : Tree) → is_not e ≡ false → Stands 2 e → Stands 3 e
above_not (Not a) h s = absurd (false≢true (sym h))
above_not (Chain joint.Or a b) h s = absurd (false≢true s)
above_not (Chain joint.And a b) h s = absurd (false≢true s)
above_not (Chain joint.Plus a b) h s = s
above_not (Chain joint.Minus a b) h s = s
above_not (Chain joint.Concat a b) h s = s
above_not (Chain joint.Times a b) h s = s
above_not (Chain joint.Over a b) h s = s
above_not e h s = s

no_chain : (j : Joint) (n : ℕ) (b : Bool) → 6 ≤ n → nat_le n (chain_level j) && b ≡ true → ⊥
no_chain joint.Or n b h s = let z : (nat_le n 0 && b) ≡ true = s in absurd (grind (arith, nat_tests))
no_chain joint.And n b h s = let z : (nat_le n 1 && b) ≡ true = s in absurd (grind (arith, nat_tests))
no_chain joint.Plus n b h s = let z : (nat_le n 4 && b) ≡ true = s in absurd (grind (arith, nat_tests))
no_chain joint.Minus n b h s = let z : (nat_le n 4 && b) ≡ true = s in absurd (grind (arith, nat_tests))
no_chain joint.Concat n b h s = let z : (nat_le n 4 && b) ≡ true = s in absurd (grind (arith, nat_tests))
no_chain joint.Times n b h s = let z : (nat_le n 5 && b) ≡ true = s in absurd (grind (arith, nat_tests))
no_chain joint.Over n b h s = let z : (nat_le n 5 && b) ≡ true = s in absurd (grind (arith, nat_tests))

-- the tokens begin with NOT
abbrev begins_not : List Token → Bool
begins_not (token.Word keyword.Not ∷ ts) = true
begins_not ts = false

not_first : (e : Tree) (rest : List Token) → Stands 3 e → begins_not (print e ++ rest) ≡ false
not_first (Chain j a b) rest s =
    let level : 3 ≤ chain_level j = grind (arith, nat_tests) in
    let parts = both _ _ (both (nat_le 3 (chain_level j)) _ s).1 in
    rw (append_assoc (print a) (joint_token j ∷ print b) rest) (not_first a (joint_token j ∷ (print b ++ rest)) (weaker 3 (chain_level j) a level parts.0))
not_first (Compare c a b) rest s =
    let parts = both _ _ s in
    rw (append_assoc (print a) (token.Compare c ∷ print b) rest) (not_first a (token.Compare c ∷ (print b ++ rest)) (weaker 3 4 a (omega arith) parts.0))
not_first (IsNull n a) rest s = rw (append_assoc (print a) (token.Word keyword.Is ∷ negated n (token.Word keyword.Null ∷ [])) rest) (not_first a _ (weaker 3 4 a (omega arith) s))
not_first (In n a args) rest s = let parts = both _ _ s in rw (append_assoc (print a) (negated n (token.Word keyword.In ∷ token.Sign sign.Open ∷ (print_args args ++ token.Sign sign.Close ∷ []))) rest) (not_first a _ (weaker 3 4 a (omega arith) parts.0))
not_first (Between n a low high) rest s = let parts = both _ _ s in rw (append_assoc (print a) (negated n (token.Word keyword.Between ∷ (print low ++ token.Word keyword.And ∷ print high))) rest) (not_first a _ (weaker 3 4 a (omega arith) parts.0))
not_first (Like n a text) rest s = rw (append_assoc (print a) (negated n (token.Word keyword.Like ∷ token.Text text ∷ [])) rest) (not_first a _ (weaker 3 4 a (omega arith) s))
not_first (Not a) rest s = absurd (false≢true s)
not_first (Truth true) rest s = refl
not_first (Truth false) rest s = refl
not_first e rest s = refl

-- ---- one level, where what stands deeper is found

module _ (limit : ℕ) (below : Below) (whole : Finds 0 1 limit (below nest.Whole)) (negation : Finds 2 1 limit (below nest.Negation)) (sign_finds : Finds 6 1 limit (below nest.Sign)) where
  named_stops : (name : List ℕ) (place : ℕ) (rest : List Token) → Stops 7 rest → named (below nest.Whole) name place rest ≡ Some (Name name place, rest)
  named_stops name place [] h = refl
  named_stops name place (token.Sign sign.Open ∷ ts) h = let z : 8 ≤ 7 = h in absurd (omega arith)
  named_stops name place rest h = refl

  atom_finds : Finds 7 0 limit (atom_in (below nest.Whole))
  atom_finds (Number n) rest s m st = refl
  atom_finds (Text n) rest s m st = refl
  atom_finds (Name n place) rest s m st = named_stops n place rest st
  atom_finds (Column n) rest s m st = refl
  atom_finds (Field n) rest s m st = refl
  atom_finds (FieldOf v n) rest s m st = refl
  atom_finds (Truth true) rest s m st = refl
  atom_finds (Truth false) rest s m st = refl
  atom_finds Null rest s m st = refl
  atom_finds (Group a) rest s m st =
      ap (λ z. grouped (below nest.Whole z)) (append_assoc (print a) (token.Sign sign.Close ∷ []) rest)
      ∙ ap grouped (whole a (token.Sign sign.Close ∷ rest) s (omega arith) (omega arith))
  atom_finds (Call name place args) rest s m st =
      ap (λ z. called name place (args_in (below nest.Whole) z)) (append_assoc (print_args args) (token.Sign sign.Close ∷ []) rest)
      ∙ ap (called name place) (args_found 0 1 limit (below nest.Whole) whole args (token.Sign sign.Close ∷ rest) s (omega arith) (omega arith) refl)
  atom_finds (Case branches) rest s m st =
      ap (λ z. case_end (below nest.Whole) (branches_in (below nest.Whole) z)) (append_assoc (print_branches branches) (token.Word keyword.End ∷ []) rest)
      ∙ ap (case_end (below nest.Whole)) (branches_found 1 limit (below nest.Whole) whole branches (token.Word keyword.End ∷ rest) s (omega arith) (omega arith) refl)
  atom_finds (CaseElse branches a) rest s m st =
      let parts = both (are_branches_built branches) _ s in
      let all : 1 + max (nests_branches branches) (nests a) ≤ limit = omega arith in
      let found = whole a (token.Word keyword.End ∷ rest) parts.1 (right_max 1 (nests_branches branches) (nests a) limit all) (omega arith) in
      ap (λ z. case_end (below nest.Whole) (branches_in (below nest.Whole) z)) (append_assoc (print_branches branches) (token.Word keyword.Else ∷ (print a ++ token.Word keyword.End ∷ [])) rest)
      ∙ ap (case_end (below nest.Whole)) (branches_found 1 limit (below nest.Whole) whole branches (token.Word keyword.Else ∷ ((print a ++ token.Word keyword.End ∷ []) ++ rest)) parts.0 (left_max 1 (nests_branches branches) (nests a) limit all) (omega arith) refl)
      ∙ ap (λ z. ended_else branches (below nest.Whole z)) (append_assoc (print a) (token.Word keyword.End ∷ []) rest)
      ∙ ap (ended_else branches) found
  atom_finds (Chain j a b) rest s m st = absurd (no_chain j 7 _ (omega arith) s)
  atom_finds e rest s m st = absurd (false≢true s)

  unary_finds : Finds 6 0 limit (unary_in below)
  unary_finds (Negate a) rest s m st = ap with_sign (sign_finds a rest s (omega arith) st)
  unary_finds (Number n) rest s m st = refl
  unary_finds (Text n) rest s m st = refl
  unary_finds (Name n place) rest s m st = named_stops n place rest (stops_more 6 7 rest (omega arith) st)
  unary_finds (Column n) rest s m st = refl
  unary_finds (Field n) rest s m st = refl
  unary_finds (FieldOf v n) rest s m st = refl
  unary_finds (Truth true) rest s m st = refl
  unary_finds (Truth false) rest s m st = refl
  unary_finds Null rest s m st = refl
  unary_finds (Group a) rest s m st = atom_finds (Group a) rest s m (stops_more 6 7 rest (omega arith) st)
  unary_finds (Call name place args) rest s m st = atom_finds (Call name place args) rest s m (stops_more 6 7 rest (omega arith) st)
  unary_finds (Case branches) rest s m st = atom_finds (Case branches) rest s m (stops_more 6 7 rest (omega arith) st)
  unary_finds (CaseElse branches a) rest s m st = atom_finds (CaseElse branches a) rest s m (stops_more 6 7 rest (omega arith) st)
  unary_finds (Chain j a b) rest s m st = absurd (no_chain j 6 _ (omega arith) s)
  unary_finds e rest s m st = absurd (false≢true s)

  sum_finds : Finds 4 0 limit (sum_in below)
  sum_finds = chain_finds precedence.Sum (chain_in precedence.Term (unary_in below)) limit (chain_finds precedence.Term (unary_in below) limit unary_finds)

  -- ---- tests

  none_tests : (a : Tree) (rest : List Token) → Stops 3 rest → test_of (sum_in below) a rest ≡ Some (a, rest)
  none_tests a [] h = refl
  none_tests a (token.Compare c ∷ ts) h = let z : 4 ≤ 3 = h in absurd (omega arith)
  none_tests a (token.Word keyword.Is ∷ ts) h = let z : 4 ≤ 3 = h in absurd (omega arith)
  none_tests a (token.Word keyword.Not ∷ ts) h = let z : 4 ≤ 3 = h in absurd (omega arith)
  none_tests a (token.Word keyword.In ∷ ts) h = let z : 4 ≤ 3 = h in absurd (omega arith)
  none_tests a (token.Word keyword.Between ∷ ts) h = let z : 4 ≤ 3 = h in absurd (omega arith)
  none_tests a (token.Word keyword.Like ∷ ts) h = let z : 4 ≤ 3 = h in absurd (omega arith)
  none_tests a rest h = refl

  -- the test of an expression that is read
  behind : (a : Tree) (us rest : List Token) → Stands 4 a → 0 + nests a ≤ limit → Stops 4 (us ++ rest) → tested (sum_in below) (sum_in below ((print a ++ us) ++ rest)) ≡ test_of (sum_in below) a (us ++ rest)
  behind a us rest s m st = ap (λ z. tested (sum_in below) (sum_in below z)) (append_assoc (print a) us rest) ∙ ap (tested (sum_in below)) (sum_finds a (us ++ rest) s m st)

  choice_stops : (n : Bool) (k : Keyword) (ts rest : List Token) → binding (token.Word k) ≤ 4 → Stops 4 (negated n (token.Word k ∷ ts) ++ rest)
  choice_stops true k ts rest h = omega arith
  choice_stops false k ts rest h = h

  in_chosen : (n : Bool) (a : Tree) (ts : List Token) → test_of (sum_in below) a (negated n (token.Word keyword.In ∷ ts)) ≡ list_in (sum_in below) n a ts
  in_chosen true a ts = refl
  in_chosen false a ts = refl

  between_chosen : (n : Bool) (a : Tree) (ts : List Token) → test_of (sum_in below) a (negated n (token.Word keyword.Between ∷ ts)) ≡ bounded (sum_in below) n a (sum_in below ts)
  between_chosen true a ts = refl
  between_chosen false a ts = refl

  like_chosen : (n : Bool) (a : Tree) (ts : List Token) → test_of (sum_in below) a (negated n (token.Word keyword.Like ∷ ts)) ≡ liked n a ts
  like_chosen true a ts = refl
  like_chosen false a ts = refl

  negated_behind : (n : Bool) (us vs : List Token) → negated n us ++ vs ≡ negated n (us ++ vs)
  negated_behind true us vs = refl
  negated_behind false us vs = refl

  null_found : (n : Bool) (a : Tree) (rest : List Token) → null_test a (negated n (token.Word keyword.Null ∷ []) ++ rest) ≡ Some (IsNull n a, rest)
  null_found true a rest = refl
  null_found false a rest = refl

  test_finds : Finds 3 0 limit (λ ts. tested (sum_in below) (sum_in below ts))
  test_finds (Compare c a b) rest s m st =
      let parts = both _ _ s in
      behind a (token.Compare c ∷ print b) rest parts.0 (left_max 0 (nests a) (nests b) limit m) (omega arith)
      ∙ ap (compared c a) (sum_finds b rest parts.1 (right_max 0 (nests a) (nests b) limit m) (stops_more 3 4 rest (omega arith) st))
  test_finds (IsNull n a) rest s m st = behind a (token.Word keyword.Is ∷ negated n (token.Word keyword.Null ∷ [])) rest s m (omega arith) ∙ null_found n a rest
  test_finds (In n a args) rest s m st =
      let parts = both _ _ s in
      behind a (negated n (token.Word keyword.In ∷ token.Sign sign.Open ∷ (print_args args ++ token.Sign sign.Close ∷ []))) rest parts.0 (left_max 0 (nests a) (nests_args args) limit m) (choice_stops n keyword.In _ rest (omega arith))
      ∙ ap (test_of (sum_in below) a) (negated_behind n (token.Word keyword.In ∷ token.Sign sign.Open ∷ (print_args args ++ token.Sign sign.Close ∷ [])) rest)
      ∙ in_chosen n a (token.Sign sign.Open ∷ ((print_args args ++ token.Sign sign.Close ∷ []) ++ rest))
      ∙ ap (λ z. listed n a (args_in (sum_in below) z)) (append_assoc (print_args args) (token.Sign sign.Close ∷ []) rest)
      ∙ ap (listed n a) (args_found 4 0 limit (sum_in below) sum_finds args (token.Sign sign.Close ∷ rest) parts.1 (right_max 0 (nests a) (nests_args args) limit m) (omega arith) refl)
  test_finds (Between n a low high) rest s m st =
      let parts = both _ _ s in
      let bounds = both _ _ parts.1 in
      let less = right_max 0 (nests a) (max (nests low) (nests high)) limit m in
      behind a (negated n (token.Word keyword.Between ∷ (print low ++ token.Word keyword.And ∷ print high))) rest parts.0 (left_max 0 (nests a) (max (nests low) (nests high)) limit m) (choice_stops n keyword.Between _ rest (omega arith))
      ∙ ap (test_of (sum_in below) a) (negated_behind n (token.Word keyword.Between ∷ (print low ++ token.Word keyword.And ∷ print high)) rest)
      ∙ between_chosen n a ((print low ++ token.Word keyword.And ∷ print high) ++ rest)
      ∙ ap (λ z. bounded (sum_in below) n a (sum_in below z)) (append_assoc (print low) (token.Word keyword.And ∷ print high) rest)
      ∙ ap (bounded (sum_in below) n a) (sum_finds low (token.Word keyword.And ∷ (print high ++ rest)) bounds.0 (left_max 0 (nests low) (nests high) limit less) (omega arith))
      ∙ ap (upto n a low) (sum_finds high rest bounds.1 (right_max 0 (nests low) (nests high) limit less) (stops_more 3 4 rest (omega arith) st))
  test_finds (Like n a text) rest s m st =
      behind a (negated n (token.Word keyword.Like ∷ token.Text text ∷ [])) rest s m (choice_stops n keyword.Like _ rest (omega arith))
      ∙ ap (test_of (sum_in below) a) (negated_behind n (token.Word keyword.Like ∷ token.Text text ∷ []) rest)
      ∙ like_chosen n a (token.Text text ∷ rest)
  test_finds e rest s m st =
      ap (tested (sum_in below)) (sum_finds e rest (above_test e refl s) m (stops_more 3 4 rest (omega arith) st)) ∙ none_tests e rest st

  not_plain : (ts : List Token) → begins_not ts ≡ false → not_in below ts ≡ tested (sum_in below) (sum_in below ts)
  not_plain (token.Word keyword.Not ∷ ts) h = absurd (false≢true (sym h))
  not_plain ts h = refl

  not_finds : Finds 2 0 limit (not_in below)
  not_finds (Not a) rest s m st = ap denied (negation a rest s (omega arith) st)
  not_finds e rest s m st =
      let tight = above_not e refl s in
      not_plain (print e ++ rest) (not_first e rest tight) ∙ test_finds e rest tight m (stops_more 2 3 rest (omega arith) st)

  pub whole_finds : Finds 0 0 limit (whole_in below)
  whole_finds = chain_finds precedence.Or (chain_in precedence.And (not_in below)) limit (chain_finds precedence.And (not_in below) limit not_finds)

-- ---- all levels

deeper_finds : (level limit : ℕ) (p : Parser) → Finds level 0 limit p → Finds level 1 (suc limit) p
deeper_finds level limit p finds e rest s m st = finds e rest s (omega arith) st

none_left : (level : ℕ) (p : Parser) → Finds level 1 0 p
none_left level p e rest s m st = absurd (omega arith)

mutual
  unfolding below

  whole_found : (left : ℕ) → Finds 0 1 left (below left nest.Whole)
  whole_found zero = none_left 0 (below 0 nest.Whole)
  whole_found (suc left) = deeper_finds 0 left (whole_in (below left)) (whole_finds left (below left) (whole_found left) (negation_found left) (sign_found left))

  negation_found : (left : ℕ) → Finds 2 1 left (below left nest.Negation)
  negation_found zero = none_left 2 (below 0 nest.Negation)
  negation_found (suc left) = deeper_finds 2 left (not_in (below left)) (not_finds left (below left) (whole_found left) (negation_found left) (sign_found left))

  sign_found : (left : ℕ) → Finds 6 1 left (below left nest.Sign)
  sign_found zero = none_left 6 (below 0 nest.Sign)
  sign_found (suc left) = deeper_finds 6 left (unary_in (below left)) (unary_finds left (below left) (whole_found left) (negation_found left) (sign_found left))

-- each tree of the grammar is read
pub tree_found : (left : ℕ) → Finds 0 0 left (whole_in (below left))
tree_found left = whole_finds left (below left) (whole_found left) (negation_found left) (sign_found left)
