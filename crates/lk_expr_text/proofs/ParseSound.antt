-- What is read of tokens is a tree of the grammar, and the tokens are those of the tree.
use Rattle.std.proofs.Common.{◌≡◌, ℕ, zero, suc, ◌+◌, ◌≤◌, Bool, true, false, ◌&&◌, List, [], ◌∷◌, ◌++◌, Option, Some, None, refl, sym, ap, subst, ◌∙◌, append_assoc, arith}
use Rattle.std.specs.Prelude.{nat_le, max}
use Rattle.std.proofs.lemmas.Bool.Decides.{nat_tests}
use Rattle.std.proofs.lemmas.Option.{some_pair_parts, same_Some}
use Rattle.lk_types.specs.declared.expr.Comparison.{Comparison}
use Rattle.lk_expr_token.specs.declared.token.Keyword.TheVariants as keyword
use Rattle.lk_expr_token.specs.declared.token.Sign.TheVariants as sign
use Rattle.lk_expr_token.specs.declared.token.Token.{Token}
use Rattle.lk_expr_token.specs.declared.token.Token.TheVariants as token
use Rattle.lk_expr_tree.specs.declared.raw.Joint.{Joint}
use Rattle.lk_expr_tree.specs.declared.raw.Joint.TheVariants as joint
use Rattle.lk_expr_text.specs.declared.parser.Precedence.{Precedence}
use Rattle.lk_expr_text.specs.declared.parser.Precedence.TheVariants as precedence
use Rattle.lk_expr_text.specs.declared.parser.Nest.TheVariants as nest
use Rattle.lk_expr_tree.specs.Grammar.{Tree, Number, Text, Name, Column, Field, FieldOf, Truth, Null, Group, Call, Case, CaseElse, Negate, Chain, Compare, IsNull, In, Between, Like, Not, Args, one, more, Branches, when, then_when, joint_token, negated, print, print_args, print_branches, chain_level, level_of, stands, is_built, are_built, are_branches_built, nests, nests_args, nests_branches}
use Rattle.lk_expr_tree.specs.Growing.{Parsed, ParsedArgs, ParsedBranches, Branch, joined, first_arg, next_arg, valued, first_branch, next_branch, grouped, called, ended_else, leaf, with_sign, denied, compared, null_test, listed, upto, liked}
use Rattle.lk_expr_text.specs.Parsing.{Parser, Below, joint_of, next_joint, behind_first, go_on, links, chain_in, after_comma, go_on_args, more_args, args_in, then_value, branch_in, after_when, go_on_branches, more_branches, branches_in, named, case_end, atom_in, unary_in, sum_in, bounded, list_in, choice_in, test_of, tested, not_in, whole_in, below}
use Rattle.lk_expr_token.proofs.LexSteps.{together, no_some}

-- ---- trees that stand at a level

-- the tree binds at least as tightly as the level, and is built of parts that do
abbrev pub Stands : ℕ → Tree → Type 0
Stands level e = stands level e (is_built e) ≡ true

weaker_test : (m n k : ℕ) (b : Bool) → m ≤ n → nat_le n k && b ≡ true → nat_le m k && b ≡ true
weaker_test m n k b h p = grind (arith, nat_tests)

pub weaker : (m n : ℕ) (e : Tree) → m ≤ n → Stands n e → Stands m e
weaker m n e h p = weaker_test m n (level_of e) (is_built e) h p

pub max_deeper : (d a b n : ℕ) → d + a ≤ n → d + b ≤ n → d + max a b ≤ n
max_deeper d a b n p q = omega arith

-- ---- what is read

-- the tokens are those of a tree that stands at the level, and the rest; so many levels and what nests in it are within the limit
pub record IsRead (level deeper limit : ℕ) (e : Tree) (rest ts : List Token) : Type 0 where
  pub printed : ts ≡ print e ++ rest
  pub stood : Stands level e
  pub shallow : deeper + nests e ≤ limit

-- all that the parser reads is so
abbrev pub Reads : ℕ → ℕ → ℕ → Parser → Type 0
Reads level deeper limit parser = (ts : List Token) (e : Tree) (rest : List Token) → parser ts ≡ Some (e, rest) → IsRead level deeper limit e rest ts

-- what is found is read of the tokens
abbrev IsFound : ℕ → ℕ → ℕ → Parsed → List Token → Type 0
IsFound level deeper limit found ts = (e : Tree) (rest : List Token) → found ≡ Some (e, rest) → IsRead level deeper limit e rest ts

read_as : {level deeper limit : ℕ} {ts : List Token} (d e : Tree) (r rest : List Token) → ◌≡◌ {A = Parsed} (Some (d, r)) (Some (e, rest)) → IsRead level deeper limit d r ts → IsRead level deeper limit e rest ts
read_as {level} {deeper} {limit} {ts} d e r rest h is =
    let parts = some_pair_parts d e r rest h in
    subst (λ z. IsRead level deeper limit z rest ts) parts.0 (subst (λ z. IsRead level deeper limit d z ts) parts.1 is)

-- ---- chains

abbrev pub level_at : Precedence → ℕ
level_at precedence.Or = 0
level_at precedence.And = 1
level_at precedence.Sum = 4
level_at precedence.Term = 5

pub record IsJoint (p : Precedence) (j : Joint) (ts : List Token) : Type 0 where
  pub token : ts ≡ joint_token j ∷ behind_first ts
  pub level : chain_level j ≡ level_at p

joint_is : (p : Precedence) (t : Token) (ts : List Token) (j : Joint) → joint_of p t ≡ Some j → IsJoint p j (t ∷ ts)
joint_is precedence.Or (token.Word keyword.Or) ts j h = subst (λ z. IsJoint precedence.Or z (token.Word keyword.Or ∷ ts)) (same_Some joint.Or j h) (record { token = refl; level = refl })
joint_is precedence.And (token.Word keyword.And) ts j h = subst (λ z. IsJoint precedence.And z (token.Word keyword.And ∷ ts)) (same_Some joint.And j h) (record { token = refl; level = refl })
joint_is precedence.Sum (token.Sign sign.Plus) ts j h = subst (λ z. IsJoint precedence.Sum z (token.Sign sign.Plus ∷ ts)) (same_Some joint.Plus j h) (record { token = refl; level = refl })
joint_is precedence.Sum (token.Sign sign.Minus) ts j h = subst (λ z. IsJoint precedence.Sum z (token.Sign sign.Minus ∷ ts)) (same_Some joint.Minus j h) (record { token = refl; level = refl })
joint_is precedence.Sum (token.Sign sign.Concat) ts j h = subst (λ z. IsJoint precedence.Sum z (token.Sign sign.Concat ∷ ts)) (same_Some joint.Concat j h) (record { token = refl; level = refl })
joint_is precedence.Term (token.Sign sign.Times) ts j h = subst (λ z. IsJoint precedence.Term z (token.Sign sign.Times ∷ ts)) (same_Some joint.Times j h) (record { token = refl; level = refl })
joint_is precedence.Term (token.Sign sign.Over) ts j h = subst (λ z. IsJoint precedence.Term z (token.Sign sign.Over ∷ ts)) (same_Some joint.Over j h) (record { token = refl; level = refl })
joint_is p t ts j h = absurd (no_some j h)

next_joint_is : (p : Precedence) (ts : List Token) (j : Joint) → next_joint p ts ≡ Some j → IsJoint p j ts
next_joint_is p [] j h = absurd (no_some j h)
next_joint_is p (t ∷ ts) j h = joint_is p t ts j h

le_refl : (n : ℕ) → nat_le n n ≡ true
le_refl n = grind (arith, nat_tests)

module _ (p : Precedence) (operand : Parser) (limit : ℕ) (reads : Reads (suc (level_at p)) 0 limit operand) where
  -- one link more
  linked : (j : Joint) (a : Tree) (r ts : List Token) → IsJoint p j r → IsRead (level_at p) 0 limit a r ts → (found : Parsed) → IsFound (suc (level_at p)) 0 limit found (behind_first r) → IsFound (level_at p) 0 limit (joined j a found) ts
  linked j a r ts is left None right e rest h = absurd (no_some (e, rest) h)
  linked j a r ts is left (Some (b, behind)) right e rest h =
      let more = right b behind refl in
      read_as (Chain j a b) e behind rest h
      (record {
        printed = left.printed ∙ ap (λ z. print a ++ z) (is.token ∙ ap (λ z. joint_token j ∷ z) more.printed) ∙ sym (append_assoc (print a) (joint_token j ∷ print b) behind);
        stood =
            subst (λ z. nat_le z (chain_level j) && (nat_le (chain_level j) (level_of a) && is_built a && (nat_le (suc (chain_level j)) (level_of b) && is_built b)) ≡ true) is.level
            (together (nat_le (chain_level j) (chain_level j)) _ (le_refl (chain_level j))
            (together _ _ (subst (λ z. Stands z a) (sym is.level) left.stood) (subst (λ z. Stands (suc z) b) (sym is.level) more.stood)));
        shallow = max_deeper 0 (nests a) (nests b) limit left.shallow more.shallow;
      })

  links_read : (fuel ts : List Token) (found : Parsed) → IsFound (level_at p) 0 limit found ts → IsFound (level_at p) 0 limit (links p operand fuel found) ts
  links_read fuel ts None is e rest h = absurd (no_some (e, rest) h)
  links_read [] ts (Some found) is e rest h = absurd (no_some (e, rest) h)
  links_read (f ∷ fuel) ts (Some (a, r)) is e rest h =
      elim (next_joint p r) as (λ o. next_joint p r ≡ o → go_on (links p operand fuel) operand a r o ≡ Some (e, rest) → IsRead (level_at p) 0 limit e rest ts) [
        | None ↦ λ _ h. read_as a e r rest h (is a r refl)
        | Some j ↦ λ same h.
            links_read fuel ts (joined j a (operand (behind_first r)))
            (linked j a r ts (next_joint_is p r j same) (is a r refl) (operand (behind_first r)) (λ b behind found. reads (behind_first r) b behind found)) e rest h
      ] refl h

  pub chain_reads : Reads (level_at p) 0 limit (chain_in p operand)
  chain_reads ts e rest h = links_read ts ts (operand ts) (λ a r found. let is = reads ts a r found in record { printed = is.printed; stood = weaker (level_at p) (suc (level_at p)) a (omega arith) is.stood; shallow = is.shallow }) e rest h

-- ---- arguments

pub record IsReadArgs (level deeper limit : ℕ) (args : Args) (rest ts : List Token) : Type 0 where
  pub printed : ts ≡ print_args args ++ rest
  pub built : are_built level args ≡ true
  pub shallow : deeper + nests_args args ≤ limit

abbrev IsFoundArgs : ℕ → ℕ → ℕ → ParsedArgs → List Token → Type 0
IsFoundArgs level deeper limit found ts = (args : Args) (rest : List Token) → found ≡ Some (args, rest) → IsReadArgs level deeper limit args rest ts

args_as : {level deeper limit : ℕ} {ts : List Token} (d e : Args) (r rest : List Token) → ◌≡◌ {A = ParsedArgs} (Some (d, r)) (Some (e, rest)) → IsReadArgs level deeper limit d r ts → IsReadArgs level deeper limit e rest ts
args_as {level} {deeper} {limit} {ts} d e r rest h is =
    let parts = some_pair_parts d e r rest h in
    subst (λ z. IsReadArgs level deeper limit z rest ts) parts.0 (subst (λ z. IsReadArgs level deeper limit d z ts) parts.1 is)

after_comma_is : (ts behind : List Token) → after_comma ts ≡ Some behind → ts ≡ token.Sign sign.Comma ∷ behind
after_comma_is (token.Sign sign.Comma ∷ rest) behind h = ap (λ z. token.Sign sign.Comma ∷ z) (same_Some rest behind h)
after_comma_is ts behind h = absurd (no_some behind h)

-- what is read is within the limit, with so many levels that are open round it
module _ (level deeper limit : ℕ) (operand : Parser) (reads : Reads level deeper limit operand) where
  next_arg_is : (args : Args) (r behind ts : List Token) → r ≡ token.Sign sign.Comma ∷ behind → IsReadArgs level deeper limit args r ts → (found : Parsed) → IsFound level deeper limit found behind → IsFoundArgs level deeper limit (next_arg args found) ts
  next_arg_is args r behind ts comma left None right e rest h = absurd (no_some (e, rest) h)
  next_arg_is args r behind ts comma left (Some (a, further)) right e rest h =
      let is = right a further refl in
      args_as (more args a) e further rest h
      (record {
        printed = left.printed ∙ ap (λ z. print_args args ++ z) (comma ∙ ap (λ z. token.Sign sign.Comma ∷ z) is.printed) ∙ sym (append_assoc (print_args args) (token.Sign sign.Comma ∷ print a) further);
        built = together (are_built level args) _ left.built is.stood;
        shallow = max_deeper deeper (nests_args args) (nests a) limit left.shallow is.shallow;
      })

  more_args_read : (fuel ts : List Token) (found : ParsedArgs) → IsFoundArgs level deeper limit found ts → IsFoundArgs level deeper limit (more_args operand fuel found) ts
  more_args_read fuel ts None is e rest h = absurd (no_some (e, rest) h)
  more_args_read [] ts (Some found) is e rest h = absurd (no_some (e, rest) h)
  more_args_read (f ∷ fuel) ts (Some (args, r)) is e rest h =
      elim (after_comma r) as (λ o. after_comma r ≡ o → go_on_args (more_args operand fuel) operand args r o ≡ Some (e, rest) → IsReadArgs level deeper limit e rest ts) [
        | None ↦ λ _ h. args_as args e r rest h (is args r refl)
        | Some behind ↦ λ same h.
            more_args_read fuel ts (next_arg args (operand behind))
            (next_arg_is args r behind ts (after_comma_is r behind same) (is args r refl) (operand behind) (λ a further found. reads behind a further found)) e rest h
      ] refl h

  first_arg_is : (found : Parsed) (ts : List Token) → IsFound level deeper limit found ts → IsFoundArgs level deeper limit (first_arg found) ts
  first_arg_is None ts is e rest h = absurd (no_some (e, rest) h)
  first_arg_is (Some (a, r)) ts is e rest h =
      let read = is a r refl in
      args_as (one a) e r rest h (record { printed = read.printed; built = read.stood; shallow = read.shallow })

  pub args_read : (ts : List Token) → IsFoundArgs level deeper limit (args_in operand ts) ts
  args_read ts = more_args_read ts ts (first_arg (operand ts)) (first_arg_is (operand ts) ts (λ a r found. reads ts a r found))

-- ---- branches

pub record IsReadBranches (deeper limit : ℕ) (branches : Branches) (rest ts : List Token) : Type 0 where
  pub printed : ts ≡ print_branches branches ++ rest
  pub built : are_branches_built branches ≡ true
  pub shallow : deeper + nests_branches branches ≤ limit

abbrev IsFoundBranches : ℕ → ℕ → ParsedBranches → List Token → Type 0
IsFoundBranches deeper limit found ts = (branches : Branches) (rest : List Token) → found ≡ Some (branches, rest) → IsReadBranches deeper limit branches rest ts

branches_as : {deeper limit : ℕ} {ts : List Token} (d e : Branches) (r rest : List Token) → ◌≡◌ {A = ParsedBranches} (Some (d, r)) (Some (e, rest)) → IsReadBranches deeper limit d r ts → IsReadBranches deeper limit e rest ts
branches_as {deeper} {limit} {ts} d e r rest h is =
    let parts = some_pair_parts d e r rest h in
    subst (λ z. IsReadBranches deeper limit z rest ts) parts.0 (subst (λ z. IsReadBranches deeper limit d z ts) parts.1 is)

-- a condition and its value, behind WHEN
pub record IsReadBranch (deeper limit : ℕ) (branch : Branch) (ts : List Token) : Type 0 where
  pub printed : ts ≡ print branch.0 ++ token.Word keyword.Then ∷ (print branch.1.0 ++ branch.1.1)
  pub condition : Stands 0 branch.0
  pub value : Stands 0 branch.1.0
  pub shallow : deeper + nests branch.0 ≤ limit
  pub as_shallow : deeper + nests branch.1.0 ≤ limit

after_when_is : (ts behind : List Token) → after_when ts ≡ Some behind → ts ≡ token.Word keyword.When ∷ behind
after_when_is (token.Word keyword.When ∷ rest) behind h = ap (λ z. token.Word keyword.When ∷ z) (same_Some rest behind h)
after_when_is ts behind h = absurd (no_some behind h)

module _ (deeper limit : ℕ) (operand : Parser) (reads : Reads 0 deeper limit operand) where
  valued_is : (c : Tree) (behind ts : List Token) → IsRead 0 deeper limit c (token.Word keyword.Then ∷ behind) ts → (found : Parsed) → IsFound 0 deeper limit found behind → (branch : Branch) → valued c found ≡ Some branch → IsReadBranch deeper limit branch ts
  valued_is c behind ts left None right branch h = absurd (no_some branch h)
  valued_is c behind ts left (Some (a, rest)) right branch h =
      let is = right a rest refl in
      subst (λ z. IsReadBranch deeper limit z ts) (same_Some (c, (a, rest)) branch h)
      (record {
        printed = left.printed ∙ ap (λ z. print c ++ token.Word keyword.Then ∷ z) is.printed;
        condition = left.stood;
        value = is.stood;
        shallow = left.shallow;
        as_shallow = is.shallow;
      })

  then_is : (found : Parsed) (ts : List Token) → IsFound 0 deeper limit found ts → (branch : Branch) → then_value operand found ≡ Some branch → IsReadBranch deeper limit branch ts
  then_is (Some (c, token.Word keyword.Then ∷ behind)) ts is branch h = valued_is c behind ts (is c (token.Word keyword.Then ∷ behind) refl) (operand behind) (λ a r found. reads behind a r found) branch h
  then_is found ts is branch h = absurd (no_some branch h)

  branch_is : (ts : List Token) (branch : Branch) → branch_in operand ts ≡ Some branch → IsReadBranch deeper limit branch ts
  branch_is ts branch h = then_is (operand ts) ts (λ a r found. reads ts a r found) branch h

  first_is : (behind ts : List Token) → ts ≡ token.Word keyword.When ∷ behind → (found : Option Branch) → ((branch : Branch) → found ≡ Some branch → IsReadBranch deeper limit branch behind) → IsFoundBranches deeper limit (first_branch found) ts
  first_is behind ts same None is e rest h = absurd (no_some (e, rest) h)
  first_is behind ts same (Some (c, (a, r))) is e rest h =
      let read = is (c, (a, r)) refl in
      branches_as (when c a) e r rest h
      (record {
        printed = same ∙ ap (λ z. token.Word keyword.When ∷ z) (read.printed ∙ sym (append_assoc (print c) (token.Word keyword.Then ∷ print a) r));
        built = together _ _ read.condition read.value;
        shallow = max_deeper deeper (nests c) (nests a) limit read.shallow read.as_shallow;
      })

  next_is : (branches : Branches) (r behind ts : List Token) → r ≡ token.Word keyword.When ∷ behind → IsReadBranches deeper limit branches r ts → (found : Option Branch) → ((branch : Branch) → found ≡ Some branch → IsReadBranch deeper limit branch behind) → IsFoundBranches deeper limit (next_branch branches found) ts
  next_is branches r behind ts same left None is e rest h = absurd (no_some (e, rest) h)
  next_is branches r behind ts same left (Some (c, (a, further))) is e rest h =
      let read = is (c, (a, further)) refl in
      branches_as (then_when branches c a) e further rest h
      (record {
        printed = left.printed
            ∙ ap (λ z. print_branches branches ++ z) (same ∙ ap (λ z. token.Word keyword.When ∷ z) (read.printed ∙ sym (append_assoc (print c) (token.Word keyword.Then ∷ print a) further)))
            ∙ sym (append_assoc (print_branches branches) (token.Word keyword.When ∷ (print c ++ token.Word keyword.Then ∷ print a)) further);
        built = together (are_branches_built branches) _ left.built (together _ _ read.condition read.value);
        shallow = max_deeper deeper (nests_branches branches) (max (nests c) (nests a)) limit left.shallow (max_deeper deeper (nests c) (nests a) limit read.shallow read.as_shallow);
      })

  more_branches_read : (fuel ts : List Token) (found : ParsedBranches) → IsFoundBranches deeper limit found ts → IsFoundBranches deeper limit (more_branches operand fuel found) ts
  more_branches_read fuel ts None is e rest h = absurd (no_some (e, rest) h)
  more_branches_read [] ts (Some found) is e rest h = absurd (no_some (e, rest) h)
  more_branches_read (f ∷ fuel) ts (Some (branches, r)) is e rest h =
      elim (after_when r) as (λ o. after_when r ≡ o → go_on_branches (more_branches operand fuel) operand branches r o ≡ Some (e, rest) → IsReadBranches deeper limit e rest ts) [
        | None ↦ λ _ h. branches_as branches e r rest h (is branches r refl)
        | Some behind ↦ λ same h.
            more_branches_read fuel ts (next_branch branches (branch_in operand behind))
            (next_is branches r behind ts (after_when_is r behind same) (is branches r refl) (branch_in operand behind) (λ branch found. branch_is behind branch found)) e rest h
      ] refl h

  branches_read : (ts : List Token) → IsFoundBranches deeper limit (branches_in operand ts) ts
  branches_read (token.Word keyword.When ∷ behind) e rest h =
      more_branches_read behind (token.Word keyword.When ∷ behind) (first_branch (branch_in operand behind))
      (first_is behind (token.Word keyword.When ∷ behind) refl (branch_in operand behind) (λ branch found. branch_is behind branch found)) e rest h
  branches_read ts e rest h = absurd (no_some (e, rest) h)

-- ---- one level, where what stands deeper is read so

module _ (limit : ℕ) (below : Below) (whole : Reads 0 1 limit (below nest.Whole)) (negation : Reads 2 1 limit (below nest.Negation)) (sign_reads : Reads 6 1 limit (below nest.Sign)) where
  grouped_is : (found : Parsed) (ts : List Token) → IsFound 0 1 limit found ts → IsFound 7 0 limit (grouped found) (token.Sign sign.Open ∷ ts)
  grouped_is (Some (a, token.Sign sign.Close ∷ behind)) ts is e rest h =
      let read = is a (token.Sign sign.Close ∷ behind) refl in
      read_as (Group a) e behind rest h
      (record {
        printed = ap (λ z. token.Sign sign.Open ∷ z) (read.printed ∙ sym (append_assoc (print a) (token.Sign sign.Close ∷ []) behind));
        stood = read.stood;
        shallow = (let s = read.shallow in omega arith);
      })
  grouped_is found ts is e rest h = absurd (no_some (e, rest) h)

  called_is : (name : List ℕ) (place : ℕ) (found : ParsedArgs) (ts : List Token) → IsFoundArgs 0 1 limit found ts → IsFound 7 0 limit (called name place found) (token.Name name place ∷ token.Sign sign.Open ∷ ts)
  called_is name place (Some (args, token.Sign sign.Close ∷ behind)) ts is e rest h =
      let read = is args (token.Sign sign.Close ∷ behind) refl in
      read_as (Call name place args) e behind rest h
      (record {
        printed = ap (λ z. token.Name name place ∷ token.Sign sign.Open ∷ z) (read.printed ∙ sym (append_assoc (print_args args) (token.Sign sign.Close ∷ []) behind));
        stood = read.built;
        shallow = (let s = read.shallow in omega arith);
      })
  called_is name place found ts is e rest h = absurd (no_some (e, rest) h)

  named_is : (name : List ℕ) (place : ℕ) (ts : List Token) → IsFound 7 0 limit (named (below nest.Whole) name place ts) (token.Name name place ∷ ts)
  named_is name place (token.Sign sign.Open ∷ behind) e rest h = called_is name place (args_in (below nest.Whole) behind) behind (args_read 0 1 limit (below nest.Whole) whole behind) e rest h
  named_is name place ts e rest h = read_as (Name name place) e ts rest h (record { printed = refl; stood = refl; shallow = omega arith })

  else_is : (branches : Branches) (r behind ts : List Token) → r ≡ token.Word keyword.Else ∷ behind → IsReadBranches 1 limit branches r ts → (found : Parsed) → IsFound 0 1 limit found behind → IsFound 7 0 limit (ended_else branches found) (token.Word keyword.Case ∷ ts)
  else_is branches r behind ts same left (Some (a, token.Word keyword.End ∷ further)) is e rest h =
      let read = is a (token.Word keyword.End ∷ further) refl in
      let inside : behind ≡ (print a ++ token.Word keyword.End ∷ []) ++ further = read.printed ∙ sym (append_assoc (print a) (token.Word keyword.End ∷ []) further) in
      read_as (CaseElse branches a) e further rest h
      (record {
        printed = ap (λ z. token.Word keyword.Case ∷ z) (left.printed ∙ ap (λ z. print_branches branches ++ z) (same ∙ ap (λ z. token.Word keyword.Else ∷ z) inside)
            ∙ sym (append_assoc (print_branches branches) (token.Word keyword.Else ∷ (print a ++ token.Word keyword.End ∷ [])) further));
        stood = together (are_branches_built branches) _ left.built read.stood;
        shallow = (let s = max_deeper 1 (nests_branches branches) (nests a) limit left.shallow read.shallow in omega arith);
      })
  else_is branches r behind ts same left found is e rest h = absurd (no_some (e, rest) h)

  case_is : (found : ParsedBranches) (ts : List Token) → IsFoundBranches 1 limit found ts → IsFound 7 0 limit (case_end (below nest.Whole) found) (token.Word keyword.Case ∷ ts)
  case_is (Some (branches, token.Word keyword.End ∷ behind)) ts is e rest h =
      let read = is branches (token.Word keyword.End ∷ behind) refl in
      read_as (Case branches) e behind rest h
      (record {
        printed = ap (λ z. token.Word keyword.Case ∷ z) (read.printed ∙ sym (append_assoc (print_branches branches) (token.Word keyword.End ∷ []) behind));
        stood = read.built;
        shallow = (let s = read.shallow in omega arith);
      })
  case_is (Some (branches, token.Word keyword.Else ∷ behind)) ts is e rest h =
      else_is branches (token.Word keyword.Else ∷ behind) behind ts refl (is branches (token.Word keyword.Else ∷ behind) refl) (below nest.Whole behind) (λ a r found. whole behind a r found) e rest h
  case_is found ts is e rest h = absurd (no_some (e, rest) h)

  leaf_is : (t : Token) (ts : List Token) → IsFound 7 0 limit (leaf t ts) (t ∷ ts)
  leaf_is (token.Number n) ts e rest h = read_as (Number n) e ts rest h (record { printed = refl; stood = refl; shallow = omega arith })
  leaf_is (token.Text n) ts e rest h = read_as (Text n) e ts rest h (record { printed = refl; stood = refl; shallow = omega arith })
  leaf_is (token.Column n) ts e rest h = read_as (Column n) e ts rest h (record { printed = refl; stood = refl; shallow = omega arith })
  leaf_is (token.Field n) ts e rest h = read_as (Field n) e ts rest h (record { printed = refl; stood = refl; shallow = omega arith })
  leaf_is (token.FieldOf v n) ts e rest h = read_as (FieldOf v n) e ts rest h (record { printed = refl; stood = refl; shallow = omega arith })
  leaf_is (token.Word keyword.True) ts e rest h = read_as (Truth true) e ts rest h (record { printed = refl; stood = refl; shallow = omega arith })
  leaf_is (token.Word keyword.False) ts e rest h = read_as (Truth false) e ts rest h (record { printed = refl; stood = refl; shallow = omega arith })
  leaf_is (token.Word keyword.Null) ts e rest h = read_as Null e ts rest h (record { printed = refl; stood = refl; shallow = omega arith })
  leaf_is t ts e rest h = absurd (no_some (e, rest) h)

  atom_reads : Reads 7 0 limit (atom_in (below nest.Whole))
  atom_reads [] e rest h = absurd (no_some (e, rest) h)
  atom_reads (token.Name name place ∷ ts) e rest h = named_is name place ts e rest h
  atom_reads (token.Word keyword.Case ∷ ts) e rest h = case_is (branches_in (below nest.Whole) ts) ts (branches_read 1 limit (below nest.Whole) whole ts) e rest h
  atom_reads (token.Sign sign.Open ∷ ts) e rest h = grouped_is (below nest.Whole ts) ts (λ a r found. whole ts a r found) e rest h
  atom_reads (t ∷ ts) e rest h = leaf_is t ts e rest h

  sign_is : (found : Parsed) (ts : List Token) → IsFound 6 1 limit found ts → IsFound 6 0 limit (with_sign found) (token.Sign sign.Minus ∷ ts)
  sign_is None ts is e rest h = absurd (no_some (e, rest) h)
  sign_is (Some (a, r)) ts is e rest h =
      let read = is a r refl in
      read_as (Negate a) e r rest h (record { printed = ap (λ z. token.Sign sign.Minus ∷ z) read.printed; stood = read.stood; shallow = (let s = read.shallow in omega arith) })

  looser : (level : ℕ) (n : ℕ) (found : Parsed) (ts : List Token) → level ≤ n → IsFound n 0 limit found ts → IsFound level 0 limit found ts
  looser level n found ts less is e rest h = let read = is e rest h in record { printed = read.printed; stood = weaker level n e less read.stood; shallow = read.shallow }

  pub unary_reads : Reads 6 0 limit (unary_in below)
  unary_reads (token.Sign sign.Minus ∷ ts) e rest h = sign_is (below nest.Sign ts) ts (λ a r found. sign_reads ts a r found) e rest h
  unary_reads ts e rest h = looser 6 7 (atom_in (below nest.Whole) ts) ts (omega arith) (λ a r found. atom_reads ts a r found) e rest h

  pub sum_reads : Reads 4 0 limit (sum_in below)
  sum_reads = chain_reads precedence.Sum (chain_in precedence.Term (unary_in below)) limit (chain_reads precedence.Term (unary_in below) limit unary_reads)

  -- ---- tests

  compared_is : (c : Comparison) (a : Tree) (behind ts : List Token) → IsRead 4 0 limit a (token.Compare c ∷ behind) ts → (found : Parsed) → IsFound 4 0 limit found behind → IsFound 3 0 limit (compared c a found) ts
  compared_is c a behind ts left None is e rest h = absurd (no_some (e, rest) h)
  compared_is c a behind ts left (Some (b, r)) is e rest h =
      let read = is b r refl in
      read_as (Compare c a b) e r rest h
      (record {
        printed = left.printed ∙ ap (λ z. print a ++ token.Compare c ∷ z) read.printed ∙ sym (append_assoc (print a) (token.Compare c ∷ print b) r);
        stood = together _ _ left.stood read.stood;
        shallow = max_deeper 0 (nests a) (nests b) limit left.shallow read.shallow;
      })

  null_is : (a : Tree) (r ts : List Token) → IsRead 4 0 limit a (token.Word keyword.Is ∷ r) ts → IsFound 3 0 limit (null_test a r) ts
  null_is a (token.Word keyword.Null ∷ r) ts left e rest h =
      read_as (IsNull false a) e r rest h
      (record { printed = left.printed ∙ sym (append_assoc (print a) (token.Word keyword.Is ∷ token.Word keyword.Null ∷ []) r); stood = left.stood; shallow = left.shallow })
  null_is a (token.Word keyword.Not ∷ token.Word keyword.Null ∷ r) ts left e rest h =
      read_as (IsNull true a) e r rest h
      (record { printed = left.printed ∙ sym (append_assoc (print a) (token.Word keyword.Is ∷ token.Word keyword.Not ∷ token.Word keyword.Null ∷ []) r); stood = left.stood; shallow = left.shallow })
  null_is a r ts left e rest h = absurd (no_some (e, rest) h)

  negated_append : (n : Bool) (us vs : List Token) → negated n (us ++ vs) ≡ negated n us ++ vs
  negated_append true us vs = refl
  negated_append false us vs = refl

  -- what is behind an expression, with NOT before it where it stands
  behind_is : (a : Tree) (n : Bool) (us r ts : List Token) → ts ≡ print a ++ negated n (us ++ r) → ts ≡ (print a ++ negated n us) ++ r
  behind_is a n us r ts h = h ∙ ap (λ z. print a ++ z) (negated_append n us r) ∙ sym (append_assoc (print a) (negated n us) r)

  listed_is : (n : Bool) (a : Tree) (behind ts : List Token) → IsRead 4 0 limit a (negated n (token.Word keyword.In ∷ token.Sign sign.Open ∷ behind)) ts → (found : ParsedArgs) → IsFoundArgs 4 0 limit found behind → IsFound 3 0 limit (listed n a found) ts
  listed_is n a behind ts left (Some (args, token.Sign sign.Close ∷ r)) is e rest h =
      let read = is args (token.Sign sign.Close ∷ r) refl in
      let inside : behind ≡ (print_args args ++ token.Sign sign.Close ∷ []) ++ r = read.printed ∙ sym (append_assoc (print_args args) (token.Sign sign.Close ∷ []) r) in
      read_as (In n a args) e r rest h
      (record {
        printed = behind_is a n (token.Word keyword.In ∷ token.Sign sign.Open ∷ (print_args args ++ token.Sign sign.Close ∷ [])) r ts (left.printed ∙ ap (λ z. print a ++ negated n (token.Word keyword.In ∷ token.Sign sign.Open ∷ z)) inside);
        stood = together _ _ left.stood read.built;
        shallow = max_deeper 0 (nests a) (nests_args args) limit left.shallow read.shallow;
      })
  listed_is n a behind ts left found is e rest h = absurd (no_some (e, rest) h)

  upto_is : (n : Bool) (a low : Tree) (upper ts : List Token) → IsRead 4 0 limit a (negated n (token.Word keyword.Between ∷ (print low ++ token.Word keyword.And ∷ upper))) ts → Stands 4 low → 0 + nests low ≤ limit → (found : Parsed) → IsFound 4 0 limit found upper → IsFound 3 0 limit (upto n a low found) ts
  upto_is n a low upper ts left stood shallow None is e rest h = absurd (no_some (e, rest) h)
  upto_is n a low upper ts left stood shallow (Some (high, r)) is e rest h =
      let read = is high r refl in
      let inside : print low ++ token.Word keyword.And ∷ upper ≡ (print low ++ token.Word keyword.And ∷ print high) ++ r = ap (λ z. print low ++ token.Word keyword.And ∷ z) read.printed ∙ sym (append_assoc (print low) (token.Word keyword.And ∷ print high) r) in
      read_as (Between n a low high) e r rest h
      (record {
        printed = behind_is a n (token.Word keyword.Between ∷ (print low ++ token.Word keyword.And ∷ print high)) r ts (left.printed ∙ ap (λ z. print a ++ negated n (token.Word keyword.Between ∷ z)) inside);
        stood = together _ _ left.stood (together _ _ stood read.stood);
        shallow = max_deeper 0 (nests a) (max (nests low) (nests high)) limit left.shallow (max_deeper 0 (nests low) (nests high) limit shallow read.shallow);
      })

  bounded_is : (n : Bool) (a : Tree) (behind ts : List Token) → IsRead 4 0 limit a (negated n (token.Word keyword.Between ∷ behind)) ts → (found : Parsed) → IsFound 4 0 limit found behind → IsFound 3 0 limit (bounded (sum_in below) n a found) ts
  bounded_is n a behind ts left (Some (low, token.Word keyword.And ∷ upper)) is e rest h =
      let read = is low (token.Word keyword.And ∷ upper) refl in
      upto_is n a low upper ts (subst (λ z. IsRead 4 0 limit a (negated n (token.Word keyword.Between ∷ z)) ts) read.printed left) read.stood read.shallow (sum_in below upper) (λ b r found. sum_reads upper b r found) e rest h
  bounded_is n a behind ts left found is e rest h = absurd (no_some (e, rest) h)

  liked_is : (n : Bool) (a : Tree) (behind ts : List Token) → IsRead 4 0 limit a (negated n (token.Word keyword.Like ∷ behind)) ts → IsFound 3 0 limit (liked n a behind) ts
  liked_is n a (token.Text text ∷ r) ts left e rest h =
      read_as (Like n a text) e r rest h
      (record { printed = behind_is a n (token.Word keyword.Like ∷ token.Text text ∷ []) r ts left.printed; stood = left.stood; shallow = left.shallow })
  liked_is n a behind ts left e rest h = absurd (no_some (e, rest) h)

  list_is : (n : Bool) (a : Tree) (behind ts : List Token) → IsRead 4 0 limit a (negated n (token.Word keyword.In ∷ behind)) ts → IsFound 3 0 limit (list_in (sum_in below) n a behind) ts
  list_is n a (token.Sign sign.Open ∷ inside) ts left e rest h = listed_is n a inside ts left (args_in (sum_in below) inside) (args_read 4 0 limit (sum_in below) sum_reads inside) e rest h
  list_is n a behind ts left e rest h = absurd (no_some (e, rest) h)

  choice_is : (n : Bool) (a : Tree) (r ts : List Token) → IsRead 4 0 limit a (negated n r) ts → IsFound 3 0 limit (choice_in (sum_in below) n a r) ts
  choice_is n a (token.Word keyword.In ∷ behind) ts left e rest h = list_is n a behind ts left e rest h
  choice_is n a (token.Word keyword.Between ∷ behind) ts left e rest h = bounded_is n a behind ts left (sum_in below behind) (λ b r found. sum_reads behind b r found) e rest h
  choice_is n a (token.Word keyword.Like ∷ behind) ts left e rest h = liked_is n a behind ts left e rest h
  choice_is n a r ts left e rest h = absurd (no_some (e, rest) h)

  test_is : (a : Tree) (r ts : List Token) → IsRead 4 0 limit a r ts → IsFound 3 0 limit (test_of (sum_in below) a r) ts
  test_is a (token.Compare c ∷ behind) ts left e rest h = compared_is c a behind ts left (sum_in below behind) (λ b r found. sum_reads behind b r found) e rest h
  test_is a (token.Word keyword.Is ∷ behind) ts left e rest h = null_is a behind ts left e rest h
  test_is a (token.Word keyword.Not ∷ behind) ts left e rest h = choice_is true a behind ts left e rest h
  test_is a (token.Word keyword.In ∷ behind) ts left e rest h = choice_is false a (token.Word keyword.In ∷ behind) ts left e rest h
  test_is a (token.Word keyword.Between ∷ behind) ts left e rest h = choice_is false a (token.Word keyword.Between ∷ behind) ts left e rest h
  test_is a (token.Word keyword.Like ∷ behind) ts left e rest h = choice_is false a (token.Word keyword.Like ∷ behind) ts left e rest h
  test_is a r ts left e rest h = looser 3 4 (Some (a, r)) ts (omega arith) (λ b q found. read_as a b r q found left) e rest h

  tested_is : (found : Parsed) (ts : List Token) → IsFound 4 0 limit found ts → IsFound 3 0 limit (tested (sum_in below) found) ts
  tested_is None ts is e rest h = absurd (no_some (e, rest) h)
  tested_is (Some (a, r)) ts is e rest h = test_is a r ts (is a r refl) e rest h

  denied_is : (found : Parsed) (ts : List Token) → IsFound 2 1 limit found ts → IsFound 2 0 limit (denied found) (token.Word keyword.Not ∷ ts)
  denied_is None ts is e rest h = absurd (no_some (e, rest) h)
  denied_is (Some (a, r)) ts is e rest h =
      let read = is a r refl in
      read_as (Not a) e r rest h (record { printed = ap (λ z. token.Word keyword.Not ∷ z) read.printed; stood = read.stood; shallow = (let s = read.shallow in omega arith) })

  pub not_reads : Reads 2 0 limit (not_in below)
  not_reads (token.Word keyword.Not ∷ ts) e rest h = denied_is (below nest.Negation ts) ts (λ a r found. negation ts a r found) e rest h
  not_reads ts e rest h = looser 2 3 (tested (sum_in below) (sum_in below ts)) ts (omega arith) (tested_is (sum_in below ts) ts (λ a r found. sum_reads ts a r found)) e rest h

  pub whole_reads : Reads 0 0 limit (whole_in below)
  whole_reads = chain_reads precedence.Or (chain_in precedence.And (not_in below)) limit (chain_reads precedence.And (not_in below) limit not_reads)

-- ---- all levels

deeper_of : (level limit : ℕ) (p : Parser) → Reads level 0 limit p → Reads level 1 (suc limit) p
deeper_of level limit p reads ts e rest h = let read = reads ts e rest h in record { printed = read.printed; stood = read.stood; shallow = (let s = read.shallow in omega arith) }

no_reads : (level limit : ℕ) (p : Parser) → ((ts : List Token) → p ts ≡ None) → Reads level 1 limit p
no_reads level limit p none ts e rest h = absurd (no_some (e, rest) (sym (none ts) ∙ h))

mutual
  unfolding below

  whole_below : (left : ℕ) → Reads 0 1 left (below left nest.Whole)
  whole_below zero = no_reads 0 0 (below 0 nest.Whole) (λ ts. refl)
  whole_below (suc left) = deeper_of 0 left (whole_in (below left)) (whole_reads left (below left) (whole_below left) (negation_below left) (sign_below left))

  negation_below : (left : ℕ) → Reads 2 1 left (below left nest.Negation)
  negation_below zero = no_reads 2 0 (below 0 nest.Negation) (λ ts. refl)
  negation_below (suc left) = deeper_of 2 left (not_in (below left)) (not_reads left (below left) (whole_below left) (negation_below left) (sign_below left))

  sign_below : (left : ℕ) → Reads 6 1 left (below left nest.Sign)
  sign_below zero = no_reads 6 0 (below 0 nest.Sign) (λ ts. refl)
  sign_below (suc left) = deeper_of 6 left (unary_in (below left)) (unary_reads left (below left) (whole_below left) (negation_below left) (sign_below left))

-- all that is read is a tree of the grammar
pub tree_read : (left : ℕ) → Reads 0 0 left (whole_in (below left))
tree_read left = whole_reads left (below left) (whole_below left) (negation_below left) (sign_below left)
