-- Trees of tokens in both grammars: what chains, arguments, brackets and signs print, and what is made of it.
use Rattle.std.proofs.Common.{◌≡◌, inl, ℕ, suc, ◌+◌, ◌≤◌, Bool, true, ◌&&◌, List, [], ◌∷◌, ◌++◌, refl, sym, ap, subst, ◌∙◌, arith}
use Rattle.std.specs.Prelude.{nat_le, max}
use Rattle.std.specs.List.{AllByRecursion}
use Rattle.std.proofs.lemmas.Bool.Decides.{nat_tests}
use Rattle.lk_grammar.specs.Forms.{Form, seq}
use Rattle.lk_expr_token.specs.declared.token.Sign.TheVariants as sign
use Rattle.lk_expr_token.specs.declared.token.Token.{Token}
use Rattle.lk_expr_token.specs.declared.token.Token.TheVariants as token
use Rattle.lk_expr_token.specs.declared.terminal.Terminal.{Terminal}
use Rattle.lk_expr_token.specs.declared.terminal.Terminal.TheVariants as terminal
use Rattle.lk_expr_tree.specs.declared.raw.Joint.{Joint}
use Rattle.lk_expr_tree.specs.declared.raw.Joint.TheVariants as joint
use Rattle.lk_expr_tree.specs.Grammar.{Tree, Group, Call, Negate, Chain, Args, one, more, joint_token, print, print_args, chain_level, level_of, is_built, are_built, nests, nests_args}
use Rattle.lk_expr_tree.specs.Calls.{is_arithmetic, is_measure, are_measures}
use Rattle.lk_expr_token.proofs.LexSteps.{both, together}
use Rattle.lk_expr_text.proofs.ParseSound.{Stands, weaker, max_deeper}
use Rattle.lk_expr_place.specs.declared.judging.Grammar.{Grammar}
use Rattle.lk_expr_place.specs.declared.judging.Grammar.TheVariants.{Expressions, Measures}
use Rattle.lk_expr_place.specs.GrammarForms.{mark, one_of, chained, listed, bracketed}
use Rattle.lk_expr_place.proofs.TerminalBytes.{IsLike}
use Rattle.lk_expr_place.proofs.TerminalTokens.{IsTokens, folded, seq_split, one_is, mark_led, in_brackets, seq_joined, mark_there, begun, one_more}

-- ---- what a grammar says of a tree beyond where its parts stand

abbrev pub is_meant : Grammar → Tree → Bool
is_meant Expressions e = true
is_meant Measures e = is_measure e

abbrev pub are_meant : Grammar → Args → Bool
are_meant Expressions args = true
are_meant Measures args = are_measures args

abbrev pub may_join : Grammar → Joint → Bool
may_join Expressions j = true
may_join Measures j = is_arithmetic j

chain_meant : (g : Grammar) (j : Joint) (a b : Tree) → may_join g j ≡ true → is_meant g a ≡ true → is_meant g b ≡ true → is_meant g (Chain j a b) ≡ true
chain_meant Expressions j a b h k l = refl
chain_meant Measures j a b h k l = together (is_arithmetic j) _ h (together (is_measure a) _ k l)

group_meant : (g : Grammar) (a : Tree) → is_meant g a ≡ true → is_meant g (Group a) ≡ true
group_meant Expressions a h = refl
group_meant Measures a h = h

minus_meant : (g : Grammar) (a : Tree) → is_meant g a ≡ true → is_meant g (Negate a) ≡ true
minus_meant Expressions a h = refl
minus_meant Measures a h = h

one_meant : (g : Grammar) (a : Tree) → is_meant g a ≡ true → are_meant g (one a) ≡ true
one_meant Expressions a h = refl
one_meant Measures a h = h

more_meant : (g : Grammar) (args : Args) (a : Tree) → are_meant g args ≡ true → is_meant g a ≡ true → are_meant g (more args a) ≡ true
more_meant Expressions args a h k = refl
more_meant Measures args a h k = together (are_measures args) _ h k

meant_one : (g : Grammar) (a : Tree) → are_meant g (one a) ≡ true → is_meant g a ≡ true
meant_one Expressions a h = refl
meant_one Measures a h = h

meant_more : (g : Grammar) (args : Args) (a : Tree) → are_meant g (more args a) ≡ true → (are_meant g args ≡ true) × (is_meant g a ≡ true)
meant_more Expressions args a h = (refl, refl)
meant_more Measures args a h = both (are_measures args) (is_measure a) h

-- ---- trees that are made

-- a tree that prints the tokens and stands at the level; so many levels and what nests in it are within the limit
pub record IsMade (g : Grammar) (level deeper limit : ℕ) (ts : List Token) : Type 0 where
  pub tree : Tree
  pub stood : Stands level tree
  pub shallow : deeper + nests tree ≤ limit
  pub meant : is_meant g tree ≡ true
  pub printed : ts ≡ print tree

pub record AreMade (g : Grammar) (level deeper limit : ℕ) (ts : List Token) : Type 0 where
  pub args : Args
  pub built : are_built level args ≡ true
  pub shallow : deeper + nests_args args ≤ limit
  pub meant : are_meant g args ≡ true
  pub printed : ts ≡ print_args args

-- what joins a chain of the level
pub record IsJoint (g : Grammar) (level : ℕ) (ts : List Token) : Type 0 where
  pub joint : Joint
  pub binds : chain_level joint ≡ level
  pub may : may_join g joint ≡ true
  pub printed : ts ≡ joint_token joint ∷ []

-- of each list of tokens of the form a tree is made
abbrev pub Makes : (ℕ → List ℕ → Type 0) → Grammar → ℕ → ℕ → ℕ → Form → Type 0
Makes Rule g level deeper limit form = (ts : List Token) → IsTokens Rule form ts → IsMade g level deeper limit ts

-- each tree prints tokens of the form
abbrev pub Prints : (ℕ → List ℕ → Type 0) → Grammar → ℕ → ℕ → ℕ → Form → Type 0
Prints Rule g level deeper limit form = (e : Tree) → Stands level e → deeper + nests e ≤ limit → is_meant g e ≡ true → IsTokens Rule form (print e)

pub looser : (g : Grammar) (m n deeper limit : ℕ) (ts : List Token) → m ≤ n → IsMade g n deeper limit ts → IsMade g m deeper limit ts
looser g m n deeper limit ts less h =
    record { tree = h.tree; stood = weaker m n h.tree less h.stood; shallow = h.shallow; meant = h.meant; printed = h.printed }

pub opened : (g : Grammar) (level limit : ℕ) (ts : List Token) → IsMade g level 0 limit ts → IsMade g level 1 (suc limit) ts
opened g level limit ts h =
    record { tree = h.tree; stood = h.stood; shallow = (let s = h.shallow in omega arith); meant = h.meant; printed = h.printed }

le_itself : (n : ℕ) → nat_le n n ≡ true
le_itself n = grind (arith, nat_tests)

zero_le : (n : ℕ) → nat_le 0 n ≡ true
zero_le n = grind (arith, nat_tests)

-- a tree that is built stands anywhere as a whole
pub stands_whole : (e : Tree) → is_built e ≡ true → Stands 0 e
stands_whole e h = together (nat_le 0 (level_of e)) (is_built e) (zero_le (level_of e)) h

pub built_whole : (level : ℕ) (e : Tree) → Stands level e → is_built e ≡ true
built_whole level e h = (both (nat_le level (level_of e)) (is_built e) h).1

-- tokens in front, and tokens behind
pub front_back : (us vs xs ys : List Token) → us ≡ xs → vs ≡ ys → us ++ vs ≡ xs ++ ys
front_back us vs xs ys p q = ap (λ z. z ++ vs) p ∙ ap (λ z. xs ++ z) q

pub left_max : (d a b n : ℕ) → d + max a b ≤ n → d + a ≤ n
left_max d a b n h = omega arith

pub right_max : (d a b n : ℕ) → d + max a b ≤ n → d + b ≤ n
right_max d a b n h = omega arith

-- a chain stands nowhere where a sign may
pub no_chain : (j : Joint) (n : ℕ) (b : Bool) → 6 ≤ n → nat_le n (chain_level j) && b ≡ true → ⊥
no_chain joint.Or n b h s = let z : (nat_le n 0 && b) ≡ true = s in absurd (grind (arith, nat_tests))
no_chain joint.And n b h s = let z : (nat_le n 1 && b) ≡ true = s in absurd (grind (arith, nat_tests))
no_chain joint.Plus n b h s = let z : (nat_le n 4 && b) ≡ true = s in absurd (grind (arith, nat_tests))
no_chain joint.Minus n b h s = let z : (nat_le n 4 && b) ≡ true = s in absurd (grind (arith, nat_tests))
no_chain joint.Concat n b h s = let z : (nat_le n 4 && b) ≡ true = s in absurd (grind (arith, nat_tests))
no_chain joint.Times n b h s = let z : (nat_le n 5 && b) ≡ true = s in absurd (grind (arith, nat_tests))
no_chain joint.Over n b h s = let z : (nat_le n 5 && b) ≡ true = s in absurd (grind (arith, nat_tests))

module _ (Rule : ℕ → List ℕ → Type 0) (g : Grammar) where
  -- ---- chains

  module _ (level limit : ℕ) (joints : List Terminal) (operand : Form) where
    linked : (us vs ws : List Token) → IsMade g level 0 limit us → IsJoint g level vs → IsMade g (suc level) 0 limit ws → IsMade g level 0 limit (us ++ (vs ++ ws))
    linked us vs ws a j b = record {
      tree = Chain j.joint a.tree b.tree;
      stood =
          subst (λ z. Stands z (Chain j.joint a.tree b.tree)) j.binds
          (together (nat_le (chain_level j.joint) (chain_level j.joint)) (is_built (Chain j.joint a.tree b.tree)) (le_itself (chain_level j.joint))
          (together _ _ (subst (λ z. Stands z a.tree) (sym j.binds) a.stood) (subst (λ z. Stands (suc z) b.tree) (sym j.binds) b.stood)));
      shallow = max_deeper 0 (nests a.tree) (nests b.tree) limit a.shallow b.shallow;
      meant = chain_meant g j.joint a.tree b.tree j.may a.meant b.meant;
      printed = front_back us (vs ++ ws) (print a.tree) (joint_token j.joint ∷ print b.tree) a.printed (front_back vs ws (joint_token j.joint ∷ []) (print b.tree) j.printed b.printed);
    }

    pub chain_made : AllByRecursion (λ k. (t : Token) → IsLike k t → IsJoint g level (t ∷ [])) joints → Makes Rule g (suc level) 0 limit operand → Makes Rule g level 0 limit (chained joints operand)
    chain_made joins makes ts h =
        folded Rule {Whole = IsMade g level 0 limit} operand (seq (one_of joints) operand)
        (λ us first. looser g level (suc level) 0 limit us (omega arith) (makes us first))
        (λ us vs whole link.
        let s = seq_split Rule (one_of joints) operand vs link in
        subst (λ z. IsMade g level 0 limit (us ++ z)) (sym s.joined)
        (linked us s.front s.back whole (one_is Rule (IsJoint g level) joints joins s.front s.first) (makes s.back s.second)))
        ts h

    pub chain_there : (us : List Token) (t : Token) (vs : List Token) → IsTokens Rule (chained joints operand) us → IsTokens Rule (one_of joints) (t ∷ []) → IsTokens Rule operand vs → IsTokens Rule (chained joints operand) (us ++ t ∷ vs)
    chain_there us t vs h j k = one_more Rule operand (seq (one_of joints) operand) us (t ∷ vs) h (seq_joined Rule (one_of joints) operand (t ∷ []) vs j k)

    pub chain_begun : (us : List Token) → IsTokens Rule operand us → IsTokens Rule (chained joints operand) us
    chain_begun us h = begun Rule operand (seq (one_of joints) operand) us h

  -- ---- arguments

  abbrev commas : List Terminal
  commas = terminal.Sign sign.Comma ∷ []

  module _ (level deeper limit : ℕ) (item : Form) where
    added : (us vs ws : List Token) → AreMade g level deeper limit us → vs ≡ token.Sign sign.Comma ∷ [] → IsMade g level deeper limit ws → AreMade g level deeper limit (us ++ (vs ++ ws))
    added us vs ws args comma a = record {
      args = more args.args a.tree;
      built = together (are_built level args.args) _ args.built a.stood;
      shallow = max_deeper deeper (nests_args args.args) (nests a.tree) limit args.shallow a.shallow;
      meant = more_meant g args.args a.tree args.meant a.meant;
      printed = front_back us (vs ++ ws) (print_args args.args) (token.Sign sign.Comma ∷ print a.tree) args.printed (front_back vs ws (token.Sign sign.Comma ∷ []) (print a.tree) comma a.printed);
    }

    pub args_made : Makes Rule g level deeper limit item → (ts : List Token) → IsTokens Rule (listed item) ts → AreMade g level deeper limit ts
    args_made makes ts h =
        folded Rule {Whole = AreMade g level deeper limit} item (seq (one_of commas) item)
        (λ us first. let a = makes us first in record { args = one a.tree; built = a.stood; shallow = a.shallow; meant = one_meant g a.tree a.meant; printed = a.printed })
        (λ us vs args link.
        let s = seq_split Rule (one_of commas) item vs link in
        subst (λ z. AreMade g level deeper limit (us ++ z)) (sym s.joined)
        (added us s.front s.back args (one_is Rule (λ z. z ≡ token.Sign sign.Comma ∷ []) commas ((λ t l. ap (λ z. z ∷ []) l), tt) s.front s.first) (makes s.back s.second)))
        ts h

    pub args_there : Prints Rule g level deeper limit item → (args : Args) → are_built level args ≡ true → deeper + nests_args args ≤ limit → are_meant g args ≡ true → IsTokens Rule (listed item) (print_args args)
    args_there prints (one a) s m e = chain_begun level limit commas item (print a) (prints a s m (meant_one g a e))
    args_there prints (more args a) s m e =
        let parts = both (are_built level args) _ s in
        let meant = meant_more g args a e in
        chain_there level limit commas item (print_args args) (token.Sign sign.Comma) (print a)
        (args_there prints args parts.0 (left_max deeper (nests_args args) (nests a) limit m) meant.0) (inl (mark_there Rule sign.Comma)) (prints a parts.1 (right_max deeper (nests_args args) (nests a) limit m) meant.1)

  -- ---- brackets, calls and signs

  module _ (limit : ℕ) where
    pub group_made : (level : ℕ) (inside : Form) → Makes Rule g level 1 limit inside → Makes Rule g 7 0 limit (bracketed inside)
    group_made level inside makes ts h =
        let b = in_brackets Rule inside ts h in
        let a = looser g 0 level 1 limit b.inside (omega arith) (makes b.inside b.within) in
        record {
          tree = Group a.tree;
          stood = a.stood;
          shallow = (let s = a.shallow in omega arith);
          meant = group_meant g a.tree a.meant;
          printed = b.joined ∙ ap (λ z. token.Sign sign.Open ∷ (z ++ token.Sign sign.Close ∷ [])) a.printed;
        }

    pub minus_made : (inside : Form) → Makes Rule g 6 1 limit inside → Makes Rule g 6 0 limit (seq (mark sign.Minus) inside)
    minus_made inside makes ts h =
        let l = mark_led Rule sign.Minus inside ts h in
        let a = makes l.rest l.behind in
        record {
          tree = Negate a.tree;
          stood = a.stood;
          shallow = (let s = a.shallow in omega arith);
          meant = minus_meant g a.tree a.meant;
          printed = l.joined ∙ ap (λ z. token.Sign sign.Minus ∷ z) a.printed;
        }

    pub call_made : (name : List ℕ) (place : ℕ) (item : Form) → Makes Rule g 0 1 limit item → ((args : Args) → are_meant g args ≡ true → is_meant g (Call name place args) ≡ true) → (ts : List Token) → IsTokens Rule (bracketed (listed item)) ts → IsMade g 7 0 limit (token.Name name place ∷ ts)
    call_made name place item makes meant ts h =
        let b = in_brackets Rule (listed item) ts h in
        let args = args_made 0 1 limit item makes b.inside b.within in
        record {
          tree = Call name place args.args;
          stood = args.built;
          shallow = (let s = args.shallow in omega arith);
          meant = meant args.args args.meant;
          printed = ap (λ z. token.Name name place ∷ z) (b.joined ∙ ap (λ z. token.Sign sign.Open ∷ (z ++ token.Sign sign.Close ∷ [])) args.printed);
        }
