-- One level of nesting more, and one link of a chain more.
use Rattle.std.proofs.Common.{◌≡◌, ℕ, zero, suc, ◌+◌, ◌-◌, ◌<◌, ◌≤◌, false, nat_eq, List, [], ◌∷◌, length, drop, drop-cons, add-one, Some, None, refl, sym, arith}
use Rattle.std.specs.Prelude.{slice_index_or}
use Rattle.std.proofs.lemmas.Bool.{false≢true}
use Rattle.std.proofs.lemmas.List.{drop_all}
use Rattle.lk_expr_token.specs.declared.token.Token.{Token}
use Rattle.lk_expr_text.specs.declared.parser.Nest.{Nest}
use Rattle.lk_expr_token.specs.declared.token.Sign.TheVariants as sign
use Rattle.lk_expr_token.specs.declared.token.Token.TheVariants as token
use Rattle.lk_expr_text.specs.declared.parser.Precedence.{Precedence}
use Rattle.lk_expr_tree.specs.declared.raw.Joint.{Joint}
use Rattle.lk_expr_tree.specs.Grammar.{Args, Branches, Tree}
use Rattle.lk_expr_tree.specs.Growing.{Parsed, ParsedArgs, ParsedBranches, joined}
use Rattle.lk_expr_text.specs.Parsing.{Parser, after_comma, after_when, behind_first, below, links, more_args, more_branches, nested_in, next_joint}

pub below_none : (n : Nest) (ts : List Token) → below 0 n ts ≡ None
unfolding below
below_none n ts = refl

pub below_more : (left : ℕ) (n : Nest) (ts : List Token) → nat_eq left 0 ≡ false → below left n ts ≡ nested_in (below (left - 1)) n ts
unfolding below
below_more zero n ts h = absurd (false≢true (sym h))
below_more (suc left) n ts h = let e : suc left - 1 ≡ left = omega arith in rw e refl

pub link_step : (p : Precedence) (operand : Parser) (fuel : List Token) (i : ℕ) (a : Tree) (rest : List Token) (j : Joint) (all : Parsed) → i < length fuel → next_joint p rest ≡ Some j → links p operand (drop i fuel) (Some (a, rest)) ≡ all → links p operand (drop (i + 1) fuel) (joined j a (operand (behind_first rest))) ≡ all
link_step p operand fuel i a rest j all fits joins h =
    let one = drop-cons fuel i (token.Sign sign.Comma) fits in
    rw add-one (rw (one, joins) at h)

-- ---- where a chain ends

module _ (fuel : List Token) (i : ℕ) where
  one_more : i < length fuel → drop i fuel ≡ slice_index_or fuel i (token.Sign sign.Comma) ∷ drop (suc i) fuel
  one_more fits = drop-cons fuel i (token.Sign sign.Comma) fits

  pub link_end : (p : Precedence) (operand : Parser) (a : Tree) (rest : List Token) (all : Parsed) → i < length fuel → next_joint p rest ≡ None → links p operand (drop i fuel) (Some (a, rest)) ≡ all → Some (a, rest) ≡ all
  link_end p operand a rest all fits none h = rw (one_more fits, none) at h

  pub args_end : (operand : Parser) (args : Args) (rest : List Token) (all : ParsedArgs) → i < length fuel → after_comma rest ≡ None → more_args operand (drop i fuel) (Some (args, rest)) ≡ all → Some (args, rest) ≡ all
  args_end operand args rest all fits none h = rw (one_more fits, none) at h

  pub branches_end : (operand : Parser) (branches : Branches) (rest : List Token) (all : ParsedBranches) → i < length fuel → after_when rest ≡ None → more_branches operand (drop i fuel) (Some (branches, rest)) ≡ all → Some (branches, rest) ≡ all
  branches_end operand branches rest all fits none h = rw (one_more fits, none) at h

  pub no_fuel : length fuel ≤ i → drop i fuel ≡ []
  no_fuel past = drop_all i fuel past

pub links_out : (p : Precedence) (operand : Parser) (fuel : List Token) (found all : Parsed) → fuel ≡ [] → links p operand fuel found ≡ all → None ≡ all
links_out p operand fuel None all none h = h
links_out p operand fuel (Some (a, rest)) all none h = rw none at h

pub args_out : (operand : Parser) (fuel : List Token) (found all : ParsedArgs) → fuel ≡ [] → more_args operand fuel found ≡ all → None ≡ all
args_out operand fuel None all none h = h
args_out operand fuel (Some (args, rest)) all none h = rw none at h

pub branches_out : (operand : Parser) (fuel : List Token) (found all : ParsedBranches) → fuel ≡ [] → more_branches operand fuel found ≡ all → None ≡ all
branches_out operand fuel None all none h = h
branches_out operand fuel (Some (branches, rest)) all none h = rw none at h
