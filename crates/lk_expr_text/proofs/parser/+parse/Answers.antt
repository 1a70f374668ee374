use Rattle.std.proofs.Common.{◌<◌, ◌∙◌, drop, length, sym, arith}
use Rattle.lk_expr_tree.specs.RawCode.{args_of, branches_of, tree_of}
use Rattle.lk_expr_tree.specs.ParsedCode.{parsed, parsed_args, parsed_branches}
use Rattle.lk_expr_text.specs.Parsing.{args_in, below, branches_in, chain_in, item_in, operand_in}
use Rattle.lk_expr_text.specs.declared.parser.Nest.TheVariants as nest
use Rattle.lk_expr_text.proofs.ParseSteps.{args_end, args_out, branches_end, branches_out, link_end, link_step, links_out, no_fuel}
use Rattle.lk_expr_text.proofs.parser.+parse.Goals as goal

pub parse_chain-loop-used-preserved : goal.parse_chain-loop-used-preserved
parse_chain-loop-used-preserved t c =
    let fits : c.loop-used._used-index < length c.args.tokens.now = omega arith in
    let step = link_step c.args.precedence (operand_in (below c.args.left) c.args.precedence) c.args.tokens.now c.loop-used._used-index (tree_of c.in-Some.tree) c.in-Some.rest.now c.in-Some-next_joint.joint _ fits (sym c.in-Some-next_joint.ensures) (rw c.in-Some.is at c.loop-used.invariant) in
    rw c.in_ok-found-2.ensures (rw c.in_ok-operand.ensures (rw c.behind_first.ensures step))

pub parse_atom-returns-in-Some : goal.parse_atom-returns-in-Some
parse_atom-returns-in-Some t c = grind arith

pub parse_bounds-returns-in_default-split_first : goal.parse_bounds-returns-in_default-split_first
parse_bounds-returns-in_default-split_first t c = grind arith

pub parse_branch-returns-in_default-split_first : goal.parse_branch-returns-in_default-split_first
parse_branch-returns-in_default-split_first t c = grind arith

pub parse_case-returns-in_default-split_first : goal.parse_case-returns-in_default-split_first
parse_case-returns-in_default-split_first t c = grind arith

pub parse_choice-returns-in_default : goal.parse_choice-returns-in_default
parse_choice-returns-in_default t c = grind arith

pub parse_choice-returns-in_default-split_first : goal.parse_choice-returns-in_default-split_first
parse_choice-returns-in_default-split_first t c = grind arith

pub parse_named-returns-in_default : goal.parse_named-returns-in_default
parse_named-returns-in_default t c = grind arith

pub parse_test-returns-in_default : goal.parse_test-returns-in_default
parse_test-returns-in_default t c = grind arith

pub parse_unary-returns-in_default : goal.parse_unary-returns-in_default
parse_unary-returns-in_default t c = grind arith

pub parse_chain-returns-in_default-next_joint : goal.parse_chain-returns-in_default-next_joint
parse_chain-returns-in_default-next_joint t c =
    let p = c.args.precedence in
    let operand = operand_in (below c.args.left) p in
    let tokens = c.args.tokens.now in
    link_end tokens c.loop-used._used-index p operand (tree_of c.in-Some.tree) c.in-Some.rest.now (chain_in p operand tokens) c.loop-used-test.true (sym c.next_joint.ensures ∙ c.in_default-next_joint.is) (rw c.in-Some.is at c.loop-used.invariant)

pub parse_chain-returns : goal.parse_chain-returns
parse_chain-returns t c =
    let p = c.args.precedence in
    let operand = operand_in (below c.args.left) p in
    let tokens = c.args.tokens.now in
    let i = c.loop-used._used-index in
    links_out p operand (drop i tokens) (parsed c.loop-used.found) (chain_in p operand tokens) (no_fuel tokens i c.loop-used-test.false) c.loop-used.invariant

pub parse_args-returns-in_default-after_comma : goal.parse_args-returns-in_default-after_comma
parse_args-returns-in_default-after_comma t c =
    let operand = item_in (below c.args.left) c.args.item in
    let tokens = c.args.tokens.now in
    args_end tokens c.loop-used._used-index operand (args_of c.in-Some.args) c.in-Some.rest.now (args_in operand tokens) c.loop-used-test.true (sym c.in_default-after_comma.ensures) (rw c.in-Some.is at c.loop-used.invariant)

pub parse_args-returns : goal.parse_args-returns
parse_args-returns t c =
    let operand = item_in (below c.args.left) c.args.item in
    let tokens = c.args.tokens.now in
    let i = c.loop-used._used-index in
    args_out operand (drop i tokens) (parsed_args c.loop-used.found) (args_in operand tokens) (no_fuel tokens i c.loop-used-test.false) c.loop-used.invariant

pub parse_branches-returns-in_default-after_when : goal.parse_branches-returns-in_default-after_when
parse_branches-returns-in_default-after_when t c =
    let operand = below c.args.left nest.Whole in
    let inside = c.in-Some.inside.now in
    branches_end inside c.loop-used._used-index operand (branches_of c.in-Some-found.branches) c.in-Some-found.rest.now (branches_in operand c.args.tokens.now) c.loop-used-test.true (sym c.in_default-after_when.ensures) (rw c.in-Some-found.is at c.loop-used.invariant)

pub parse_branches-returns : goal.parse_branches-returns
parse_branches-returns t c =
    let operand = below c.args.left nest.Whole in
    let inside = c.in-Some.inside.now in
    let i = c.loop-used._used-index in
    branches_out operand (drop i inside) (parsed_branches c.loop-used.found) (branches_in operand c.args.tokens.now) (no_fuel inside i c.loop-used-test.false) c.loop-used.invariant
