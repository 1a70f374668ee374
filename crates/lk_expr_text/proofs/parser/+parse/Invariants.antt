use Rattle.std.proofs.Common.{◌≡◌, ℕ, ◌+◌, ◌*◌, drop}
use Rattle.lk_expr_text.specs.declared.parser.Precedence.{Precedence}
use Rattle.lk_expr_text.specs.declared.parser.Precedence.TheVariants as precedence
use Rattle.lk_expr_text.specs.declared.parser.Item.{Item}
use Rattle.lk_expr_text.specs.declared.parser.Item.TheVariants as item
use Rattle.lk_expr_text.specs.declared.parser.Nest.TheVariants as nest
use Rattle.lk_expr_tree.specs.ParsedCode.{parsed, parsed_args, parsed_branches}
use Rattle.lk_expr_text.specs.Parsing.{below, operand_in, item_in, links, more_args, more_branches, chain_in, args_in, branches_in}
use Rattle.lk_expr_text.proofs.parser.+parse.Given as goal

-- a call is below its caller where it has fewer levels left, or as many and joins what binds more tightly
abbrev pub chain_rank : Precedence → ℕ
chain_rank precedence.Term = 7
chain_rank precedence.Sum = 9
chain_rank precedence.And = 18
chain_rank precedence.Or = 20

abbrev pub operand_rank : Precedence → ℕ
operand_rank precedence.Term = 6
operand_rank precedence.Sum = 8
operand_rank precedence.And = 17
operand_rank precedence.Or = 19

abbrev pub item_rank : Item → ℕ
item_rank item.Whole = 1
item_rank item.Sum = 10

abbrev pub decreases-parse_below : goal.decreases-parse_below
decreases-parse_below l = 22 * l.left

abbrev pub decreases-parse_item : goal.decreases-parse_item
decreases-parse_item l = 22 * l.left + item_rank l.item

abbrev pub decreases-parse_args : goal.decreases-parse_args
decreases-parse_args l = 22 * l.left + item_rank l.item + 1

abbrev pub decreases-parse_branch : goal.decreases-parse_branch
decreases-parse_branch l = 22 * l.left + 1

abbrev pub decreases-parse_branches : goal.decreases-parse_branches
decreases-parse_branches l = 22 * l.left + 2

abbrev pub decreases-parse_case : goal.decreases-parse_case
decreases-parse_case l = 22 * l.left + 3

abbrev pub decreases-parse_named : goal.decreases-parse_named
decreases-parse_named l = 22 * l.left + 3

abbrev pub decreases-parse_atom : goal.decreases-parse_atom
decreases-parse_atom l = 22 * l.left + 4

abbrev pub decreases-parse_unary : goal.decreases-parse_unary
decreases-parse_unary l = 22 * l.left + 5

abbrev pub decreases-parse_chain : goal.decreases-parse_chain
decreases-parse_chain l = 22 * l.left + chain_rank l.precedence

abbrev pub decreases-parse_operand : goal.decreases-parse_operand
decreases-parse_operand l = 22 * l.left + operand_rank l.precedence

abbrev pub decreases-parse_bounds : goal.decreases-parse_bounds
decreases-parse_bounds l = 22 * l.left + 12

abbrev pub decreases-parse_choice : goal.decreases-parse_choice
decreases-parse_choice l = 22 * l.left + 13

abbrev pub decreases-parse_test : goal.decreases-parse_test
decreases-parse_test l = 22 * l.left + 14

abbrev pub decreases-parse_tested : goal.decreases-parse_tested
decreases-parse_tested l = 22 * l.left + 15

abbrev pub decreases-parse_not : goal.decreases-parse_not
decreases-parse_not l = 22 * l.left + 16

-- the chain goes on from what is found as from the first
abbrev pub invariant-parse_chain-loop-used : goal.invariant-parse_chain-loop-used
invariant-parse_chain-loop-used l =
    links l.precedence (operand_in (below l.left) l.precedence) (drop l._used-index l.tokens) (parsed l.found)
    ≡ chain_in l.precedence (operand_in (below l.left) l.precedence) l.tokens

abbrev pub invariant-parse_args-loop-used : goal.invariant-parse_args-loop-used
invariant-parse_args-loop-used l =
    more_args (item_in (below l.left) l.item) (drop l._used-index l.tokens) (parsed_args l.found)
    ≡ args_in (item_in (below l.left) l.item) l.tokens

abbrev pub invariant-parse_branches-loop-used : goal.invariant-parse_branches-loop-used
invariant-parse_branches-loop-used l =
    more_branches (below l.left nest.Whole) (drop l._used-index l.inside) (parsed_branches l.found)
    ≡ branches_in (below l.left nest.Whole) l.tokens
