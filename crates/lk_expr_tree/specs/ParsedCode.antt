-- What was read, without the addresses of boxes and slices.
use Rattle.std.proofs.Common.{List, Option, Some, None, Bor}
use Rattle.lk_expr_tree.specs.declared.expr.RawExpr.{RawExpr}
use Rattle.lk_expr_tree.specs.declared.expr.RawArgs.{RawArgs}
use Rattle.lk_expr_tree.specs.declared.expr.RawBranches.{RawBranches}
use Rattle.lk_expr_token.specs.declared.token.Token.{Token}
use Rattle.lk_expr_tree.specs.RawCode.{tree_of, args_of, branches_of}
use Rattle.lk_expr_tree.specs.Growing.{Parsed, ParsedArgs, ParsedBranches, Branch}

abbrev pub parsed : Option (RawExpr × Bor (List Token)) → Parsed
parsed None = None
parsed (Some (a, rest)) = Some (tree_of a, rest.now)

abbrev pub parsed_args : Option (RawArgs × Bor (List Token)) → ParsedArgs
parsed_args None = None
parsed_args (Some (args, rest)) = Some (args_of args, rest.now)

abbrev pub parsed_branches : Option (RawBranches × Bor (List Token)) → ParsedBranches
parsed_branches None = None
parsed_branches (Some (branches, rest)) = Some (branches_of branches, rest.now)

abbrev pub parsed_branch : Option (RawExpr × RawExpr × Bor (List Token)) → Option Branch
parsed_branch None = None
parsed_branch (Some (c, a, rest)) = Some (tree_of c, (tree_of a, rest.now))
