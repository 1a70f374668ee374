use Rattle.std.proofs.Common.{◌≡◌, List, IfOk, option_map, subst}
use Rattle.lk_expr_token.specs.declared.token.Token.{Token}
use Rattle.lk_expr_tree.specs.RawCode.{tree_of}
use Rattle.lk_expr_text.specs.Parsing.{tree_in}
use Rattle.lk_expr_text.proofs.ReadLaws.{result_found, result_every}
use Rattle.lk_expr_text.proofs.reading.parse_expr.Goals as goal

pub returns-in-Some-clause-found : goal.returns-in-Some-clause-found
returns-in-Some-clause-found c =
    result_found c.args.text.now c.in-Some.tokens c.parse_all.result
    (subst (λ (z : List Token). IfOk c.parse_all.result (λ found. option_map tree_of found ≡ tree_in z)) c.as_slice.ensures c.parse_all.ensures)
    (rw c.in-Some.is at c.in_ok-tokens.ensures.spelled)

pub returns-in-Some-clause-every : goal.returns-in-Some-clause-every
returns-in-Some-clause-every c =
    result_every c.args.text.now c.in-Some.tokens c.parse_all.result
    (subst (λ (z : List Token). IfOk c.parse_all.result (λ found. option_map tree_of found ≡ tree_in z)) c.as_slice.ensures c.parse_all.ensures)
    (rw c.in-Some.is at c.in_ok-tokens.ensures.every)
