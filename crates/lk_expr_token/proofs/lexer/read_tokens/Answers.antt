use Rattle.std.proofs.Common.{length}
use Rattle.lk_expr_token.proofs.TextLaws.{result_spelled, result_every}
use Rattle.lk_expr_token.proofs.lexer.read_tokens.Goals as goal

pub returns-clause-spelled : goal.returns-clause-spelled
returns-clause-spelled c = result_spelled (length c.args.text.now) c.args.text.now c.tokens_of.result c.tokens_of.ensures

pub returns-clause-every : goal.returns-clause-every
returns-clause-every c = result_every (length c.args.text.now) c.args.text.now c.tokens_of.result c.tokens_of.ensures
