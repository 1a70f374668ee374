use Rattle.std.proofs.Common.{length, arith}
use Rattle.lk_expr_token.proofs.FrontTokens.{some_tokens, terminals_spelled, behind_spelled}
use Rattle.lk_expr_token.proofs.scan.terminals_are_those_of_tokens.Goals as goal

pub returns : goal.returns
returns c = record {
  some = λ text. some_tokens (length text) (length text) text (omega arith);
  terminals = λ text ts spelled. terminals_spelled (length text) text text ts (omega arith) spelled;
  behind = λ text rest ts terminals same no_space spelled. behind_spelled (length text) text rest ts terminals same no_space spelled;
}
