use Rattle.std.proofs.Common.{◌≡◌, ◌+◌, drop}
use Rattle.lk_expr_token.specs.Lexing.{name_length}
use Rattle.lk_expr_token.proofs.lexer.name_length.Given as goal

abbrev pub invariant-loop-byte : goal.invariant-loop-byte
invariant-loop-byte l = record {
  few : l.count ≡ l.byte-index;
  rest : l.count + name_length (drop l.byte-index l.text) ≡ name_length l.text;
}
