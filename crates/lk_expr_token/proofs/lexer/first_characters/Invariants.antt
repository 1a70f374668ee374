use Rattle.std.proofs.Common.{◌≡◌, length}
use Rattle.lk_expr_token.specs.Lexing.{first_characters, with_bytes}
use Rattle.lk_expr_token.proofs.lexer.first_characters.Given as goal

abbrev pub invariant-loop-byte : goal.invariant-loop-byte
invariant-loop-byte l = with_bytes l.characters.items (first_characters l.rest) ≡ first_characters l.text

abbrev pub decreases-loop-byte : goal.decreases-loop-byte
decreases-loop-byte l = length l.rest
