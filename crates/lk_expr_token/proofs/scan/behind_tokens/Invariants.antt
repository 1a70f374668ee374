use Rattle.std.proofs.Common.{◌≡◌, length, drop}
use Rattle.lk_expr_token.specs.TokenFronts.{behind_tokens}
use Rattle.lk_expr_token.proofs.scan.behind_tokens.Given as goal

-- what is left is in the same way behind the tokens that are left
abbrev pub invariant-loop-terminal : goal.invariant-loop-terminal
invariant-loop-terminal l = behind_tokens (length l.text) (drop l._terminal-index l.terminals) l.rest ≡ behind_tokens (length l.text) l.terminals l.text
