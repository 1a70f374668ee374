use Rattle.std.proofs.Common.{◌≡◌, length}
use Rattle.lk_expr_token.specs.TokenFronts.{behind_spaces}
use Rattle.lk_expr_token.proofs.scan.behind_spaces.Given as goal

-- only spaces were left out
abbrev pub invariant-loop-byte : goal.invariant-loop-byte
invariant-loop-byte l = behind_spaces l.rest ≡ behind_spaces l.text

abbrev pub decreases-loop-byte : goal.decreases-loop-byte
decreases-loop-byte l = length l.rest
