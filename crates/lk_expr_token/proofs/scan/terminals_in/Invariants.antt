use Rattle.std.proofs.Common.{◌≡◌, ◌++◌, length, drop}
use Rattle.lk_expr_token.specs.TokenFronts.{terminals_from, terminals_in}
use Rattle.lk_expr_token.proofs.scan.terminals_in.Given as goal

-- the terminals so far, and those of what is left
abbrev pub invariant-loop-byte : goal.invariant-loop-byte
invariant-loop-byte l = l.terminals.items ++ terminals_from (length l.text) (drop l._byte-index l.text) l.rest ≡ terminals_in l.text
