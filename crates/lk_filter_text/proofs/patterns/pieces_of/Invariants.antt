use Rattle.std.proofs.Common.{◌≡◌, ◌++◌, drop}
use Rattle.lk_filter_text.specs.Texts.{pieces_of}
use Rattle.lk_filter_text.proofs.patterns.pieces_of.Given as goal

-- the pieces so far, and those of the tokens that are left, are all pieces
abbrev pub invariant-loop-token : goal.invariant-loop-token
invariant-loop-token l = l.pieces ++ pieces_of (drop l.token-index l.tokens) ≡ pieces_of l.tokens
