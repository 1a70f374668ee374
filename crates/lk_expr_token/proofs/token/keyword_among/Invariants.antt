use Rattle.std.proofs.Common.{◌≡◌, drop}
use Rattle.lk_expr_token.specs.Tokens.{keyword_among}
use Rattle.lk_expr_token.proofs.token.keyword_among.Given as goal

abbrev pub invariant-loop-keyword : goal.invariant-loop-keyword
invariant-loop-keyword l = keyword_among (drop l.keyword-index l.keywords) l.letters ≡ keyword_among l.keywords l.letters
