use Rattle.std.proofs.Common.{◌≡◌, ◌++◌, drop, take}
use Rattle.lk_filter_text.specs.TextReading.{before_comma}
use Rattle.lk_filter_text.proofs.reading.before_comma.Given as goal

-- no token so far is a comma
abbrev pub invariant-loop-token : goal.invariant-loop-token
invariant-loop-token l = record {
  all : l.count ≡ l.token-index;
  rest : take l.token-index l.tokens ++ before_comma (drop l.token-index l.tokens) ≡ before_comma l.tokens;
}
