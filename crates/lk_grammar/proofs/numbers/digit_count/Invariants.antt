use Rattle.std.proofs.Common.{◌≡◌, ◌+◌, drop}
use Rattle.lk_grammar.specs.Numbers.{digit_count}
use Rattle.lk_grammar.proofs.numbers.digit_count.Given as goal

-- all before are digits, and those that come next are counted with them
abbrev pub invariant-loop-byte : goal.invariant-loop-byte
invariant-loop-byte l = record {
  all : l.count ≡ l.byte-index;
  rest : l.count + digit_count (drop l.byte-index l.text) ≡ digit_count l.text;
}
