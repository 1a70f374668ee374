use Rattle.std.proofs.Common.{◌≡◌, ◌+◌, drop}
use Rattle.lk_filter_date.specs.DateTexts.{date_count}
use Rattle.lk_filter_date.proofs.literal.date_count.Given as goal

-- all before go on with a literal, and those that come next are counted with them
abbrev pub invariant-loop-byte : goal.invariant-loop-byte
invariant-loop-byte l = record {
  all : l.count ≡ l.byte-index;
  rest : l.count + date_count (drop l.byte-index l.text) ≡ date_count l.text;
}
