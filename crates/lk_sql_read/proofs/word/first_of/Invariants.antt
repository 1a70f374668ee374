use Rattle.std.proofs.Common.{◌≡◌, drop}
use Rattle.lk_sql_read.specs.Words.{first_of}
use Rattle.lk_sql_read.proofs.word.first_of.Given as goal

abbrev pub invariant-loop-word : goal.invariant-loop-word
invariant-loop-word l = first_of (drop l.word-index l.words) l.text ≡ first_of l.words l.text
