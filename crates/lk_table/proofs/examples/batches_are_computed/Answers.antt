use Rattle.std.proofs.Common.{refl}
use Rattle.std.specs.Str.{is_utf8, chars}
use Rattle.lk_table.proofs.examples.batches_are_computed.Goals as goal

pub returns-clause-named_twice : goal.returns-clause-named_twice
unfolding is_utf8 chars lib.Utf8.encode
returns-clause-named_twice c = refl
