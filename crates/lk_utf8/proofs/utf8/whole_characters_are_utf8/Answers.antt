use Rattle.lk_utf8.proofs.Utf8Laws.{whole_is_utf8}
use Rattle.lk_utf8.proofs.EveryLaws.{utf8_is_whole}
use Rattle.lk_utf8.proofs.utf8.whole_characters_are_utf8.Goals as goal

pub returns : goal.returns
returns c = record {
  whole = whole_is_utf8;
  every = utf8_is_whole;
}
