use Rattle.lk_utf8.proofs.CompletionLaws.{ending_completes, ending_high}
use Rattle.lk_utf8.proofs.utf8.each_state_has_an_ending.Goals as goal

pub returns : goal.returns
returns c = record {
  completes = ending_completes;
  high = ending_high;
}
