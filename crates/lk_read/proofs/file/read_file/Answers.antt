use Rattle.lk_read.proofs.Answered.{answers_found, answers_only, answers_complete, answers_refused}
use Rattle.lk_read.proofs.OneOutcome.{answers_outcome}
use Rattle.lk_read.proofs.file.read_file.Goals as goal

pub returns : goal.returns
returns c = record {
  found = answers_found 32 c.args.bytes.now c.read_text.result c.read_text.ensures;
  only = answers_only 32 c.args.bytes.now c.read_text.result c.read_text.ensures;
  complete = answers_complete 32 c.args.bytes.now c.read_text.result c.read_text.ensures;
  refused = answers_refused 32 c.args.bytes.now c.read_text.result c.read_text.ensures;
  outcome = answers_outcome 32 c.args.bytes.now c.read_text.result c.read_text.ensures;
}
