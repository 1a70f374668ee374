use Rattle.lk_body.proofs.Ends.{stripped}
use Rattle.lk_body.proofs.sort.before_end.Goals as goal

pub returns : goal.returns
returns c = stripped c.args.end.now c.args.text.now c.strip_suffix.result c.strip_suffix.ensures.cases
