use Rattle.lk_http.proofs.ReadingLemmas.{one_taken}
use Rattle.lk_http.proofs.reading.pull_byte.Goals as goal

pub returns-in-Ok-clause-read : goal.returns-in-Ok-clause-read
returns-in-Ok-clause-read g c = one_taken (g.L.Source.left c.args.link.now) (g.L.Source.left c.pull.new.self) c.pull.new.into c.in-Ok.field-0 c.in-Ok.ensures.bytes.0 c.in-Ok.ensures.bound c.pull.auto.into c.in-Ok.field-0-test.1
