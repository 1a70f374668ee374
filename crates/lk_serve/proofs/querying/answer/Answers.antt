use Rattle.std.proofs.Common.{subst, sym}
use Rattle.lk_serve.specs.Queries.{TellsSome}
use Rattle.lk_serve.proofs.querying.answer.Goals as goal

pub returns-in-Ok-clause-tells : goal.returns-in-Ok-clause-tells
returns-in-Ok-clause-tells c = subst TellsSome (sym c.answered.ensures) c.in-Ok.ensures.tells
