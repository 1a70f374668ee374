use Rattle.std.proofs.Common.{◌≡◌, vec_len}
use Rattle.lk_serve.proofs.listening.make_desks.Given as goal

abbrev pub invariant-loop : goal.invariant-loop
invariant-loop g l = (l.publisher ≡ l.fn.publisher) × (vec_len l.desks ≡ l.counter)
