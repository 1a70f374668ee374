use Rattle.std.proofs.Common.{◌≡◌, ◌+◌, length, vec_len}
use Rattle.lk_door.proofs.serving.make_workers.Given as goal

abbrev pub invariant-loop-desk : goal.invariant-loop-desk
invariant-loop-desk g l = vec_len l.workers + length l.desk-iterator.rest.items ≡ vec_len l.fn.desks
