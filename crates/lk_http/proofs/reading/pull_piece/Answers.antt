use Rattle.std.proofs.Common.{arith, drop, subst, sym}
use Rattle.std.specs.Io.KnownBytes.{Consumes}
use Rattle.std.proofs.lemmas.List.{length-take-le, take-append-le}
use Rattle.lk_http.proofs.reading.pull_piece.Goals as goal

pub returns-in-Ok-clause-taken : goal.returns-in-Ok-clause-taken
returns-in-Ok-clause-taken g c =
    subst (Consumes (g.L.Source.left c.args.link.now) (g.L.Source.left c.pull.new.self)) (sym (take-append-le c.in-Ok.got c.pull.new.into (drop c.args.most c.args.room.now) c.in-Ok.ensures.bound)) c.in-Ok.ensures.bytes.0

pub returns-in-Ok-clause-ended : goal.returns-in-Ok-clause-ended
returns-in-Ok-clause-ended g c = λ none. c.in-Ok.ensures.bytes.1 none (omega (arith, c.requires.some, c.pull.auto.into, length-take-le c.args.most c.args.room.now c.requires.within))
